-- Lists that may have a limit.
use Rattle.std.specs.Prelude.{ℕ, ◌<◌, ◌≡◌, List, Option, Some, None, [], max}

-- a list of n items may take one more within the limit
abbrev pub HasRoom : Option ℕ → ℕ → Type 0
HasRoom None n = Unit {0}
HasRoom (Some limit) n = n < limit

-- a push on a list of n items may be refused: the list is at its limit, or has none
abbrev pub MayRefuse : Option ℕ → ℕ → Type 0
MayRefuse None n = Unit {0}
MayRefuse (Some limit) n = n ≡ limit

-- a list over lent memory: its items, and the most items that it can hold
pub record Lent (X : Type 0) : Type 0 where
  pub items : List X
  pub capacity : ℕ

-- a list that may have a limit: its items, and the limit
pub record Limited (X : Type 0) : Type 0 where
  pub items : List X
  pub limit : Option ℕ

-- the limit of a list that keeps a single item inline, over another list with this limit
abbrev pub at_least_one : Option ℕ → Option ℕ
at_least_one None = None
at_least_one (Some limit) = Some (max 1 limit)

-- the item that a list keeps inline, if there is one
abbrev pub one_of : {X : Type 0} → Option (List X) → List X
one_of None = []
one_of (Some xs) = xs
