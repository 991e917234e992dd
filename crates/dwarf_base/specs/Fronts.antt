-- A read depends on no byte after the prefix that it takes.
use Rattle.std.specs.Prelude.{ℕ, ◌≡◌, ◌<◌, ◌↔◌, Bool, List, ◌∷◌, ◌++◌, Result, Ok, Err, length}
use Rattle.dwarf_base.specs.Faults.{Fault, past_the_end}
use Rattle.dwarf_base.specs.Numbers.{number_of}

-- some prefix of the bytes spells the value, and the rest follows it
pub record Begins {A : Type 0} (Spells : List ℕ → A → Type 0) (bytes : List ℕ) (value : A)
    (rest : List ℕ) : Type 0 where
  pub front : List ℕ
  pub whole : front ++ rest ≡ bytes
  pub spells : Spells front value

-- a read gives a value exactly if a prefix spells it, and a fault exactly if the bytes are malformed by it
pub record ReadsExactly {A : Type 0} (Spells : List ℕ → A → Type 0) (Malformed : List ℕ → Fault → Type 0)
    (read : List ℕ → Result (A × List ℕ) Fault) : Type 0 where
  pub ok : (bytes : List ℕ) (value : A) (rest : List ℕ) → (read bytes ≡ Ok (value, rest))
      ↔ Begins Spells bytes value rest
  pub err : (bytes : List ℕ) (fault : Fault) → (read bytes ≡ Err fault) ↔ Malformed bytes fault

-- the read takes this prefix and gives the value, whatever follows; on a shorter prefix it goes past the end
pub record TakesFront {A : Type 0} (read : List ℕ → Result (A × List ℕ) Fault) (front : List ℕ)
    (value : A) : Type 0 where
  pub whatever_follows : (more : List ℕ) → read (front ++ more) ≡ Ok (value, more)
  pub cut_off : (shorter : List ℕ) (byte : ℕ) (lost : List ℕ) → shorter ++ (byte ∷ lost) ≡ front
      → read shorter ≡ Err past_the_end

-- if the read gives a value, it takes some prefix in this way
pub record ReadsFronts {A : Type 0} (read : List ℕ → Result (A × List ℕ) Fault) : Type 0 where
  pub taken : (bytes : List ℕ) (value : A) (rest : List ℕ) → read bytes ≡ Ok (value, rest)
      → Begins (TakesFront read) bytes value rest

-- a block of n bytes spells itself
pub record SpellsBlock (n : ℕ) (bytes block : List ℕ) : Type 0 where
  pub length_is : length bytes ≡ n
  pub block_is : block ≡ bytes

-- n bytes spell the number that they make in the byte order
pub record SpellsFixed (big : Bool) (n : ℕ) (bytes : List ℕ) (value : ℕ) : Type 0 where
  pub length_is : length bytes ≡ n
  pub value_is : value ≡ number_of big bytes

-- fewer than n bytes are malformed: a read goes past the end
pub record MalformedBlock (n : ℕ) (bytes : List ℕ) (fault : Fault) : Type 0 where
  pub shorter : length bytes < n
  pub fault_is : fault ≡ past_the_end
