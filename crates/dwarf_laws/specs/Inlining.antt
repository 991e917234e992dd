-- A called text may be written in place of its call (DWARF 5, section 2.5.1.5).
use Rattle.std.specs.Prelude.{ℕ, ◌+◌, ◌^◌, ◌<◌, ◌≡◌, ◌≢◌, Bool, List, [], ◌∷◌, ◌++◌, Option, length}
use Rattle.std.specs.List.{AllByRecursion}
use Rattle.dwarf_base.specs.Faults.{Fault}
use Rattle.dwarf_base.specs.Reads.{Text}
use Rattle.dwarf_value.specs.declared.types.Value.{Value}
use Rattle.dwarf_meaning.specs.Operands.{context_of}
use Rattle.dwarf_meaning.specs.Operations.{Operation, Bra, Skip, Call, DieReference}
use Rattle.dwarf_meaning.specs.Spelling.{Spells}
use Rattle.dwarf_meaning.specs.Splitting.{Splitting, Joined}
use Rattle.dwarf_meaning.specs.DecodeLaws.{AreBytes}
use Rattle.dwarf_meaning.specs.Locations.{Piece}
use Rattle.dwarf_meaning.specs.Requests.{Request, RequiresAtLocation, LocationAnswer, Settings, Input}
use Rattle.dwarf_meaning.specs.Stores.{Setup}
use Rattle.dwarf_meaning.specs.Run.{Position, RequestEnd}
use Rattle.dwarf_meaning.specs.Meaning.{Outcome, RequestOutcome, FaultOutcome, CompleteOutcome, First, course_of, meaning}
use Rattle.dwarf_meaning.specs.Refusals.{Never}
use Rattle.dwarf_meaning.specs.RowWords.{no_limits}

-- ---- the texts

-- A call in a text: the bytes before it, its own bytes, the bytes after it, and the bytes that answer it; all have one
-- byte order.
pub record CallSite : Type 0 where
  pub before : List ℕ
  pub call : List ℕ
  pub beyond : List ℕ
  pub callee : List ℕ
  pub is_big : Bool

-- the text with the call
abbrev pub outer_text : CallSite → Text
outer_text site = record { bytes = site.before ++ (site.call ++ site.beyond); is_big = site.is_big }

-- the text that answers the call
abbrev pub callee_text : CallSite → Text
callee_text site = record { bytes = site.callee; is_big = site.is_big }

-- the text with the called bytes in place of the call
abbrev pub inlined_text : CallSite → Text
inlined_text site = record { bytes = site.before ++ (site.callee ++ site.beyond); is_big = site.is_big }

-- ---- the inputs

-- the settings in force after these inputs
abbrev pub in_force : Settings → List Input → Settings
in_force settings [] = settings
in_force settings (input ∷ inputs) = in_force input.settings inputs

-- the inputs of the outer text: the earlier ones, the called text as an answer that changes no setting, and the later
-- ones
abbrev pub with_answer : CallSite → First → (earlier later : List Input) → List Input
with_answer site first earlier later =
    earlier ++ record { settings = in_force first.settings earlier; answer = LocationAnswer (callee_text site) } ∷ later

-- ---- the premises

-- the operation is no branch
abbrev pub IsStraight : Operation → Type 0
IsStraight (Bra target) = ⊥
IsStraight (Skip target) = ⊥
IsStraight _ = Unit {0}

-- the call is one of the operations of the outer text, and none of these is a branch
pub record StandsIn (setup : Setup) (site : CallSite) (offset : DieReference) : Type 0 where
  pub ahead : List Operation
  pub joined : Joined (context_of setup.encoding setup.offset_bits site.is_big) site.before ahead
  pub spelled : Spells (context_of setup.encoding setup.offset_bits site.is_big) site.call (Call offset)
  pub operations : List Operation
  pub fault : Option Fault
  pub splits : Splitting (context_of setup.encoding setup.offset_bits site.is_big)
      (outer_text site).bytes operations fault
  pub straight : AllByRecursion IsStraight operations

-- The callee has bytes, and the inlined text is so short that no 16-bit branch wraps in it.
pub record IsInlinable (setup : Setup) (site : CallSite) : Type 0 where
  pub some : 0 < length site.callee
  pub bytes : AreBytes site.callee
  pub short : length (inlined_text site).bytes + 32768 < 2 ^ setup.offset_bits

-- The earlier inputs lead to the call: all of them are taken, and only the outer text is open. `requests` were asked
-- before the call.
pub record LeadsToCall (setup : Setup) (site : CallSite) (offset : DieReference) (first : First)
    (earlier : List Input) (requests : List Request) : Type 0 where
  pub end : (course_of setup Never (outer_text site) first earlier).end
      ≡ RequestEnd (RequiresAtLocation offset)
      (record { text = outer_text site; place = length site.before + length site.call } ∷ []) []
  pub asked : (course_of setup Never (outer_text site) first earlier).requests
      ≡ requests ++ (RequiresAtLocation offset ∷ [])

-- ---- the law

-- the same pieces and value, or the same open request
pub data EndAlike : Outcome → Outcome → Type 0 where
  completions : {pieces : List Piece} {value : Option Value}
      → EndAlike (CompleteOutcome pieces value) (CompleteOutcome pieces value)
  requests : {request : Request} {positions others : List Position}
      → EndAlike (RequestOutcome request positions) (RequestOutcome request others)

-- Without the call's answer, the inlined text ends as the outer text does. It asks the same, except for the call's
-- request.
pub record IsInlined (setup : Setup) (site : CallSite) (offset : DieReference) (first : First)
    (earlier later : List Input) (requests : List Request) : Type 0 where
  pub ends : EndAlike (meaning setup Never (outer_text site) first (with_answer site first earlier later))
      (meaning setup Never (inlined_text site) first (earlier ++ later))
  pub after : List Request
  pub outer_asks : (course_of setup Never (outer_text site) first (with_answer site first earlier later)).requests
      ≡ requests ++ (RequiresAtLocation offset ∷ after)
  pub inlined_asks : (course_of setup Never (inlined_text site) first (earlier ++ later)).requests ≡ requests ++ after

-- the law, without limits and refusals, if the outer run meets no fault
abbrev pub Inlining : Type 0
Inlining =
    (setup : Setup) (site : CallSite) (offset : DieReference) (first : First) (earlier later : List Input)
    (requests : List Request)
    → setup.limits ≡ no_limits → StandsIn setup site offset → IsInlinable setup site
    → LeadsToCall setup site offset first earlier requests
    → ((fault : Fault)
    → meaning setup Never (outer_text site) first (with_answer site first earlier later) ≢ FaultOutcome fault)
    → IsInlined setup site offset first earlier later requests
