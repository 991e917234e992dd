-- Faults: errors, without the identifier of `UnexpectedEof`.
use Rattle.std.specs.Prelude.{ℕ, Result, Ok, Err, ◌≡◌}
use Rattle.dwarf_base.specs.declared.errors.Error.{Error}
use Rattle.dwarf_base.specs.declared.errors.Error.TheVariants.{UnexpectedEof, InvalidExpression}

-- an error; if it has an identifier, that is always 0
abbrev pub Fault : Type 0
Fault = Error

-- a read goes past the end; the identifier is always 0
abbrev pub past_the_end : Fault
past_the_end = UnexpectedEof (record { 0 = 0 })

-- no operation has the opcode
abbrev pub invalid_expression : (opcode : ℕ) → Fault
invalid_expression opcode = InvalidExpression (record { 0 = opcode })

-- the error as a fault: its identifier, if it has one, becomes 0
abbrev pub fault_of : Error → Fault
fault_of (UnexpectedEof id) = past_the_end
fault_of error = error

-- a call returns the expected value, seen through `view`, or the expected fault
abbrev pub Returns : {X Y : Type 0} → (X → Y) → Result X Error → Result Y Fault → Type 0
Returns view (Ok x) wanted = wanted ≡ Ok (view x)
Returns view (Err e) wanted = wanted ≡ Err (fault_of e)

-- passes the value of a result to the next step; a fault is passed on
infixl 10 ◌>>=◌
abbrev pub ◌>>=◌ : {A B : Type 0} → Result A Fault → (A → Result B Fault) → Result B Fault
(Ok x) >>= next = next x
(Err fault) >>= next = Err fault
