-- What an operation does, and what is done with an answer, in outline.
use Rattle.std.proofs.Common.{ℕ, suc, ℤ, ◌≡◌, nat_lt, ◌+◌, ◌*◌, ◌≤◌, ◌⊎◌, inl, inr, Bool, cond, true, false, List, [], ◌∷◌, length, Option, Result, Ok, Err, arith, refl}
use Rattle.std.proofs.lemmas.Bool.{cond_both}
use Rattle.dwarf_base.specs.declared.errors.Error.{Error}
use Rattle.dwarf_base.specs.Faults.{Fault}
use Rattle.dwarf_value.specs.declared.types.Value.{Value}
use Rattle.dwarf_meaning.specs.Operations as operation
use Rattle.dwarf_meaning.specs.Operations.{Operation}
use Rattle.dwarf_meaning.specs.Locations.{Location, Empty, InRegister, AtAddress, HoldsValue, HoldsBytes, PointsInto, Piece}
use Rattle.dwarf_meaning.specs.Requests.{Request, RequiresEntryValue, OnAnswer, Add, Parse, Answer, ValueAnswer, NumberAnswer, LocationAnswer, BaseTypeAnswer}
use Rattle.dwarf_meaning.specs.Acts.{on_top, on_result, Act, Pushes, Branches, Locates, EndsPiece, RequestAct, FaultAct, underflow, push, unary, binary, act, Use, PushesAnswer, Calls, FaultUse, turn_top, use_of}
use Rattle.dwarf_meaning.proofs.Choices.{top_both, some_both, answer_both}

-- ---- operations

-- the operation is a branch to this target
abbrev pub IsBranchTo : ℤ → Operation → Type 0
IsBranchTo target op = (op ≡ operation.Bra target) ⊎ (op ≡ operation.Skip target)

-- a location that an operation gives; bytes that it holds are the operation's
abbrev pub IsGivenBy : Operation → Location → Type 0
IsGivenBy op Empty = ⊥
IsGivenBy op (InRegister register) = Unit {0}
IsGivenBy op (AtAddress address) = ⊥
IsGivenBy op (HoldsValue value) = Unit {0}
IsGivenBy op (HoldsBytes text) = op ≡ operation.ImplicitValue text
IsGivenBy op (PointsInto value byte_offset) = Unit {0}

-- the location of a piece by itself
abbrev pub IsOwnPlace : Location → Type 0
IsOwnPlace Empty = Unit {0}
IsOwnPlace (AtAddress address) = Unit {0}
IsOwnPlace _ = ⊥

-- an expression whose value is asked is the operation's
abbrev pub AsksItsText : Operation → Request → Type 0
AsksItsText op (RequiresEntryValue text) = op ≡ operation.EntryValue text
AsksItsText op _ = Unit {0}

-- Of n values an operation leaves as many and no more, and pushes one more at most.
pub data IsActOf (op : Operation) (n : ℕ) : Act → Type 0 where
  pushes : {rest pushed : List Value} → length rest ≤ n → length rest + length pushed ≤ n + 1 → IsActOf op n (Pushes rest pushed)
  branches : {rest : List Value} {target : ℤ} → length rest ≤ n → IsBranchTo target op → IsActOf op n (Branches rest target)
  locates : {rest : List Value} {location : Location} → length rest ≤ n → IsGivenBy op location → IsActOf op n (Locates rest location)
  ends : {rest : List Value} {piece : Piece} → length rest ≤ n → IsOwnPlace piece.location → IsActOf op n (EndsPiece rest piece)
  asks : {rest : List Value} {request : Request} {on_answer : OnAnswer} → length rest ≤ n → AsksItsText op request → IsActOf op n (RequestAct rest request on_answer)
  refuses : {fault : Fault} → IsActOf op n (FaultAct fault)

module _ {op : Operation} {n : ℕ} where
  top_is : (values : List Value) (go : Value → List Value → Act) → ((x : Value) (rest : List Value) → length values ≡ suc (length rest) → IsActOf op n (go x rest)) → IsActOf op n (on_top values underflow go)
  top_is values go h = top_both (IsActOf op n) values underflow go refuses h

module _ {op : Operation} where
  push_is : (values : List Value) (x : Value) → IsActOf op (length values) (push values x)
  push_is values x = pushes (omega arith) (omega arith)

  unary_is : (call : Value → Result Value Error) (values : List Value) → IsActOf op (length values) (unary call values)
  unary_is call values =
      top_is values _ (λ x rest e. answer_both (IsActOf op (length values)) (call x) FaultAct (push rest) (λ fault. refuses) (λ y. pushes (omega (arith, e)) (omega (arith, e))))

  binary_is : (call : Value → Value → Result Value Error) (values : List Value) → IsActOf op (length values) (binary call values)
  binary_is call values =
      top_is values _ (λ y below e. top_is below _ (λ x rest f.
      answer_both (IsActOf op (length values)) (call x y) FaultAct (push rest) (λ fault. refuses) (λ z. pushes (omega (arith, e, f)) (omega (arith, e, f)))))

branch_is : (target : ℤ) (is_zero : Bool) (rest : List Value) (n : ℕ) → length rest ≤ n
    → IsActOf (operation.Bra target) n (cond is_zero (Pushes rest []) (Branches rest target))
branch_is target true rest n fewer = pushes fewer (omega (arith, fewer))
branch_is target false rest n fewer = branches fewer (inl refl)

pub act_is : (bits : ℕ) (object : Option ℕ) (op : Operation) (values : List Value) → IsActOf op (length values) (act bits object op values)
unfolding act
act_is bits object operation.Drop values = top_is values _ (λ x rest e. pushes (omega (arith, e)) (omega (arith, e)))
act_is bits object (operation.Pick index) values = some_both (IsActOf (operation.Pick index) (length values)) _ underflow (push values) refuses (λ x. push_is values x)
act_is bits object operation.Swap (y ∷ x ∷ rest) = pushes (omega arith) (omega arith)
act_is bits object operation.Swap values = refuses
act_is bits object operation.Rot (z ∷ y ∷ x ∷ rest) = pushes (omega arith) (omega arith)
act_is bits object operation.Rot values = refuses
act_is bits object (operation.Unary op) values = unary_is _ values
act_is bits object (operation.Binary op) values = binary_is _ values
act_is bits object (operation.PlusConstant value) values = unary_is _ values
act_is bits object (operation.UnsignedConstant value) values = push_is values _
act_is bits object (operation.SignedConstant value) values = push_is values _
act_is bits object operation.PushObjectAddress values =
    some_both (IsActOf operation.PushObjectAddress (length values)) object _ _ refuses (λ address. push_is values _)
act_is bits object (operation.Bra target) values = top_is values _ (λ x rest e. branch_is target _ rest (length values) (omega (arith, e)))
act_is bits object (operation.Skip target) values = branches (omega arith) (inr refl)
act_is bits object operation.Nop values = pushes (omega arith) (omega arith)
act_is bits object (operation.VariableValue offset) values = refuses
act_is bits object operation.Uninitialized values = refuses
act_is bits object (operation.Deref base_type size false) values =
    cond_both (nat_lt bits (8 * size)) _ _ (IsActOf (operation.Deref base_type size false) (length values)) (λ e. refuses) (λ e. top_is values _ (λ x rest f. asks (omega (arith, f)) tt))
act_is bits object (operation.Deref base_type size true) values =
    cond_both (nat_lt bits (8 * size)) _ _ (IsActOf (operation.Deref base_type size true) (length values)) (λ e. refuses)
    (λ e. top_is values _ (λ x below f. top_is below _ (λ y rest g. asks (omega (arith, f, g)) tt)))
act_is bits object operation.TLS values = top_is values _ (λ x rest e. asks (omega (arith, e)) tt)
act_is bits object (operation.EntryValue expression) values = asks (omega arith) refl
act_is bits object (operation.Register register) values = locates (omega arith) tt
act_is bits object (operation.ImplicitValue bytes) values = locates (omega arith) refl
act_is bits object operation.StackValue values = top_is values _ (λ x rest e. locates (omega (arith, e)) tt)
act_is bits object (operation.ImplicitPointer value byte_offset) values = locates (omega arith) tt
act_is bits object (operation.Piece size_in_bits bit_offset) values =
    top_both (IsActOf (operation.Piece size_in_bits bit_offset) (length values)) values _ _ (ends (omega arith) tt) (λ x rest e. ends (omega (arith, e)) tt)
act_is bits object op values = asks (omega arith) tt

-- ---- answers

-- Of n values what is done with an answer leaves as many and no more, and a text that is called is the answer.
abbrev pub IsUseOf : Answer → ℕ → Use → Type 0
IsUseOf answer n (PushesAnswer rest value) = length rest ≤ n
IsUseOf answer n (Calls text) = answer ≡ LocationAnswer text
IsUseOf answer n (FaultUse fault) = Unit {0}

made_is : (answer : Answer) (n : ℕ) (rest : List Value) (r : Result Value Error) → length rest ≤ n → IsUseOf answer n (on_result r FaultUse (PushesAnswer rest))
unfolding on_result
made_is answer n rest (Ok value) h = h
made_is answer n rest (Err error) h = tt

turned_is : (answer : Answer) (values : List Value) (call : Value → Result Value Error) → IsUseOf answer (length values) (turn_top call values)
unfolding on_top
turned_is answer [] call = tt
turned_is answer (x ∷ rest) call = made_is answer (suc (length rest)) rest (call x) (omega arith)

pub use_is : (bits : ℕ) (on_answer : OnAnswer) (answer : Answer) (values : List Value) → IsUseOf answer (length values) (use_of bits on_answer answer values)
unfolding use_of
use_is bits (Add offset) (ValueAnswer kind x) values = made_is (ValueAnswer kind x) (length values) values _ (omega arith)
use_is bits _ (ValueAnswer kind value) values = omega arith
use_is bits (Add offset) (NumberAnswer kind number) values = omega arith
use_is bits _ (NumberAnswer kind number) values = omega arith
use_is bits _ (LocationAnswer text) values = refl
use_is bits (Parse literal) (BaseTypeAnswer value_type) values = made_is (BaseTypeAnswer value_type) (length values) values _ (omega arith)
use_is bits _ (BaseTypeAnswer value_type) values = turned_is (BaseTypeAnswer value_type) values _
