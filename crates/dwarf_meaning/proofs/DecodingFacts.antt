-- What users of decoding need of it: an operation has bytes, all of the text, and bytes after them don't matter.
use Rattle.std.proofs.Common.{ℕ, ◌≡◌, ◌<◌, ◌⊎◌, inl, inr, Bool, List, ◌++◌, length, Ok, Err, arith, length-append, append_assoc, refl, sym, ap, subst, ◌∙◌, true, false, cond, nat_lt, ◌*◌, ◌^◌}
use Rattle.dwarf_base.specs.declared.common.Encoding.{Encoding}
use Rattle.dwarf_base.specs.Faults.{Fault}
use Rattle.dwarf_base.specs.Fronts.{Begins, ReadsExactly, TakesFront}
use Rattle.dwarf_base.specs.Reads.{Text}
use Rattle.dwarf_meaning.specs.Operands.{Context, as_text, context_of, Layout, Range, Any, Offset, Register, PieceSize, U32, operand_value}
use Rattle.dwarf_meaning.specs.Operations.{Operation}
use Rattle.dwarf_meaning.specs.Decoding.{operation_at, operation_in}
use Rattle.dwarf_meaning.specs.Spelling.{Spells, Malformed, MalformedNumber, MalformedUnsigned, MalformedInteger, MalformedOperands}
use Rattle.dwarf_meaning.specs.Spelling as spelling
use Rattle.dwarf_meaning.specs.DecodeLaws.{IsDecided, IsDecodingFault}
use Rattle.dwarf_meaning.proofs.ReadsExactly.{Reading}
use Rattle.std.proofs.lemmas.List.{append_cancel_right}
use Rattle.dwarf_base.proofs.Suffixes.{ok_pair}
use Rattle.dwarf_meaning.proofs.OperationReads.{operation_takes, reads_operation}
use Rattle.dwarf_base.specs.declared.errors.Error.TheVariants.{UnsupportedOffset, UnsupportedRegister, InvalidPieceSize, BadUnsignedLeb128}
use Rattle.dwarf_base.specs.Leb.{LebForm, MalformedLeb, unsigned_leb, signed_leb}
use Rattle.dwarf_meaning.specs.Opcodes.{Row}

pub some_bytes : (encoding : Encoding) (bits : ℕ) (big : Bool) (bytes : List ℕ) (op : Operation) → Spells (context_of encoding bits big) bytes op → 0 < length bytes
some_bytes encoding bits big bytes op (spelling.spelled opcode operands op' s) = omega arith

-- an operation that is read has a byte at least, and all its bytes are the text's
pub operation_begins : (encoding : Encoding) (bits : ℕ) (text : Text) (op : Operation) (rest : List ℕ) → operation_at encoding bits text ≡ Ok (op, rest) → Begins (Spells (context_of encoding bits text.is_big)) text.bytes op rest
operation_begins encoding bits text op rest h = (reads_operation encoding bits text.is_big).found text.bytes op rest h

-- what is left is shorter
pub operation_shortens : (encoding : Encoding) (bits : ℕ) (text : Text) (op : Operation) (rest : List ℕ) → operation_at encoding bits text ≡ Ok (op, rest) → length rest < length text.bytes
operation_shortens encoding bits text op rest h =
    let b = operation_begins encoding bits text op rest h in
    let some : 0 < length b.front = some_bytes encoding bits text.is_big b.front op b.spells in
    let whole : length (b.front ++ rest) ≡ length text.bytes = ap length b.whole in
    omega (arith, length-append b.front rest)

-- bytes after an operation don't change what is read
pub operation_before : (encoding : Encoding) (bits : ℕ) (text : Text) (op : Operation) (rest more : List ℕ) → operation_at encoding bits text ≡ Ok (op, rest) → operation_at encoding bits (record { bytes = text.bytes ++ more; is_big = text.is_big }) ≡ Ok (op, rest ++ more)
operation_before encoding bits text op rest more h =
    let b = operation_begins encoding bits text op rest h in
    let joined : b.front ++ (rest ++ more) ≡ text.bytes ++ more = sym (append_assoc b.front rest more) ∙ ap (λ (xs : List ℕ). xs ++ more) b.whole in
    subst (λ (xs : List ℕ). operation_at encoding bits (record { bytes = xs; is_big = text.is_big }) ≡ Ok (op, rest ++ more)) joined ((reads_operation encoding bits text.is_big).gives b.front op (rest ++ more) b.spells)

-- a spelling is read, whatever follows
pub spelled_operation : (encoding : Encoding) (bits : ℕ) (big : Bool) (front : List ℕ) (op : Operation) (rest : List ℕ) → Spells (context_of encoding bits big) front op → operation_at encoding bits (record { bytes = front ++ rest; is_big = big }) ≡ Ok (op, rest)
spelled_operation encoding bits big front op rest s = (reads_operation encoding bits big).gives front op rest s

pub begins_operation : (encoding : Encoding) (bits : ℕ) (text : Text) (op : Operation) (rest : List ℕ) → Begins (Spells (context_of encoding bits text.is_big)) text.bytes op rest → operation_at encoding bits text ≡ Ok (op, rest)
begins_operation encoding bits text op rest b =
    subst (λ (xs : List ℕ). operation_at encoding bits (record { bytes = xs; is_big = text.is_big }) ≡ Ok (op, rest)) b.whole (spelled_operation encoding bits text.is_big b.front op rest b.spells)

-- ---- the laws

pub reads_the_spelled : (context : Context) → ReadsExactly (Spells context) (Malformed context) (operation_in context)
reads_the_spelled context =
    let reads = reads_operation context.encoding context.offset_bits context.is_big in
    record {
      ok = λ bytes op rest. (operation_begins context.encoding context.offset_bits (as_text context bytes) op rest, begins_operation context.encoding context.offset_bits (as_text context bytes) op rest);
      err = λ bytes fault. (reads.refused bytes fault, reads.refuses bytes fault);
    }

module _ (encoding : Encoding) (bits : ℕ) (big : Bool) (bytes : List ℕ) where
  abbrev here : Text
  here = record { bytes = bytes; is_big = big }

  outcome : (r : Reading Operation) → operation_at encoding bits here ≡ r → ((op : Operation) × ((rest : List ℕ) × Begins (Spells (context_of encoding bits big)) bytes op rest)) ⊎ ((fault : Fault) × Malformed (context_of encoding bits big) bytes fault)
  outcome (Ok x) e = inl (x.0, (x.1, operation_begins encoding bits here x.0 x.1 e))
  outcome (Err fault) e = inr (fault, (reads_operation encoding bits big).refused bytes fault e)

  same_operation : (first second : Operation) (rest others : List ℕ) → Begins (Spells (context_of encoding bits big)) bytes first rest → Begins (Spells (context_of encoding bits big)) bytes second others → (first ≡ second) × (rest ≡ others)
  same_operation first second rest others a b =
      ok_pair first second rest others (sym (begins_operation encoding bits here first rest a) ∙ begins_operation encoding bits here second others b)

  same_bytes : (first second : Operation) (rest others : List ℕ) (a : Begins (Spells (context_of encoding bits big)) bytes first rest) (b : Begins (Spells (context_of encoding bits big)) bytes second others) → a.front ≡ b.front
  same_bytes first second rest others a b =
      let same = same_operation first second rest others a b in
      append_cancel_right a.front b.front rest (a.whole ∙ (sym b.whole ∙ ap (λ (xs : List ℕ). b.front ++ xs) (sym same.1)))

  same_fault : (first second : Fault) → Malformed (context_of encoding bits big) bytes first → Malformed (context_of encoding bits big) bytes second → first ≡ second
  same_fault first second a b =
      let e : operation_at encoding bits here ≡ Err first = (reads_operation encoding bits big).refuses bytes first a in
      let f : operation_at encoding bits here ≡ Err second = (reads_operation encoding bits big).refuses bytes second b in
      cc

  not_both : (op : Operation) (rest : List ℕ) (fault : Fault) → Begins (Spells (context_of encoding bits big)) bytes op rest → Malformed (context_of encoding bits big) bytes fault → ⊥
  not_both op rest fault a b =
      let e : operation_at encoding bits here ≡ Ok (op, rest) = begins_operation encoding bits here op rest a in
      let f : operation_at encoding bits here ≡ Err fault = (reads_operation encoding bits big).refuses bytes fault b in
      cc

  pub decided : IsDecided (context_of encoding bits big) bytes
  decided = record {
    either = outcome (operation_at encoding bits here) refl;
    not_both = not_both;
    one_front = same_bytes;
    one_operation = λ first second rest others a b. (same_operation first second rest others a b).0;
    one_fault = same_fault;
  }

pub takes_operation : (context : Context) (bytes : List ℕ) (op : Operation) → Spells context bytes op → TakesFront (operation_in context) bytes op
takes_operation context = operation_takes context.encoding context.offset_bits context.is_big

-- ---- the faults that decoding meets

leb_fault : {A : Type 0} (form : LebForm A) (bytes : List ℕ) (fault : Fault) → IsDecodingFault form.fault → MalformedLeb form bytes fault → IsDecodingFault fault
leb_fault form bytes fault h r = elim r [
  | inl cut ↦ subst IsDecodingFault (sym cut.1) refl
  | inr long ↦ subst IsDecodingFault (sym long.1) h
]

number_fault : (layout : Layout) (bytes : List ℕ) (fault : Fault) → MalformedNumber layout bytes fault → IsDecodingFault fault
number_fault layout bytes fault (spelling.few_bytes size bytes' good less) = refl
number_fault layout bytes fault (spelling.address_size size bytes' bad) = tt
number_fault layout bytes fault (spelling.no_leb128 bytes' fault' r) = leb_fault unsigned_leb bytes' fault' tt r

limit_fault : (fits : Bool) (number : ℕ) (bad fault : Fault) → IsDecodingFault bad → cond fits (Ok number) (Err bad) ≡ Err fault → IsDecodingFault fault
limit_fault true number bad fault h e = absurd cc
limit_fault false number bad fault h e = let same : bad ≡ fault = cc in subst IsDecodingFault same h

value_fault : (bits : ℕ) (range : Range) (number : ℕ) (fault : Fault) → operand_value bits range number ≡ Err fault → IsDecodingFault fault
value_fault bits Any number fault e = absurd cc
value_fault bits Offset number fault e = limit_fault (nat_lt number (2 ^ bits)) number UnsupportedOffset fault tt e
value_fault bits Register number fault e = limit_fault (nat_lt number 65536) number (UnsupportedRegister number) fault tt e
value_fault bits PieceSize number fault e = limit_fault (nat_lt (8 * number) (2 ^ 64)) number (InvalidPieceSize number) fault tt e
value_fault bits U32 number fault e = limit_fault (nat_lt number (2 ^ 32)) number BadUnsignedLeb128 fault tt e

unsigned_fault : (context : Context) (form : Layout × Range) (bytes : List ℕ) (fault : Fault) → MalformedUnsigned context form bytes fault → IsDecodingFault fault
unsigned_fault context form bytes fault (spelling.no_number bytes' fault' r) = number_fault _ bytes' fault' r
unsigned_fault context form bytes fault (spelling.out_of_range front rest number fault' s e) = value_fault context.offset_bits form.1 number fault' e

integer_fault : (layout : Layout) (bytes : List ℕ) (fault : Fault) → MalformedInteger layout bytes fault → IsDecodingFault fault
integer_fault layout bytes fault (spelling.few_signed_bytes size bytes' less) = refl
integer_fault layout bytes fault (spelling.no_signed_leb128 bytes' fault' r) = leb_fault signed_leb bytes' fault' tt r

operands_fault : (context : Context) (row : Row) (bytes : List ℕ) (fault : Fault) → MalformedOperands context row bytes fault → IsDecodingFault fault
operands_fault context row bytes fault (spelling.invalid opcode bytes') = tt
operands_fault context row bytes fault (spelling.unsigned_here form next bytes' fault' r) = unsigned_fault context form bytes' fault' r
operands_fault context row bytes fault (spelling.unsigned_after form next front rest value fault' s r) = operands_fault context (next value) rest fault' r
operands_fault context row bytes fault (spelling.signed_here form next bytes' fault' r) = integer_fault form bytes' fault' r
operands_fault context row bytes fault (spelling.signed_after form next front rest value fault' s r) = operands_fault context (next value) rest fault' r
operands_fault context row bytes fault (spelling.block_here size next bytes' less) = refl
operands_fault context row bytes fault (spelling.block_after next front rest fault' r) = operands_fault context (next (as_text context front)) rest fault' r

refused_fault : (encoding : Encoding) (bits : ℕ) (big : Bool) (bytes : List ℕ) (fault : Fault) → Malformed (context_of encoding bits big) bytes fault → IsDecodingFault fault
refused_fault encoding bits big bytes fault spelling.no_opcode = refl
refused_fault encoding bits big bytes fault (spelling.bad_operands opcode bytes' fault' r) = operands_fault _ _ bytes' fault' r

-- decoding meets no other faults
pub decoding_fault : (encoding : Encoding) (bits : ℕ) (text : Text) (fault : Fault) → operation_at encoding bits text ≡ Err fault → IsDecodingFault fault
decoding_fault encoding bits text fault e =
    refused_fault encoding bits text.is_big text.bytes fault ((reads_operation encoding bits text.is_big).refused text.bytes fault e)
