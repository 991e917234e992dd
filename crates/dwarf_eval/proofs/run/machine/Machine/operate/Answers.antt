use Rattle.std.proofs.Common.{refl, rules}
use Rattle.dwarf_value.specs.Values.{Abs, Neg, Not, And, Div, Minus, Mod, Mul, Or, Plus, Shl, Shr, Shra, Xor, Eq, Ge, Gt, Le, Lt, Ne}
use Rattle.dwarf_base.specs.declared.errors.Error.TheVariants as error
use Rattle.dwarf_meaning.specs.Acts.{act}
use Rattle.dwarf_eval.proofs.MachineNumbers.{passed-residue}
use Rattle.dwarf_eval.proofs.Performances.{performs_located, performs_more, performs_none, performs_refuses}
use Rattle.dwarf_eval.proofs.Staying.{stays_here}
use Rattle.dwarf_eval.proofs.run.machine.Machine.operate.Goals as goal

pub returns-in-Nop : goal.returns-in-Nop
unfolding act
returns-in-Nop g c = search (rules, performs_none _ c.args.self.now c.mark.new.self c.requires c.mark.ensures)

pub returns-in-UnsignedConstant : goal.returns-in-UnsignedConstant
unfolding act
returns-in-UnsignedConstant g c = search (rules, performs_more _ c.args.self.now c.push_plain.new.self c.requires c.push_plain.ensures)

pub returns-in-Register : goal.returns-in-Register
unfolding act
returns-in-Register g c = search (rules, performs_located c.args.self.now.store.values _ c.args.self.now c.locate.new.self c.requires c.locate.ensures)

pub returns-in-ImplicitValue : goal.returns-in-ImplicitValue
unfolding act
returns-in-ImplicitValue g c =
    let x = c.args.self.now in
    search (rules, performs_located x.store.values _ x c.locate-in-ImplicitValue.new.self c.requires c.locate-in-ImplicitValue.ensures)

pub returns-in-ImplicitPointer : goal.returns-in-ImplicitPointer
unfolding act
returns-in-ImplicitPointer g c =
    let x = c.args.self.now in
    search (rules, performs_located x.store.values _ x c.locate-in-ImplicitPointer.new.self c.requires c.locate-in-ImplicitPointer.ensures)

pub returns-in-SignedConstant : goal.returns-in-SignedConstant
unfolding act
returns-in-SignedConstant g c = search (rules, performs_more, passed-residue)

pub returns-in-Uninitialized : goal.returns-in-Uninitialized
unfolding act
returns-in-Uninitialized g c =
    let x = c.args.self.now in
    search (rules, performs_refuses _ error.UnsupportedEvaluation x x c.fail.new.self refl (stays_here x) c.fail.ensures)

pub returns-in-VariableValue : goal.returns-in-VariableValue
unfolding act
returns-in-VariableValue g c = search (rules, performs_refuses, stays_here)

pub returns-in-Abs : goal.returns-in-Abs
returns-in-Abs g c = search (rules, c.compute_unary.ensures Abs)

pub returns-in-Neg : goal.returns-in-Neg
returns-in-Neg g c = search (rules, c.compute_unary-in-Neg.ensures Neg)

pub returns-in-Not : goal.returns-in-Not
returns-in-Not g c = search (rules, c.compute_unary-in-Not.ensures Not)

pub returns-in-And : goal.returns-in-And
returns-in-And g c = search (rules, c.compute_binary.ensures And)

pub returns-in-Div : goal.returns-in-Div
returns-in-Div g c = search (rules, c.compute_binary-in-Div.ensures Div)

pub returns-in-Minus : goal.returns-in-Minus
returns-in-Minus g c = search (rules, c.compute_binary-in-Minus.ensures Minus)

pub returns-in-Mod : goal.returns-in-Mod
returns-in-Mod g c = search (rules, c.compute_binary-in-Mod.ensures Mod)

pub returns-in-Mul : goal.returns-in-Mul
returns-in-Mul g c = search (rules, c.compute_binary-in-Mul.ensures Mul)

pub returns-in-Or : goal.returns-in-Or
returns-in-Or g c = search (rules, c.compute_binary-in-Or.ensures Or)

pub returns-in-Plus : goal.returns-in-Plus
returns-in-Plus g c = search (rules, c.compute_binary-in-Plus.ensures Plus)

pub returns-in-Shl : goal.returns-in-Shl
returns-in-Shl g c = search (rules, c.compute_binary-in-Shl.ensures Shl)

pub returns-in-Shr : goal.returns-in-Shr
returns-in-Shr g c = search (rules, c.compute_binary-in-Shr.ensures Shr)

pub returns-in-Shra : goal.returns-in-Shra
returns-in-Shra g c = search (rules, c.compute_binary-in-Shra.ensures Shra)

pub returns-in-Xor : goal.returns-in-Xor
returns-in-Xor g c = search (rules, c.compute_binary-in-Xor.ensures Xor)

pub returns-in-Eq : goal.returns-in-Eq
returns-in-Eq g c = search (rules, c.compute_binary-in-Eq.ensures Eq)

pub returns-in-Ge : goal.returns-in-Ge
returns-in-Ge g c = search (rules, c.compute_binary-in-Ge.ensures Ge)

pub returns-in-Gt : goal.returns-in-Gt
returns-in-Gt g c = search (rules, c.compute_binary-in-Gt.ensures Gt)

pub returns-in-Le : goal.returns-in-Le
returns-in-Le g c = search (rules, c.compute_binary-in-Le.ensures Le)

pub returns-in-Lt : goal.returns-in-Lt
returns-in-Lt g c = search (rules, c.compute_binary-in-Lt.ensures Lt)

pub returns-in-Ne : goal.returns-in-Ne
returns-in-Ne g c = search (rules, c.compute_binary-in-Ne.ensures Ne)

pub returns-in-Bra : goal.returns-in-Bra
returns-in-Bra g c = search (rules, c.branch_if.ensures)
