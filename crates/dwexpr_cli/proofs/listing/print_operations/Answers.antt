use Rattle.std.proofs.Common.{[], append-nil, Ok, refl, sym, ℕ}
use Rattle.std.proofs.KnownBytes.{Appends-nil}
use Rattle.dwarf_base.specs.EndianSlice.{slice_text}
use Rattle.dwarf_base.specs.Faults.{fault_of}
use Rattle.dwexpr_cli.proofs.Printing.{begun, ends_refused}
use Rattle.dwexpr_cli.proofs.Listings.{all_listed, line_refused, lists_fault, lists_nothing, none_listed, one_listed}
use Rattle.dwexpr_cli.proofs.listing.print_operations.Goals as goal

pub loop-left-init : goal.loop-left-init
loop-left-init g c = rw (c.new-left.ensures.bytes, c.new-left.ensures.order) (none_listed c.args.context.encoding _ _)

pub loop-left-preserved : goal.loop-left-preserved
loop-left-preserved g c =
    let read = c.in-Ok.ensures.reads in
    one_listed c.args.context.encoding _ (slice_text c.loop-left.left) _ _ _ c.loop-left.invariant _ (slice_text c.parse.new.bytes) read.value read.order _ _
    (rw (c.len.ensures, c.len-in-Ok.ensures) at c.new-spelling.ensures.bytes) c.name.ensures read.rest (rw c.len.ensures at c.in_ok-put_numbered_line-in-Ok.ensures)

pub returns-in_err-put_numbered_line-in-Ok : goal.returns-in_err-put_numbered_line-in-Ok
returns-in_err-put_numbered_line-in-Ok g c =
    let read = c.in-Ok.ensures.reads in
    line_refused c.args.context.encoding _ (slice_text c.loop-left.left) _ _ _ c.loop-left.invariant _ (slice_text c.parse.new.bytes) read.value read.order _ _
    (rw (c.len.ensures, c.len-in-Ok.ensures) at c.new-spelling.ensures.bytes) c.name.ensures _
    (rw c.len.ensures at c.in_err-put_numbered_line-in-Ok.ensures) c.from_residual.ensures

pub returns-in_err-print_fault_at-in-Err : goal.returns-in_err-print_fault_at-in-Err
returns-in_err-print_fault_at-in-Err g c =
    all_listed c.args.context.encoding _ (slice_text c.loop-left.left) _ _ _ c.loop-left.invariant _ _
    (lists_fault c.args.context.encoding _ _ _ (fault_of c.in-Err.error) (sym c.loop-left-test.ensures) c.in-Err.ensures.reads.value)
    (ends_refused _ _ [] _ (begun _ _) (sym (append-nil _)) (rw c.len.ensures at c.in_err-print_fault_at-in-Err.ensures)
    c.from_residual-in_err-print_fault_at-in-Err.ensures)

pub returns-in-Err : goal.returns-in-Err
returns-in-Err g c =
    all_listed c.args.context.encoding _ (slice_text c.loop-left.left) _ _ (g.W.Write.contents c.print_fault_at.new.output) c.loop-left.invariant {E = ℕ} _ (Ok 1)
    (lists_fault c.args.context.encoding _ _ _ (fault_of c.in-Err.error) (sym c.loop-left-test.ensures) c.in-Err.ensures.reads.value)
    (rw c.len.ensures at c.in_ok-print_fault_at-in-Err.ensures, refl)

pub returns : goal.returns
returns g c =
    all_listed c.args.context.encoding _ (slice_text c.loop-left.left) _ _ (g.W.Write.contents c.loop-left.output) c.loop-left.invariant {E = ℕ} _ (Ok 0)
    (lists_nothing c.args.context.encoding _ _ _ (sym c.loop-left-test.ensures)) (Appends-nil _, refl)
