use Rattle.std.proofs.Common.{[], ◌∷◌, sym, ◌∙◌, ap, false}
use Rattle.std.specs.Fmt.{digit_glyph}
use Rattle.dwarf_base.specs.EndianSlice.{slice_bytes}
use Rattle.dwexpr_cli.proofs.Printing.{begun, bytes_word-some, more_of, pairs_at, refused_in}
use Rattle.dwexpr_cli.proofs.writing.put_bytes.Goals as goal

pub loop-byte-init : goal.loop-byte-init
loop-byte-init g c =
    rw (bytes_word-some (slice_bytes c.args.bytes) (sym c.is_empty.ensures ∙ c.if-is_empty.false), c.slice-byte-items.ensures) (begun _ _)

pub loop-byte-preserved : goal.loop-byte-preserved
loop-byte-preserved g c =
    more_of (c.digit.result ∷ c.digit-in-loop-byte.result ∷ []) _ c.loop-byte.invariant
    (pairs_at c.slice-byte-items.result.now c.loop-byte.byte-index _ _ _ c.loop-byte-test.true (c.digit.ensures ∙ ap (digit_glyph false) c.from-high.ensures)
    (c.digit-in-loop-byte.ensures ∙ ap (digit_glyph false) c.from-low.ensures))
    c.in_ok-put.ensures

pub returns-in_err-put : goal.returns-in_err-put
returns-in_err-put g c =
    refused_in (c.digit.result ∷ c.digit-in-loop-byte.result ∷ []) _ _ c.loop-byte.invariant
    (pairs_at c.slice-byte-items.result.now c.loop-byte.byte-index _ _ _ c.loop-byte-test.true (c.digit.ensures ∙ ap (digit_glyph false) c.from-high.ensures)
    (c.digit-in-loop-byte.ensures ∙ ap (digit_glyph false) c.from-low.ensures))
    c.in_err-put.ensures c.from_residual.ensures
