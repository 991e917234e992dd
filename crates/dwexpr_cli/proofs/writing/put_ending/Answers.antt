use Rattle.std.proofs.Common.{refl, map, codes}
use Rattle.std.proofs.lemmas.List.{at_drop_all, at_drop_more}
use Rattle.dwexpr_cli.specs.Writing.{ending}
use Rattle.dwexpr_cli.specs.inner.Outputs.{word_text}
use Rattle.dwexpr_cli.specs.declared.writing.Word.TheVariants as word
use Rattle.dwexpr_cli.proofs.Printing.{begun, last_of, more_of, refused_in}
use Rattle.dwexpr_cli.proofs.writing.put_ending.Goals as goal

pub loop-word-init : goal.loop-word-init
loop-word-init g c = begun _ _

pub returns-in_err-put_text : goal.returns-in_err-put_text
returns-in_err-put_text g c =
    refused_in (codes " ") _ _ c.loop-word.invariant (at_drop_more (λ words. ending (map word_text words)) c.args.words.now c.loop-word.word-index (word.Number 0) c.loop-word-test.true)
    c.in_err-put_text.ensures c.from_residual.ensures

pub returns-in_err-put_word : goal.returns-in_err-put_word
returns-in_err-put_word g c =
    refused_in _ _ _
    (more_of (codes " ") _ c.loop-word.invariant (at_drop_more (λ words. ending (map word_text words)) c.args.words.now c.loop-word.word-index _ c.loop-word-test.true) c.in_ok-put_text.ensures)
    refl c.in_err-put_word.ensures c.from_residual-in_err-put_word.ensures

pub loop-word-preserved : goal.loop-word-preserved
loop-word-preserved g c =
    more_of _ _
    (more_of (codes " ") _ c.loop-word.invariant (at_drop_more (λ words. ending (map word_text words)) c.args.words.now c.loop-word.word-index _ c.loop-word-test.true) c.in_ok-put_text.ensures)
    refl c.in_ok-put_word.ensures

pub returns : goal.returns
returns g c =
    last_of _ _ c.loop-word.invariant (at_drop_all (λ words. ending (map word_text words)) c.args.words.now c.loop-word.word-index c.loop-word-test.false) c.put_text-2.ensures
