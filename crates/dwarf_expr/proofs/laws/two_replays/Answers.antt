use Rattle.std.proofs.Common.{ℕ, inl, refl, [], ◌∷◌}
use Rattle.dwarf_base.specs.declared.errors.Error.TheVariants.{StackFull}
use Rattle.dwarf_base.specs.Reads.{Text}
use Rattle.dwarf_meaning.specs.declared.kinds.WaitingKind.TheVariants as kind
use Rattle.dwarf_meaning.specs.Requests.{RequiresCallFrameCfa, Answer, NumberAnswer}
use Rattle.dwarf_meaning.specs.Kinds.{is_same_kind}
use Rattle.dwarf_meaning.specs.Acts.{on_top, on_result, act, use_of}
use Rattle.dwarf_meaning.specs.Decoding.{operation_at}
use Rattle.dwarf_meaning.specs.Opcodes.{row_of}
use Rattle.dwarf_meaning.specs.Stores.{push_value, push_piece, push_caller}
use Rattle.dwarf_meaning.specs.Run.{most_operations, run_for}
use Rattle.dwarf_meaning.specs.Meaning.{meaning}
use Rattle.dwarf_meaning.specs.Rest.{State}
use Rattle.dwarf_meaning.specs.Steps.{RequestReply, FaultReply}
use Rattle.dwarf_meaning.specs.Refusals.{After}
use Rattle.dwarf_meaning.specs.Inputs.{fresh_state}
use Rattle.dwarf_meaning.specs.RowWords.{text, dwarf4, open_at}
use Rattle.dwarf_meaning.proofs.Turns.{few_turns}
use Rattle.dwarf_meaning.specs.Agreement.{number, evaluate, resume}
use Rattle.dwarf_laws.specs.LawRows.{started_steps}
use Rattle.dwarf_expr.specs.Twins.{DoesAllWith}
use Rattle.dwarf_expr.proofs.Twins.{two_replays, may_replay}
use Rattle.dwarf_expr.proofs.Refused.{refused_once}
use Rattle.dwarf_expr.proofs.laws.two_replays.Goals as goal

abbrev frame_address : Text
frame_address = text (0x9c ∷ [])

-- the frame's address is asked for, and its push is refused
refused_by : (address : ℕ)
    → (new : State) × DoesAllWith (After 1 0) (fresh_state dwarf4 frame_address) (started_steps (NumberAnswer kind.CallFrameCfa address ∷ []))
    (RequestReply RequiresCallFrameCfa ∷ FaultReply StackFull ∷ []) new
unfolding on_top on_result act use_of is_same_kind operation_at row_of push_value push_piece push_caller most_operations run_for meaning
refused_by address =
    let answer : Answer = NumberAnswer kind.CallFrameCfa address in
    refused_once (After 1 0) (inl refl) frame_address answer RequiresCallFrameCfa (open_at (0x9c ∷ []) 1 ∷ []) refl
    (simp few_turns refl)
    (simp few_turns refl)

pub returns : goal.returns
returns c = record {
  alike = two_replays;
  met = may_replay;
  refused = record {
    agree = (evaluate, (resume (number refl), tt));
    one = refused_by 0x10;
    another = refused_by 0x100000010;
  };
}
