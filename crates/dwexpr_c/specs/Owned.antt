-- What a caller's handle owns: memory for an evaluation, or an evaluation.
use Rattle.std.specs.Prelude.{Option, None, Some}
use Rattle.std.specs.Borrow.{full_share}
use Rattle.std.specs.Ptr.{Ptr, lies_at, room_at}
use base.Fml.{Fml}
use denote.RattleType.{RattleType}
use denote.Signature.{static_lft}
use Rattle.dwexpr_c.specs.contracts.memory.Held.{the_row}

-- an evaluation of texts that stay until the program ends
abbrev pub held_row : RattleType
held_row = the_row static_lft

-- at this pointer there is memory for an evaluation, or this evaluation
abbrev pub owned_at : Ptr → Option held_row.Denot → Fml
owned_at at None = room_at held_row at
owned_at at (Some held) = lies_at held_row full_share at held
