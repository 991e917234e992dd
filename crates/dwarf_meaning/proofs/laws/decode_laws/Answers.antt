use Rattle.dwarf_meaning.proofs.DecodingFacts.{reads_the_spelled, decided, some_bytes, takes_operation, decoding_fault}
use Rattle.dwarf_meaning.proofs.Splittings.{splits_once, is_splitting}
use Rattle.dwarf_meaning.proofs.Branches.{branches_near}
use Rattle.dwarf_meaning.proofs.laws.decode_laws.Goals as goal

pub returns : goal.returns
returns c = record {
  reading = reads_the_spelled;
  faults = decoding_fault;
  decided = λ context. decided context.encoding context.offset_bits context.is_big;
  some_bytes = λ context. some_bytes context.encoding context.offset_bits context.is_big;
  whole = takes_operation;
  once = λ context. splits_once context.encoding context.offset_bits context.is_big;
  splitting = λ context. is_splitting context.encoding context.offset_bits context.is_big;
  branches = branches_near;
}
