-- Only a branch's act is a branch, to its target.
use Rattle.std.proofs.Common.{ℕ, ℤ, inl, inr, subst, List, Option}
use Rattle.dwarf_base.specs.Faults.{Fault}
use Rattle.dwarf_value.specs.declared.types.Value.{Value}
use Rattle.dwarf_meaning.specs.Operations.{Operation}
use Rattle.dwarf_meaning.specs.Locations.{Location, Piece}
use Rattle.dwarf_meaning.specs.Requests.{Request, OnAnswer}
use Rattle.dwarf_meaning.specs.DecodeLaws.{IsNear, BranchesNear}
use Rattle.dwarf_laws.specs.Inlining.{IsStraight}
use Rattle.dwarf_meaning.specs.Acts.{Act, Pushes, Branches, Locates, EndsPiece, RequestAct, FaultAct, act}
use Rattle.dwarf_meaning.proofs.Effects.{IsActOf, act_is}
use Rattle.dwarf_meaning.specs.Operations as operation
use Rattle.dwarf_meaning.proofs.Effects as effect

-- P holds of the target of a branch
abbrev pub AllJumps : (ℤ → Type 0) → Operation → Type 0
AllJumps P (operation.Bra target) = P target
AllJumps P (operation.Skip target) = P target
AllJumps P _ = Unit {0}

pub jumps_by : (Q : Operation → Type 0) (P : ℤ → Type 0) → ((target : ℤ) → Q (operation.Bra target) → P target)
    → ((target : ℤ) → Q (operation.Skip target) → P target) → (op : Operation) → Q op → AllJumps P op
jumps_by Q P h k (operation.Bra target) q = h target q
jumps_by Q P h k (operation.Skip target) q = k target q
jumps_by Q P h k _ q = tt

pub near_jumps : (P : ℤ → Type 0) → ((target : ℤ) → IsNear target → P target) → (op : Operation) → BranchesNear op → AllJumps P op
near_jumps P h = jumps_by BranchesNear P h h

pub straight_jumps : (P : ℤ → Type 0) (op : Operation) → IsStraight op → AllJumps P op
straight_jumps P = jumps_by IsStraight P (λ target no. absurd no) (λ target no. absurd no)

pub data Jumping (P : ℤ → Type 0) : Act → Type 0 where
  pushes : {rest pushed : List Value} → Jumping P (Pushes rest pushed)
  branches : {rest : List Value} {target : ℤ} → P target → Jumping P (Branches rest target)
  locates : {rest : List Value} {location : Location} → Jumping P (Locates rest location)
  ends : {rest : List Value} {piece : Piece} → Jumping P (EndsPiece rest piece)
  asks : {rest : List Value} {request : Request} {on_answer : OnAnswer} → Jumping P (RequestAct rest request on_answer)
  refuses : {fault : Fault} → Jumping P (FaultAct fault)

-- what an operation does, by its target
jumping : (P : ℤ → Type 0) (op : Operation) {n : ℕ} (a : Act) → IsActOf op n a → AllJumps P op → Jumping P a
jumping P op (Pushes rest pushed) d j = pushes
jumping P op (Branches rest target) (effect.branches l (inl e)) j = branches (subst (AllJumps P) e j)
jumping P op (Branches rest target) (effect.branches l (inr e)) j = branches (subst (AllJumps P) e j)
jumping P op (Locates rest location) d j = locates
jumping P op (EndsPiece rest piece) d j = ends
jumping P op (RequestAct rest request on_answer) d j = asks
jumping P op (FaultAct fault) d j = refuses

pub act_jumps : (P : ℤ → Type 0) (bits : ℕ) (object : Option ℕ) (op : Operation) (values : List Value) → AllJumps P op
    → Jumping P (act bits object op values)
act_jumps P bits object op values j = jumping P op (act bits object op values) (act_is bits object op values) j
