-- Operations and answers on agreeing stacks.
use Rattle.std.proofs.Common.{ℕ, ◌≡◌, ap, refl, subst, true, false, List, [], ◌∷◌, Option, None, Result}
use Rattle.dwarf_base.specs.declared.errors.Error.{Error}
use Rattle.dwarf_base.specs.Numbers.{residue}
use Rattle.dwarf_value.specs.declared.types.Value.{Value}
use Rattle.dwarf_value.specs.Values.{type_of, Agree, to_u64_of, from_u64_of, unary_of, binary_of, Plus}
use Rattle.dwarf_value.specs.Laws.{IsWidth, AgreeingResults}
use Rattle.dwarf_value.proofs.Agreements.{Agree-refl, Agree-Generic, Agree-sums, to_u64_of-Agree, convert_of-Agree, add_of_constant-Agree, unary_of-Agree, binary_of-Agree}
use Rattle.dwarf_value.proofs.ValueLaws.{reinterpret_of-Agree}
use Rattle.dwarf_meaning.specs.Operations as operation
use Rattle.dwarf_meaning.specs.Operations.{Operation}
use Rattle.dwarf_meaning.specs.Locations.{Location, AtAddress}
use Rattle.dwarf_meaning.specs.Requests.{Request, RequiresMemory, RequiresTls, OnAnswer, Push, Add, Parse, Convert, Answer}
use Rattle.dwarf_meaning.specs.Kinds.{kind_of_answer}
use Rattle.dwarf_meaning.specs.Acts.{on_top, on_result, Act, Pushes, RequestAct, underflow, unary, binary, act, Use, PushesAnswer, Calls, FaultUse, use_of}
use Rattle.dwarf_meaning.specs.Stores.{Store}
use Rattle.dwarf_meaning.specs.Run.{located_act}
use Rattle.dwarf_meaning.specs.Agreement as agreeing
use Rattle.dwarf_meaning.specs.Agreement.{Both, AgreeingNumbers, AgreeingAnswers, AgreeingLocations, same, AgreeingStacks, AgreeingActs, pushes, branches, locates, ends_piece, request_act, fault_act, AgreeingUses, pushes_answer, calls, fault_use}
use Rattle.dwarf_meaning.proofs.Pairs.{Pairwise, more, zipped, paired_refl, get_both, if_pair, top_pair, some_pair, answer_pair, read_pair, answers_agree}

-- after locations that agree
pub located_both : (w : ℕ) (s t : Store) {location location' : Location} → AgreeingLocations w location location'
    → Pairwise (Agree w) s.values t.values → (place : ℕ) (op : Operation)
    → AgreeingActs w (located_act location s place op) (located_act location' t place op)
located_both w s t l v place (operation.Piece size_in_bits bit_offset) = ends_piece (zipped v) (record { sizes = refl; offsets = refl; locations = l })
located_both w s t l v place op = fault_act

-- the same address on both sides
pub same_addresses : (w : ℕ) (x x' : Value) → Agree w x x'
    → AgreeingLocations w (AtAddress (to_u64_of w x)) (AtAddress (to_u64_of w x'))
same_addresses w x x' a =
    subst (λ (n : ℕ). AgreeingLocations w (AtAddress (to_u64_of w x)) (AtAddress n)) (to_u64_of-Agree w x x' a) same

-- ---- operations

module _ (w : ℕ) where
  asks_equal : (rest rest' : List Value) (request request' : Request) (on_answer : OnAnswer) → request ≡ request'
      → Pairwise (Agree w) rest rest'
      → AgreeingActs w (RequestAct rest request on_answer) (RequestAct rest' request' on_answer)
  asks_equal rest rest' request request' on_answer e h =
      subst (λ (r : Request). AgreeingActs w (RequestAct rest request on_answer) (RequestAct rest' r on_answer)) e (request_act (zipped h))

  pushes_one : (rest rest' : List Value) (x x' : Value) → Pairwise (Agree w) rest rest' → Agree w x x'
      → AgreeingActs w (Pushes rest (x ∷ [])) (Pushes rest' (x' ∷ []))
  pushes_one rest rest' x x' h a = pushes (zipped h) (a, tt)

  top_acts : (values others : List Value) (go go' : Value → List Value → Act) → Pairwise (Agree w) values others
      → ((x x' : Value) (rest rest' : List Value) → Agree w x x' → Pairwise (Agree w) rest rest'
      → AgreeingActs w (go x rest) (go' x' rest'))
      → AgreeingActs w (on_top values underflow go) (on_top others underflow go')
  top_acts values others go go' h g =
      top_pair (AgreeingActs w) ⊥ w values others underflow underflow go go' h (λ e. absurd e) fault_act
      (λ x x' rest rest' a b e. g x x' rest rest' a b)

  unary_acts : (call : Value → Result Value Error) (values others : List Value)
      → ((x x' : Value) → Agree w x x' → call x ≡ call x') → Pairwise (Agree w) values others
      → AgreeingActs w (unary call values) (unary call others)
  unary_acts call values others equal h =
      top_acts values others _ _ h (λ x x' rest rest' a b.
      answer_pair (AgreeingActs w) w _ _ _ _ _ _ (answers_agree w _ _ (equal x x' a)) (λ fault. fault_act)
      (λ y y' c. pushes_one rest rest' y y' b c))

  binary_acts : (call : Value → Value → Result Value Error) (values others : List Value)
      → ((x x' y y' : Value) → Agree w x x' → Agree w y y' → call x y ≡ call x' y')
      → Pairwise (Agree w) values others → AgreeingActs w (binary call values) (binary call others)
  binary_acts call values others equal h =
      top_acts values others _ _ h (λ y y' below below' a b. top_acts below below' _ _ b (λ x x' rest rest' c d.
      answer_pair (AgreeingActs w) w _ _ _ _ _ _ (answers_agree w _ _ (equal x x' y y' c a)) (λ fault. fault_act)
      (λ z z' e. pushes_one rest rest' z z' d e)))

  pub act_both : (object object' : Option ℕ) (op : Operation) (values others : List Value)
      → Both (AgreeingNumbers w) object object' → Pairwise (Agree w) values others
      → AgreeingActs w (act w object op values) (act w object' op others)
  unfolding act
  act_both object object' operation.Drop values others o h = top_acts values others _ _ h (λ x x' rest rest' a b. pushes (zipped b) tt)
  act_both object object' (operation.Pick index) values others o h =
      some_pair (AgreeingActs w) (Agree w) _ _ _ _ _ _ (get_both (Agree w) index h) fault_act
      (λ x x' a. pushes_one values others x x' h a)
  act_both object object' operation.Swap values others o (more a (more c d)) = pushes (zipped d) (a, (c, tt))
  act_both object object' operation.Swap values others o _ = fault_act
  act_both object object' operation.Rot values others o (more a (more c (more e f))) = pushes (zipped f) (a, (e, (c, tt)))
  act_both object object' operation.Rot values others o _ = fault_act
  act_both object object' (operation.Unary op) values others o h = unary_acts (unary_of op w) values others (unary_of-Agree op w) h
  act_both object object' (operation.Binary op) values others o h = binary_acts (binary_of op w) values others (binary_of-Agree op w) h
  act_both object object' (operation.PlusConstant value) values others o h =
      unary_acts (λ x. binary_of Plus w x (from_u64_of (type_of x) value)) values others (add_of_constant-Agree w value) h
  act_both object object' (operation.UnsignedConstant value) values others o h = pushes_one values others _ _ h (Agree-refl w _)
  act_both object object' (operation.SignedConstant value) values others o h = pushes_one values others _ _ h (Agree-refl w _)
  act_both object object' operation.PushObjectAddress values others o h =
      some_pair (AgreeingActs w) (AgreeingNumbers w) _ _ _ _ _ _ o fault_act
      (λ m n e. pushes_one values others _ _ h (Agree-Generic w m n e))
  act_both object object' (operation.Bra target) values others o h =
      top_acts values others _ _ h (λ x x' rest rest' a b. if_pair (AgreeingActs w) _ _ _ _ _ _
      (let e = to_u64_of-Agree w x x' a in cc) (pushes (zipped b) tt) (branches (zipped b)))
  act_both object object' (operation.Skip target) values others o h = branches (zipped h)
  act_both object object' operation.Nop values others o h = pushes (zipped h) tt
  act_both object object' (operation.VariableValue offset) values others o h = fault_act
  act_both object object' operation.Uninitialized values others o h = fault_act
  act_both object object' (operation.Deref base_type size false) values others o h =
      if_pair (AgreeingActs w) _ _ _ _ _ _ refl fault_act
      (top_acts values others _ _ h (λ x x' rest rest' a b.
      asks_equal rest rest' _ _ Push (ap (λ (n : ℕ). RequiresMemory n size None base_type) (to_u64_of-Agree w x x' a)) b))
  act_both object object' (operation.Deref base_type size true) values others o h =
      if_pair (AgreeingActs w) _ _ _ _ _ _ refl fault_act
      (top_acts values others _ _ h (λ x x' below below' a b. top_acts below below' _ _ b (λ y y' rest rest' c d.
      let p = to_u64_of-Agree w x x' a in let q = to_u64_of-Agree w y y' c in
      asks_equal rest rest' _ _ Push (cc) d)))
  act_both object object' operation.TLS values others o h =
      top_acts values others _ _ h (λ x x' rest rest' a b. asks_equal rest rest' _ _ Push
      (ap RequiresTls (to_u64_of-Agree w x x' a)) b)
  act_both object object' (operation.Register register) values others o h = locates (zipped h) same
  act_both object object' (operation.ImplicitValue bytes) values others o h = locates (zipped h) same
  act_both object object' operation.StackValue values others o h =
      top_acts values others _ _ h (λ x x' rest rest' a b. locates (zipped b) (agreeing.values a))
  act_both object object' (operation.ImplicitPointer value byte_offset) values others o h = locates (zipped h) same
  act_both object object' (operation.Piece size_in_bits bit_offset) values others o h =
      top_pair (AgreeingActs w) ⊥ w values others _ _ _ _ h (λ e. absurd e) (ends_piece tt (record { sizes = refl; offsets = refl; locations = same }))
      (λ x x' rest rest' a b e. ends_piece (zipped b) (record { sizes = refl; offsets = refl; locations = same_addresses w x x' a }))
  act_both object object' _ values others o h = request_act (zipped h)

-- ---- answers

-- answers that agree are of one kind
pub same_kinds : (w : ℕ) (x y : Answer) → AgreeingAnswers w x y → kind_of_answer x ≡ kind_of_answer y
same_kinds w x y (agreeing.value a) = refl
same_kinds w x y (agreeing.number e) = refl
same_kinds w x y agreeing.location = refl
same_kinds w x y agreeing.base_type = refl

module _ (w : ℕ) (width : IsWidth w) where
  answer_uses : (r r' : Result Value Error) (rest rest' : List Value) → AgreeingResults w r r' → Pairwise (Agree w) rest rest'
      → AgreeingUses w (on_result r FaultUse (PushesAnswer rest)) (on_result r' FaultUse (PushesAnswer rest'))
  answer_uses r r' rest rest' h b =
      answer_pair (AgreeingUses w) w r r' FaultUse FaultUse _ _ h (λ fault. fault_use) (λ x x' a. pushes_answer (zipped b) a)

  pub use_both : (on_answer : OnAnswer) (x y : Answer) (values others : List Value) → AgreeingAnswers w x y
      → Pairwise (Agree w) values others → AgreeingUses w (use_of w on_answer x values) (use_of w on_answer y others)
  unfolding use_of
  use_both (Add offset) x y values others (agreeing.value a) h =
      answer_uses _ _ values others (answers_agree w _ _ (add_of_constant-Agree w (residue 64 offset) _ _ a)) h
  use_both _ x y values others (agreeing.value a) h = pushes_answer (zipped h) a
  use_both (Add offset) x y values others (agreeing.number e) h = pushes_answer (zipped h) (Agree-sums w _ _ offset width.within_64 e)
  use_both _ x y values others (agreeing.number e) h = pushes_answer (zipped h) (Agree-Generic w _ _ e)
  use_both _ x y values others agreeing.location h = calls
  use_both (Parse literal) x y values others agreeing.base_type h =
      read_pair (AgreeingUses w) _ FaultUse FaultUse (PushesAnswer values) (PushesAnswer others)
      (λ fault. fault_use) (λ v. pushes_answer (zipped h) (Agree-refl w v))
  use_both Convert x y values others agreeing.base_type h =
      top_pair (AgreeingUses w) ⊥ w values others _ _ _ _ h (λ e. absurd e) fault_use (λ v v' rest rest' a b e.
      answer_uses _ _ rest rest' (answers_agree w _ _ (convert_of-Agree _ w v v' a)) b)
  use_both _ x y values others agreeing.base_type h =
      top_pair (AgreeingUses w) ⊥ w values others _ _ _ _ h (λ e. absurd e) fault_use (λ v v' rest rest' a b e.
      answer_uses _ _ rest rest' (reinterpret_of-Agree w _ v v' width a) b)

pub uses_refl : (w : ℕ) (u : Use) → AgreeingUses w u u
uses_refl w (PushesAnswer rest value) = pushes_answer (zipped (paired_refl (Agree-refl w) rest)) (Agree-refl w value)
uses_refl w (Calls text) = calls
uses_refl w (FaultUse fault) = fault_use
