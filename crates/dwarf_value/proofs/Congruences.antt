-- Integers that differ by a multiple of a number, and their residues.
use Rattle.std.proofs.Common.{◌≡◌, ℕ, ◌+◌, ◌-◌, ◌*◌, ◌/◌, ◌%◌, ◌^◌, ◌<◌, ◌≤◌, ℤ, pos, negsuc, ◌+ℤ◌, ◌-ℤ◌, ◌*ℤ◌, neg_ℤ, sym, ap, ◌∙◌, subst, refl, arith, Bool, true, false, if◌then◌else◌, nat_lt}
use Rattle.std.proofs.lemmas.Int.{ints}
use Rattle.std.proofs.lemmas.Nat.{pow_pos, mod_below, pow-add, mod-mul-add}
use borrow.Author.Differences.{up, down, product_is}
use lib.IntN.{*ℤ_comm}
use Rattle.std.specs.Prelude.{IsTrue}
use Rattle.dwarf_base.specs.Numbers.{residue}
use Rattle.dwarf_base.specs.Reads.{is_fixed_size}
use Rattle.dwarf_value.specs.declared.types.Value.TheVariants.{Generic}
use Rattle.dwarf_value.specs.declared.types.ValueType.{ValueType}
use Rattle.dwarf_value.specs.declared.types.ValueType.TheVariants as kind
use Rattle.dwarf_value.specs.Values.{word_integer, value_of, bit_size_of}
use Rattle.dwarf_value.proofs.MaskBits.{width_of-le, all_bits_mask, all_bits_width}

-- they are equal once multiples of m are added to both
pub record Congruent (m : ℕ) (a b : ℤ) : Type 0 where
  pub left : ℕ
  pub right : ℕ
  pub same : a +ℤ pos (left * m) ≡ b +ℤ pos (right * m)

pub Congruent-sym : (m : ℕ) (a b : ℤ) → Congruent m a b → Congruent m b a
Congruent-sym m a b c = record { left = c.right; right = c.left; same = sym c.same }

pub Congruent-trans : (m : ℕ) (a b d : ℤ) → Congruent m a b → Congruent m b d → Congruent m a d
Congruent-trans m a b d p q = record { left = p.left + q.left; right = p.right + q.right; same = omega (arith, ints, p.same, q.same) }

pub Congruent-add : (m : ℕ) (a b c d : ℤ) → Congruent m a b → Congruent m c d → Congruent m (a +ℤ c) (b +ℤ d)
Congruent-add m a b c d p q = record { left = p.left + q.left; right = p.right + q.right; same = omega (arith, ints, p.same, q.same) }

pub Congruent-neg : (m : ℕ) (a b : ℤ) → Congruent m a b → Congruent m (neg_ℤ a) (neg_ℤ b)
Congruent-neg m a b p = record { left = p.right; right = p.left; same = omega (arith, ints, p.same) }

pub Congruent-mul : (m : ℕ) (a b c : ℤ) → Congruent m a b → Congruent m (a *ℤ c) (b *ℤ c)
Congruent-mul m a b c p =
    let l = p.left in let r = p.right in
    let e : up a + down b + l * m ≡ up b + down a + r * m = omega (arith, ints, p.same) in
    let f : (up a + down b + l * m) * up c ≡ (up b + down a + r * m) * up c = ap (λ (t : ℕ). t * up c) e in
    let g : (up a + down b + l * m) * down c ≡ (up b + down a + r * m) * down c = ap (λ (t : ℕ). t * down c) e in
    record { left = l * up c + r * down c; right = r * up c + l * down c; same = omega (arith, ints, product_is a c, product_is b c, f, g) }

pub Congruent-mul_left : (m : ℕ) (a b c : ℤ) → Congruent m a b → Congruent m (c *ℤ a) (c *ℤ b)
Congruent-mul_left m a b c p =
    subst (λ t. Congruent m (c *ℤ a) t) (*ℤ_comm b c) (subst (λ t. Congruent m t (b *ℤ c)) (*ℤ_comm a c) (Congruent-mul m a b c p))

-- a word's integer and its bits
pub Congruent-bits : (signed : Bool) (k n : ℕ) → Congruent (2 ^ k) (word_integer signed k n) (pos n)
unfolding word_integer
Congruent-bits true k n = by_test (nat_lt n (2 ^ (k - 1)))
  where
    by_test : (b : Bool) → Congruent (2 ^ k) (if b then pos n else pos n -ℤ pos (2 ^ k)) (pos n)
    by_test true = record { left = 0; right = 0; same = refl }
    by_test false = record { left = 1; right = 0; same = omega (arith, ints) }
Congruent-bits false k n = record { left = 0; right = 0; same = refl }

-- modulo a divisor
coarser : (m j : ℕ) (a b : ℤ) → Congruent (j * m) a b → Congruent m a b
coarser m j a b c = record { left = c.left * j; right = c.right * j; same = omega (arith, ints, c.same) }

pub Congruent-lower : (j k : ℕ) (a b : ℤ) → j ≤ k → Congruent (2 ^ k) a b → Congruent (2 ^ j) a b
Congruent-lower j k a b h c =
    let e : 2 ^ k ≡ 2 ^ (k - j) * 2 ^ j = ap (λ n. 2 ^ n) (omega arith) ∙ pow-add 2 (k - j) j in
    coarser (2 ^ j) (2 ^ (k - j)) a b (subst (λ n. Congruent n a b) e c)

-- ---- residues

residue_below : (k : ℕ) (z : ℤ) → residue k z < 2 ^ k
residue_below k (pos n) = mod_below n (2 ^ k) (pow_pos k)
residue_below k (negsuc n) = let p = pow_pos k in omega arith

pub Congruent-residue : (k : ℕ) (z : ℤ) → Congruent (2 ^ k) (pos (residue k z)) z
Congruent-residue k (pos n) = record { left = n / 2 ^ k; right = 0; same = omega (arith, ints) }
Congruent-residue k (negsuc n) = record { left = 0; right = n / 2 ^ k + 1; same = let p = mod_below n (2 ^ k) (pow_pos k) in omega (arith, ints) }

pub residue-Congruent : (k : ℕ) (a b : ℤ) → Congruent (2 ^ k) a b → residue k a ≡ residue k b
residue-Congruent k a b c =
    let m = 2 ^ k in let r = residue k a in let s = residue k b in
    let both = Congruent-trans m _ _ _ (Congruent-residue k a) (Congruent-trans m _ _ _ c (Congruent-sym m _ _ (Congruent-residue k b))) in
    let e : both.left * m + r ≡ both.right * m + s = omega (arith, ints, both.same) in
    sym (mod-mul-add both.left m r (residue_below k a)) ∙ (ap (λ n. n % m) e ∙ mod-mul-add both.right m s (residue_below k b))

-- the lower bits of a residue
pub residue-lower : (j k : ℕ) (z : ℤ) → j ≤ k → residue k z % 2 ^ j ≡ residue j z
residue-lower j k z h = residue-Congruent j (pos (residue k z)) z (Congruent-lower j k _ _ h (Congruent-residue k z))

-- the values that integers wrap to

pub same_value : (g : ℕ) (t : ValueType) (a b : ℤ) → Congruent (2 ^ bit_size_of g t) a b → value_of g t a ≡ value_of g t b
unfolding value_of bit_size_of
same_value g kind.Generic a b c = ap Generic (residue-Congruent g a b c)
same_value g t a b c = rw (residue-Congruent (bit_size_of g t) a b c)

pub bit_size_of-le : (w : ℕ) (t : ValueType) → w ≤ 64 → bit_size_of w t ≤ 64
unfolding bit_size_of
bit_size_of-le w kind.Generic h = h
bit_size_of-le w t h = omega arith

-- the sizes in bytes can be read
pub byte_size-fixed : (t : ValueType) → IsTrue (is_fixed_size (bit_size_of 64 t / 8))
unfolding bit_size_of
byte_size-fixed kind.Generic = refl
byte_size-fixed t = refl

pub ruleset byte_sizes = (byte_size-fixed, bit_size_of-le, all_bits_mask, all_bits_width)

-- the lowest 64 bits of the integer are enough
value_of-bits : (g : ℕ) (t : ValueType) (n : ℕ) (z : ℤ) → g ≤ 64 → Congruent (2 ^ 64) (pos n) z → value_of g t (pos n) ≡ value_of g t z
value_of-bits g t n z h c = same_value g t _ _ (Congruent-lower _ 64 _ _ (bit_size_of-le g t h) c)

pub value_of-low : (g : ℕ) (t : ValueType) (z : ℤ) → g ≤ 64 → value_of g t (pos (residue 64 z)) ≡ value_of g t z
value_of-low g t z h = value_of-bits g t (residue 64 z) z h (Congruent-residue 64 z)

pub ruleset low_bits_only = (value_of-low, width_of-le, all_bits_mask, all_bits_width)

-- a number that is congruent to the integer, cut to 64 bits
value_of-wrapped : (g : ℕ) (t : ValueType) (n : ℕ) (z : ℤ) → g ≤ 64 → Congruent (2 ^ 64) (pos n) z → value_of g t (pos (n % 2 ^ 64)) ≡ value_of g t z
value_of-wrapped g t n z h c = value_of-bits g t (n % 2 ^ 64) z h (Congruent-trans _ _ _ _ (Congruent-residue 64 (pos n)) c)

module _ (g : ℕ) (t : ValueType) (x y : ℤ) (within : g ≤ 64) where
  pub value_of-sum : value_of g t (pos ((residue 64 x + residue 64 y) % 2 ^ 64)) ≡ value_of g t (x +ℤ y)
  value_of-sum =
      let a = residue 64 x in let b = residue 64 y in
      value_of-wrapped g t (a + b) (x +ℤ y) within (Congruent-add (2 ^ 64) (pos a) x (pos b) y (Congruent-residue 64 x) (Congruent-residue 64 y))

  pub value_of-difference : value_of g t (pos ((residue 64 x + (2 ^ 64 - residue 64 y)) % 2 ^ 64)) ≡ value_of g t (x -ℤ y)
  value_of-difference =
      let p = Congruent-residue 64 x in let q = Congruent-residue 64 y in let b = residue_below 64 y in
      value_of-wrapped g t (residue 64 x + (2 ^ 64 - residue 64 y)) (x -ℤ y) within
      (record { left = p.left + q.right; right = p.right + q.left + 1; same = omega (arith, ints, p.same, q.same) })

  pub value_of-product : value_of g t (pos (residue 64 x * residue 64 y % 2 ^ 64)) ≡ value_of g t (x *ℤ y)
  value_of-product =
      let a = residue 64 x in let b = residue 64 y in
      value_of-wrapped g t (a * b) (x *ℤ y) within
      (Congruent-trans (2 ^ 64) (pos a *ℤ pos b) (x *ℤ pos b) _ (Congruent-mul _ _ _ _ (Congruent-residue 64 x)) (Congruent-mul_left _ _ _ _ (Congruent-residue 64 y)))

pub ruleset wrapped = (value_of-sum, value_of-difference, value_of-product, width_of-le)

-- the bits of a negated integer, and their complement
module _ (g : ℕ) (t : ValueType) (x : ℤ) (within : g ≤ 64) where
  pub value_of-negated : (n : ℕ) → (n + residue 64 x) % 2 ^ 64 ≡ 0 → value_of g t (pos n) ≡ value_of g t (neg_ℤ x)
  value_of-negated n e =
      let p = Congruent-residue 64 x in
      value_of-bits g t n (neg_ℤ x) within (record { left = p.right; right = p.left + (n + residue 64 x) / 2 ^ 64; same = omega (arith, ints, p.same, e) })

  pub value_of-complement : value_of g t (pos (2 ^ 64 - 1 - residue 64 x)) ≡ value_of g t (neg_ℤ x -ℤ pos 1)
  value_of-complement =
      let p = Congruent-residue 64 x in let b = residue_below 64 x in
      value_of-bits g t (2 ^ 64 - 1 - residue 64 x) (neg_ℤ x -ℤ pos 1) within (record { left = p.right; right = p.left + 1; same = omega (arith, ints, p.same) })

pub ruleset negated = (value_of-negated, value_of-complement)

pub value_of-shifted : (t : ValueType) (x : ℤ) (n : ℕ) → value_of 64 t (pos (residue 64 x * 2 ^ n % 2 ^ 64)) ≡ value_of 64 t (x *ℤ pos (2 ^ n))
value_of-shifted t x n =
    value_of-wrapped 64 t (residue 64 x * 2 ^ n) (x *ℤ pos (2 ^ n)) (omega arith)
    (Congruent-mul (2 ^ 64) (pos (residue 64 x)) x (pos (2 ^ n)) (Congruent-residue 64 x))

pub ruleset left_shifts = (value_of-shifted, bit_size_of-le, width_of-le)
