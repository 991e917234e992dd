-- Reading a LEB128 number byte by byte, as the code does it.
use Rattle.std.proofs.Common.{◌≡◌, ℕ, zero, suc, ◌+◌, ◌*◌, ◌%◌, ◌^◌, ◌<◌, ◌≤◌, List, [], ◌∷◌, Result, Ok, Err, arith, refl, ap, sym, ◌∙◌, pow-suc, add-one, ℤ, pos, ◌-ℤ◌}
use Rattle.std.proofs.lemmas.Bool.Decides.{nat_tests}
use Rattle.std.proofs.lemmas.Nat.{shl_whole, mul-le, pow-add}
use Rattle.std.proofs.Math.Nat.{pow-le-pow_right, mul-suc}
use Rattle.dwarf_base.specs.Faults.{Fault, past_the_end}
use Rattle.dwarf_base.specs.Leb.{LebForm, unsigned_leb, signed_leb, sign_extension, leb_from, uleb_at, sleb_at}
use Rattle.dwarf_base.specs.Reads.{Gives, u8_at}
use Rattle.dwarf_base.specs.declared.errors.Error.{Error}
use Rattle.dwarf_base.proofs.Suffixes.{ok_pair}

-- ---- the places

next_place : (place : ℕ) → 128 ^ (place + 1) ≡ 128 ^ place * 128
next_place place = rw add-one (pow-suc 128 place)

seven_bits : (place : ℕ) → 2 ^ (7 * place) ≡ 128 ^ place
seven_bits zero = refl
seven_bits (suc place) = rw (mul-suc 7 place, pow-add 2 (7 * place) 7, pow-suc 128 place) (ap (λ weight. weight * 128) (seven_bits place))

nine_places : (place : ℕ) → place ≤ 9 → 128 ^ place ≤ 2 ^ 63
nine_places place most = let power : 128 ^ place ≤ 128 ^ 9 = pow-le-pow_right (omega arith) most in power

-- seven bits shifted to their place lose nothing
shifted : (low place : ℕ) → low < 128 → place < 9 → low * 2 ^ (7 * place) % 2 ^ 64 ≡ low * 128 ^ place
shifted low place small most = shl_whole low 7 (7 * place) 64 small (omega arith) ∙ ap (λ weight. low * weight) (seven_bits place)

pub sum_below : (place sum low : ℕ) → sum < 128 ^ place → low < 128 → place < 9 → sum + low * 2 ^ (7 * place) % 2 ^ 64 < 128 ^ (place + 1)
sum_below place sum low below small most =
    let product : low * 128 ^ place ≤ 127 * 128 ^ place = mul-le low (128 ^ place) 127 (128 ^ place) (omega arith) (omega arith) in
    rw (shifted low place small most) (omega (arith, next_place place))

pub sum_fits : (place sum low : ℕ) → sum < 128 ^ place → low < 128 → place < 9 → sum + low * 2 ^ (7 * place) % 2 ^ 64 < 2 ^ 63
sum_fits place sum low below small most = omega (arith, sum_below place sum low below small most, nine_places (place + 1) (omega arith))

whole_is : (place : ℕ) → place < 9 → 128 * 2 ^ (7 * place) % 2 ^ 64 ≡ 128 ^ (place + 1)
whole_is place most =
    shl_whole 128 8 (7 * place) 64 (omega arith) (omega arith) ∙ (ap (λ weight. 128 * weight) (seven_bits place) ∙ omega (arith, next_place place))

-- the sum is at most 128 ^ count, and at least 2 ^ 62 less
pub below_whole : (place sum low : ℕ) → sum < 128 ^ place → low < 128 → place < 9
    → sum + low * 2 ^ (7 * place) % 2 ^ 64 ≤ 128 * 2 ^ (7 * place) % 2 ^ 64
below_whole place sum low below small most =
    let sum_is_below = sum_below place sum low below small most in omega (arith, whole_is place most)

pub above_half : (place sum low : ℕ) → sum < 128 ^ place → 64 ≤ low → low < 128 → place < 9
    → 128 * 2 ^ (7 * place) % 2 ^ 64 ≤ sum + low * 2 ^ (7 * place) % 2 ^ 64 + 2 ^ 62
above_half place sum low below high small most =
    let half : 64 * 128 ^ place ≤ low * 128 ^ place = mul-le 64 (128 ^ place) low (128 ^ place) high (omega arith) in
    let bits = shifted low place small most in
    let whole = whole_is place most in
    omega (arith, next_place place, nine_places (place + 1) (omega arith))

-- ---- one byte, at a place

pub goes_on : {A : Type 0} (form : LebForm A) (place sum byte : ℕ) (rest : List ℕ) → place < 9 → 128 ≤ byte
    → leb_from form place sum (byte ∷ rest) ≡ leb_from form (place + 1) (sum + byte % 128 * 128 ^ place) rest
goes_on form place sum byte rest most high = grind (arith, nat_tests)

pub ends : {A : Type 0} (form : LebForm A) (place sum byte : ℕ) (rest : List ℕ) → place < 9 → byte < 128
    → leb_from form place sum (byte ∷ rest) ≡ Ok (form.number (sum + byte * 128 ^ place) (place + 1) byte, rest)
ends form place sum byte rest most low = grind (arith, nat_tests)

-- ---- the same, from what a read of a byte gave

byte_read : (bytes : List ℕ) (byte : ℕ) (rest : List ℕ) → u8_at bytes ≡ Ok (byte, rest) → bytes ≡ byte ∷ rest
byte_read [] byte rest read = absurd cc
byte_read (x ∷ xs) byte rest read = let pair = ok_pair _ _ _ _ read in cc (pair.0, pair.1)

none_read : (bytes : List ℕ) (fault : Fault) → u8_at bytes ≡ Err fault → (bytes ≡ []) × (fault ≡ past_the_end)
none_read [] fault read = (refl, cc)
none_read (x ∷ xs) fault read = absurd cc

pub none_from : {A : Type 0} (form : LebForm A) (place sum : ℕ) (bytes : List ℕ) (fault : Fault) → u8_at bytes ≡ Err fault → leb_from form place sum bytes ≡ Err fault
none_from form place sum bytes fault read = let none = none_read bytes fault read in rw (none.0, none.1) refl

pub more_from : {A : Type 0} (form : LebForm A) (place sum : ℕ) (bytes : List ℕ) (byte low : ℕ) (rest : List ℕ)
    → u8_at bytes ≡ Ok (byte, rest) → low ≡ byte % 128 → place < 9 → 128 ≤ byte
    → leb_from form place sum bytes ≡ leb_from form (place + 1) (sum + low * 2 ^ (7 * place) % 2 ^ 64) rest
more_from form place sum bytes byte low rest read low_is most high =
    let small : low < 128 = omega arith in
    rw (byte_read bytes byte rest read, shifted low place small most, low_is) (goes_on form place sum byte rest most high)

pub last_from : {A : Type 0} (form : LebForm A) (place sum : ℕ) (bytes : List ℕ) (byte low : ℕ) (rest : List ℕ)
    → u8_at bytes ≡ Ok (byte, rest) → low ≡ byte % 128 → place < 9 → byte < 128
    → leb_from form place sum bytes ≡ Ok (form.number (sum + low * 2 ^ (7 * place) % 2 ^ 64) (place + 1) byte, rest)
last_from form place sum bytes byte low rest read low_is most end =
    let small : low < 128 = omega arith in
    let same : low ≡ byte = omega arith in
    rw (byte_read bytes byte rest read, shifted low place small most, same) (ends form place sum byte rest most end)

-- ---- the first byte

-- at place 0 the weight is 1
pub first_more : {A : Type 0} (form : LebForm A) (bytes : List ℕ) (byte low : ℕ) (rest : List ℕ) → u8_at bytes ≡ Ok (byte, rest) → low ≡ byte % 128
    → 128 ≤ byte → leb_from form 0 0 bytes ≡ leb_from form 1 low rest
first_more form bytes byte low rest read low_is high =
    let weight : 0 + byte % 128 * 128 ^ 0 ≡ low = omega arith in
    rw (byte_read bytes byte rest read) (goes_on form 0 0 byte rest (omega arith) high ∙ ap (λ sum. leb_from form 1 sum rest) weight)

first_last : {A : Type 0} (form : LebForm A) (bytes : List ℕ) (byte : ℕ) (rest : List ℕ) → u8_at bytes ≡ Ok (byte, rest)
    → byte < 128 → leb_from form 0 0 bytes ≡ Ok (form.number byte 1 byte, rest)
first_last form bytes byte rest read end =
    let weight : 0 + byte * 128 ^ 0 ≡ byte = omega arith in
    rw (byte_read bytes byte rest read) (ends form 0 0 byte rest (omega arith) end ∙ ap (λ sum. Ok (form.number sum 1 byte, rest)) weight)

pub unsigned_first : (bytes : List ℕ) (byte number : ℕ) (rest : List ℕ) → u8_at bytes ≡ Ok (byte, rest) → number ≡ byte → byte < 128
    → uleb_at bytes ≡ Ok (number, rest)
unfolding uleb_at
unsigned_first bytes byte number rest read same end = rw same (first_last unsigned_leb bytes byte rest read end)

-- ---- signs

without_sign : (sum count last : ℕ) → last < 64 → sign_extension sum count last ≡ pos sum
without_sign sum count last low = grind (arith, nat_tests)

with_sign : (sum count last : ℕ) → 64 ≤ last → sign_extension sum count last ≡ pos sum -ℤ pos (128 ^ count)
with_sign sum count last high = grind (arith, nat_tests)

pub signed_first : (bytes : List ℕ) (byte : ℕ) (value : ℤ) (rest : List ℕ) → u8_at bytes ≡ Ok (byte, rest) → value ≡ sign_extension byte 1 byte → byte < 128
    → sleb_at bytes ≡ Ok (value, rest)
unfolding sleb_at
signed_first bytes byte value rest read same end = first_last signed_leb bytes byte rest read end ∙ ap (λ z. Ok (z, rest)) (sym same)

pub signed_last_low : (place sum : ℕ) (bytes : List ℕ) (byte low : ℕ) (value : ℤ) (rest : List ℕ) → u8_at bytes ≡ Ok (byte, rest) → low ≡ byte % 128
    → place < 9 → byte < 64 → value ≡ pos (sum + low * 2 ^ (7 * place) % 2 ^ 64) → leb_from signed_leb place sum bytes ≡ Ok (value, rest)
signed_last_low place sum bytes byte low value rest read low_is most end same =
    last_from signed_leb place sum bytes byte low rest read low_is most (omega arith) ∙ ap (λ z. Ok (z, rest)) (without_sign _ (place + 1) byte end ∙ sym same)

pub signed_last_high : (place sum : ℕ) (bytes : List ℕ) (byte low : ℕ) (value : ℤ) (rest : List ℕ) → u8_at bytes ≡ Ok (byte, rest) → low ≡ byte % 128
    → place < 9 → 64 ≤ byte → byte < 128 → value ≡ pos (sum + low * 2 ^ (7 * place) % 2 ^ 64) -ℤ pos (128 * 2 ^ (7 * place) % 2 ^ 64)
    → leb_from signed_leb place sum bytes ≡ Ok (value, rest)
signed_last_high place sum bytes byte low value rest read low_is most high end same =
    let value_is : value ≡ pos (sum + low * 2 ^ (7 * place) % 2 ^ 64) -ℤ pos (128 ^ (place + 1)) = rw (whole_is place most) at same in
    last_from signed_leb place sum bytes byte low rest read low_is most end ∙ ap (λ z. Ok (z, rest)) (with_sign _ (place + 1) byte high ∙ sym value_is)

-- ---- the rest

pub gives_from : {X : Type 0} (result : Result X Error) (left : List ℕ) (one other : Result (X × List ℕ) Fault)
    → Gives (λ x. x) result left other → one ≡ other → Gives (λ x. x) result left one
gives_from result left one other h same = rw same h
