-- Laws of numbers: the order of signed numbers as code tests it, numbers that no machine holds, and bytes read as a number by sign and magnitude.
use Prim.Native.Nat.{ℕ, zero, suc, ◌-◌, ◌^◌, ◌≤◌, ◌<◌}
use native.Mathlib.Nat.{zero-add}
use native.Mathlib.Omega.{arith}
use mathlib.Core.Bool.{Bool, true, false, not, ◌&&◌}
use mathlib.Core.List.{List, [], ◌∷◌}
use mathlib.Core.Option.{Option, none, some}
use mathlib.Core.Path.{◌≡◌, refl, sym, ap, ◌∙◌}
use lib.Dec.{eqb, leb, ltb}
use lib.IntN.{ℤ, pos, negsuc, ◌-ℤ◌}
use lib.Signed.{le_z, lt_z}
use lib.ListN.{length, drop, get_or}
use borrow.Author.Tests.{lt-ltb, le-ltb, ltb-true, ltb-false, lt-leb, not-true, not-false, leb-true, leb-false}
use mir.Syntax.{w64}
use mir.Val.{SFits, to_z, of_z, bool_byte}
use mir.Facts.{to_z-of_z}
use Rattle.std.specs.Prelude.{Result, Ok, Err}
use Rattle.text_number.specs.Number.{natural_of, negative, number_of, in_range, ranged, number_in}
use Rattle.text_number.specs.declared.NumberError.{NumberError}
use Rattle.text_number.specs.declared.NumberError.TheVariants as error
use Rattle.text_number.specs.internal.Natural.{held_natural, signed_number, signed, is_outside}
use Rattle.text_number.proofs.Naturals.{HeldIs, small, large, broken, held_is}

-- ---- signed numbers

pub minus_one_less : (n : ℕ) → negsuc 0 -ℤ pos n ≡ negsuc n
minus_one_less zero = refl
minus_one_less (suc n) = rw zero-add

less_not : (a b : ℕ) → ltb a b ≡ not (leb b a)
less_not a b = go (leb b a) refl
  where
    go : (t : Bool) → leb b a ≡ t → ltb a b ≡ not t
    go true e = le-ltb a b (leb-true b a e)
    go false e = lt-ltb a b (leb-false b a e)

-- one test of the order decides the other
pub less_z_not : (a b : ℤ) → lt_z a b ≡ not (le_z b a)
less_z_not (pos a) (pos b) = less_not a b
less_z_not (pos a) (negsuc b) = refl
less_z_not (negsuc a) (pos b) = refl
less_z_not (negsuc a) (negsuc b) = less_not b a

-- a test of two numbers as code holds them, by their bits
module _ (a b : ℤ) (fa : SFits w64 a) (fb : SFits w64 b) where
  tested : (t : Bool) → lt_z (to_z w64 (of_z w64 a)) (to_z w64 (of_z w64 b)) ≡ t → not (le_z b a) ≡ t
  tested t e = sym (less_z_not a b) ∙ (rw (to_z-of_z fa, to_z-of_z fb) at e)

  pub less_taken : lt_z (to_z w64 (of_z w64 a)) (to_z w64 (of_z w64 b)) ≡ true → le_z b a ≡ false
  less_taken e = not-true (le_z b a) (tested true e)

  pub less_left : lt_z (to_z w64 (of_z w64 a)) (to_z w64 (of_z w64 b)) ≡ false → le_z b a ≡ true
  less_left e = not-false (le_z b a) (tested false e)

-- ---- numbers that a machine holds, and those that none holds

pub signed_fits : (negative : Bool) (n : ℕ) → n < 2 ^ 63 → SFits w64 (signed negative n)
signed_fits true n h = record { sfits = h }
signed_fits false n h = record { sfits = h }

module _ (low high : ℤ) where
  and-false : (t : Bool) → (t && false) ≡ false
  and-false true = refl
  and-false false = refl

  below_all : (low : ℤ) (n : ℕ) → SFits w64 low → 2 ^ 63 ≤ n → le_z low (negsuc n) ≡ false
  below_all (pos a) n f h = refl
  below_all (negsuc a) n f h = lt-leb n a (omega (arith, f.sfits))

  above_all : (high : ℤ) (n : ℕ) → SFits w64 high → 2 ^ 63 ≤ n → le_z (pos n) high ≡ false
  above_all (pos a) n f h = lt-leb n a (omega (arith, f.sfits))
  above_all (negsuc a) n f h = refl

  pub too_low : (n : ℕ) → SFits w64 low → 2 ^ 63 ≤ n → in_range low high (negsuc n) ≡ Err error.Outside
  too_low n f h = rw (below_all low n f h)

  pub too_high : (n : ℕ) → SFits w64 high → 2 ^ 63 ≤ n → in_range low high (pos n) ≡ Err error.Outside
  too_high n f h = rw (above_all high n f h, and-false (le_z low (pos n)))

  pub far_outside : SFits w64 low → SFits w64 high → (negative : Bool) (n : ℕ) → 2 ^ 63 ≤ n → is_outside low high (signed negative n) ≡ true
  far_outside fl fh true n h = rw (below_all low n fl h)
  far_outside fl fh false n h = rw (above_all high n fh h, and-false (le_z low (pos n)))

  pub near : SFits w64 low → SFits w64 high → (negative : Bool) (n : ℕ) → is_outside low high (signed negative n) ≡ false → n ≤ 9223372036854775807
  near fl fh negative n e = go (ltb n (2 ^ 63)) refl
    where
      go : (t : Bool) → ltb n (2 ^ 63) ≡ t → n ≤ 9223372036854775807
      go true t = omega (arith, ltb-true n (2 ^ 63) t)
      go false t =
          let far = far_outside fl fh negative n (ltb-false n (2 ^ 63) t) in
          let z : true ≡ false = sym far ∙ e in
          let n : ◌≡◌ {A = ℕ} 0 1 = cc in
          absurd (omega arith)

-- ---- bytes read as a number

-- `-` in front, or the digits alone
pub number_parts : (s : List ℕ) (b : Bool) → 0 < length s → eqb (get_or s 0 0) 45 ≡ b → number_of s ≡ signed_number b (natural_of (drop (bool_byte b) s))
unfolding number_of
number_parts [] b h e = absurd (omega arith)
number_parts (byte ∷ s) true h e = rw e
number_parts (byte ∷ s) false h e = rw e

pub number_none : (low high : ℤ) (s : List ℕ) → length s ≡ 0 → Err error.Malformed ≡ number_in low high s
unfolding number_of
number_none low high [] e = refl
number_none low high (byte ∷ s) e = absurd (omega arith)

malformed : (low high : ℤ) (b : Bool) → Err error.Malformed ≡ ranged low high (signed_number b none)
malformed low high true = refl
malformed low high false = refl

outside : (low high : ℤ) → SFits w64 low → SFits w64 high → (b : Bool) (n : ℕ) → 2 ^ 63 < n → Err error.Outside ≡ ranged low high (signed_number b (some n))
outside low high fl fh true zero h = absurd (omega arith)
outside low high fl fh true (suc n) h = sym (too_low low high n fl (omega arith))
outside low high fl fh false n h = sym (too_high low high n fh (omega arith))

pub negative_some : (n : ℕ) → 1 ≤ n → negative (some n) ≡ some (negsuc (n - 1))
negative_some zero h = absurd (omega arith)
negative_some (suc n) h = let e : suc n - 1 ≡ n = omega arith in rw e

-- a number in its range, by its sign and distance, and one that is out
pub in_range_lem : (low high z : ℤ) → is_outside low high z ≡ false → Ok z ≡ in_range low high z
in_range_lem low high z e = rw (not-false (le_z low z && le_z z high) e)

pub out_of_range : (low high z : ℤ) → is_outside low high z ≡ true → Err error.Outside ≡ in_range low high z
out_of_range low high z e = rw (not-true (le_z low z && le_z z high) e)

-- what the digits say, and what the number is
module _
    (low high : ℤ) (s digits : List ℕ) (b : Bool) {n : Result ℕ NumberError} (some_bytes : 0 < length s) (sign : eqb (get_or s 0 0) 45 ≡ b)
    (same : digits ≡ drop (bool_byte b) s) (is : n ≡ held_natural digits) where
  whole : (o : Option ℕ) → natural_of digits ≡ o → ranged low high (signed_number b o) ≡ number_in low high s
  whole o e = ap (λ (x : Option ℕ). ranged low high (signed_number b x)) (sym e) ∙ rw same (ap (ranged low high) (sym (number_parts s b some_bytes sign)))

  pub number_value : {m : ℕ} → n ≡ Ok m → ranged low high (signed_number b (some m)) ≡ number_in low high s
  number_value {m} told = go (held_natural digits) (held_is digits) (sym is ∙ told)
    where
      go : (held : Result ℕ NumberError) → HeldIs digits held → held ≡ Ok m → ranged low high (signed_number b (some m)) ≡ number_in low high s
      go (Ok k) (small e) told = let k≡m : k ≡ m = cc in whole (some m) (e ∙ ap some k≡m)
      go (Err error.Outside) (large e big) told = let z : ◌≡◌ {A = ℕ} 0 1 = cc in absurd (omega arith)
      go (Err error.Malformed) (broken e) told = let z : ◌≡◌ {A = ℕ} 0 1 = cc in absurd (omega arith)

  pub number_large : SFits w64 low → SFits w64 high → n ≡ Err error.Outside → Err error.Outside ≡ number_in low high s
  number_large fl fh told = go (held_natural digits) (held_is digits) (sym is ∙ told)
    where
      go : (held : Result ℕ NumberError) → HeldIs digits held → held ≡ Err error.Outside → Err error.Outside ≡ number_in low high s
      go (Ok k) (small e) told = let z : ◌≡◌ {A = ℕ} 0 1 = cc in absurd (omega arith)
      go (Err error.Outside) (large {value} e big) told = outside low high fl fh b value (omega (arith, big)) ∙ whole (some value) e
      go (Err error.Malformed) (broken e) told = let z : ◌≡◌ {A = ℕ} 0 1 = cc in absurd (omega arith)

  pub number_broken : n ≡ Err error.Malformed → Err error.Malformed ≡ number_in low high s
  number_broken told = go (held_natural digits) (held_is digits) (sym is ∙ told)
    where
      go : (held : Result ℕ NumberError) → HeldIs digits held → held ≡ Err error.Malformed → Err error.Malformed ≡ number_in low high s
      go (Ok k) (small e) told = let z : ◌≡◌ {A = ℕ} 0 1 = cc in absurd (omega arith)
      go (Err error.Outside) (large e big) told = let z : ◌≡◌ {A = ℕ} 0 1 = cc in absurd (omega arith)
      go (Err error.Malformed) (broken e) told = malformed low high b ∙ whole none e

  -- what the reader of digits refuses, the reader of numbers refuses with the same error
  pub number_refused : SFits w64 low → SFits w64 high → (e : NumberError) → n ≡ Err e → Err e ≡ number_in low high s
  number_refused fl fh error.Outside told = number_large fl fh told
  number_refused fl fh error.Malformed told = number_broken told
