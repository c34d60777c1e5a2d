-- Laws of lines: what a line begins with, and what a line is that ends at a position.
use Prim.Native.Nat.{ℕ, suc, ◌+◌, ◌-◌, ◌≤◌, ◌<◌}
use native.Mathlib.Omega.{arith}
use mathlib.Core.Bool.{Bool, true, false, not, ◌&&◌, ◌||◌, cond}
use mathlib.Core.List.{List, [], ◌∷◌}
use mathlib.Core.Path.{◌≡◌, refl, sym, ap, ◌∙◌}
use lib.ListN.{length, take, drop, length-drop}
use lib.Dec.{eqb, ltb}
use lib.Seq.{drop-drop}
use borrow.Author.Tests.{lt-ltb, le-ltb, ltb-true, ltb-false, eq-eqb, ne_eqb, eqb-true, eqb-false}
use Rattle.std.specs.List.{starts_with, list_any}
use Rattle.text_line.specs.Line.{line_length, begins, line_in, line_at, value_or_none, value_at}
use Rattle.text_line.specs.Piece.{part}
use Rattle.text_line.proofs.Parts.{part_whole}
use Rattle.text_line.specs.Judged.{good, bad}

pub line_within : (s : List ℕ) → line_length s ≤ length s
unfolding line_length
line_within [] = omega arith
line_within (byte ∷ s) = go (eqb byte 10) (line_within s)
  where
    go : (ended : Bool) → line_length s ≤ length s → cond ended 0 (suc (line_length s)) ≤ suc (length s)
    go true others = omega arith
    go false others = omega arith

-- a text's first line
abbrev first_line : List ℕ → List ℕ
first_line s = take (line_length s) s

and_none : (b : Bool) → (b && false) ≡ false
and_none true = refl
and_none false = refl

-- a text begins with a key whose bytes are its first ones, none of them a byte 10
pub begins_starts : (key s : List ℕ) → begins key (first_line s) ≡ (starts_with eqb s key && not (list_any (λ letter. eqb letter 10) key))
unfolding begins line_length
begins_starts [] s = refl
begins_starts (letter ∷ key) [] = refl
begins_starts (letter ∷ key) (byte ∷ s) = go (eqb letter byte) refl (eqb letter 10) refl (begins_starts key s)
  where
    go :
        (same : Bool) → eqb letter byte ≡ same → (ends : Bool) → eqb letter 10 ≡ ends → begins key (first_line s) ≡ (starts_with eqb s key && not (list_any (λ other. eqb other 10) key)) →
        begins (letter ∷ key) (take (cond (eqb byte 10) 0 (suc (line_length s))) (byte ∷ s)) ≡ ((same && starts_with eqb s key) && not (ends || list_any (λ other. eqb other 10) key))
    go true h true e others = rw (← eqb-true letter byte h, e) (sym (and_none (starts_with eqb s key)))
    go true h false e others = rw (← eqb-true letter byte h, e, eq-eqb letter letter refl) others
    go false h ends e others = other (eqb byte 10) refl
      where
        other : (ended : Bool) → eqb byte 10 ≡ ended → begins (letter ∷ key) (take (cond ended 0 (suc (line_length s))) (byte ∷ s)) ≡ false
        other true t = refl
        other false t = rw (ne_eqb byte letter (λ is. eqb-false letter byte h (sym is)))

-- a line that begins with a key goes on after it
pub line_after : (key s : List ℕ) → begins key (first_line s) ≡ true → line_length s ≡ length key + line_length (drop (length key) s)
unfolding begins line_length
line_after [] s b = omega arith
line_after (letter ∷ key) [] b = cc
line_after (letter ∷ key) (byte ∷ s) b = go (eqb byte 10) b (line_after key s)
  where
    same : (t : Bool) {others : Bool} → cond t others false ≡ true → others ≡ true
    same true e = e
    same false e = cc

    go :
        (ended : Bool) → begins (letter ∷ key) (take (cond ended 0 (suc (line_length s))) (byte ∷ s)) ≡ true →
        (begins key (first_line s) ≡ true → line_length s ≡ length key + line_length (drop (length key) s)) →
        cond ended 0 (suc (line_length s)) ≡ suc (length key) + line_length (drop (length key) s)
    go true b others = cc
    go false b others = omega (arith, others (same (eqb byte letter) b))

-- what a line is that starts at a position and is found to end at another one
module _ (key s : List ℕ) (at end : ℕ) (ends : end ≡ at + line_length (drop at s)) where
  ended : end < length s → line_length (drop at s) < length (drop at s)
  ended h = omega (arith, length-drop at s)

  pub unended_line : length s ≤ end → line_at key s at ≡ bad 3
  unfolding line_in
  unended_line h = rw (le-ltb (line_length (drop at s)) (length (drop at s)) (omega (arith, length-drop at s)))

  pub other_line : end < length s → begins key (first_line (drop at s)) ≡ false → line_at key s at ≡ bad 4
  unfolding line_in
  other_line h b = rw (lt-ltb (line_length (drop at s)) (length (drop at s)) (ended h), b)

  pub empty_line : end < length s → begins key (first_line (drop at s)) ≡ true → at + length key ≡ end → line_at key s at ≡ bad 5
  unfolding line_in
  empty_line h b n =
      rw
      (lt-ltb (line_length (drop at s)) (length (drop at s)) (ended h), b, eq-eqb (length key) (line_length (drop at s)) (omega arith))

  pub value_line :
      end < length s → begins key (first_line (drop at s)) ≡ true → (at + length key ≡ end → ⊥) → line_at key s at ≡ good (part s (at + length key) end)
  unfolding line_in
  value_line h b n =
      let size : end - (at + length key) ≡ line_length (drop at s) - length key = omega arith in
      rw (
        lt-ltb (line_length (drop at s)) (length (drop at s)) (ended h),
        b,
        ne_eqb (length key) (line_length (drop at s)) (λ q. n (omega arith)),
        size,
        drop-drop (length key) at s,
      )

  -- the bytes of the value
  pub value_none : length s ≤ end → [] ≡ value_at key s at
  value_none h = sym (ap value_or_none (unended_line h))

  pub value-bytes : end < length s → begins key (first_line (drop at s)) ≡ true → part s (at + length key) end ≡ value_at key s at
  value-bytes h b = go (eqb (at + length key) end) refl
    where
      go : (t : Bool) → eqb (at + length key) end ≡ t → part s (at + length key) end ≡ value_at key s at
      go true t =
          let n = eqb-true (at + length key) end t in
          let none : end - (at + length key) ≡ 0 = omega arith in
          rw none (sym (ap value_or_none (empty_line h b n)))
      go false t = sym (ap value_or_none (value_line h b (eqb-false (at + length key) end t)))

-- no value where the line does not begin with the key, ended or not
pub value_other : (key s : List ℕ) (at : ℕ) → begins key (first_line (drop at s)) ≡ false → [] ≡ value_at key s at
value_other key s at b = go (ltb end (length s)) refl
  where
    end : ℕ
    end = at + line_length (drop at s)

    go : (t : Bool) → ltb end (length s) ≡ t → [] ≡ value_at key s at
    go true t = sym (ap value_or_none (other_line key s at end refl (ltb-true end (length s) t) b))
    go false t = value_none key s at end refl (ltb-false end (length s) t)

-- a key looked for in the rest of the text, and where the line ends that begins with it
module _ (key s : List ℕ) (at : ℕ) where
  pub key_in_rest : {b t : Bool} → b ≡ begins key (first_line (part s at (length s))) → b ≡ t → begins key (first_line (drop at s)) ≡ t
  key_in_rest looked told = rw (part_whole s at) at (sym looked ∙ told)

  module _ (b : begins key (first_line (drop at s)) ≡ true) where
    pub ends_after : (end : ℕ) → end ≡ at + length key + line_length (drop (at + length key) s) → end ≡ at + line_length (drop at s)
    ends_after end e = omega (arith, (rw (drop-drop (length key) at s) at (line_after key (drop at s) b)))

    pub key_within : at ≤ length s → at + length key ≤ length s
    key_within h = omega (arith, line_after key (drop at s) b, length-drop at s, line_within (drop at s))
