-- A `voll` or `floor` line taken byte by byte is judged as the line of the whole input is.
use Prim.Native.Nat.{ℕ, suc, ◌+◌, ◌-◌, ◌≤◌}
use mathlib.Core.Path.{◌≡◌, refl}
use mathlib.Core.Bool.{Bool, true, false, cond}
use mathlib.Core.List.{List, [], ◌∷◌, ◌++◌, append-nil}
use native.Mathlib.Omega.{arith}
use borrow.Author.Tests.{eqb-true, leb-true, leb-false}
use lib.Dec.{eqb, leb}
use lib.IntN.{ℤ}
use lib.ListN.{length, take, drop, length-append}
use lib.Seq.{take_all, take_at, append_snoc, take-append-add, drop-append-add}
use Rattle.text_line.specs.Line.{line_length, OneLine}
use Rattle.text_line.proofs.LineBytes.{line_ended, one_line_more}
use Rattle.text_line.proofs.FieldTexts.{field_unended, field_alone, field_next}
use Rattle.text_line.specs.Field.{Field, LineAnswer, got, refused, field_at}
use Rattle.text_refusal.specs.declared.refusal.Fault.{Fault}
use Rattle.program_curves.specs.Program.{settle_refused}
use Rattle.program_curves.specs.Stream.{State, refused_settle, fed, fed_all, finished}
use Rattle.program_curves.proofs.Taking.{settle_refused_lem}

take_line : (line more : List ℕ) (byte n k : ℕ) → n ≡ length line + suc k → take n (line ++ (byte ∷ more)) ≡ line ++ (byte ∷ take k more)
take_line line more byte n k h = rw h (take-append-add line (byte ∷ more) (suc k))

-- a stage that waits for a line, with some bytes of it held
module _ (waiting : List ℕ → State) (field : Field ℤ) (line : ℕ) (taken : State → LineAnswer ℤ → State) where
  -- what is printed in the end, by the answer on the line
  abbrev pub after : List ℕ → LineAnswer ℤ → List ℕ
  after whole (refused found) = settle_refused found.number line
  after whole (got value next) = finished (fed_all (taken (waiting []) (got value next)) (drop next whole))

  abbrev pub next_state : List ℕ → ℕ → State
  next_state held byte =
      cond (leb 65536 (length held))
      (refused_settle (waiting []) 3 line)
      (cond (eqb byte 10) (taken (waiting held) (field_at field (held ++ (byte ∷ [])) 0)) (waiting (held ++ (byte ∷ []))))

  module _
      (fed_is : (held : List ℕ) (byte : ℕ) → fed (waiting held) byte ≡ next_state held byte)
      (ends : (held : List ℕ) → finished (waiting held) ≡ settle_refused 3 line)
      (refuses : (held : List ℕ) (found : Fault) → taken (waiting held) (refused found) ≡ refused_settle (waiting []) found.number line)
      (goes : (held : List ℕ) (value : ℤ) (next : ℕ) → taken (waiting held) (got value next) ≡ taken (waiting []) (got value next))
    where
      -- a refusal stays, and is what is printed
      stays : (number : ℕ) (rest : List ℕ) → finished (fed_all (refused_settle (waiting []) number line) rest) ≡ settle_refused number line
      unfolding finished
      stays number rest = rw settle_refused_lem

      at_end : (held rest : List ℕ) → OneLine held → (answer : LineAnswer ℤ) → field_at field (held ++ (10 ∷ [])) 0 ≡ answer →
          finished (fed_all (taken (waiting held) answer) rest) ≡ after (held ++ (10 ∷ rest)) answer
      at_end held rest one (got value next) is =
          let ended : line_length (held ++ (10 ∷ [])) ≡ length held = line_ended held [] one in
          let past : next ≡ 0 + line_length (held ++ (10 ∷ [])) + 1 = field_next field (held ++ (10 ∷ [])) 0 is in
          let ends : next ≡ length held + 1 = omega arith in
          rw (goes held value next, ends, drop-append-add held (10 ∷ rest) 1)
      at_end held rest one (refused found) is = rw (refuses held found) (stays found.number rest)

      pub line_taken : (held rest : List ℕ) → OneLine held → length held ≤ 65536 →
          finished (fed_all (waiting held) rest) ≡ after (held ++ rest) (field_at field (take 65536 (held ++ rest)) 0)
      unfolding fed_all
      line_taken held [] one small = rw (append-nil held, take_all 65536 held small, field_unended field held one) (ends held)
      line_taken held (byte ∷ rest) one small =
          rw fed_is (go (leb 65536 (length held)) refl (eqb byte 10) refl (line_taken (held ++ (byte ∷ [])) rest))
        where
          go :
              (full : Bool) → leb 65536 (length held) ≡ full → (end : Bool) → eqb byte 10 ≡ end →
              (OneLine (held ++ (byte ∷ [])) → length (held ++ (byte ∷ [])) ≤ 65536 →
              finished (fed_all (waiting (held ++ (byte ∷ []))) rest)
              ≡ after (held ++ (byte ∷ []) ++ rest) (field_at field (take 65536 (held ++ (byte ∷ []) ++ rest)) 0)) →
              finished (fed_all (next_state held byte) rest) ≡ after (held ++ (byte ∷ rest)) (field_at field (take 65536 (held ++ (byte ∷ rest))) 0)
          go true f end e others =
              let exact : length held ≡ 65536 = omega (arith, leb-true 65536 (length held) f) in
              rw (f, take_at held (byte ∷ rest) 65536 exact, field_unended field held one) (stays 3 rest)
          go false f true e others =
              rw (
                f,
                e,
                eqb-true byte 10 e,
                take_line held rest 10 65536 (65535 - length held) (omega (arith, leb-false 65536 (length held) f)),
                field_alone field held (take (65535 - length held) rest) one,
              )
              (at_end held rest one (field_at field (held ++ (10 ∷ [])) 0) refl)
          go false f false e others =
              rw (f, e)
              (rw append_snoc at
              (others (one_line_more held byte one e) (rw length-append (omega (arith, leb-false 65536 (length held) f)))))
