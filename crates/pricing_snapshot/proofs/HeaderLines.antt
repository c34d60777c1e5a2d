-- The header's lines as they are written: the first that is refused is the first number out of its range (7).
use Prim.Native.Nat.{ℕ, suc, ◌+◌, ◌≤◌}
use native.Mathlib.Omega.{arith}
use mathlib.Core.Bool.{Bool, true, false, ◌&&◌, cond}
use mathlib.Core.List.{List, [], ◌∷◌, ◌++◌, map}
use mathlib.Core.Path.{◌≡◌, refl, sym, ap, ◌∙◌}
use borrow.Author.Tests.{ne_eqb}
use lib.Dec.{eqb, lit<}
use lib.IntN.{ℤ, pos, neg_ℤ}
use lib.ListN.{length, replicate}
use lib.Signed.{le_z, le_z_yes, ◌≤ℤ◌}
use Rattle.std.specs.Prelude.{Ok}
use Rattle.integer.proofs.Order.{le_z-true, le-le_z, ≤ℤ_trans}
use Rattle.text_refusal.proofs.Choices.{and_left, and_right}
use Rattle.text_number.specs.Number.{written_number}
use Rattle.integer.specs.Range.{within}
use Rattle.text_refusal.specs.Answer.{Answer, refusal}
use Rattle.text_refusal.specs.Bytes.{bytes}
use Rattle.text_line.proofs.LineBytes.{one_line}
use Rattle.text_line.specs.Field.{Field}
use Rattle.text_number.specs.Field.{number_field}
use Rattle.text_schema.proofs.Fields.{Keys, keys_computed}
use Rattle.text_schema.specs.Checked.{checked_line, checked_lines, first_refused}
use Rattle.text_schema.proofs.Checked.{NumberLines, no_lines, one_more, number_checked, checked_none, checked_no_values, checked_first, first_none, first_passed, first_here, Wide, no_width, one_width, natural_wide, signed_wide}
use Rattle.pricing_sums.specs.Header.{HeaderLine, header_lines, header_values, fault_from, header_fault}
use Rattle.pricing_sums.specs.declared.header.Header.{Header}
use Rattle.pricing_sums.proofs.Headers.{header_fault_is, fault_none, fault_no_values, fault_first}
use Rattle.pricing_snapshot.specs.Snapshot.{header_fields}
use Rattle.pricing_snapshot.proofs.Snapshots.{header_schema}

pub header_lines_lem :
    NumberLines header_fields (pos 1 ∷ pos 0 ∷ neg_ℤ (pos 2000000) ∷ replicate 5 (pos 0)) (pos 12 ∷ pos 23 ∷ pos 2000000 ∷ pos 10000 ∷ replicate 3 (pos 200000000) ++ (pos 4096 ∷ []))
unfolding header_fields
header_lines_lem =
    one_more (one_line (bytes "month=") refl)
    (one_more (one_line (bytes "hour=") refl)
    (one_more (one_line (bytes "lambda=") refl)
    (one_more (one_line (bytes "factor=") refl)
    (one_more (one_line (bytes "prc=") refl)
    (one_more (one_line (bytes "eea1=") refl) (one_more (one_line (bytes "short=") refl) (one_more (one_line (bytes "count=") refl) no_lines)))))))

-- the refusal of a line, 0 being none
abbrev refused_at : ℕ → Answer
refused_at line = cond (eqb line 0) (Ok tt) (refusal 7 line)

abbrev field_of : HeaderLine → Field ℤ
field_of due = number_field due.key due.low due.high

faults_refused : (lines : List HeaderLine) (line : ℕ) (values : List ℤ) → 1 ≤ line → first_refused line (checked_lines (map field_of lines) values) ≡ refused_at (fault_from line lines values)
faults_refused [] line values h = rw (checked_none {A = ℤ} values, fault_none line values) (first_none line)
faults_refused (due ∷ lines) line [] h = rw (checked_no_values (map field_of (due ∷ lines)), fault_no_values line due lines) (first_none line)
faults_refused (due ∷ lines) line (z ∷ values) h =
    rw (checked_first (field_of due) (map field_of lines) z values, fault_first line due lines z values)
    (go (within due.low due.high z) (number_checked due.key due.low due.high z) (faults_refused lines (suc line) values (omega arith)))
  where
    go : (b : Bool) → (checked_line (field_of due) z).number ≡ cond b 0 7 → first_refused (suc line) (checked_lines (map field_of lines) values) ≡ refused_at (fault_from (suc line) lines values) →
        first_refused line (checked_line (field_of due) z ∷ checked_lines (map field_of lines) values) ≡ refused_at (cond b (fault_from (suc line) lines values) line)
    go true e again = first_passed line (checked_line (field_of due) z) (checked_lines (map field_of lines) values) e ∙ again
    go false e again =
        first_here line (checked_line (field_of due) z) (checked_lines (map field_of lines) values) (rw e) ∙ ap (λ (n : ℕ). refusal n line) e ∙ sym (rw (ne_eqb line 0 (λ z. omega arith)))

pub header_refused : (h : Header) → first_refused 1 (checked_lines header_fields (header_values h)) ≡ cond (eqb (header_fault h) 0) (Ok tt) (refusal 7 (header_fault h))
unfolding header_fields
header_refused h = rw (header_fault_is h) (faults_refused header_lines 1 (header_values h) (omega arith))

-- the keys as code hands them to a writer
pub header_keys : Keys header_schema (bytes "month=hour=lambda=factor=prc=eea1=short=count=")
unfolding header_schema header_fields
header_keys = record { are = refl; few = omega (arith, ap length (keys_computed (bytes "month=hour=lambda=factor=prc=eea1=short=count="))) }

-- no header is longer
month_wide : (z : ℤ) → (le_z (pos 1) z && le_z z (pos 12)) ≡ true → length (written_number z) ≤ 2
month_wide z e =
    let least : pos 0 ≤ℤ pos 1 = le_z_yes tt in
    let above : le_z (pos 0) z ≡ true = le-le_z {x = pos 0} {y = z} (≤ℤ_trans least (le_z-true (pos 1) z (and_left (le_z (pos 1) z) (le_z z (pos 12)) e))) in
    natural_wide 1 12 (lit< tt) z (rw (above, and_right (le_z (pos 1) z) (le_z z (pos 12)) e))

power : {key : List ℕ} {bytes : ℕ} {fields : List (Field ℤ)} → Wide fields bytes → Wide (number_field key (pos 0) (pos 200000000) ∷ fields) (length key + 9 + 1 + bytes)
power = one_width (pos 0) (pos 200000000) (natural_wide 8 200000000 (lit< tt))

pub header_wide : Wide header_fields 102
unfolding header_fields
header_wide =
    one_width (pos 1) (pos 12) month_wide
    (one_width (pos 0) (pos 23) (natural_wide 1 23 (lit< tt))
    (one_width (neg_ℤ (pos 2000000)) (pos 2000000) (signed_wide 6 2000000 (lit< tt))
    (one_width (pos 0) (pos 10000) (natural_wide 4 10000 (lit< tt)) (power (power (power (one_width (pos 0) (pos 4096) (natural_wide 3 4096 (lit< tt)) no_width)))))))
