-- Laws on the first refused line of a snapshot held as values: the header's lines come first, then those of the rows from line 9 on, then the first that a mark
-- turns back.
use Prim.Native.Nat.{ℕ, ◌+◌, ◌≤◌}
use native.Mathlib.Omega.{arith}
use mathlib.Core.Bool.{Bool, true, false, cond}
use mathlib.Core.List.{List, [], ◌++◌, map}
use mathlib.Core.Path.{◌≡◌, refl, sym, ap, ◌∙◌}
use borrow.Author.Tests.{eq-eqb, ne_eqb, eqb-true}
use lib.Dec.{eqb}
use lib.IntN.{ℤ}
use lib.ListN.{length}
use Rattle.std.specs.Prelude.{Ok, Err}
use Rattle.std.specs.Simd.{first_chunks}
use Rattle.text_refusal.specs.Answer.{Answer, refusal, followed_by}
use Rattle.text_refusal.specs.declared.refusal.Refusal.{Refusal}
use Rattle.text_schema.specs.Checked.{text_of, first_refused}
use Rattle.text_schema.proofs.Checked.{lines_long, checked_length, text_append, first_append}
use Rattle.pricing_sums.specs.Header.{header_values, header_fault}
use Rattle.pricing_sums.specs.declared.header.Header.{Header}
use Rattle.pricing_sums.proofs.Headers.{header_bound}
use Rattle.pricing_resource.specs.Suspect.{suspect_line}
use Rattle.pricing_snapshot.specs.Snapshot.{header_fields, resources_of}
use Rattle.pricing_snapshot.proofs.HeaderLines.{header_lines_lem, header_refused}
use Rattle.pricing_held.specs.Rows.{Row, held_count, header_held, held_rows, entry_of, contents_held}
use Rattle.pricing_held.specs.Lines.{header_checked, rows_lines, held_lines, suspect_answer, held_answer, held_text}
use Rattle.pricing_held.specs.internal.Checks.{resource_in, rows_in}
use Rattle.pricing_held.proofs.Chunks.{rows_held}
use Rattle.pricing_held.proofs.Suspects.{rows_resources}

module _ (header : List ℤ) (ids : List ℕ) (numbers : List ℤ) where
  abbrev the_header : Header
  the_header = header_held header (held_count ids numbers)

  -- the first refused line: of the header, then of the rows
  pub lines_answer :
      first_refused 1 (held_lines header ids numbers) ≡
      followed_by (cond (eqb (header_fault the_header) 0) (Ok tt) (refusal 7 (header_fault the_header))) (first_refused 9 (rows_lines [] (held_rows ids numbers)))
  unfolding held_lines
  lines_answer =
      let eight : 1 + length (header_checked the_header) ≡ 9 = omega (arith, checked_length header_fields (header_values the_header) (omega (arith, lines_long header_lines_lem)), lines_long header_lines_lem) in
      first_append 1 (header_checked the_header) (rows_lines [] (held_rows ids numbers)) ∙ rw (eight, header_refused the_header)

  -- the first line that a mark turns back
  abbrev suspect : ℕ
  suspect = suspect_line (resources_of (contents_held header ids numbers).entries)

  -- by the rows of numbers
  pub suspect_held : (rows : List (List ℤ)) → rows_in ids 0 rows ≡ held_rows ids numbers → suspect_line (map resource_in rows) ≡ suspect
  unfolding contents_held
  suspect_held rows e = ap suspect_line (sym (rows_resources ids 0 rows)) ∙ ap (λ (held : List Row). suspect_line (resources_of (map entry_of held))) e

  held_answer_lem : held_answer header ids numbers ≡ followed_by (first_refused 1 (held_lines header ids numbers)) (suspect_answer suspect)
  unfolding held_answer
  held_answer_lem = refl

  -- the line that the header's numbers give, as the code has it
  module _ {count line : ℕ} {h : Header} (counted : count ≡ held_count ids numbers) (made : h ≡ header_held header count) (said : line ≡ header_fault h) where
    fault : line ≡ header_fault the_header
    fault = said ∙ ap header_fault (made ∙ ap (header_held header) counted)

    pub header_decides : (line ≡ 0 → ⊥) → refusal 7 line ≡ held_answer header ids numbers
    header_decides some = sym (held_answer_lem ∙ rw (lines_answer, ← fault, ne_eqb line 0 some))

    module _ (none : line ≡ 0) where
      pub few_rows : count ≤ 4096
      few_rows = omega (arith, (header_bound the_header (sym fault ∙ none)).count)

      -- the rows, as they are cut from the numbers
      module _ {rows : List (List ℤ)} (cut : rows ≡ first_chunks 9 (held_count ids numbers) numbers) {found : Answer} (says : found ≡ first_refused 9 (rows_lines [] (rows_in ids 0 rows))) where
        rows_answer : first_refused 1 (held_lines header ids numbers) ≡ found
        rows_answer = lines_answer ∙ rw (← fault, none, ← rows_held ids numbers cut, ← says)

        pub rows_decide : {told : Refusal} → found ≡ Err told → found ≡ held_answer header ids numbers
        rows_decide refused = sym (held_answer_lem ∙ rw (rows_answer, refused) refl)

        module _ (accepted : found ≡ Ok tt) {mark : ℕ} (mark_is : mark ≡ suspect_line (map resource_in rows)) where
          suspect_is : mark ≡ suspect
          suspect_is = mark_is ∙ suspect_held rows (rows_held ids numbers cut)

          pub mark_decides : (mark ≡ 0 → ⊥) → refusal 15 mark ≡ held_answer header ids numbers
          mark_decides some = sym (held_answer_lem ∙ rw (rows_answer, accepted, ← suspect_is, ne_eqb mark 0 some))

          pub none_decides : mark ≡ 0 → Ok tt ≡ held_answer header ids numbers
          none_decides fine = sym (held_answer_lem ∙ rw (rows_answer, accepted, ← suspect_is, eq-eqb mark 0 fine))

  -- a snapshot that is accepted: no line is refused, and none is turned back by a mark
  pub record HeldAccepted : Type 0 where
    pub lines_accepted : first_refused 1 (held_lines header ids numbers) ≡ Ok tt
    pub none_suspect : suspect ≡ 0

  pub held_accepted : held_answer header ids numbers ≡ Ok tt → HeldAccepted
  held_accepted e = go (first_refused 1 (held_lines header ids numbers)) refl (sym held_answer_lem ∙ e)
    where
      fine : (b : Bool) → eqb suspect 0 ≡ b → cond b (Ok tt) (refusal 15 suspect) ≡ Ok tt → suspect ≡ 0
      fine true p e = eqb-true suspect 0 p
      fine false p e = let z : ◌≡◌ {A = ℕ} 0 1 = cc in absurd (omega arith)

      go : (found : Answer) → first_refused 1 (held_lines header ids numbers) ≡ found → followed_by found (suspect_answer suspect) ≡ Ok tt → HeldAccepted
      go (Ok tt) p e = record { lines_accepted = p; none_suspect = fine (eqb suspect 0) refl e }
      go (Err found) p e = let z : ◌≡◌ {A = ℕ} 0 1 = cc in absurd (omega arith)

  -- and back
  pub accepted_held : HeldAccepted → held_answer header ids numbers ≡ Ok tt
  accepted_held all = held_answer_lem ∙ rw (all.lines_accepted, eq-eqb suspect 0 all.none_suspect)

  -- the line of the count is refused above 4096
  pub held_few : held_answer header ids numbers ≡ Ok tt → held_count ids numbers ≤ 4096
  held_few accepted = go (eqb (header_fault the_header) 0) refl (sym lines_answer ∙ (held_accepted accepted).lines_accepted)
    where
      go : (b : Bool) → eqb (header_fault the_header) 0 ≡ b →
          followed_by (cond b (Ok tt) (refusal 7 (header_fault the_header))) (first_refused 9 (rows_lines [] (held_rows ids numbers))) ≡ Ok tt → held_count ids numbers ≤ 4096
      go true p e = (header_bound the_header (eqb-true (header_fault the_header) 0 p)).count
      go false p e = let z : ◌≡◌ {A = ℕ} 0 1 = cc in absurd (omega arith)

  -- the text of the header's lines, then that of the rows
  pub held_text_lem : held_text header ids numbers ≡ text_of (header_checked the_header) ++ text_of (rows_lines [] (held_rows ids numbers))
  unfolding held_text held_lines
  held_text_lem = text_append (header_checked the_header) (rows_lines [] (held_rows ids numbers))
