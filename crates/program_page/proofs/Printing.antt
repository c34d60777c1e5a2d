-- What is printed, by how reading the curves and writing the page ended.
use Prim.Native.Nat.{ℕ}
use native.Mathlib.Omega.{arith}
use mathlib.Core.Bool.{Bool, true, false}
use mathlib.Core.List.{List}
use mathlib.Core.Path.{◌≡◌, refl, ◌∙◌}
use borrow.Author.Tests.{leb-true, leb-false}
use lib.Dec.{leb}
use lib.ListN.{length}
use Rattle.std.specs.Prelude.{Ok, Err, Some, None}
use Rattle.text_refusal.specs.Bytes.{bytes}
use Rattle.text_refusal.specs.declared.refusal.Refusal.{Refusal}
use Rattle.text_writer.specs.Output.{refusal_lines}
use Rattle.text_writer.specs.Write.{TextWritten}
use Rattle.text_writer.proofs.Writing.{text_short, text_stands}
use Rattle.curve_set.specs.Curves.{curves_in_range}
use Rattle.curve_set.specs.declared.CurveSet.{CurveSet}
use Rattle.curve_text.specs.CurveText.{read_curves}
use Rattle.curve_page.specs.Page.{page_of, PageWritten}
use Rattle.curve_page.proofs.PageCases.{short_refused, short_stays, page_written, page_laid}
use Rattle.curve.proofs.Pages.{page_has_its_rows}
use Rattle.program_page.specs.Program.{page_output}

-- ---- the page of a set in range, in a buffer that has room for it or not

module _ (curves : CurveSet) (buffer after : List ℕ) (all : length curves.pairs ≡ 24) (inside : curves_in_range curves ≡ true) where
  long : length (page_of curves) ≡ 1728
  long = (page_has_its_rows curves all).0

  pub page_stands : PageWritten curves buffer after (Ok tt) → TextWritten (page_of curves) buffer 0 after (Some 1728)
  page_stands is = go (leb 1728 (length buffer)) refl
    where
      go : (room : Bool) → leb 1728 (length buffer) ≡ room → TextWritten (page_of curves) buffer 0 after (Some 1728)
      go true e =
          let room = leb-true 1728 (length buffer) e in
          text_stands (record { ends = omega (arith, long); bytes = is.bytes ∙ page_laid curves buffer inside room }) (omega (arith, long))
      go false e =
          let refused = is.ends ∙ short_refused curves buffer inside (leb-false 1728 (length buffer) e) in
          let z : ◌≡◌ {A = ℕ} 0 1 = cc in absurd (omega arith)

  pub page_short : {found : Refusal} → PageWritten curves buffer after (Err found) → TextWritten (page_of curves) buffer 0 after None
  page_short {found} is = go (leb 1728 (length buffer)) refl
    where
      go : (room : Bool) → leb 1728 (length buffer) ≡ room → TextWritten (page_of curves) buffer 0 after None
      go true e =
          let accepted = is.ends ∙ page_written curves buffer inside (leb-true 1728 (length buffer) e) in
          let z : ◌≡◌ {A = ℕ} 0 1 = cc in absurd (omega arith)
      go false e =
          let short = leb-false 1728 (length buffer) e in
          rw (is.bytes, short_stays curves buffer inside short) (text_short (page_of curves) buffer 0 (omega (arith, long)))

-- ---- what is printed

pub curves_refused : (input : List ℕ) {found : Refusal} → read_curves input ≡ Err found → refusal_lines found (bytes "curves") ≡ page_output input
unfolding page_output
curves_refused input e = rw e

pub curves_printed : (input : List ℕ) {curves : CurveSet} → read_curves input ≡ Ok curves → page_of curves ≡ page_output input
unfolding page_output
curves_printed input e = rw e
