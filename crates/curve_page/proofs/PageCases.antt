-- What writing a page gives, case by case.
use Prim.Native.Nat.{◌≤◌, ◌<◌, ℕ}
use mathlib.Core.Bool.{true, false}
use mathlib.Core.List.{List}
use mathlib.Core.Path.{◌≡◌}
use lib.ListN.{length}
use borrow.Author.Tests.{le-leb, lt-leb}
use Rattle.text_refusal.specs.Answer.{refusal}
use Rattle.std.specs.Prelude.{Ok}
use Rattle.text_writer.specs.Write.{laid_at}
use Rattle.curve_set.specs.Curves.{curves_in_range}
use Rattle.curve_set.specs.declared.CurveSet.{CurveSet}
use Rattle.curve_page.specs.Page.{page_of, page_length, writing_page, page_buffer}

module _ (curves : CurveSet) (buffer : List ℕ) where
  module _ (out : curves_in_range curves ≡ false) where
    pub impossible_refused : writing_page curves buffer ≡ refusal 1 0
    unfolding writing_page
    impossible_refused = rw out

    pub impossible_stays : page_buffer curves buffer ≡ buffer
    unfolding page_buffer
    impossible_stays = rw out

  module _ (inside : curves_in_range curves ≡ true) where
    module _ (short : length buffer < page_length) where
      pub short_refused : writing_page curves buffer ≡ refusal 14 0
      unfolding writing_page
      short_refused = rw (inside, lt-leb page_length (length buffer) short)

      pub short_stays : page_buffer curves buffer ≡ buffer
      unfolding page_buffer
      short_stays = rw (inside, lt-leb page_length (length buffer) short)

    module _ (room : page_length ≤ length buffer) where
      pub page_written : writing_page curves buffer ≡ Ok tt
      unfolding writing_page
      page_written = rw (inside, le-leb page_length (length buffer) room)

      pub page_laid : page_buffer curves buffer ≡ laid_at buffer 0 (page_of curves)
      unfolding page_buffer
      page_laid = rw (inside, le-leb page_length (length buffer) room)
