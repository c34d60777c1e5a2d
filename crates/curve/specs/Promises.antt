-- What is promised of curves. Demand 1: each operation is refused by the first number in checking order, and by nothing else. Demand 2: one text for each
-- curve set; read and settled sets are in range, and booked records are possible. For demand 3: lowered errors lower means, and probabilities never rise. And what
-- document 02 says of the page (W-201) and of a curve text's length (W-205).
use Rattle.std.specs.Prelude.{ℕ, ◌*◌, ◌≤◌, ◌<◌, ◌≡◌, true, List, ℤ, pos, neg_ℤ, ◌-ℤ◌, length, take, drop, ◌≤ℤ◌, Ok, Err}
use Rattle.text_number.specs.Number.{written_number}
use Rattle.text_writer.specs.Row.{padded_right}
use Rattle.curve_group.specs.Season.{season_of, block_of, group_of, group_season}
use Rattle.curve_set.specs.Curves.{curves_in_range, even_curves}
use Rattle.curve_set.specs.declared.Pair.{Pair}
use Rattle.curve_set.specs.declared.CurveSet.{CurveSet}
use Rattle.curve_text.specs.CurveText.{read_curves, curve_text, writing_curves, written_buffer, writing_answer, written_length}
use Rattle.curve_text.specs.Length.{curves_length}
use Rattle.curve_hour.specs.Hour.{hour_in, error_answer}
use Rattle.curve_record.specs.Record.{fresh, group_at}
use Rattle.curve_record.specs.Possible.{mean_of, record_possible}
use Rattle.curve_record.specs.declared.Record.{Record}
use Rattle.curve_booking.specs.Booking.{booked}
use Rattle.curve_settling.specs.Settle.{spread_of, settled}
use Rattle.curve_probability.specs.Probability.{online_probability, offline_probability}
use Rattle.curve_page.specs.Page.{season_name, season_cell, block_cell, probability_above, page_row, pair_of_group, page_of, writing_page, page_buffer}
use Rattle.curve.specs.FirstRefusal.{Decides, HourCase, BookingCase, SettlingCase, ReadingCurvesCase, WritingCurvesCase, CurvesLengthCase, WritingPageCase}
use Rattle.curve.specs.Lists.{booked_all, ListsLowered}

-- ---- demand 1: the number first in checking order with its line, what stands as before, and nothing else refused (the lists of specs/FirstRefusal.antt)

-- an hour's text, as the hour reader answers it
abbrev pub ReadingHoursIsRefusedFirst : Type 0
ReadingHoursIsRefusedFirst = (text : List ℕ) → Decides (HourCase text) (error_answer (hour_in text))

-- an hour booked on a record
abbrev pub BookingIsRefusedFirst : Type 0
BookingIsRefusedFirst = (history : Record) (text : List ℕ) → Decides (BookingCase history text) (booked history text)

-- a record settled, given VOLL and X
abbrev pub SettlingIsRefusedFirst : Type 0
SettlingIsRefusedFirst = (history : Record) (voll floor : ℤ) → Decides (SettlingCase history voll floor) (settled history voll floor)

-- a curve text read
abbrev pub ReadingCurvesIsRefusedFirst : Type 0
ReadingCurvesIsRefusedFirst = (text : List ℕ) → Decides (ReadingCurvesCase text) (read_curves text)

-- a curve set written into a lent buffer
abbrev pub WritingCurvesIsRefusedFirst : Type 0
WritingCurvesIsRefusedFirst =
    (curves : CurveSet) (buffer : List ℕ) →
    let written = writing_curves curves buffer in
    Decides (WritingCurvesCase curves buffer)
    (record { answer = writing_answer written; length = written_length written; buffer = written_buffer curves buffer })

-- the length of a curve set's text before it is written
abbrev pub CurvesLengthIsRefusedFirst : Type 0
CurvesLengthIsRefusedFirst = (curves : CurveSet) → Decides (CurvesLengthCase curves) (curves_length curves)

-- a curve set's page written into a lent buffer
abbrev pub WritingPagesIsRefusedFirst : Type 0
WritingPagesIsRefusedFirst =
    (curves : CurveSet) (buffer : List ℕ) →
    Decides (WritingPageCase curves buffer) (record { answer = writing_page curves buffer; buffer = page_buffer curves buffer })

-- ---- demand 2: every curve set in range has exactly one text

-- write then read gives it back
abbrev pub CurveTextIsReadBack : Type 0
CurveTextIsReadBack =
    (curves : CurveSet) → length curves.pairs ≡ 24 → curves_in_range curves ≡ true →
    read_curves (curve_text curves) ≡ Ok curves

-- read then write gives the same bytes
abbrev pub CurveTextIsWrittenBack : Type 0
CurveTextIsWrittenBack = (text : List ℕ) (curves : CurveSet) → read_curves text ≡ Ok curves → curve_text curves ≡ text

-- a curve set that was read is in range
abbrev pub ReadCurvesAreInRange : Type 0
ReadCurvesAreInRange = (text : List ℕ) (curves : CurveSet) → read_curves text ≡ Ok curves → curves_in_range curves ≡ true

-- ---- the length of a curve text, told before it is written

-- the text has exactly as many bytes as were told
pub record WrittenAsTold (curves : CurveSet) (told : ℕ) (buffer : List ℕ) : Type 0 where
  pub exact : length (curve_text curves) ≡ told
  -- a buffer of just that length is accepted, and so is a longer one: the text is its first bytes, and bytes after it stay
  pub accepted :
      told ≤ length buffer →
      (writing_curves curves buffer ≡ Ok told)
      × (take told (written_buffer curves buffer) ≡ curve_text curves)
      × (drop told (written_buffer curves buffer) ≡ drop told buffer)
  -- one byte less, or fewer, is refused by 14 and stands
  pub refused :
      length buffer < told → (writing_curves curves buffer ≡ Err (record { number = 14; line = 0 })) × (written_buffer curves buffer ≡ buffer)

abbrev pub CurveTextHasTheToldLength : Type 0
CurveTextHasTheToldLength = (curves : CurveSet) (told : ℕ) → curves_length curves ≡ Ok told → (buffer : List ℕ) → WrittenAsTold curves told buffer

-- a curve set whose text is shortest: each number has one digit
abbrev pub shortest_curves : CurveSet
shortest_curves = even_curves (pos 0) (pos 0) (pos 0) (pos 1)

-- one whose text is longest: each number has as many digits as its range allows, and each mean a sign
abbrev pub longest_curves : CurveSet
longest_curves = even_curves (pos 2000000) (pos 20000000) (neg_ℤ (pos 20000000)) (pos 20000000)

-- over all sets in range the least length is 327 and the greatest 700, and both are reached
abbrev pub CurveTextLengthsAreBounded : Type 0
CurveTextLengthsAreBounded =
    ((curves : CurveSet) → length curves.pairs ≡ 24 → curves_in_range curves ≡ true → (327 ≤ length (curve_text curves)) × (length (curve_text curves) ≤ 700))
    × (curves_length shortest_curves ≡ Ok 327)
    × (curves_length longest_curves ≡ Ok 700)

-- ---- settling

-- a settled curve set is in range
abbrev pub SettledCurvesAreInRange : Type 0
SettledCurvesAreInRange =
    (history : Record) (voll floor : ℤ) (curves : CurveSet) → settled history voll floor ≡ Ok curves → curves_in_range curves ≡ true

-- ---- lists of bookings

-- a record made by any bookings from the fresh one is never impossible (1)
abbrev pub BookedRecordsArePossible : Type 0
BookedRecordsArePossible = (texts : List (List ℕ)) → record_possible (booked_all fresh texts) ≡ true

-- each mean falls by d and each spread is equal
abbrev pub LoweredErrorsLowerMeans : Type 0
LoweredErrorsLowerMeans =
    (d : ℕ) (texts texts' : List (List ℕ)) → ListsLowered d fresh fresh texts texts' → (g : ℕ) →
    let first = group_at (booked_all fresh texts) g in
    let second = group_at (booked_all fresh texts') g in
    (first.count ≡ second.count) × (0 < first.count → (mean_of second ≡ mean_of first -ℤ pos d) × (spread_of second ≡ spread_of first))

-- ---- both probabilities never rise with the reserve, nor when the mean falls

abbrev pub NeverRises : (ℤ → ℤ → ℤ → ℕ → ℕ) → Type 0
NeverRises probability =
    (reserve reserve' floor mean mean' : ℤ) (spread : ℕ) → reserve ≤ℤ reserve' → mean' ≤ℤ mean →
    probability reserve' floor mean' spread ≤ probability reserve floor mean spread

abbrev pub ProbabilitiesNeverRise : Type 0
ProbabilitiesNeverRise = NeverRises online_probability × NeverRises offline_probability

-- ---- the page of a curve set

-- a page has 24 rows of 72 bytes, the row of group g at 72 × g, whatever the numbers are: a cell is never wider than its column
abbrev pub PageHasItsRows : Type 0
PageHasItsRows =
    (curves : CurveSet) → length curves.pairs ≡ 24 →
    (length (page_of curves) ≡ 1728)
    × ((g : ℕ) → g < 24 →
    let row = page_row curves.floor g (pair_of_group curves g) in
    (take 72 (drop (72 * g) (page_of curves)) ≡ row) × (length row ≡ 72))

-- bytes after the page stay, whether it was written or not
abbrev pub BytesAfterThePageStay : Type 0
BytesAfterThePageStay = (curves : CurveSet) (buffer : List ℕ) → length curves.pairs ≡ 24 → drop 1728 (page_buffer curves buffer) ≡ drop 1728 buffer

-- every cell fits its width for every set in range, so no number is ever cut
abbrev pub PageCellsFit : Type 0
PageCellsFit =
    (curves : CurveSet) → length curves.pairs ≡ 24 → curves_in_range curves ≡ true → (g : ℕ) → g < 24 →
    let pair = pair_of_group curves g in
    (length (season_name (group_season g)) ≤ 6)
    × (length (block_cell g) ≡ 1)
    × (length (written_number pair.mean) ≤ 9)
    × (length (written_number pair.spread) ≤ 8)
    × ((above : ℕ) → length (written_number (pos (probability_above curves.floor pair above))) ≤ 10)

-- the row of a month's and an hour's group bears the season's name and the block's digit
abbrev pub PageRowsBearSeasonAndBlock : Type 0
PageRowsBearSeasonAndBlock =
    (month hour : ℕ) → hour ≤ 23 →
    (season_cell (group_of month hour) ≡ padded_right 6 (season_name (season_of month)))
    × (block_cell (group_of month hour) ≡ written_number (pos (block_of hour)))

-- along a row the four probabilities never rise
abbrev pub PageProbabilitiesNeverRise : Type 0
PageProbabilitiesNeverRise =
    (floor : ℤ) (pair : Pair) →
    let probability = probability_above floor pair in
    (probability 2000000 ≤ probability 1000000) × (probability 3000000 ≤ probability 2000000) × (probability 4000000 ≤ probability 3000000)

-- two sets with equal pairs have equal pages, whatever VOLL and X are
abbrev pub PagesRestOnPairs : Type 0
PagesRestOnPairs = (curves other : CurveSet) → curves.pairs ≡ other.pairs → page_of curves ≡ page_of other
