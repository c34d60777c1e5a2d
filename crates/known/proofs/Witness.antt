-- The hypotheses of demand 3 can be met, and a price then really falls: two computed lists of forty-eight bookings, two hours in each group, and document 01's
-- snapshot, once as it stands and once with reserve raised.
use Prim.Native.Nat.{ℕ, zero, suc, ◌+◌, ◌*◌, ◌/◌, ◌%◌, ◌<◌}
use mathlib.Core.Path.{◌≡◌, refl, ap, ◌∙◌}
use mathlib.Core.List.{List, [], ◌∷◌, ◌++◌, map}
use lib.Dec.{lit<, lit≤}
use lib.Signed.{◌≤ℤ◌, ≤ℤ_refl}
use lib.ListN.{replicate}
use lib.IntN.{ℤ, pos, negsuc, ◌-ℤ◌}
use Rattle.std.specs.Prelude.{Result, Ok}
use Rattle.text_refusal.specs.Answer.{Answer, answer_of}
use Rattle.text_refusal.specs.declared.refusal.Refusal.{Refusal}
use Rattle.integer.specs.Floor.{floor_div}
use Rattle.integer.specs.Order.{min_ℤ, max_ℤ}
use Rattle.integer.proofs.Order.{pos-≤ℤ}
use Rattle.normal.specs.Knot.{knot}
use Rattle.normal.specs.Normal.{normal, upper, interpolated}
use Rattle.integer.specs.Quadratic.{quadratic}
use Rattle.root.specs.Root.{root_of, root_in, raised}
use mathlib.Core.Bool.{cond}
use Rattle.text_refusal.specs.Bytes.{bytes}
use Rattle.text_line.specs.Line.{line_in, line_length, begins}
use Rattle.text_number.specs.Number.{number_of, all_digits, value_of, written_number, digits_within}
use Rattle.text_line.specs.Field.{field_at}
use Rattle.text_schema.specs.Schema.{write_fields, read_fields}
use Rattle.text_word.specs.Word.{word_among, same_bytes}
use Rattle.text_id.specs.Id.{is_id, all_id_bytes}
use Rattle.text_id_table.specs.Ids.{stands_in}
use Rattle.curve_group.specs.Season.{season_of, block_of, group_of}
use Rattle.text_schema.specs.Schema.{repeated}
use Rattle.curve_hour.specs.Hour.{HourAnswer, hour_of, read, hour_fields, run_fields, runs_of, hour_in, hour_ahead, sced_reserve, sced_sum, error_of}
use Rattle.curve_record.specs.Record.{fresh, group_at, with_group, groups_from}
use Rattle.curve_record.specs.Possible.{record_possible, all_possible, possible, mean_of, squares_around}
use Rattle.curve_booking.specs.Booking.{kept, record_after, book_error, book_hour, with_error, booked}
use Rattle.curve_settling.specs.Settle.{spread_of, pair_of, settled_groups, settled}
use Rattle.curve.specs.Lists.{booked_all, HourLowered, hour_lowered, both_accepted, ListsLowered}
use Rattle.curve_record.specs.declared.Record.{Record}
use Rattle.curve_set.specs.declared.CurveSet.{CurveSet}
use Rattle.curve_set.specs.Curves.{curves_in_range, pairs_in_range}
use Rattle.curve_probability.specs.Probability.{online_probability, offline_probability}
use Rattle.pricing_sums.specs.Sums.{plus}
use Rattle.pricing_snapshot.specs.Snapshot.{header_fields, Entry, resources_at, due_lines, snapshot_in}
use Rattle.pricing_adder.specs.Reserve.{twice_loads, twice_online, twice_all, discounted, online_reserve, total_reserve}
use Rattle.pricing_adder.specs.Price.{value_of_reserve, rounded, shortage_online, shortage_offline, prices_of}
use Rattle.pricing_adder.specs.declared.price.Prices.{Prices}
use Rattle.pricing_resource.specs.Online.{counted_online}
use Rattle.pricing_resource.specs.Offline.{counted_offline}
use Rattle.pricing_resource.specs.Suspect.{marks_turn_back, unmarked_before, suspect_place, suspect_from}
use Rattle.text_number.specs.Marked.{marked_in, marks_of}
use Rattle.pricing_sums.specs.Part.{part_of, sums_of}
use Rattle.pricing.specs.Promises.{ResourceRaised, generator_raised, one_raised, none_raised, SnapshotRaised, snapshot_raised}
use Rattle.pricing_sums.specs.declared.header.Header.{Header}
use Rattle.pricing_resource_text.specs.Resource.{generator_fields, controllable_fields, load_fields, resource_at}
use Rattle.pricing.specs.Pricing.{priced}
use Rattle.pricing_snapshot.specs.Snapshot as snapshot-in
use Rattle.known.specs.Pricing.{listing}
use Rattle.pricing_resource.specs.declared.Kind.{Kind}
use Rattle.pricing_resource.specs.declared.Kind.TheVariants as kind
use Rattle.pricing_resource.specs.declared.Status.{Status}
use Rattle.pricing_resource.specs.declared.Status.TheVariants as status
use Rattle.pricing_resource.specs.declared.Resource.TheVariants as resource

-- ---- the hours: HA is all of the error

pub record Plan : Type 0 where
  pub month : ℕ
  pub hour : ℕ
  pub ongen : ℕ
  pub load : ℕ

-- the values of an hour whose load is greater by d
abbrev pub hour_values : ℕ → Plan → List ℤ
hour_values d p = pos p.month ∷ pos p.hour ∷ pos p.ongen ∷ pos (p.load + d) ∷ (replicate 8 (pos 0) ++ (pos 1 ∷ []))

abbrev pub run_values : List ℤ
run_values = replicate 9 (pos 0)

unfoldable pub hour_text : ℕ → Plan → List ℕ
hour_text d p = write_fields hour_fields (hour_values d p) ++ write_fields run_fields run_values

-- errors of 1000000 and -1000000 in each of the first n groups
unfoldable pub plans : ℕ → List Plan
plans zero = []
plans (suc g) =
    let month = 1 + 3 * (g / 6) in
    let hour = 4 * (g % 6) in
    record { month = month; hour = hour; ongen = 1000000; load = 0 } ∷ record { month = month; hour = hour; ongen = 0; load = 1000000 } ∷ plans g

abbrev pub hours : ℕ → List (List ℕ)
hours d = map (hour_text d) (plans 24)

-- what the text of a planned hour gives
abbrev planned : ℕ → Plan → HourAnswer
planned d p = read (hour_of (hour_values d p)) (runs_of 1 run_values)

abbrev Reads : ℕ → List Plan → Type 0
Reads d all = map (λ p. hour_in (hour_text d p)) all ≡ map (planned d) all

-- booking a planned hour, which no text has to be read for
abbrev book : ℕ → Record → Plan → Result Record Refusal
book d history p = cond (record_possible history) (book_hour history (planned d p)) (kept 1 0)

unfoldable book_all : ℕ → Record → List Plan → Record
book_all d history [] = history
book_all d history (p ∷ all) = book_all d (record_after history (book d history p)) all

abbrev accepted_answer : Answer
accepted_answer = Ok tt

unfoldable answers : ℕ → Record → List Plan → List Answer
answers d history [] = []
answers d history (p ∷ all) = answer_of (book d history p) ∷ answers d (record_after history (book d history p)) all

booked_as : (d : ℕ) (history : Record) (p : Plan) → hour_in (hour_text d p) ≡ planned d p → booked history (hour_text d p) ≡ book d history p
unfolding booked
booked_as d history p given = rw given

booked_all_lem : (d : ℕ) (history : Record) (all : List Plan) → Reads d all → booked_all history (map (hour_text d) all) ≡ book_all d history all
unfolding booked_all book_all
booked_all_lem d history [] reads = refl
booked_all_lem d history (p ∷ all) reads =
    ap (λ (b : Result Record Refusal). booked_all (record_after history b) (map (hour_text d) all)) (booked_as d history p (cc)) ∙ booked_all_lem d (record_after history (book d history p)) all (cc)

-- lists whose texts give the planned hours, all of them accepted
lowered :
    (d : ℕ) (history history' : Record) (all : List Plan) → Reads 0 all → Reads d all →
    map (λ p. hour_ahead (hour_of (hour_values d p))) all ≡ map (λ p. hour_ahead (hour_of (hour_values 0 p)) -ℤ pos d) all →
    answers 0 history all ≡ map (λ p. accepted_answer) all → answers d history' all ≡ map (λ p. accepted_answer) all →
    ListsLowered d history history' (map (hour_text 0) all) (map (hour_text d) all)
unfolding answers
lowered d history history' [] reads reads' less accepted accepted' = tt
lowered d history history' (p ∷ all) reads reads' less accepted accepted' =
    let given : hour_in (hour_text 0 p) ≡ planned 0 p = cc in
    let given' : hour_in (hour_text d p) ≡ planned d p = cc in
    let falls : hour_ahead (hour_of (hour_values d p)) ≡ hour_ahead (hour_of (hour_values 0 p)) -ℤ pos d = cc in
    let yes : answer_of (book 0 history p) ≡ accepted_answer = cc in
    let yes' : answer_of (book d history' p) ≡ accepted_answer = cc in
    let place : HourLowered d (hour_in (hour_text 0 p)) (hour_in (hour_text d p)) =
    rw (given, given') (hour_lowered (hour_of (hour_values 0 p)) (hour_of (hour_values d p)) (runs_of 1 run_values) refl refl refl refl falls) in
    rw (booked_as 0 history p given, booked_as d history' p given') (
      rw (yes, yes') (both_accepted place),
      lowered d (record_after history (book 0 history p)) (record_after history' (book d history' p)) all (cc) (cc) (cc) (cc) (cc),
    )

-- ---- computed

-- the hours are read as planned
reads : Reads 0 (plans 24) × Reads 1000 (plans 24)
unfolding plans hour_text line_in line_length begins number_of all_digits value_of written_number digits_within write_fields read_fields field_at hour_fields run_fields repeated runs_of hour_in
reads = (refl, refl)

lists_lowered : ListsLowered 1000 fresh fresh (hours 0) (hours 1000)
unfolding plans answers runs_of floor_div quadratic season_of block_of group_of hour_ahead sced_reserve sced_sum error_of fresh group_at with_group groups_from record_possible all_possible possible mean_of squares_around book_error with_error
lists_lowered = lowered 1000 fresh fresh (plans 24) reads.0 reads.1 refl refl refl

-- every mean falls by 1000, every spread is 1000000
abbrev curves : ℤ → CurveSet
curves mean = record { voll = pos 900000; floor = pos 2000000; pairs = replicate 24 (record { mean = mean; spread = pos 1000000 }) }

abbrev SettledTo : Record → ℤ → Type 0
SettledTo history mean = settled history (pos 900000) (pos 2000000) ≡ Ok (curves mean)

planned_settled : SettledTo (book_all 0 fresh (plans 24)) (pos 0) × SettledTo (book_all 1000 fresh (plans 24)) (negsuc 999)
unfolding plans book_all runs_of floor_div quadratic season_of block_of group_of hour_ahead sced_reserve sced_sum error_of fresh group_at with_group groups_from record_possible all_possible possible mean_of squares_around book_error with_error settled settled_groups spread_of pair_of root_of root_in raised
planned_settled = (refl, refl)

both_settled : SettledTo (booked_all fresh (hours 0)) (pos 0) × SettledTo (booked_all fresh (hours 1000)) (negsuc 999)
both_settled = (rw (booked_all_lem 0 fresh (plans 24) reads.0) planned_settled.0, rw (booked_all_lem 1000 fresh (plans 24) reads.1) planned_settled.1)

-- document 01's snapshot, as it stands and raised: PRC, B's base point lower, C's HSL
abbrev listed : List ℕ → List ℕ → List ℕ → List ℕ
listed prc base hsl = listing prc (bytes "2000000") (bytes "95000") base hsl

unfoldable pub snapshot : List ℕ
snapshot = listed (bytes "3000000") (bytes "93000") (bytes "293000")

unfoldable pub raised_snapshot : List ℕ
raised_snapshot = listed (bytes "3100000") (bytes "90000") (bytes "300000")

unit : List ℕ → Status → ℕ → ℕ → ℕ → ℕ → Entry
unit id status net lsl hsl base =
    record {
      id = id;
      resource = resource.Generator (record {
        kind = kind.Gen;
        status = status;
        net = pos net;
        lsl = pos lsl;
        hsl = pos hsl;
        base = pos base;
        nonspin = pos 0;
        cold30 = pos 0;
        marks = 0;
      });
    }

abbrev header : ℕ → Header
header prc =
    record {
      month = pos 7;
      hour = pos 14;
      lambda = pos 2500;
      factor = pos 10000;
      prc = pos prc;
      eea1 = pos 2300000;
      short = pos 0;
      count = pos 3;
    }

abbrev units : ℕ → ℕ → List Entry
units base hsl =
    unit (bytes "A") status.On 200000 100000 2000000 200000
    ∷ unit (bytes "B") status.On 95000 100000 1000000 base
    ∷ unit (bytes "C") status.OffNs 0 0 hsl 0
    ∷ []

snapshots_read : (snapshot_in snapshot ≡ snapshot-in.read (header 3000000) (units 93000 293000)) × (snapshot_in raised_snapshot ≡ snapshot-in.read (header 3100000) (units 90000 300000))
unfolding snapshot raised_snapshot unit line_in line_length begins number_of all_digits value_of read_fields field_at header_fields generator_fields controllable_fields load_fields resource_at resources_at due_lines snapshot_in stands_in same_bytes is_id all_id_bytes word_among marked_in marks_of marks_turn_back counted_online counted_offline suspect_place suspect_from unmarked_before
snapshots_read = (refl, refl)

snapshot_up : SnapshotRaised (snapshot_in snapshot) (snapshot_in raised_snapshot)
unfolding unit
snapshot_up =
    rw (snapshots_read.0, snapshots_read.1)
    (snapshot_raised
    (record {
      month = refl;
      hour = refl;
      lambda = refl;
      factor = refl;
      prc = (pos-≤ℤ 3000000 3100000).1 (lit≤ tt);
      eea1 = refl;
      short = ≤ℤ_refl (pos 0);
      count = refl;
    })
    (one_raised refl (unit_up (≤ℤ_refl (pos 2000000)) (≤ℤ_refl (pos 200000)))
    (one_raised refl (unit_up (≤ℤ_refl (pos 1000000)) ((pos-≤ℤ 90000 93000).1 (lit≤ tt)))
    (one_raised refl (unit_up ((pos-≤ℤ 293000 300000).1 (lit≤ tt)) (≤ℤ_refl (pos 0))) none_raised))))
  where
    unit_up :
        {k : Kind} {s : Status} {net lsl hsl hsl' base base' nonspin cold30 : ℤ} {marks marks' : ℕ} → hsl ≤ℤ hsl' → base' ≤ℤ base →
        ResourceRaised
        (resource.Generator (record { kind = k; status = s; net = net; lsl = lsl; hsl = hsl; base = base; nonspin = nonspin; cold30 = cold30; marks = marks }))
        (resource.Generator (record { kind = k; status = s; net = net; lsl = lsl; hsl = hsl'; base = base'; nonspin = nonspin; cold30 = cold30; marks = marks' }))
    unit_up h b =
        generator_raised (record { kind = refl; status = refl; cold30 = refl; net = refl; lsl = refl; nonspin = refl; hsl = h; base = b })

abbrev pub first : Prices
first = record { rs = pos 2707000; rsns = pos 3000000; pis = 158655254; pins = 158655254; online = 142393; offline = 71197 }

abbrev pub second : Prices
second = record { rs = pos 2710000; rsns = pos 3010000; pis = 157463369; pins = 156009304; online = 140671; offline = 70009 }

prices :
    (priced (curves (pos 0)) snapshot ≡ Ok first) × (priced (curves (negsuc 999)) raised_snapshot ≡ Ok second)
unfolding unit priced curves_in_range pairs_in_range sums_of part_of counted_online counted_offline plus prices_of value_of_reserve rounded shortage_online shortage_offline online_probability offline_probability normal upper interpolated knot group_of season_of block_of online_reserve total_reserve discounted twice_online twice_all twice_loads floor_div min_ℤ max_ℤ
prices = (rw snapshots_read.0, rw snapshots_read.1)

-- two lists and two snapshots that meet all that demand 3 asks, with both prices of the second below the first's
pub record Falling (d : ℕ) (texts texts' : List (List ℕ)) (voll floor : ℤ) (text text' : List ℕ) (one two : Prices) : Type 0 where
  pub lists : ListsLowered d fresh fresh texts texts'
  pub settled_first : CurveSet
  pub settled_second : CurveSet
  pub accepted : settled (booked_all fresh texts) voll floor ≡ Ok settled_first
  pub accepted' : settled (booked_all fresh texts') voll floor ≡ Ok settled_second
  pub up : SnapshotRaised (snapshot_in text) (snapshot_in text')
  pub priced_first : priced settled_first text ≡ Ok one
  pub priced_second : priced settled_second text' ≡ Ok two
  pub online_falls : two.online < one.online
  pub offline_falls : two.offline < one.offline

pub falling : Falling 1000 (hours 0) (hours 1000) (pos 900000) (pos 2000000) snapshot raised_snapshot first second
falling =
    record {
      lists = lists_lowered;
      settled_first = curves (pos 0);
      settled_second = curves (negsuc 999);
      accepted = both_settled.0;
      accepted' = both_settled.1;
      up = snapshot_up;
      priced_first = prices.0;
      priced_second = prices.1;
      online_falls = lit< tt;
      offline_falls = lit< tt;
    }
