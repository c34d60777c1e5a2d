-- What is promised of pricing, over texts and the operations' answers: demands 1 and 2 where they concern pricing, and demand 3, whole (document 01, "Held fixed
-- in demand 3" to "This is a single claim about two whole lists").
use Rattle.std.specs.Prelude.{ℕ, ◌≤◌, ◌<◌, ◌≡◌, true, false, List, [], ◌∷◌, eqb, ℤ, ◌≤ℤ◌, length, Ok}
use Rattle.text_refusal.specs.Refusal.{line_of}
use Rattle.text_refusal.specs.declared.refusal.Fault.{Fault}
use Rattle.text_line.specs.Field.{got, refused}
use Rattle.curve_record.specs.Record.{fresh}
use Rattle.curve_settling.specs.Settle.{settled}
use Rattle.curve.specs.FirstRefusal.{Decides}
use Rattle.curve.specs.Lists.{ListsLowered, booked_all}
use Rattle.curve_set.specs.Curves.{curves_in_range}
use Rattle.curve_set.specs.declared.CurveSet.{CurveSet}
use Rattle.pricing_adder.specs.Price.{Pricing, value_of_reserve, prices_of, price_values, pricing_number, pricing_line, pricing_values}
use Rattle.pricing_order.specs.Promises.{HeaderRaised}
use Rattle.pricing_sums.specs.declared.header.Header.{Header}
use Rattle.pricing_adder.specs.declared.price.Prices.{Prices}
use Rattle.pricing_sums.specs.Part.{sums_of}
use Rattle.pricing_snapshot.specs.Snapshot.{Entry, Contents, due_lines, SnapshotAnswer, read, resources_of, snapshot_in}
use Rattle.pricing_snapshot.specs.Promises.{FaultyLine}
use Rattle.pricing.specs.Pricing.{priced}
use Rattle.pricing_resource.specs.Suspect.{suspect_line}
use Rattle.pricing_resource.specs.declared.Generator.{Generator}
use Rattle.pricing_resource.specs.declared.Controllable.{Controllable}
use Rattle.pricing_resource.specs.declared.Load.{Load}
use Rattle.pricing_resource.specs.declared.Resource.{Resource}
use Rattle.pricing_resource.specs.declared.Resource.TheVariants as resource

-- ---- demands 1 and 2

-- an answer by its number, its line and its six numbers; a refusal gives no numbers
pub record PricingOutcome : Type 0 where
  pub number : ℕ
  pub line : ℕ
  pub values : List ℤ

abbrev pub outcome : Pricing → PricingOutcome
outcome given = record { number = pricing_number given; line = pricing_line given; values = pricing_values given }

abbrev pub refused_outcome : ℕ → ℕ → PricingOutcome
refused_outcome number line = record { number = number; line = line; values = [] }

-- the answer case by case
pub data PricingCase (curves : CurveSet) (text : List ℕ) : PricingOutcome → Type 0 where
  -- 1 with line 0 for an impossible curve set
  impossible_set : curves_in_range curves ≡ false → PricingCase curves text (refused_outcome 1 0)
  -- then 2 with line 0 for a text that is too long
  text_too_long : curves_in_range curves ≡ true → 1048576 < length text → PricingCase curves text (refused_outcome 2 0)
  -- then the first faulty line (3 to 8), lines in order and within a line by number
  faulty_line :
      (found : Fault) → curves_in_range curves ≡ true → length text ≤ 1048576 → due_lines text ≡ refused found → FaultyLine text found →
      PricingCase curves text (refused_outcome found.number (line_of text found.at))
  -- then 9 with the line after the last due one
  bytes_after_lines :
      (found : Contents) (next : ℕ) → curves_in_range curves ≡ true → length text ≤ 1048576 → due_lines text ≡ got found next → next < length text →
      PricingCase curves text (refused_outcome 9 (line_of text next))
  -- then 15 with the line of the first number marked suspect on a unit where that turns the snapshot back (document 02, W-206)
  number_suspect :
      (found : Contents) (next : ℕ) → curves_in_range curves ≡ true → length text ≤ 1048576 → due_lines text ≡ got found next → length text ≤ next →
      eqb (suspect_line (resources_of found.entries)) 0 ≡ false → PricingCase curves text (refused_outcome 15 (suspect_line (resources_of found.entries)))
  -- the prices are those of the formulas
  snapshot_priced :
      (found : Contents) (next : ℕ) → curves_in_range curves ≡ true → length text ≤ 1048576 → due_lines text ≡ got found next → length text ≤ next →
      suspect_line (resources_of found.entries) ≡ 0 →
      PricingCase curves text (record { number = 0; line = 0; values = price_values (prices_of curves found.header (sums_of (resources_of found.entries))) })

-- nothing is refused but in these cases, and where two hold they give one answer
abbrev pub PricingIsRefusedFirst : Type 0
PricingIsRefusedFirst = (curves : CurveSet) (text : List ℕ) → Decides (PricingCase curves text) (outcome (priced curves text))

-- a snapshot that was read is priced by the formulas
abbrev pub PricesEqualTheFormulas : Type 0
PricesEqualTheFormulas =
    (curves : CurveSet) (text : List ℕ) (h : Header) (entries : List Entry) → curves_in_range curves ≡ true → snapshot_in text ≡ read h entries →
    priced curves text ≡ Ok (prices_of curves h (sums_of (resources_of entries)))

-- prices depend on the header and the five uncapped sums alone
abbrev pub PricesDependOnHeaderAndSums : Type 0
PricesDependOnHeaderAndSums =
    (curves : CurveSet) (text text' : List ℕ) (h : Header) (entries entries' : List Entry) → snapshot_in text ≡ read h entries → snapshot_in text' ≡ read h entries' →
    sums_of (resources_of entries) ≡ sums_of (resources_of entries') → priced curves text ≡ priced curves text'

-- ---- demand 3: raised reserve; lower and higher are said of the second against the first. Marks are neither held nor raised: the two snapshots may differ in
-- them in any way, since both are accepted and no mark of an accepted snapshot moves a price (Marks.antt)

-- held: kind, status, cold30, net, lsl, nonspin; raised: hsl not lower, base point not higher
pub record GeneratorRaised (first second : Generator) : Type 0 where
  pub kind : first.kind ≡ second.kind
  pub status : first.status ≡ second.status
  pub cold30 : first.cold30 ≡ second.cold30
  pub net : first.net ≡ second.net
  pub lsl : first.lsl ≡ second.lsl
  pub nonspin : first.nonspin ≡ second.nonspin
  pub hsl : first.hsl ≤ℤ second.hsl
  pub base : second.base ≤ℤ first.base

-- held: nonspin; raised: base and regup not lower, lpc not higher
pub record ControllableRaised (first second : Controllable) : Type 0 where
  pub nonspin : first.nonspin ≡ second.nonspin
  pub base : first.base ≤ℤ second.base
  pub regup : first.regup ≤ℤ second.regup
  pub lpc : second.lpc ≤ℤ first.lpc

-- held: rrsok; raised: net and rrs not lower, lpc not higher
pub record LoadRaised (first second : Load) : Type 0 where
  pub rrsok : first.rrsok ≡ second.rrsok
  pub net : first.net ≤ℤ second.net
  pub rrs : first.rrs ≤ℤ second.rrs
  pub lpc : second.lpc ≤ℤ first.lpc

pub data ResourceRaised : Resource → Resource → Type 0 where
  generator_raised : {first second : Generator} → GeneratorRaised first second → ResourceRaised (resource.Generator first) (resource.Generator second)
  controllable_raised :
      {first second : Controllable} → ControllableRaised first second → ResourceRaised (resource.Controllable first) (resource.Controllable second)
  load_raised : {first second : Load} → LoadRaised first second → ResourceRaised (resource.Load first) (resource.Load second)

-- the same ids in the same order
pub data EntriesRaised : List Entry → List Entry → Type 0 where
  none_raised : EntriesRaised [] []
  one_raised :
      {first second : Entry} {others others' : List Entry} → first.id ≡ second.id → ResourceRaised first.resource second.resource →
      EntriesRaised others others' → EntriesRaised (first ∷ others) (second ∷ others')

-- two snapshots that are accepted, the second with counted reserve or PRC raised at any points
pub data SnapshotRaised : SnapshotAnswer → SnapshotAnswer → Type 0 where
  snapshot_raised :
      {h h' : Header} {entries entries' : List Entry} → HeaderRaised h h' → EntriesRaised entries entries' →
      SnapshotRaised (read h entries) (read h' entries')

abbrev pub NeitherPriceRises : Prices → Prices → Type 0
NeitherPriceRises first second = (second.online ≤ first.online) × (second.offline ≤ first.offline)

-- ---- demand 3: the three statements

-- two lists of bookings, each settled, each snapshot priced on the curves that settling gives: every hour-ahead reserve lower by the same d, VOLL and X equal,
-- the snapshot raised, both pricings accepted
abbrev pub RaisedReserveNeverRaisesPrices : Type 0
RaisedReserveNeverRaisesPrices =
    (d : ℕ) (texts texts' : List (List ℕ)) (voll floor : ℤ) (curves curves' : CurveSet) (snapshot snapshot' : List ℕ) (first second : Prices) →
    ListsLowered d fresh fresh texts texts' →
    settled (booked_all fresh texts) voll floor ≡ Ok curves →
    settled (booked_all fresh texts') voll floor ≡ Ok curves' →
    SnapshotRaised (snapshot_in snapshot) (snapshot_in snapshot') →
    priced curves snapshot ≡ Ok first →
    priced curves' snapshot' ≡ Ok second →
    NeitherPriceRises first second

-- curves handed in: VOLL, X and all pairs are equal
abbrev pub RaisedReserveNeverRaisesPricesOnCurves : Type 0
RaisedReserveNeverRaisesPricesOnCurves =
    (curves : CurveSet) (snapshot snapshot' : List ℕ) (first second : Prices) →
    SnapshotRaised (snapshot_in snapshot) (snapshot_in snapshot') →
    priced curves snapshot ≡ Ok first → priced curves snapshot' ≡ Ok second → NeitherPriceRises first second

-- off-line ≤ on-line ≤ max(0, VOLL - lambda) in every accepted pricing
abbrev pub OfflineOnlineValueInOrder : Type 0
OfflineOnlineValueInOrder =
    (curves : CurveSet) (snapshot : List ℕ) (h : Header) (entries : List Entry) (prices : Prices) →
    snapshot_in snapshot ≡ read h entries → priced curves snapshot ≡ Ok prices →
    (prices.offline ≤ prices.online) × (prices.online ≤ value_of_reserve curves h)
