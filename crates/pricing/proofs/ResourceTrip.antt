-- The lines of one resource: read as the resource of a row where they are written so and not refused, and written from the resource where they were read.
use Prim.Native.Nat.{ℕ, zero, suc, ◌+◌, ◌≤◌, ◌<◌}
use mathlib.Core.Bool.{Bool, true, false}
use borrow.Author.Tests.{ltb-true, ltb-false}
use lib.Dec.{ltb}
use lib.Seq.{length-take-le, take_all, take_at}
use native.Mathlib.Omega.{arith}
use mathlib.Core.List.{List, [], ◌∷◌, ◌++◌}
use mathlib.Core.Path.{◌≡◌, refl, sym, ap, subst, subst⁻¹, ◌∙◌}
use lib.IntN.{ℤ, pos}
use lib.ListN.{length, take, length-map}
use Rattle.text_refusal.specs.Bytes.{bytes}
use Rattle.text_line.specs.Field.{Field, got, field_at}
use Rattle.text_line.proofs.LineBytes.{one_line}
use Rattle.text_schema.specs.Schema.{read_fields}
use Rattle.text_schema.specs.Checked.{CheckedLine, checked_line, checked_lines, text_of}
use Rattle.text_schema.proofs.Readings.{reading_length}
use Rattle.text_number.specs.declared.marked.Marked.{Marked}
use Rattle.text_number.specs.Marked.{numbers_of, marks_of, marked_by}
use Rattle.text_number.proofs.Marks.{marks_few, by_length, by_take, marked_again}
use Rattle.text_schema.proofs.Checked.{Unrefused, text_first, checked_taken}
use Rattle.text_schema.proofs.Marks.{LinesWithMarks}
use Rattle.text.specs.Promises.{Sound, AllSound, FitsOrRefused}
use Rattle.text.proofs.RoundTrip.{Cut}
use Rattle.text.proofs.Checked.{AllFitOrRefused, cut_both, cut_apart, line_cuts, line_reads, LinesStand, lines_cut, lines_read}
use Rattle.text.proofs.Values.{words_are_sound, listed_words_fit, marked_lines_sound, marked_lines_fit}
use Rattle.pricing_resource.specs.declared.Kind.{Kind}
use Rattle.pricing_resource.specs.declared.Kind.TheVariants as kind
use Rattle.pricing_resource.specs.declared.Status.{Status}
use Rattle.pricing_resource.specs.declared.Status.TheVariants as status
use Rattle.pricing_resource.specs.declared.Resource.{Resource}
use Rattle.pricing_resource.specs.declared.Resource.TheVariants as resource
use Rattle.pricing_resource_text.specs.Resource.{kind_words, kind_field, status_words, status_field, status_of, generator_fields, controllable_fields, load_fields, generator_of, controllable_of, load_of, with_marks, lines_as, generator_at, of_kind, resource_at}
use Rattle.pricing_resource_text.proofs.Readings.{followed, lines_given, resource_is, resource_followed}
use Rattle.pricing_resource_text.proofs.Places.{kind_unknown, status_unknown}
use Rattle.pricing_resource_text.proofs.Lines.{generator_with_marks, controllable_with_marks, load_with_marks, generator_long, controllable_long, load_long}
use Rattle.pricing_resource.specs.Suspect.{marks}
use Rattle.pricing_held.specs.Rows.{Row, marked_numbers, resource_of_kind}
use Rattle.pricing_held.specs.Lines.{generator_lines, lines_of_kind}

-- ---- the kinds of value

kinds_sound : Sound kind_field
kinds_sound = words_are_sound (bytes "kind=") kind_words (one_line (bytes "kind=") refl)

kinds_fit : FitsOrRefused kind_field
kinds_fit =
    listed_words_fit (bytes "kind=") kind_words refl refl
    (one_line (bytes "gen") refl, (one_line (bytes "wind") refl, (one_line (bytes "irr") refl, (one_line (bytes "nuke") refl, (one_line (bytes "clr") refl, (one_line (bytes "nclr") refl, tt))))))

statuses_sound : Sound status_field
statuses_sound = words_are_sound (bytes "status=") status_words (one_line (bytes "status=") refl)

statuses_fit : FitsOrRefused status_field
statuses_fit =
    listed_words_fit (bytes "status=") status_words refl refl
    (one_line (bytes "ON") refl, (one_line (bytes "OFF") refl, (one_line (bytes "OFFNS") refl, (one_line (bytes "ONTEST") refl, (one_line (bytes "STARTUP") refl, (one_line (bytes "SHUTDOWN") refl, (one_line (bytes "OUT") refl, tt)))))))

-- ---- lines stand in a text

-- their bytes stand from one position to another, and none of them is refused
abbrev pub Standing : List ℕ → ℕ → ℕ → List CheckedLine → Type 0
Standing text at next lines = Cut text at next (text_of lines) × Unrefused lines

module _ (text : List ℕ) (at next : ℕ) (line : CheckedLine) (lines : List CheckedLine) where
  -- one line, and then the others
  pub standing_first : Standing text at next (line ∷ lines) → (Cut text at (at + length line.bytes) line.bytes × (line.number ≡ 0)) × Standing text (at + length line.bytes) next lines
  standing_first stands =
      let both = cut_apart text line.bytes (text_of lines) at next (rw (text_first line lines) at stands.0) in
      ((both.0, stands.1.0), (both.1, stands.1.1))

  pub standing_more : (mid : ℕ) → Cut text at mid line.bytes × (line.number ≡ 0) → Standing text mid next lines → Standing text at next (line ∷ lines)
  standing_more mid first more =
      (rw (text_first line lines) (cut_both text line.bytes (text_of lines) at mid next first.0 more.0), (first.1, more.1))

-- ---- lines of any kind of value

-- they are read as the values that they are written from, the first ones where there are more
pub lines_given_back :
    {A B : Type 0} (make : List A → B) (fields : List (Field A)) → AllSound fields → AllFitOrRefused fields → (text : List ℕ) (values : List A) (at next : ℕ) →
    length fields ≤ length values → Standing text at next (checked_lines fields values) → lines_as make fields text at ≡ got (make (take (length fields) values)) next
lines_given_back {A} make fields sound fit text values at next long stand =
    let these : List A = take (length fields) values in
    let counted : length these ≡ length fields = length-take-le (length fields) values long in
    let stands : LinesStand text at next fields these = rw (checked_taken fields values) stand in
    rw (lines_read text fields these at next sound fit counted stands)

-- lines that were read: the values, and that they stand so
pub record LinesTaken {A B : Type 0} (make : List A → B) (fields : List (Field A)) (text : List ℕ) (at next : ℕ) (one : B) : Type 0 where
  pub values : List A
  pub long : length values ≡ length fields
  pub made : make values ≡ one
  pub stand : Standing text at next (checked_lines fields values)

pub lines_taken :
    {A B : Type 0} (make : List A → B) (fields : List (Field A)) → AllSound fields → (text : List ℕ) (at next : ℕ) {one : B} →
    lines_as make fields text at ≡ got one next → LinesTaken make fields text at next one
lines_taken make fields sound text at next e =
    let given = lines_given make (read_fields fields text at).values (read_fields fields text at).end e in
    record {
      values = (read_fields fields text at).values;
      long = reading_length fields text at next given.ended;
      made = given.made;
      stand = lines_cut text fields at next sound given.ended;
    }

-- ---- written lines are read

-- a row has six numbers
abbrev pub Six : Row → Type 0
Six row = length row.numbers ≡ 6

six_marked : (row : Row) → Six row → length (marked_numbers row) ≡ 6
six_marked row six = by_length row.marks row.numbers ∙ six

module _ (text : List ℕ) where
  numbers_read :
      (make : ℕ → List ℤ → Resource) {fields : List (Field Marked)} → LinesWithMarks fields → (row : Row) (at next : ℕ) → length fields ≤ 6 → Six row →
      Standing text at next (checked_lines fields (marked_numbers row)) → lines_as (with_marks make) fields text at ≡ got (with_marks make (take (length fields) (marked_numbers row))) next
  numbers_read make {fields} lines row at next few six stand =
      lines_given_back (with_marks make) fields (marked_lines_sound lines) (marked_lines_fit lines) text (marked_numbers row) at next (omega (arith, six_marked row six)) stand

  generator_reads :
      (k : Kind) (row : Row) (at next : ℕ) → Six row → Standing text at next (generator_lines row) → generator_at k text at ≡ got (with_marks (generator_of k (status_of row.status)) (marked_numbers row)) next
  generator_reads k row at next six stand =
      let s : ℕ = row.status in
      let parts = standing_first text at next (checked_line status_field s) (checked_lines generator_fields (marked_numbers row)) stand in
      let mid : ℕ = at + length (checked_line status_field s).bytes in
      let status : field_at status_field text at ≡ got s mid = line_reads status_field statuses_sound text at statuses_fit s mid parts.0.0 parts.0.1 in
      let all : take (length generator_fields) (marked_numbers row) ≡ marked_numbers row = take_all (length generator_fields) (marked_numbers row) (omega (arith, generator_long, six_marked row six)) in
      rw status (rw all at (numbers_read (generator_of k (status_of s)) generator_with_marks row mid next (omega (arith, generator_long)) six parts.1))

  of_kind_reads :
      (k : ℕ) (row : Row) (at next : ℕ) → k < 6 → Six row → Standing text at next (lines_of_kind k row) → of_kind text k at ≡ got (resource_of_kind k row) next
  of_kind_reads zero row at next h six stand = generator_reads kind.Gen row at next six stand
  of_kind_reads (suc zero) row at next h six stand = generator_reads kind.Wind row at next six stand
  of_kind_reads (suc (suc zero)) row at next h six stand = generator_reads kind.Irr row at next six stand
  of_kind_reads (suc (suc (suc zero))) row at next h six stand = generator_reads kind.Nuke row at next six stand
  of_kind_reads (suc (suc (suc (suc zero)))) row at next h six stand =
      rw controllable_long at (numbers_read controllable_of controllable_with_marks row at next (omega (arith, controllable_long)) six stand)
  of_kind_reads (suc (suc (suc (suc (suc zero))))) row at next h six stand =
      rw load_long at (numbers_read load_of load_with_marks row at next (omega (arith, load_long)) six stand)
  of_kind_reads (suc (suc (suc (suc (suc (suc k)))))) row at next h six stand = absurd (omega arith)

  -- a kind that is not refused is one of the list
  kind_listed : (k : ℕ) → (checked_line kind_field k).number ≡ 0 → k < 6
  kind_listed k e = go (ltb k 6) refl
    where
      go : (b : Bool) → ltb k 6 ≡ b → k < 6
      go true p = ltb-true k 6 p
      go false p = absurd (omega (arith, sym e ∙ kind_unknown k (ltb-false k 6 p)))

  pub resource_reads :
      (row : Row) (at next : ℕ) → Six row → Standing text at next (checked_line kind_field row.kind ∷ lines_of_kind row.kind row) →
      resource_at text at ≡ got (resource_of_kind row.kind row) next
  resource_reads row at next all stand =
      let k : ℕ = row.kind in
      let parts = standing_first text at next (checked_line kind_field k) (lines_of_kind k row) stand in
      let mid : ℕ = at + length (checked_line kind_field k).bytes in
      let first : field_at kind_field text at ≡ got k mid = line_reads kind_field kinds_sound text at kinds_fit k mid parts.0.0 parts.0.1 in
      rw (resource_is text at, first) (of_kind_reads k row mid next (kind_listed k parts.0.1) all parts.1)

-- ---- lines that were read are written from the resource

abbrev pub kind_index : Kind → ℕ
kind_index kind.Gen = 0
kind_index kind.Wind = 1
kind_index kind.Irr = 2
kind_index kind.Nuke = 3

abbrev pub status_index : Status → ℕ
status_index status.On = 0
status_index status.Off = 1
status_index status.OffNs = 2
status_index status.OnTest = 3
status_index status.Startup = 4
status_index status.Shutdown = 5
status_index status.Out = 6

-- the row of a resource
abbrev pub kind_of_resource : Resource → ℕ
kind_of_resource (resource.Generator g) = kind_index g.kind
kind_of_resource (resource.Controllable c) = 4
kind_of_resource (resource.Load l) = 5

abbrev pub status_of_resource : Resource → ℕ
status_of_resource (resource.Generator g) = status_index g.status
status_of_resource (resource.Controllable c) = 0
status_of_resource (resource.Load l) = 0

abbrev pub numbers_of_resource : Resource → List ℤ
numbers_of_resource (resource.Generator g) = g.net ∷ g.lsl ∷ g.hsl ∷ g.base ∷ g.nonspin ∷ g.cold30 ∷ []
numbers_of_resource (resource.Controllable c) = c.base ∷ c.lpc ∷ c.nonspin ∷ c.regup ∷ pos 0 ∷ pos 0 ∷ []
numbers_of_resource (resource.Load l) = l.rrsok ∷ l.net ∷ l.lpc ∷ l.rrs ∷ pos 0 ∷ pos 0 ∷ []

abbrev pub row_of_resource : List ℕ → Resource → Row
row_of_resource id one = record { id = id; kind = kind_of_resource one; status = status_of_resource one; numbers = numbers_of_resource one; marks = marks one }

status_back : (s : ℕ) → s < 7 → status_index (status_of s) ≡ s
status_back zero h = refl
status_back (suc zero) h = refl
status_back (suc (suc zero)) h = refl
status_back (suc (suc (suc zero))) h = refl
status_back (suc (suc (suc (suc zero)))) h = refl
status_back (suc (suc (suc (suc (suc zero))))) h = refl
status_back (suc (suc (suc (suc (suc (suc zero)))))) h = refl
status_back (suc (suc (suc (suc (suc (suc (suc s))))))) h = absurd (omega arith)

status_listed : (s : ℕ) → (checked_line status_field s).number ≡ 0 → s < 7
status_listed s e = go (ltb s 7) refl
  where
    go : (b : Bool) → ltb s 7 ≡ b → s < 7
    go true p = ltb-true s 7 p
    go false p = absurd (omega (arith, sym e ∙ status_unknown s (ltb-false s 7 p)))

-- six numbers with their marks, and four
data SixMarked : List Marked → Type 0 where
  six : {a b c d e f : Marked} → SixMarked (a ∷ b ∷ c ∷ d ∷ e ∷ f ∷ [])

six_numbers : (values : List Marked) → length values ≡ 6 → SixMarked values
six_numbers [] h = absurd (omega arith)
six_numbers (a ∷ []) h = absurd (omega arith)
six_numbers (a ∷ b ∷ []) h = absurd (omega arith)
six_numbers (a ∷ b ∷ c ∷ []) h = absurd (omega arith)
six_numbers (a ∷ b ∷ c ∷ d ∷ []) h = absurd (omega arith)
six_numbers (a ∷ b ∷ c ∷ d ∷ e ∷ []) h = absurd (omega arith)
six_numbers (a ∷ b ∷ c ∷ d ∷ e ∷ f ∷ []) h = six
six_numbers (a ∷ b ∷ c ∷ d ∷ e ∷ f ∷ g ∷ rest) h = absurd (omega arith)

data FourMarked : List Marked → Type 0 where
  four : {a b c d : Marked} → FourMarked (a ∷ b ∷ c ∷ d ∷ [])

four_numbers : (values : List Marked) → length values ≡ 4 → FourMarked values
four_numbers [] h = absurd (omega arith)
four_numbers (a ∷ []) h = absurd (omega arith)
four_numbers (a ∷ b ∷ []) h = absurd (omega arith)
four_numbers (a ∷ b ∷ c ∷ []) h = absurd (omega arith)
four_numbers (a ∷ b ∷ c ∷ d ∷ []) h = four
four_numbers (a ∷ b ∷ c ∷ d ∷ e ∷ rest) h = absurd (omega arith)

-- the marks are those of the resource's numbers: six, or four
abbrev pub MarksFit : Resource → Type 0
MarksFit (resource.Generator g) = g.marks < 64
MarksFit (resource.Controllable c) = c.marks < 16
MarksFit (resource.Load l) = l.marks < 16

module _ (text : List ℕ) (id : List ℕ) where
  -- what stands after the kind's line, the kind, and the marks
  abbrev Written : ℕ → ℕ → ℕ → Resource → Type 0
  Written k at next one = ((row_of_resource id one).kind ≡ k) × (Standing text at next (lines_of_kind k (row_of_resource id one)) × MarksFit one)

  generator_written :
      (k : Kind) (at next : ℕ) {one : Resource} → generator_at k text at ≡ got one next →
      ((row_of_resource id one).kind ≡ kind_index k) × (Standing text at next (lines_of_kind 0 (row_of_resource id one)) × MarksFit one)
  generator_written k at next {one} e =
      let f = followed (field_at status_field text at) (λ s next. lines_as (with_marks (generator_of k (status_of s))) generator_fields text next) e in
      let line = line_cuts status_field statuses_sound text at f.one f.after f.given in
      let given = lines_taken (with_marks (generator_of k (status_of f.one))) generator_fields (marked_lines_sound generator_with_marks) text f.after next f.then in
      subst (λ (r : Resource). ((row_of_resource id r).kind ≡ kind_index k) × (Standing text at next (lines_of_kind 0 (row_of_resource id r)) × MarksFit r)) given.made
      (go given.values (six_numbers given.values (given.long ∙ generator_long)) (status_back f.one (status_listed f.one line.1)) f.after line given.stand)
    where
      go : {s : ℕ} (values : List Marked) → SixMarked values → status_index (status_of s) ≡ s → (mid : ℕ) → Cut text at mid (checked_line status_field s).bytes × ((checked_line status_field s).number ≡ 0) →
          Standing text mid next (checked_lines generator_fields values) →
          ((row_of_resource id (with_marks (generator_of k (status_of s)) values)).kind ≡ kind_index k)
          × (Standing text at next (lines_of_kind 0 (row_of_resource id (with_marks (generator_of k (status_of s)) values))) × (marks_of values < 64))
      go {s} values (six {a} {b} {c} {d} {e} {f}) back mid line stand =
          (refl, (rw (back, marked_again values) (standing_more text at next (checked_line status_field s) (checked_lines generator_fields values) mid line stand), marks_few values))

  -- the four numbers of a load in the row's six places
  load_written :
      (fields : List (Field Marked)) → length fields ≡ 4 → (values : List Marked) → length values ≡ 4 → (at next : ℕ) →
      Standing text at next (checked_lines fields values) → Standing text at next (checked_lines fields (marked_by (marks_of values) (numbers_of values ++ (pos 0 ∷ pos 0 ∷ []))))
  load_written fields long values few at next stand =
      let counted : length (numbers_of values) ≡ 4 = length-map values (λ (m : Marked). m.number) ∙ few in
      let front : take (length fields) (numbers_of values ++ (pos 0 ∷ pos 0 ∷ [])) ≡ numbers_of values = take_at (numbers_of values) (pos 0 ∷ pos 0 ∷ []) (length fields) (counted ∙ sym long) in
      let same : checked_lines fields values ≡ checked_lines fields (marked_by (marks_of values) (numbers_of values ++ (pos 0 ∷ pos 0 ∷ []))) =
      ap (checked_lines fields) (sym (by_take (length fields) (marks_of values) (numbers_of values ++ (pos 0 ∷ pos 0 ∷ [])) ∙ ap (marked_by (marks_of values)) front ∙ marked_again values))
      ∙ checked_taken fields (marked_by (marks_of values) (numbers_of values ++ (pos 0 ∷ pos 0 ∷ []))) in
      rw same at stand

  of_kind_written : (k at next : ℕ) {one : Resource} → k < 6 → of_kind text k at ≡ got one next → Written k at next one
  of_kind_written zero at next h e = generator_written kind.Gen at next e
  of_kind_written (suc zero) at next h e = generator_written kind.Wind at next e
  of_kind_written (suc (suc zero)) at next h e = generator_written kind.Irr at next e
  of_kind_written (suc (suc (suc zero))) at next h e = generator_written kind.Nuke at next e
  of_kind_written (suc (suc (suc (suc zero)))) at next h e =
      let given = lines_taken (with_marks controllable_of) controllable_fields (marked_lines_sound controllable_with_marks) text at next e in
      subst (λ (r : Resource). Written 4 at next r) given.made (go given.values (four_numbers given.values (given.long ∙ controllable_long)) given.stand)
    where
      go : (values : List Marked) → FourMarked values → Standing text at next (checked_lines controllable_fields values) → Written 4 at next (with_marks controllable_of values)
      go values (four {a} {b} {c} {d}) stand = (refl, (load_written controllable_fields controllable_long values refl at next stand, marks_few values))
  of_kind_written (suc (suc (suc (suc (suc zero))))) at next h e =
      let given = lines_taken (with_marks load_of) load_fields (marked_lines_sound load_with_marks) text at next e in
      subst (λ (r : Resource). Written 5 at next r) given.made (go given.values (four_numbers given.values (given.long ∙ load_long)) given.stand)
    where
      go : (values : List Marked) → FourMarked values → Standing text at next (checked_lines load_fields values) → Written 5 at next (with_marks load_of values)
      go values (four {a} {b} {c} {d}) stand = (refl, (load_written load_fields load_long values refl at next stand, marks_few values))
  of_kind_written (suc (suc (suc (suc (suc (suc k)))))) at next h e = absurd (omega arith)

  pub resource_written :
      (at next : ℕ) {one : Resource} → resource_at text at ≡ got one next →
      Standing text at next (checked_line kind_field (row_of_resource id one).kind ∷ lines_of_kind (row_of_resource id one).kind (row_of_resource id one)) × MarksFit one
  resource_written at next {one} e =
      let f = resource_followed text at e in
      let line = line_cuts kind_field kinds_sound text at f.one f.after f.given in
      let rest = of_kind_written f.one f.after next (kind_listed text f.one line.1) f.then in (
        subst⁻¹ (λ (k : ℕ). Standing text at next (checked_line kind_field k ∷ lines_of_kind k (row_of_resource id one))) rest.0
            (standing_more text at next (checked_line kind_field f.one) (lines_of_kind f.one (row_of_resource id one)) f.after line rest.1.0),
        rest.1.1,
      )
