-- A whole snapshot: the text of what is held is read as what is held, and a text that was read is that of its header and the rows of its resources.
use Prim.Native.Nat.{ℕ, zero, suc, ◌+◌, ◌*◌, ◌≤◌}
use native.Mathlib.Omega.{arith}
use mathlib.Core.List.{List, [], ◌∷◌, ◌++◌, map, append-nil}
use mathlib.Core.Path.{◌≡◌, refl, sym, ap, subst, subst⁻¹, ◌∙◌}
use lib.IntN.{ℤ, nat_abs}
use lib.ListN.{length, take, drop, length-drop, drop_of_length-le}
use lib.Seq.{length-take-le}
use Rattle.text_line.specs.Field.{got}
use Rattle.text_schema.specs.Checked.{CheckedLine, text_of}
use Rattle.text_schema.proofs.Checked.{Unrefused, lines_long}
use Rattle.text.proofs.Values.{number_lines_sound, number_lines_fit}
use Rattle.pricing_sums.specs.Header.{header_values}
use Rattle.pricing_sums.specs.declared.header.Header.{Header}
use Rattle.pricing_resource.specs.Suspect.{suspect_line}
use Rattle.pricing_resource_text.specs.Resource.{lines_as, resource_at}
use Rattle.pricing_resource_text.proofs.Readings.{followed}
use Rattle.pricing_snapshot.specs.Snapshot.{header_fields, header_of, Entry, resources_of, resources_at, Contents, after_header, due_lines, SnapshotAnswer, read, snapshot_in}
use Rattle.pricing_snapshot.proofs.Cases.{SnapshotCase, too_long, line_refused, bytes_after, suspect_number, whole, snapshot_case, case_whole, due_lines_are}
use Rattle.pricing_snapshot.proofs.HeaderLines.{header_lines_lem}
use Rattle.pricing_held.specs.Rows.{held_count, row_at, rows_from, held_rows, entry_of, header_held, contents_held}
use Rattle.pricing_held.specs.Lines.{rows_lines, header_checked, held_lines, held_text}
use Rattle.pricing_held.proofs.Counts.{held_numbers}
use Rattle.pricing_held.proofs.Definitions.{row_at_is, rows_from_none, rows_from_more, contents_held_are, held_lines_are, held_text_is}
use Rattle.pricing.proofs.ResourceTrip.{Standing, lines_given_back, lines_taken, Six}
use Rattle.pricing.proofs.RowsTrip.{standing_apart, standing_both, AllSix, rows_read, row_of_entry, ValidEntries, entries_written}

-- ---- the rows that are held

pub rows_count : (ids : List ℕ) (numbers : List ℤ) (i n : ℕ) → length (rows_from ids numbers i n) ≡ n
rows_count ids numbers i zero = ap length (rows_from_none ids numbers i)
rows_count ids numbers i (suc n) = ap length (rows_from_more ids numbers i n) ∙ ap suc (rows_count ids numbers (suc i) n)

rows_six : (ids : List ℕ) (numbers : List ℤ) (i n : ℕ) → 9 * (i + n) ≤ length numbers → AllSix (rows_from ids numbers i n)
rows_six ids numbers i zero h = rw (rows_from_none ids numbers i) tt
rows_six ids numbers i (suc n) h =
    let long : length (take 6 (drop (9 * i + 2) numbers)) ≡ 6 = length-take-le 6 (drop (9 * i + 2) numbers) (omega (arith, length-drop (9 * i + 2) numbers)) in
    let first : Six (row_at ids numbers i) = rw (row_at_is ids numbers i) long in
    rw (rows_from_more ids numbers i n) (first, rows_six ids numbers (suc i) n (omega arith))

-- ---- the text of what is held is read as what is held

-- eight numbers of a header
eight_read : (text : List ℕ) (h : Header) (next : ℕ) → Standing text 0 next (header_checked h) → lines_as header_of header_fields text 0 ≡ got h next
eight_read text h next stand =
    let long : length header_fields ≡ 8 = lines_long header_lines_lem in
    rw long at (lines_given_back header_of header_fields (number_lines_sound header_lines_lem) (number_lines_fit header_lines_lem) text (header_values h) 0 next (omega arith) stand)

-- a text stands in itself
whole_stands : (lines : List CheckedLine) → Unrefused lines → Standing (text_of lines) 0 (length (text_of lines)) lines
whole_stands lines all =
    let text : List ℕ = text_of lines in
    let none : drop (length text) text ≡ [] = drop_of_length-le text {i = length text} (omega arith) in
    ((rw none (sym (append-nil text)), omega arith), all)

module _ (header : List ℤ) (ids : List ℕ) (numbers : List ℤ) where
  abbrev lines : List CheckedLine
  lines = header_checked (header_held header (held_count ids numbers)) ++ rows_lines [] (held_rows ids numbers)

  lines_read : Unrefused lines → due_lines (text_of lines) ≡ got (contents_held header ids numbers) (length (text_of lines))
  lines_read all =
      let text : List ℕ = text_of lines in
      let h : Header = header_held header (held_count ids numbers) in
      let rows = held_rows ids numbers in
      let parts = standing_apart text 0 (length text) (header_checked h) (rows_lines [] rows) (whole_stands lines all) in
      let mid : ℕ = 0 + length (text_of (header_checked h)) in
      let first : lines_as header_of header_fields text 0 ≡ got h mid = eight_read text h mid parts.0 in
      let counted : length rows ≡ held_count ids numbers = rows_count ids numbers 0 (held_count ids numbers) in
      let rest : resources_at resource_at (held_count ids numbers) [] text mid ≡ got (map entry_of rows) (length text) =
      rw counted at (rows_read text rows [] mid (length text) (rows_six ids numbers 0 (held_count ids numbers) (omega (arith, held_numbers ids numbers))) parts.1) in
      due_lines_are text ∙ rw (first, rest, contents_held_are header ids numbers)

  pub held_reads :
      Unrefused (held_lines header ids numbers) → suspect_line (resources_of (contents_held header ids numbers).entries) ≡ 0 → length (held_text header ids numbers) ≤ 1048576 →
      snapshot_in (held_text header ids numbers) ≡ read (contents_held header ids numbers).header (contents_held header ids numbers).entries
  held_reads all fine short =
      let same : held_text header ids numbers ≡ text_of lines = held_text_is header ids numbers ∙ ap text_of (held_lines_are header ids numbers) in
      let due = lines_read (rw (held_lines_are header ids numbers) at all) in
      subst⁻¹ (λ (text : List ℕ). snapshot_in text ≡ read (contents_held header ids numbers).header (contents_held header ids numbers).entries) same
      (case_whole (text_of lines) (rw same at short) due (omega arith) fine)

-- ---- a text that was read is that of its header and of the rows of its resources

-- eight numbers are those of the header that they make
eight_back : (values : List ℤ) → length values ≡ 8 → header_values (header_of values) ≡ values
eight_back [] e = absurd (omega arith)
eight_back (a ∷ []) e = absurd (omega arith)
eight_back (a ∷ b ∷ []) e = absurd (omega arith)
eight_back (a ∷ b ∷ c ∷ []) e = absurd (omega arith)
eight_back (a ∷ b ∷ c ∷ d ∷ []) e = absurd (omega arith)
eight_back (a ∷ b ∷ c ∷ d ∷ f ∷ []) e = absurd (omega arith)
eight_back (a ∷ b ∷ c ∷ d ∷ f ∷ g ∷ []) e = absurd (omega arith)
eight_back (a ∷ b ∷ c ∷ d ∷ f ∷ g ∷ h ∷ []) e = absurd (omega arith)
eight_back (a ∷ b ∷ c ∷ d ∷ f ∷ g ∷ h ∷ i ∷ []) e = refl
eight_back (a ∷ b ∷ c ∷ d ∷ f ∷ g ∷ h ∷ i ∷ j ∷ rest) e = absurd (omega arith)

-- the lines of a header and of entries
abbrev pub lines_of : Header → List Entry → List CheckedLine
lines_of h entries = header_checked h ++ rows_lines [] (map row_of_entry entries)

pub record TextIsWritten (text : List ℕ) (h : Header) (entries : List Entry) : Type 0 where
  pub bytes : text ≡ text_of (lines_of h entries)
  pub unrefused : Unrefused (lines_of h entries)
  pub valid : ValidEntries entries

due_written : (text : List ℕ) (found : Contents) (next : ℕ) → due_lines text ≡ got found next → length text ≤ next → TextIsWritten text found.header found.entries
due_written text found next due over =
    let f = followed (lines_as header_of header_fields text 0) (λ h after. after_header text h after) (sym (due_lines_are text) ∙ due) in
    let h : Header = f.one in
    let g = followed (resources_at resource_at (nat_abs h.count) [] text f.after) (λ entries last. got (record { header = h; entries = entries }) last) f.then in
    let same : record { header = h; entries = g.one } ≡ found = cc g.then in
    let last : g.after ≡ next = cc g.then in
    let given = lines_taken header_of header_fields (number_lines_sound header_lines_lem) text 0 f.after f.given in
    let values : given.values ≡ header_values h = sym (eight_back given.values (given.long ∙ lines_long header_lines_lem)) ∙ ap header_values given.made in
    let rest = entries_written text (nat_abs h.count) [] f.after g.given in
    let stands : Standing text 0 g.after (lines_of h g.one) =
    standing_both text 0 g.after (header_checked h) (rows_lines [] (map row_of_entry g.one)) f.after (rw values at given.stand) rest.0 in
    let none : drop g.after text ≡ [] = drop_of_length-le text {i = g.after} (omega (arith, last)) in
    subst (λ (contents : Contents). TextIsWritten text contents.header contents.entries) same
    (record { bytes = stands.0.0 ∙ rw none (append-nil (text_of (lines_of h g.one))); unrefused = stands.1; valid = rest.1 })

pub read_written : (text : List ℕ) (h : Header) (entries : List Entry) → snapshot_in text ≡ read h entries → TextIsWritten text h entries
read_written text h entries p = go (snapshot_in text) (snapshot_case text) p
  where
    go : (a : SnapshotAnswer) → SnapshotCase text a → a ≡ read h entries → TextIsWritten text h entries
    go a (too_long long) p = let z : ◌≡◌ {A = ℕ} 0 1 = cc in absurd (omega arith)
    go a (line_refused short due) p = let z : ◌≡◌ {A = ℕ} 0 1 = cc in absurd (omega arith)
    go a (bytes_after short due more) p = let z : ◌≡◌ {A = ℕ} 0 1 = cc in absurd (omega arith)
    go a (suspect_number short due over marked) p = let z : ◌≡◌ {A = ℕ} 0 1 = cc in absurd (omega arith)
    go a (whole {found} {next} short due over fine) p =
        let h_is : found.header ≡ h = cc in
        let entries_is : found.entries ≡ entries = cc in
        subst (λ (h : Header). TextIsWritten text h entries) h_is (subst (λ (entries : List Entry). TextIsWritten text found.header entries) entries_is (due_written text found next due over))
