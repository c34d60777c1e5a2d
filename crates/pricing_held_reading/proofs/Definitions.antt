-- The definitions of the rows that a text is read into and of how reading ends, step by step, for the proofs of crates above.
use Prim.Native.Nat.{ℕ, ◌-◌}
use mathlib.Core.List.{List, [], ◌∷◌, ◌++◌}
use mathlib.Core.Path.{◌≡◌, refl}
use lib.IntN.{ℤ, pos}
use lib.ListN.{length, replicate}
use Rattle.pricing_resource.specs.declared.Generator.{Generator}
use Rattle.pricing_resource.specs.declared.Controllable.{Controllable}
use Rattle.pricing_resource.specs.declared.Load.{Load}
use Rattle.pricing_resource.specs.declared.Resource.TheVariants as resource
use Rattle.pricing_snapshot.specs.Snapshot.{Entry, snapshot_in}
use Rattle.pricing_held.specs.Rows.{held_count}
use Rattle.pricing_held_reading.specs.Reading.{kind_place, status_place, id_row, number_row, id_rows, number_rows, reading_answer, reading_held}

pub id_row_is : (id : List ℕ) → id_row id ≡ id ++ replicate (32 - length id) 0
unfolding id_row
id_row_is id = refl

pub generator_row : (g : Generator) →
    number_row (resource.Generator g) ≡ kind_place g.kind ∷ status_place g.status ∷ g.net ∷ g.lsl ∷ g.hsl ∷ g.base ∷ g.nonspin ∷ g.cold30 ∷ pos g.marks ∷ []
unfolding number_row
generator_row g = refl

pub controllable_row : (c : Controllable) → number_row (resource.Controllable c) ≡ pos 4 ∷ pos 0 ∷ c.base ∷ c.lpc ∷ c.nonspin ∷ c.regup ∷ pos 0 ∷ pos 0 ∷ pos c.marks ∷ []
unfolding number_row
controllable_row c = refl

pub load_row : (l : Load) → number_row (resource.Load l) ≡ pos 5 ∷ pos 0 ∷ l.rrsok ∷ l.net ∷ l.lpc ∷ l.rrs ∷ pos 0 ∷ pos 0 ∷ pos l.marks ∷ []
unfolding number_row
load_row l = refl

pub id_rows_none : id_rows [] ≡ []
unfolding id_rows
id_rows_none = refl

pub number_rows_none : number_rows [] ≡ []
unfolding number_rows
number_rows_none = refl

module _ (entry : Entry) (entries : List Entry) where
  pub id_rows_first : id_rows (entry ∷ entries) ≡ id_row entry.id ++ id_rows entries
  unfolding id_rows
  id_rows_first = refl

  pub number_rows_first : number_rows (entry ∷ entries) ≡ number_row entry.resource ++ number_rows entries
  unfolding number_rows
  number_rows_first = refl

pub reading_held_is : (text ids : List ℕ) (numbers : List ℤ) → reading_held text ids numbers ≡ reading_answer (held_count ids numbers) (snapshot_in text)
unfolding reading_held
reading_held_is text ids numbers = refl
