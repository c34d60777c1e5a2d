-- Laws on writing by a schema: no lines, one line and then the others, and lines written before others.
use native.Mathlib.Omega.{arith}
use mathlib.Core.List.{List, [], ◌∷◌, ◌++◌, append_assoc}
use mathlib.Core.Path.{◌≡◌, refl}
use lib.ListN.{length}
use Rattle.text_line.specs.Field.{Field}
use Rattle.text_schema.specs.Schema.{write_fields}

module _ {A : Type 0} where
  pub write_none : (values : List A) → write_fields [] values ≡ []
  unfolding write_fields
  write_none values = refl

  pub write_no_values : (fields : List (Field A)) → write_fields fields [] ≡ []
  unfolding write_fields
  write_no_values [] = refl
  write_no_values (field ∷ fields) = refl

  pub write_first : (field : Field A) (fields : List (Field A)) (value : A) (values : List A) → write_fields (field ∷ fields) (value ∷ values) ≡ field.key ++ field.write value ++ (10 ∷ write_fields fields values)
  unfolding write_fields
  write_first field fields value values = refl

  -- as many values as lines come first, then those of the other lines
  pub write_append :
      (fields others : List (Field A)) (values more : List A) → length values ≡ length fields →
      write_fields (fields ++ others) (values ++ more) ≡ write_fields fields values ++ write_fields others more
  unfolding write_fields
  write_append [] others [] more e = refl
  write_append [] others (value ∷ values) more e = absurd (omega arith)
  write_append (field ∷ fields) others [] more e = absurd (omega arith)
  write_append (field ∷ fields) others (value ∷ values) more e =
      rw (write_append fields others values more (omega arith)) (simp append_assoc)
