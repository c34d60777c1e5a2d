-- All known values hold together.
use mathlib.Core.Path.{◌≡◌, refl, sym, ap, ap₂, ◌∙◌}
use mathlib.Core.List.{List, [], ◌∷◌, ◌++◌, map}
use lib.IntN.{ℤ}
use Rattle.known.specs.Statement.{AllHold}
use Rattle.known.specs.Probability.{table_values}
use Rattle.known.specs.Settling.{settled_values}
use Rattle.known.specs.Pricing.{priced_values}
use Rattle.known.specs.Page.{page_values}
use Rattle.known.specs.Group.{group_values}
use Rattle.known.specs.Held.{held_values}
use Rattle.known.specs.Length.{length_values}
use Rattle.known.specs.Marks.{marked_values, marked_texts, marked_held}
use Rattle.known.specs.Known.{all_known_values}
use Rattle.known.proofs.Probability.{table_values_lem}
use Rattle.known.proofs.Settling.{settled_values_lem}
use Rattle.known.proofs.Pricing.{priced_values_lem}
use Rattle.known.proofs.Page.{page_values_lem}
use Rattle.known.proofs.Group.{group_values_lem}
use Rattle.known.proofs.Held.{held_values_lem}
use Rattle.known.proofs.Length.{length_values_lem}
use Rattle.known.proofs.Marks.{marked_values_lem, marked_texts_lem, marked_held_lem}

map-append : {A B : Type 0} (f : A → B) (xs ys : List A) → map f (xs ++ ys) ≡ map f xs ++ map f ys
map-append f [] ys = refl
map-append f (x ∷ xs) ys = ap (◌∷◌ (f x)) (map-append f xs ys)

-- two lists that hold make one
all_append : (first second : List (List ℤ × List ℤ)) → AllHold first → AllHold second → AllHold (first ++ second)
all_append first second e f = map-append _ first second ∙ ap₂ ◌++◌ e f ∙ sym (map-append _ first second)

pub all_known_values_lem : AllHold all_known_values
all_known_values_lem =
    all_append table_values (settled_values ++ (priced_values ++ (page_values ++ (group_values ++ (held_values ++ (length_values ++ (marked_values ++ (marked_texts ++ marked_held)))))))) table_values_lem
    (all_append settled_values (priced_values ++ (page_values ++ (group_values ++ (held_values ++ (length_values ++ (marked_values ++ (marked_texts ++ marked_held))))))) settled_values_lem
    (all_append priced_values (page_values ++ (group_values ++ (held_values ++ (length_values ++ (marked_values ++ (marked_texts ++ marked_held)))))) priced_values_lem
    (all_append page_values (group_values ++ (held_values ++ (length_values ++ (marked_values ++ (marked_texts ++ marked_held))))) page_values_lem
    (all_append group_values (held_values ++ (length_values ++ (marked_values ++ (marked_texts ++ marked_held)))) group_values_lem
    (all_append held_values (length_values ++ (marked_values ++ (marked_texts ++ marked_held))) held_values_lem
    (all_append length_values (marked_values ++ (marked_texts ++ marked_held)) length_values_lem
    (all_append marked_values (marked_texts ++ marked_held) marked_values_lem (all_append marked_texts marked_held marked_texts_lem marked_held_lem))))))))
