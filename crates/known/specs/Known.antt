-- Document 01, "Known values", and those of document 02: all of them in one list.
use Rattle.std.specs.Prelude.{List, ◌++◌, ℤ}
use Rattle.known.specs.Probability.{table_values}
use Rattle.known.specs.Settling.{settled_values}
use Rattle.known.specs.Pricing.{priced_values}
use Rattle.known.specs.Page.{page_values}
use Rattle.known.specs.Group.{group_values}
use Rattle.known.specs.Held.{held_values}
use Rattle.known.specs.Length.{length_values}
use Rattle.known.specs.Marks.{marked_values, marked_texts, marked_held}

abbrev pub all_known_values : List (List ℤ × List ℤ)
all_known_values = table_values ++ (settled_values ++ (priced_values ++ (page_values ++ (group_values ++ (held_values ++ (length_values ++ (marked_values ++ (marked_texts ++ marked_held))))))))
