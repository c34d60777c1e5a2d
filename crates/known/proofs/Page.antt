-- The known rows of the page hold, by computation.
use mathlib.Core.Path.{refl}
use Rattle.normal.specs.Knot.{knot}
use Rattle.normal.specs.Normal.{interpolated, upper, normal}
use Rattle.text_number.specs.Number.{digits_within, written_number}
use Rattle.text_writer.specs.Row.{aligned_right, padded_right}
use Rattle.curve_group.specs.Season.{group_season, group_block}
use Rattle.curve_probability.specs.Probability.{offline_probability}
use Rattle.curve_page.specs.Page.{season_name, probability_above, page_row}
use Rattle.known.specs.Statement.{AllHold}
use Rattle.known.specs.Page.{page_values}

pub page_values_lem : AllHold page_values
unfolding page_values page_row season_name probability_above group_season group_block aligned_right padded_right written_number digits_within offline_probability normal upper interpolated knot
page_values_lem = refl
