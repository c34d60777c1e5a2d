-- Document 02, W-206: on which units a number marked suspect turns the snapshot back, and at which line.
use Rattle.std.specs.Prelude.{ℕ, zero, suc, ◌+◌, ◌/◌, ◌%◌, Bool, true, false, not, ◌&&◌, ◌||◌, cond, List, [], ◌∷◌, eqb}
use Rattle.pricing_resource.specs.Online.{is_gen_or_wind, is_running, counted_online}
use Rattle.pricing_resource.specs.Offline.{counted_offline}
use Rattle.pricing_resource.specs.declared.Status.{Status}
use Rattle.pricing_resource.specs.declared.Status.TheVariants as status
use Rattle.pricing_resource.specs.declared.Resource.{Resource}
use Rattle.pricing_resource.specs.declared.Resource.TheVariants as resource

-- ---- which units

-- a unit that enters a sum: it is counted on line or off line, or is a load (the RRS of every other load is summed)
abbrev pub enters_sum : Resource → Bool
enters_sum (resource.Generator g) = counted_online g || counted_offline g.kind g.status g.cold30
enters_sum (resource.Controllable c) = true
enters_sum (resource.Load l) = true

-- or would if the 95 percent test were left out
abbrev pub would_enter_sum : Resource → Bool
would_enter_sum (resource.Generator g) = (is_gen_or_wind g.kind && is_running g.status g.nonspin) || counted_offline g.kind g.status g.cold30
would_enter_sum (resource.Controllable c) = true
would_enter_sum (resource.Load l) = true

-- any gen or wind unit in STARTUP
abbrev pub is_startup : Status → Bool
is_startup status.On = false
is_startup status.Off = false
is_startup status.OffNs = false
is_startup status.OnTest = false
is_startup status.Startup = true
is_startup status.Shutdown = false
is_startup status.Out = false

abbrev pub gen_or_wind_in_startup : Resource → Bool
gen_or_wind_in_startup (resource.Generator g) = is_gen_or_wind g.kind && is_startup g.status
gen_or_wind_in_startup (resource.Controllable c) = false
gen_or_wind_in_startup (resource.Load l) = false

-- the units on which a marked number turns the snapshot back; on any other it is fine
unfoldable pub marks_turn_back : Resource → Bool
marks_turn_back one = enters_sum one || (would_enter_sum one || gen_or_wind_in_startup one)

-- ---- at which line

abbrev pub marks : Resource → ℕ
marks (resource.Generator g) = g.marks
marks (resource.Controllable c) = c.marks
marks (resource.Load l) = l.marks

-- the resource with none of its numbers marked
abbrev pub without_marks : Resource → Resource
without_marks (resource.Generator g) =
    resource.Generator
    (record {
      kind = g.kind;
      status = g.status;
      net = g.net;
      lsl = g.lsl;
      hsl = g.hsl;
      base = g.base;
      nonspin = g.nonspin;
      cold30 = g.cold30;
      marks = 0;
    })
without_marks (resource.Controllable c) = resource.Controllable (record { base = c.base; lpc = c.lpc; nonspin = c.nonspin; regup = c.regup; marks = 0 })
without_marks (resource.Load l) = resource.Load (record { rrsok = l.rrsok; net = l.net; lpc = l.lpc; rrs = l.rrs; marks = 0 })

-- how many lines a resource has: its id, its kind, of a generator its status, and its numbers; and how many stand before its numbers
abbrev pub resource_line_count : Resource → ℕ
resource_line_count (resource.Generator g) = 9
resource_line_count (resource.Controllable c) = 6
resource_line_count (resource.Load l) = 6

abbrev pub lines_before_numbers : Resource → ℕ
lines_before_numbers (resource.Generator g) = 3
lines_before_numbers (resource.Controllable c) = 2
lines_before_numbers (resource.Load l) = 2

-- how many numbers stand before the first marked one, of at most so many and one more
unfoldable pub unmarked_before : ℕ → ℕ → ℕ
unmarked_before zero marks = 0
unmarked_before (suc n) marks = cond (eqb (marks % 2) 1) 0 (suc (unmarked_before n (marks / 2)))

-- which of a resource's lines holds its first marked number, where that turns the snapshot back, the id's being 1; 0 where it does not. A resource has at most 6
-- numbers
unfoldable pub suspect_place : Resource → ℕ
suspect_place one = cond (marks_turn_back one && not (eqb (marks one) 0)) (lines_before_numbers one + unmarked_before 5 (marks one) + 1) 0

-- the first such line of several resources, so many lines standing before them; 0 where there is none
unfoldable pub suspect_from : ℕ → List Resource → ℕ
suspect_from before [] = 0
suspect_from before (one ∷ others) = cond (eqb (suspect_place one) 0) (suspect_from (before + resource_line_count one) others) (before + suspect_place one)

-- of the resources of a snapshot: 8 lines stand before them, those of the header
abbrev pub suspect_line : List Resource → ℕ
suspect_line all = suspect_from 8 all
