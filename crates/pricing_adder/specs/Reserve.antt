-- Document 01, "Snapshot to reserves": the load cap, the factor, RS and RSNS.
use Rattle.std.specs.Prelude.{ℤ, pos, ◌+ℤ◌, ◌-ℤ◌, ◌*ℤ◌, cond}
use Rattle.std.specs.Int.Signed.{le_z}
use Rattle.integer.specs.Floor.{floor_div}
use Rattle.integer.specs.Order.{min_ℤ, max_ℤ}
use Rattle.pricing_sums.specs.declared.Sums.{Sums}
use Rattle.pricing_sums.specs.declared.header.Header.{Header}

-- Twice L, so that the half kW of the cap is kept: L is the validated net less LPC, kept at zero or above in total, and at most 1.5 times the RRS of all other
-- loads
unfoldable pub twice_loads : Sums → ℤ
twice_loads s = min_ℤ (pos 2 *ℤ max_ℤ s.validated (pos 0)) (pos 3 *ℤ s.responsive)

-- twice G + C + L
unfoldable pub twice_online : Sums → ℤ
twice_online s = pos 2 *ℤ (s.generation +ℤ s.controllable) +ℤ twice_loads s

-- twice G + C + L + D
unfoldable pub twice_all : Sums → ℤ
twice_all s = twice_online s +ℤ pos 2 *ℤ s.offline

-- floor(f × reserve - short), f = factor / 10000, from twice the reserve: over the common denominator 20000
unfoldable pub discounted : Header → ℤ → ℤ
discounted h twice = floor_div (h.factor *ℤ twice -ℤ pos 20000 *ℤ h.short) 20000

-- RS = floor(f × (G + C + L) - short)
unfoldable pub online_reserve : Header → Sums → ℤ
online_reserve h s = discounted h (twice_online s)

-- RSNS = floor(f × (G + C + L + D) - short) where PRC is above the PRC at which EEA Level 1 starts, else RS
unfoldable pub total_reserve : Header → Sums → ℤ
total_reserve h s = cond (le_z h.prc h.eea1) (online_reserve h s) (discounted h (twice_all s))
