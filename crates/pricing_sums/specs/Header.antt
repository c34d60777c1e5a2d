-- Document 01, "Snapshot to reserves": the header's numbers, and their ranges.
use Rattle.std.specs.Prelude.{ℕ, suc, List, [], ◌∷◌, map, ℤ, pos, neg_ℤ, get_or, cond}
use Rattle.text_refusal.specs.Bytes.{bytes}
use Rattle.integer.specs.Range.{within}
use Rattle.pricing_sums.specs.declared.header.Header.{Header}

-- one line of the header: its key with `=`, and the least and the greatest number
pub record HeaderLine : Type 0 where
  pub key : List ℕ
  pub low : ℤ
  pub high : ℤ

-- the header's lines: `month`, `hour`, `lambda` ±2000000, `factor` 0..10000, `prc` and `eea1` 0..200000000, `short` 0..200000000, `count` 0..4096
abbrev pub header_lines : List HeaderLine
header_lines =
    record { key = bytes "month="; low = pos 1; high = pos 12 }
    ∷ record { key = bytes "hour="; low = pos 0; high = pos 23 }
    ∷ record { key = bytes "lambda="; low = neg_ℤ (pos 2000000); high = pos 2000000 }
    ∷ record { key = bytes "factor="; low = pos 0; high = pos 10000 }
    ∷ record { key = bytes "prc="; low = pos 0; high = pos 200000000 }
    ∷ record { key = bytes "eea1="; low = pos 0; high = pos 200000000 }
    ∷ record { key = bytes "short="; low = pos 0; high = pos 200000000 }
    ∷ record { key = bytes "count="; low = pos 0; high = pos 4096 }
    ∷ []

-- the least and the greatest number of the line at a place, the first being 0
abbrev pub low_at : ℕ → ℤ
low_at place = get_or (map (λ (due : HeaderLine). due.low) header_lines) place (pos 0)

abbrev pub high_at : ℕ → ℤ
high_at place = get_or (map (λ (due : HeaderLine). due.high) header_lines) place (pos 0)

-- a header's numbers in the order of its lines
abbrev pub header_values : Header → List ℤ
header_values h = h.month ∷ h.hour ∷ h.lambda ∷ h.factor ∷ h.prc ∷ h.eea1 ∷ h.short ∷ h.count ∷ []

-- the first of some numbers that is out of its range, by its line; 0 where there is none
unfoldable pub fault_from : ℕ → List HeaderLine → List ℤ → ℕ
fault_from line [] values = 0
fault_from line (due ∷ lines) [] = 0
fault_from line (due ∷ lines) (z ∷ values) = cond (within due.low due.high z) (fault_from (suc line) lines values) line

-- numbers handed in may be any: the line of the first header number out of its range (7), or 0
unfoldable pub header_fault : Header → ℕ
header_fault h = fault_from 1 header_lines (header_values h)
