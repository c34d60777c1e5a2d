-- A number that lies from low to high.
use Rattle.std.specs.Prelude.{Bool, ◌&&◌, ℤ}
use Rattle.std.specs.Int.Signed.{le_z}

abbrev pub within : ℤ → ℤ → ℤ → Bool
within low high z = le_z low z && le_z z high
