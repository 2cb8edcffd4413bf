-- Shares as they are told: in per cent, with six digits after the point at most.
use Rattle.std.specs.Prelude.{ℕ, ◌+◌, ◌/◌, ◌%◌, ◌==◌, if◌then◌else◌, List, ◌++◌, decimal}
use Rattle.convoy_times.specs.Measures.{fraction}

-- a share in millionths of a per cent, of which each has ten billionths, rounded up
abbrev pub millionths_of : ℕ → ℕ
millionths_of billionths = billionths / 10 + (if billionths % 10 == 0 then 0 else 1)

-- so many millionths as a number of per cent
unfoldable pub told_millionths : ℕ → List ℕ
told_millionths millionths = decimal (millionths / 1000000) ++ fraction 1000000 (millionths % 1000000)

-- a share as a number of per cent
abbrev pub percent_of : ℕ → List ℕ
percent_of billionths = told_millionths (millionths_of billionths)
