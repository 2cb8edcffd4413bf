-- Worked rows: what some texts tell as a duration, and the unit of a duration.
use Rattle.std.proofs.Common.{◌≡◌, [], ◌∷◌, map, replicate, refl, Some, None, codes}
use Rattle.convoy_draft.specs.declared.duration.TimeUnit.TheVariants.{Microseconds}
use Rattle.convoy_draft.specs.Durations.{count_of, duration_of, unit_of}

-- whole units, with a space and without, parts of units, and parts that are nothing
durations : map duration_of (codes "80 ms" ∷ codes "250us" ∷ codes "0.35 ms" ∷ codes "2.000 ns" ∷ [])
    ≡ Some 80000000 ∷ Some 250000 ∷ Some 350000 ∷ Some 2 ∷ []
unfolding duration_of
durations = refl

-- parts of a nanosecond, no unit, one that is not known, a negative number, no digit after the point, two points, and what is too long
no_durations : map duration_of (codes "0.5 ns" ∷ codes "80" ∷ codes "80 min" ∷ codes "-1 ms" ∷ codes "1. ms" ∷ codes "1.2.3 s" ∷ codes "1000001 s" ∷ [])
    ≡ replicate 7 None
unfolding duration_of
no_durations = refl

-- a tick of 1.5 ms is 1500 us
unit_of_tick : (count_of 1500000 ≡ 1500) × (unit_of 1500000 ≡ Microseconds)
unit_of_tick = (refl, refl)
