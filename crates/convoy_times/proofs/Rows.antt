-- Worked rows: how some times are told.
use Rattle.std.proofs.Common.{◌≡◌, [], ◌∷◌, map, refl, Some, None, codes}
use Rattle.std.specs.Fmt.{digits}
use Rattle.convoy_draft.specs.declared.duration.TimeUnit.TheVariants.{Seconds, Milliseconds, Microseconds}
use Rattle.convoy_times.specs.Measures.{fraction, fraction_digits, told_in_unit, told_ticks}

-- ticks of 500 us in milliseconds: whole ones, and halves
in_milliseconds : map (told_ticks (record { tick = 500000; unit = Milliseconds })) (388 ∷ 387 ∷ 1 ∷ 0 ∷ [])
    ≡ codes "194" ∷ codes "193.5" ∷ codes "0.5" ∷ codes "0" ∷ []
unfolding told_ticks fraction fraction_digits digits
in_milliseconds = refl

-- ticks of 50 us, each in two units
in_two_units : map (λ unit. told_ticks (record { tick = 50000; unit = unit }) 12) (Microseconds ∷ Seconds ∷ []) ≡ codes "600" ∷ codes "0.0006" ∷ []
unfolding told_ticks fraction fraction_digits digits
in_two_units = refl

-- the shortest tick in the longest unit: nine digits
shortest_tick : told_ticks (record { tick = 1; unit = Seconds }) 1 ≡ codes "0.000000001"
unfolding told_ticks fraction fraction_digits digits
shortest_tick = refl

-- the longest tick as often as a number of 32 bits allows
longest_ticks : told_ticks (record { tick = 1000000000000000; unit = Microseconds }) 4294967295 ≡ codes "4294967295000000000000"
unfolding told_ticks fraction fraction_digits digits
longest_ticks = refl

-- two numbers and the unit; nothing where the length of a tick is not known
words : map (λ measure. told_in_unit measure (3 ∷ 4 ∷ [])) (Some (record { tick = 250000; unit = Milliseconds }) ∷ None ∷ [])
    ≡ (codes "0.75" ∷ codes "1" ∷ codes "ms" ∷ []) ∷ [] ∷ []
unfolding told_ticks fraction fraction_digits digits
words = refl
