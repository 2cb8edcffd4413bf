-- Worked rows: ceilings through outages, computed from the definition alone.
use Rattle.std.proofs.Common.{◌≡◌, ℕ, Bool, nat_le, nat_lt, ◌&&◌, refl}
use Rattle.convoy_scenario.proofs.RowScenarios.{message, base, base_with}
use Rattle.convoy_outages.specs.Outages.{silent_ticks, worked_ticks}
use Rattle.convoy_outages.specs.OutageCeiling.{outage_ceiling_at, worked_ceiling_at}

-- t takes 6 ticks to its commit at a, and so does whatever it waits for
of_t_at_a : worked_ceiling_at base 1 0 ≡ 12
unfolding base_with message worked_ceiling_at
of_t_at_a = refl

-- at b another message of the kind of t may have been issued as late as t is committed, so all of its 6 ticks count: without outages 5 of them did
of_t_at_b : worked_ceiling_at base 1 1 ≡ 12
unfolding base_with message worked_ceiling_at
of_t_at_b = refl

-- x takes 3 ticks, and may wait 6 for t
of_x : worked_ceiling_at base 0 1 ≡ 9
unfolding base_with message worked_ceiling_at
of_x = refl

-- outages of 50 ticks cost 50 ticks, and not four times as many
through_fifty : outage_ceiling_at base 50 1 0 ≡ 62
unfolding base_with message worked_ceiling_at
through_fifty = refl

-- from tick 3 on five ticks are silent
five_silent : ℕ → Bool
five_silent tick = nat_le 3 tick && nat_lt tick 8

silent_of_ten : silent_ticks five_silent 0 10 ≡ 5
unfolding silent_ticks five_silent
silent_of_ten = refl

worked_of_ten : worked_ticks five_silent 0 10 ≡ 5
unfolding worked_ticks five_silent
worked_of_ten = refl

-- of three ticks that begin in the outage one is worked
worked_past_it : worked_ticks five_silent 6 9 ≡ 1
unfolding worked_ticks five_silent
worked_past_it = refl
