-- The messages that a link counts are messages of the scenario.
use Rattle.std.proofs.Common.{ℕ, ◌<◌, ◌==◌, not, length, get_or, filter, All}
use Rattle.std.proofs.lemmas.List.Elements.{All-filter, Contains-get_or}
use Rattle.convoy_scenario.specs.Scenario.{Scenario}
use Rattle.convoy_sim.specs.Times.{Tick}
use Rattle.convoy_sim.specs.Delivery.{addressed_to}
use Rattle.convoy_sim.proofs.Membership.{in_of_contains}
use Rattle.convoy_sim.proofs.Addressed.{goes_of_addressed, number_of_goes}
use Rattle.convoy_intervals.specs.Bounds.{Tables}
use Rattle.convoy_starts.specs.Starts.{arrivals_since, may_arrive}

module _ (scenario : Scenario) where
  abbrev pub IsKnown : ℕ → Type 0
  IsKnown z = z < length scenario.multicasts

  addressed_known : (g : ℕ) → All IsKnown (addressed_to scenario g)
  addressed_known g k d l =
      let zs = addressed_to scenario g in
      let z = get_or zs k d in
      number_of_goes scenario z g (goes_of_addressed scenario z g (in_of_contains z zs (Contains-get_or zs k d l)))

  -- the messages that a link counts where no commit raised the clock, and where one did
  pub arrivals_known : (tables : Tables) (tick : Tick) (q h : ℕ) (since : Tick) → All IsKnown (arrivals_since scenario tables tick q h since)
  arrivals_known tables tick q h since = All-filter (may_arrive scenario.time tables tick q h since) IsKnown (addressed_to scenario h) (addressed_known h)

  pub others_known : (tables : Tables) (tick : Tick) (q h : ℕ) (since : Tick) (c : ℕ)
      → All IsKnown (filter (λ z. not (z == c)) (arrivals_since scenario tables tick q h since))
  others_known tables tick q h since c = All-filter (λ z. not (z == c)) IsKnown (arrivals_since scenario tables tick q h since) (arrivals_known tables tick q h since)
