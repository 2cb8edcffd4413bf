-- A bound over some of the rivals: those may be left out that are not ahead of the target.
use Rattle.std.proofs.Common.{ℕ, ◌≤◌, Bool, not, nat_le, inl, inr, List, ◌∷◌, map, subst, arith}
use Rattle.std.specs.List.{filter}
use Rattle.std.proofs.lemmas.Bool.{le-leb, not_from_false}
use Rattle.convoy_scenario.specs.Scenario.{Scenario, GoesTo}
use Rattle.convoy_scenario.specs.WellFormed.{IsScenario}
use Rattle.convoy_packets.specs.Assignment.{Schedule}
use Rattle.convoy_sim.specs.Times.{greatest, arrive, settle}
use Rattle.convoy_sim.specs.Delivery.{addressed_to, latency_at, latency_of}
use Rattle.convoy_sim.specs.ProtocolLaws.{ahead_of, DeliveryLaw, EarlierArrivesBeforeCommit}
use Rattle.convoy_sim.proofs.Membership.{IsIn, in-filter, in_of_filter, in_greatest, greatest_most, greatest_of_fewer}
use Rattle.convoy_sim.proofs.Addressed.{in-addressed, in_of_ahead}
use Rattle.convoy_intervals.specs.Bounds.{Tables, Encloses, tables_of, rivals, plain_bound_over, plain_bound}
use Rattle.convoy_stamps.specs.StampBounds.{bound_by, is_surely_behind, stamp_bound}
use Rattle.convoy_stamps.specs.StampBoundLaws.{KeepsThoseAhead, StampBoundAtMostPlain}

module _ (delivery : DeliveryLaw) (earlier : EarlierArrivesBeforeCommit) (scenario : Scenario) (schedule : Schedule) (tables : Tables) (leaves_out : ℕ → Bool) (well : IsScenario scenario) (enclosed : Encloses scenario schedule tables) (keeps : KeepsThoseAhead scenario schedule leaves_out) where
  -- the target and the rivals that are not left out
  kept : List ℕ
  kept = scenario.target_message ∷ filter (λ n. not (leaves_out n)) (rivals scenario tables)

  kept_ahead : (n : ℕ) → IsIn n (ahead_of scenario schedule scenario.target_message scenario.target_group) → IsIn n kept
  unfolding kept
  kept_ahead n i =
      let t : ℕ = scenario.target_message in
      let g : ℕ = scenario.target_group in
      let r = in_of_ahead scenario schedule n t g i in
      let low : tables.least_arrival n g ≤ arrive scenario schedule n g = enclosed.arrival_low n g r.0 in
      let come : arrive scenario schedule n g ≤ settle scenario schedule t g = earlier scenario schedule well n t g r.0 well.addressed r.1 in
      let last : settle scenario schedule t g ≤ tables.greatest_settling t g = enclosed.settling_high t g well.addressed in
      inr (in-filter (λ k. not (leaves_out k)) n (rivals scenario tables)
      (in-filter (λ k. nat_le (tables.least_arrival k g) (tables.greatest_settling t g)) n (addressed_to scenario g)
      (in-addressed scenario n g r.0) (le-leb (tables.least_arrival n g) (tables.greatest_settling t g) (omega arith)))
      (not_from_false (leaves_out n) (keeps n r.0 r.1)))

  committed_by : (n : ℕ) → IsIn n (scenario.target_message ∷ ahead_of scenario schedule scenario.target_message scenario.target_group)
      → settle scenario schedule n scenario.target_group ≤ greatest (map (λ k. tables.greatest_settling k scenario.target_group) kept)
  unfolding kept
  committed_by n i =
      let t : ℕ = scenario.target_message in
      let g : ℕ = scenario.target_group in
      let goes : GoesTo scenario n g = elim i [
        | inl e ↦ subst (λ k. GoesTo scenario k g) e well.addressed
        | inr j ↦ (in_of_ahead scenario schedule n t g j).0
      ] in
      let there : IsIn n kept = elim i [ inl e ↦ inl e | inr j ↦ kept_ahead n j ] in
      let high : settle scenario schedule n g ≤ tables.greatest_settling n g = enclosed.settling_high n g goes in
      let most : tables.greatest_settling n g ≤ greatest (map (λ k. tables.greatest_settling k g) kept) =
      in_greatest (λ k. tables.greatest_settling k g) n kept there in
      omega arith

  pub bound_holds : latency_of scenario schedule ≤ bound_by scenario tables leaves_out
  unfolding latency_of latency_at kept
  bound_holds =
      let t : ℕ = scenario.target_message in
      let g : ℕ = scenario.target_group in
      let all = greatest_most (λ n. settle scenario schedule n g) (greatest (map (λ k. tables.greatest_settling k g) kept))
      (t ∷ ahead_of scenario schedule t g) committed_by in
      omega (arith, delivery scenario schedule well t g well.addressed)

-- a bound over fewer rivals is no greater than that over all
bound_by_le : (scenario : Scenario) (tables : Tables) (leaves_out : ℕ → Bool) → bound_by scenario tables leaves_out ≤ plain_bound_over scenario tables
bound_by_le scenario tables leaves_out =
    let t : ℕ = scenario.target_message in
    let fewer = greatest_of_fewer (λ n. tables.greatest_settling n scenario.target_group)
    (t ∷ filter (λ n. not (leaves_out n)) (rivals scenario tables)) (t ∷ rivals scenario tables)
    (λ n i. elim i [ inl e ↦ inl e | inr j ↦ inr (in_of_filter (λ k. not (leaves_out k)) n (rivals scenario tables) j).0 ]) in
    omega arith

pub at_most_plain : StampBoundAtMostPlain
unfolding stamp_bound plain_bound
at_most_plain scenario ranges = bound_by_le scenario (tables_of scenario ranges) (is_surely_behind scenario (tables_of scenario ranges))
