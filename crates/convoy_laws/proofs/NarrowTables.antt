-- Bounds over narrower tables: no more rivals, none of which is committed later.
use Rattle.std.proofs.Common.{◌≡◌, ℕ, ◌≤◌, nat_le, nat_lt, Bool, true, not, inl, inr, List, ◌∷◌, map, filter, subst, arith}
use Rattle.std.proofs.lemmas.Bool.{cases_Bool, both_ways, not-true, not_from_false}
use Rattle.std.proofs.lemmas.Bool.Decides.{nat_tests}
use Rattle.convoy_scenario.specs.Scenario.{Scenario, GoesTo}
use Rattle.convoy_scenario.specs.WellFormed.{IsScenario}
use Rattle.convoy_sim.specs.Times.{greatest}
use Rattle.convoy_sim.specs.Delivery.{addressed_to}
use Rattle.convoy_sim.proofs.Membership.{IsIn, in-filter, in_of_filter, in_greatest, greatest_most}
use Rattle.convoy_sim.proofs.Addressed.{goes_of_addressed}
use Rattle.convoy_intervals.specs.Bounds.{Tables, rivals, plain_bound_over}
use Rattle.convoy_stamps.specs.StampBounds.{bound_by}
use Rattle.convoy_laws.specs.Narrower.{AreNarrower}

-- ---- comparisons of numbers that lie further apart
pub le_apart : (a b low high : ℕ) → low ≤ a → b ≤ high → nat_le a b ≡ true → nat_le low high ≡ true
le_apart a b low high l h t = grind (arith, nat_tests, l, h, t)

pub lt_apart : (a b low high : ℕ) → low ≤ a → b ≤ high → nat_lt a b ≡ true → nat_lt low high ≡ true
lt_apart a b low high l h t = grind (arith, nat_tests, l, h, t)

module _ (scenario : Scenario) (outer inner : Tables) (well : IsScenario scenario) (narrow : AreNarrower scenario outer inner) where
  pub rival_too : (n : ℕ) → IsIn n (rivals scenario inner) → GoesTo scenario n scenario.target_group × IsIn n (rivals scenario outer)
  rival_too n i =
      let t : ℕ = scenario.target_message in
      let g : ℕ = scenario.target_group in
      let r = in_of_filter (λ k. nat_le (inner.least_arrival k g) (inner.greatest_settling t g)) n (addressed_to scenario g) i in
      let goes = goes_of_addressed scenario n g r.0 in (
        goes,
        in-filter (λ k. nat_le (outer.least_arrival k g) (outer.greatest_settling t g)) n (addressed_to scenario g) r.0
            (le_apart (inner.least_arrival n g) (inner.greatest_settling t g) (outer.least_arrival n g) (outer.greatest_settling t g) (narrow.arrival_low n g goes) (narrow.settling_high t g well.addressed) r.1),
      )

  -- the last commit of fewer messages, each of which is committed no later
  last_falls : (ns ks : List ℕ) → ((n : ℕ) → IsIn n ns → GoesTo scenario n scenario.target_group × IsIn n ks)
      → greatest (map (λ n. inner.greatest_settling n scenario.target_group) ns) ≤ greatest (map (λ n. outer.greatest_settling n scenario.target_group) ks)
  last_falls ns ks more =
      let g : ℕ = scenario.target_group in
      greatest_most (λ n. inner.greatest_settling n g) (greatest (map (λ n. outer.greatest_settling n g) ks)) ns (λ n i.
      let there = more n i in
      let here = narrow.settling_high n g there.0 in
      let most = in_greatest (λ k. outer.greatest_settling k g) n ks there.1 in
      omega arith)

  pub plain_falls : plain_bound_over scenario inner ≤ plain_bound_over scenario outer
  plain_falls =
      let t : ℕ = scenario.target_message in
      let g : ℕ = scenario.target_group in
      let last = last_falls (t ∷ rivals scenario inner) (t ∷ rivals scenario outer) (λ n i. elim i [
        | inl e ↦ (subst (λ k. GoesTo scenario k g) e well.addressed, inl e)
        | inr j ↦ let r = rival_too n j in (r.0, inr r.1)
      ]) in
      omega (arith, last)

  -- where the inner tables leave out each message that the outer ones leave out
  pub bound_falls : (leaves leaves' : ℕ → Bool) → ((n : ℕ) → GoesTo scenario n scenario.target_group → leaves n ≡ true → leaves' n ≡ true)
      → bound_by scenario inner leaves' ≤ bound_by scenario outer leaves
  bound_falls leaves leaves' too =
      let t : ℕ = scenario.target_message in
      let g : ℕ = scenario.target_group in
      let last = last_falls (t ∷ filter (λ n. not (leaves' n)) (rivals scenario inner)) (t ∷ filter (λ n. not (leaves n)) (rivals scenario outer)) (λ n i. elim i [
        | inl e ↦ (subst (λ k. GoesTo scenario k g) e well.addressed, inl e)
        | inr j ↦
            let f = in_of_filter (λ k. not (leaves' k)) n (rivals scenario inner) j in
            let r = rival_too n f.0 in (
              r.0,
              inr (in-filter (λ k. not (leaves k)) n (rivals scenario outer) r.1 (elim (cases_Bool (leaves n)) [
                | inl out ↦ absurd (both_ways (leaves' n) (not-true (leaves' n) f.1) (too n r.0 out))
                | inr kept ↦ not_from_false (leaves n) kept
              ])),
            )
      ]) in
      omega (arith, last)
