-- When the rounds of a reach may end: as soon as one adds no pair.
use Rattle.std.proofs.Common.{◌≡◌, ℕ, ◌+◌, ◌-◌, ◌<◌, suc, List, length, filter, sym, ap, ◌∙◌, arith}
use Rattle.convoy_scenario.specs.Scenario.{Scenario, GoesTo}
use Rattle.convoy_intervals.specs.Bounds.{Tables}
use Rattle.convoy_stamps.specs.declared.pair.Pair.{Pair}
use Rattle.convoy_stamps.specs.Closures.{is_follower, reached_after}
use Rattle.convoy_stamps.specs.Reach.{pair_of, pairs_of, follows, reach_of}
use Rattle.convoy_stamps.proofs.Closed.{stable}
use Rattle.convoy_stamps.proofs.Pairs.{in-pairs}
use Rattle.convoy_stamps.proofs.StampReach.{follows_itself}

module _ (scenario : Scenario) (tables : Tables) (m g : ℕ) (goes : GoesTo scenario m g) (pairs reached : List Pair) (round : ℕ) (same : pairs ≡ pairs_of scenario)
    (so_far : reached ≡ reached_after (follows scenario tables m) pairs (pair_of m g) (suc round)) where
  after : ℕ → List Pair
  after rounds = reached_after (follows scenario tables m) (pairs_of scenario) (pair_of m g) rounds

  reached_is : reached ≡ after (suc round)
  unfolding after
  reached_is = so_far ∙ ap (λ ps. reached_after (follows scenario tables m) ps (pair_of m g) (suc round)) same

  -- the next round has as many pairs, so all later ones are the same
  pub stops : (next : List Pair) → next ≡ filter (is_follower (follows scenario tables m) reached) pairs → length next ≡ length reached
      → round < length pairs → length reached ≡ length (reach_of scenario tables m g)
  unfolding after reach_of
  stops next is long more =
      let follow : List Pair → List Pair → List Pair = λ some ps. filter (is_follower (follows scenario tables m) some) ps in
      let next_is : next ≡ after (suc (suc round)) = is ∙ ap (follow reached) same ∙ ap (λ some. follow some (pairs_of scenario)) reached_is in
      let size : length pairs ≡ length (pairs_of scenario) = ap length same in
      let left : ℕ = length (pairs_of scenario) - round in
      let all : round + left ≡ length (pairs_of scenario) = omega arith in
      let still = stable (follows scenario tables m) (follows_itself scenario tables m) (pairs_of scenario) (pair_of m g) (in-pairs scenario (pair_of m g) goes)
      round left (sym (ap length next_is) ∙ long ∙ ap length reached_is) in
      ap length (reached_is ∙ sym still) ∙ ap (λ k. length (after (suc k))) all

  -- all rounds are over
  pub ends : length pairs ≡ round → length reached ≡ length (reach_of scenario tables m g)
  unfolding after reach_of
  ends last =
      let all : round ≡ length (pairs_of scenario) = sym last ∙ ap length same in
      ap length reached_is ∙ ap (λ k. length (after (suc k))) all
