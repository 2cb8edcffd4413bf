-- No ceiling is above 4 D, as no range goes beyond D; and it is below 4 D where all that comes to the group takes a tick.
use Rattle.std.proofs.Common.{◌≡◌, ℕ, ◌-◌, ◌*◌, ◌<◌, ◌≤◌, ◌==◌, ◌&&◌, inl, inr, length, Option, Some, None, true, refl, sym, subst, arith}
use Rattle.std.specs.Option.{option_map_or}
use Rattle.std.proofs.lemmas.Bool.{cases_Bool, cond-true, cond-false}
use Rattle.convoy_scenario.specs.declared.sender.Sender.{Sender}
use Rattle.convoy_scenario.specs.declared.sender.Sender.TheVariants.{Group}
use Rattle.convoy_scenario.specs.Scenario.{Link, Scenario, GoesTo, message_at, is_same_sender, link_between, range_between, stamp_takes_time, takes_time}
use Rattle.convoy_scenario.specs.WellFormed.{IsScenario, IsLink}
use Rattle.convoy_sim.specs.Delivery.{addressed_to}
use Rattle.convoy_sim.proofs.Membership.{all-in, greatest_most, in_of_find}
use Rattle.convoy_sim.proofs.Addressed.{goes_of_addressed}
use Rattle.convoy_ceiling.specs.Ceiling.{CeilingBelowFourDelays, CeilingWithinFourDelays, ceiling_at, delays_between, longest_by, longest_to_commit, longest_from_arrival, longest_after, stamp_delays}

-- the range of a link, or of what has none
abbrev ends : Option Link → ℕ → ℕ × ℕ
ends found delay = option_map_or (λ link. (link.least, link.most)) found (1, delay)

module _ (scenario : Scenario) (well : IsScenario scenario) where
  range_within : (sender : Sender) (to : ℕ) → (1 ≤ (range_between scenario sender to).0) × ((range_between scenario sender to).1 ≤ scenario.delay)
  range_within sender to = by_link (link_between scenario.links sender to) refl where
    by_link : (found : Option Link) → link_between scenario.links sender to ≡ found → (1 ≤ (ends found scenario.delay).0) × ((ends found scenario.delay).1 ≤ scenario.delay)
    by_link None e = (omega arith, omega arith)
    by_link (Some link) e =
        let there = in_of_find (λ other. is_same_sender sender other.sender && (to == other.to)) link scenario.links e in
        let is = all-in (IsLink (length scenario.groups) (length scenario.places) scenario.delay) link scenario.links well.links there.0 in
        (is.low, is.high)

  delay_most : (sender : Sender) (to : ℕ) → (delays_between scenario sender to).1 ≤ scenario.delay
  delay_most sender to = elim (cases_Bool (takes_time scenario sender to)) [
    | inl away ↦ subst (λ (range : ℕ × ℕ). range.1 ≤ scenario.delay) (sym (cond-true _ _ _ away)) (range_within sender to).1
    | inr home ↦ subst (λ (range : ℕ × ℕ). range.1 ≤ scenario.delay) (sym (cond-false _ _ _ home)) (omega arith)
  ]

  stamp_most : (from to : ℕ) → (stamp_delays scenario from to).1 ≤ scenario.delay
  stamp_most from to = elim (cases_Bool (stamp_takes_time scenario from to)) [
    | inl away ↦ subst (λ (range : ℕ × ℕ). range.1 ≤ scenario.delay) (sym (cond-true _ _ _ away)) (range_within (Group from) to).1
    | inr home ↦ subst (λ (range : ℕ × ℕ). range.1 ≤ scenario.delay) (sym (cond-false _ _ _ home)) (omega arith)
  ]

  commit_most : (m g : ℕ) → longest_to_commit scenario m g ≤ 2 * scenario.delay
  commit_most m g = greatest_most (longest_by scenario (message_at scenario m).sender g) (2 * scenario.delay) (message_at scenario m).destinations
      (λ h i.
      let first = delay_most (message_at scenario m).sender h in
      let second = stamp_most h g in
      omega arith)

  after_most : (g : ℕ) → longest_after scenario g ≤ 2 * scenario.delay
  after_most g = greatest_most (longest_from_arrival scenario g) (2 * scenario.delay) (addressed_to scenario g)
      (λ m i. let most = commit_most m g in omega arith)

  -- a message that takes time takes a tick or more, so less is left from its arrival
  from_arrival_less : (m g : ℕ) → takes_time scenario (message_at scenario m).sender g ≡ true → longest_from_arrival scenario g m < 2 * scenario.delay
  from_arrival_less m g takes =
      let sender : Sender = (message_at scenario m).sender in
      let least : 1 ≤ (delays_between scenario sender g).0 = subst (λ (range : ℕ × ℕ). 1 ≤ range.0) (sym (cond-true _ _ _ takes)) (range_within sender g).0 in
      let most = commit_most m g in
      let some = well.delay_low in
      omega arith

  after_less : (g : ℕ) → ((n : ℕ) → GoesTo scenario n g → takes_time scenario (message_at scenario n).sender g ≡ true) → longest_after scenario g < 2 * scenario.delay
  after_less g takes =
      let some = well.delay_low in
      let most : longest_after scenario g ≤ 2 * scenario.delay - 1 =
      greatest_most (longest_from_arrival scenario g) (2 * scenario.delay - 1) (addressed_to scenario g)
      (λ m i. let less = from_arrival_less m g (takes m (goes_of_addressed scenario m g i)) in omega arith) in
      omega arith

pub within_four : CeilingWithinFourDelays
unfolding ceiling_at
within_four scenario well m g =
    let first = commit_most scenario well m g in
    let second = after_most scenario well g in
    omega arith

pub below_four : CeilingBelowFourDelays
unfolding ceiling_at
below_four scenario well g takes m =
    let first = commit_most scenario well m g in
    let second = after_less scenario well g takes in
    omega arith
