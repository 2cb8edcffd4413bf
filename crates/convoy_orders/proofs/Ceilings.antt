-- The ceiling reads which messages go where and the ranges between places, and no order of groups.
use Rattle.std.proofs.Common.{◌≡◌, ℕ, ◌+◌, ◌-◌, Bool, max, if◌then◌else◌, map, fold, filter, ap, ap₂, ◌∙◌}
use Rattle.std.proofs.lemmas.List.Elements.{filter_agree}
use Rattle.convoy_scenario.specs.declared.sender.Sender.{Sender}
use Rattle.convoy_scenario.specs.declared.sender.Sender.TheVariants.{Group}
use Rattle.convoy_scenario.specs.Scenario.{Scenario, message_at, message_numbers, is_addressed}
use Rattle.convoy_sim.specs.Delivery.{addressed_to}
use Rattle.convoy_ceiling.specs.Ceiling.{ceiling_at, ceiling_of, delays_between, longest_after, longest_by, longest_from_arrival, longest_to_commit, stamp_delays}
use Rattle.convoy_orders.specs.ListedOrder.{CeilingIsSame}
use Rattle.convoy_orders.specs.Renumbered.{IsRenumbered, renumbered_sender}
use Rattle.convoy_orders.proofs.Lists.{map_same}
use Rattle.convoy_orders.proofs.SameParts.{same_greatest, same_numbers, stamp_takes_too, takes_too}

module _ (renumber back : ℕ → ℕ) (plan other : Scenario) (is : IsRenumbered renumber back plan other) where
  same_delays : (sender : Sender) (to : ℕ) → delays_between other (renumbered_sender renumber sender) (renumber to) ≡ delays_between plan sender to
  same_delays sender to =
      ap₂ (λ (b : Bool) (range : ℕ × ℕ). if b then range else (0, 0)) (takes_too renumber back plan other is sender to) (is.ranges sender to)

  same_stamps : (from to : ℕ) → stamp_delays other (renumber from) (renumber to) ≡ stamp_delays plan from to
  same_stamps from to =
      ap₂ (λ (b : Bool) (range : ℕ × ℕ). if b then range else (0, 0)) (stamp_takes_too renumber back plan other is from to) (is.ranges (Group from) to)

  sender_delays : (m to : ℕ) → delays_between other (message_at other m).sender (renumber to) ≡ delays_between plan (message_at plan m).sender to
  sender_delays m to =
      ap (λ (s : Sender). delays_between other s (renumber to)) (is.messages m).sender ∙ same_delays (message_at plan m).sender to

  same_way : (m g h : ℕ) → longest_by other (message_at other m).sender (renumber g) (renumber h) ≡ longest_by plan (message_at plan m).sender g h
  same_way m g h = ap₂ (λ (a b : ℕ × ℕ). a.1 + b.1) (sender_delays m h) (same_stamps h g)

  pub same_to_commit : (m g : ℕ) → longest_to_commit other m (renumber g) ≡ longest_to_commit plan m g
  same_to_commit m g =
      same_greatest renumber back plan other is (longest_by plan (message_at plan m).sender g) (longest_by other (message_at other m).sender (renumber g)) m
      (λ h goes. same_way m g h)

  same_from_arrival : (g m : ℕ) → longest_from_arrival other (renumber g) m ≡ longest_from_arrival plan g m
  same_from_arrival g m = ap₂ (λ (a : ℕ) (b : ℕ × ℕ). a - b.0) (same_to_commit m g) (sender_delays m g)

  same_addressed : (g : ℕ) → addressed_to other (renumber g) ≡ addressed_to plan g
  same_addressed g =
      filter_agree (λ n. is_addressed (message_at other n) (renumber g)) (λ n. is_addressed (message_at plan n) g) (λ n. (is.messages n).destinations g) (message_numbers other)
      ∙ ap (filter (λ n. is_addressed (message_at plan n) g)) (same_numbers renumber back plan other is)

  same_after : (g : ℕ) → longest_after other (renumber g) ≡ longest_after plan g
  same_after g =
      ap (λ ns. fold max 0 (map (longest_from_arrival other (renumber g)) ns)) (same_addressed g)
      ∙ ap (fold max 0) (map_same (longest_from_arrival other (renumber g)) (longest_from_arrival plan g) (addressed_to plan g) (same_from_arrival g))

  same_at : (m g : ℕ) → ceiling_at other m (renumber g) ≡ ceiling_at plan m g
  unfolding ceiling_at
  same_at m g = ap₂ ◌+◌ (same_to_commit m g) (same_after g)

pub ceiling_same : CeilingIsSame
unfolding ceiling_of
ceiling_same renumber back plan other is = (
  same_at renumber back plan other is,
  ap₂ (ceiling_at other) is.target_message is.target_group ∙ same_at renumber back plan other is plan.target_message plan.target_group,
)
