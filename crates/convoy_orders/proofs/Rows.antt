-- Worked rows: a scenario with its two groups listed in either order.
use Rattle.std.proofs.Common.{◌≡◌, ℕ, ◌≤◌, zero, suc, Bool, false, ◌||◌, List, [], ◌∷◌, replicate, refl, sym, ap, ◌∙◌, arith}
use Rattle.std.specs.List.{Contains}
use Rattle.std.proofs.lemmas.Bool.{eq-eqb, ne_eqb}
use Rattle.convoy_scenario.specs.declared.sender.Sender.TheVariants.{Group}
use Rattle.convoy_scenario.specs.Scenario.{GoesTo, Scenario, is_addressed, message_at, stamp_takes_time, takes_time}
use Rattle.convoy_packets.specs.Packets.{packets_of}
use Rattle.convoy_packets.specs.Assignment.{Schedule, IsAssignment, IsWithin, delay_of, in_fixed_order, ranges_of}
use Rattle.convoy_packets.specs.Order.{no_order}
use Rattle.convoy_sim.specs.Times.{arrive, settle}
use Rattle.convoy_sim.specs.Moments.{arrival_rank, commit_rank, moments_of}
use Rattle.convoy_sim.specs.Stamps.{clocks_of, local_stamp, final_stamp}
use Rattle.convoy_sim.specs.Delivery.{holds_back, deliver, latency_at, latency_of}
use Rattle.convoy_scenario.proofs.RowScenarios.{message, base_with, base, swapped}
use Rattle.convoy_scenario.specs.Naming.{draft_for}
use Rattle.convoy_scenario.specs.WellFormed.{IsScenario}
use Rattle.convoy_scenario.proofs.GivenScenarios.{of_draft}
use Rattle.convoy_packets.proofs.Orders.{fixed_is_order}
use Rattle.convoy_sim.proofs.Membership.{contains-in}
use Rattle.convoy_sim.proofs.Addressed.{in_of_goes}
use Rattle.convoy_ceiling.specs.Ceiling.{ceiling_at, ceiling_of}
use Rattle.convoy_orders.specs.AllOrders.{IsHeldUp}
use Rattle.convoy_orders.proofs.Composed.{unchanged}
use Rattle.convoy_orders.proofs.Used.{Packets, Stamps}
use Rattle.convoy_orders.proofs.SameParts.{turned}
use Rattle.convoy_orders.proofs.Backwards.{run_here}
use Rattle.convoy_orders.proofs.Later.{same_run}
use Rattle.convoy_orders.specs.Renumbered.{IsRenumbered, IsRenumberedMessage}
use Rattle.convoy_orders.specs.ListedOrder.{IsSameRun, NoMoreAreBehind}

abbrev swap : ℕ → ℕ
swap zero = 1
swap (suc zero) = 0
swap (suc (suc g)) = suc (suc g)

swap_again : (g : ℕ) → swap (swap g) ≡ g
swap_again zero = refl
swap_again (suc zero) = refl
swap_again (suc (suc g)) = refl

both_there : (m : ℕ) → IsRenumberedMessage swap (message_at base m) (message_at swapped m)
unfolding base_with swapped message
both_there zero = record { sender = refl; destinations = λ g. of_one g; at = refl; wait = refl } where
  of_one : (g : ℕ) → is_addressed (message_at swapped 0) (swap g) ≡ is_addressed (message_at base 0) g
  of_one zero = refl
  of_one (suc zero) = refl
  of_one (suc (suc g)) = ap (λ (b : Bool). b || false) (ne_eqb 0 (suc (suc g)) (λ e. absurd (omega arith)) ∙ sym (ne_eqb 1 (suc (suc g)) (λ e. absurd (omega arith))))
both_there (suc zero) = record { sender = refl; destinations = λ g. of_two g; at = refl; wait = refl } where
  of_two : (g : ℕ) → is_addressed (message_at swapped 1) (swap g) ≡ is_addressed (message_at base 1) g
  of_two zero = refl
  of_two (suc zero) = refl
  of_two (suc (suc g)) = refl
both_there (suc (suc zero)) = record { sender = refl; destinations = λ g. of_two g; at = refl; wait = refl } where
  of_two : (g : ℕ) → is_addressed (message_at swapped 2) (swap g) ≡ is_addressed (message_at base 2) g
  of_two zero = refl
  of_two (suc zero) = refl
  of_two (suc (suc g)) = refl
both_there (suc (suc (suc m))) = record { sender = refl; destinations = λ g. refl; at = refl; wait = refl }

-- neither has a link from a group to itself
both_home : (h g : ℕ) → takes_time swapped (Group h) h ≡ takes_time base (Group g) g
unfolding base_with swapped message
both_home h g = rw (eq-eqb h h refl, eq-eqb g g refl) refl

both_stamps : (h g : ℕ) → stamp_takes_time swapped h h ≡ stamp_takes_time base g g
unfolding base_with swapped message
both_stamps h g = rw (eq-eqb h h refl, eq-eqb g g refl) refl

is_swapped : IsRenumbered swap swap base swapped
unfolding base_with swapped message
is_swapped = record {
  back_again = swap_again;
  there_again = swap_again;
  time = refl;
  message_count = refl;
  messages = both_there;
  homes = record { messages = λ g. both_home (swap g) g; stamps = λ g. both_stamps (swap g) g };
  ranges = λ sender to. refl;
  target_message = refl;
  target_group = refl;
}

-- t goes to both groups: b is listed behind a in the base, and nothing behind a in the other order ..
none_behind : NoMoreAreBehind swap base 1 0
none_behind zero goes l = absurd (omega arith)
none_behind (suc zero) goes l = omega arith
none_behind (suc (suc h)) goes l = omega arith

-- .. so t is no later there, and in this run it is sooner
base_threes : latency_of base (in_fixed_order (replicate 8 3)) ≡ 12
unfolding base_with message packets_of delay_of arrive settle arrival_rank commit_rank no_order moments_of clocks_of local_stamp final_stamp holds_back deliver latency_at latency_of
base_threes = refl

swapped_threes : latency_of swapped (in_fixed_order (replicate 8 3)) ≡ 6
unfolding swapped message packets_of delay_of arrive settle arrival_rank commit_rank no_order moments_of clocks_of local_stamp final_stamp holds_back deliver latency_at latency_of
swapped_threes = refl

-- ---- that no more are behind is needed
threes : Schedule
threes = in_fixed_order (replicate 8 3)

-- the law for all orders of the groups
abbrev OrderDoesNotMatter : Type 0
OrderDoesNotMatter =
    (renumber back : ℕ → ℕ) (scenario other : Scenario) (schedule run : Schedule) (m g : ℕ)
    → IsScenario scenario → IsScenario other → IsRenumbered renumber back scenario other → IsSameRun renumber scenario schedule other run
    → GoesTo scenario m g
    → latency_at other run m (renumber g) ≤ latency_at scenario schedule m g

base_is : IsScenario base
unfolding base_with message
base_is = of_draft (draft_for base) base refl

swapped_is : IsScenario swapped
unfolding swapped message
swapped_is = of_draft (draft_for swapped) swapped refl

base_late : latency_at base threes 1 0 ≡ 12
unfolding threes base_with message packets_of delay_of arrive settle arrival_rank commit_rank no_order moments_of clocks_of local_stamp final_stamp holds_back deliver latency_at latency_of
base_late = refl

swapped_late : latency_at swapped (run_here swap swapped base threes) 1 1 ≡ 6
unfolding threes base_with swapped message packets_of delay_of arrive settle arrival_rank commit_rank no_order moments_of clocks_of local_stamp final_stamp holds_back deliver latency_at latency_of
swapped_late = refl

order_matters : Packets → Stamps → OrderDoesNotMatter → ⊥
unfolding swapped message
order_matters packets stamps law =
    let turn = turned swap swap base swapped is_swapped in
    let same = same_run packets stamps swap swap swapped base threes swapped_is base_is turn in
    let low = law swap swap swapped base (run_here swap swapped base threes) threes 1 1 swapped_is base_is turn same refl in
    let late = base_late in
    let soon = swapped_late in
    absurd (omega arith)

-- ---- what no order can better: t is 12 ticks late at a with b behind, and 6 ticks late at b with a behind, so in each order it is one of them
abbrev both : List ℕ
both = 0 ∷ 1 ∷ []

three_in : IsWithin (1, 3) 3
three_in = (omega arith, omega arith)

base_run : IsAssignment base threes
unfolding threes base_with message packets_of ranges_of
base_run = record {
  delays = (three_in, (three_in, (three_in, (three_in, (three_in, (three_in, (three_in, (three_in, tt))))))));
  order = fixed_is_order base;
}

swapped_run : IsAssignment swapped threes
unfolding threes swapped message packets_of ranges_of
swapped_run = record {
  delays = (three_in, (three_in, (three_in, (three_in, (three_in, (three_in, (three_in, (three_in, tt))))))));
  order = fixed_is_order swapped;
}

at_b : latency_at swapped threes 1 0 ≡ 6
unfolding threes swapped message packets_of delay_of arrive settle arrival_rank commit_rank no_order moments_of clocks_of local_stamp final_stamp holds_back deliver latency_at latency_of
at_b = refl

to_both : (h : ℕ) → GoesTo base 1 h → Contains both h
unfolding base_with message
to_both h goes = contains-in h both (in_of_goes base 1 h goes)

held_at_a : IsHeldUp base both 1 0 12
unfolding base_with message
held_at_a = record {
  renumber = λ g. g;
  back = λ g. g;
  listed = base;
  well = base_is;
  is = unchanged base;
  goes = refl;
  behind = λ h goes l. to_both h goes;
  run = (threes, base_run, (let late = base_late in omega arith));
}

held_at_b : IsHeldUp base both 1 1 6
unfolding base_with message
held_at_b = record {
  renumber = swap;
  back = swap;
  listed = swapped;
  well = swapped_is;
  is = is_swapped;
  goes = refl;
  behind = λ h goes l. to_both h goes;
  run = (threes, swapped_run, (let late = at_b in omega arith));
}

-- ---- the ceiling is the same
base_ceiling : ceiling_of base ≡ 12
unfolding base_with message ceiling_at ceiling_of
base_ceiling = refl

swapped_ceiling : ceiling_of swapped ≡ 12
unfolding swapped message ceiling_at ceiling_of
swapped_ceiling = refl
