-- All placements that have some sites are passed where the ceiling of some target is too great in each of them.
use Rattle.std.proofs.Common.{◌≡◌, ℕ, ◌-◌, ◌<◌, ◌≤◌, Bool, true, false, not, ◌||◌, cond, List, length, Option, Some, None, is_some, Ok, refl, sym, ap, subst, ◌∙◌, arith}
use Rattle.std.proofs.lemmas.Bool.{both_ways, cond-false, cond-true, eq-eqb}
use Rattle.std.proofs.lemmas.Option.{same_Some}
use Rattle.convoy_scenario.specs.declared.sender.Sender.{Sender}
use Rattle.convoy_scenario.specs.declared.sender.Sender.TheVariants as senders
use Rattle.convoy_scenario.specs.Scenario.{Message, Scenario, is_addressed, is_same_sender, link_between, message_at, range_between, takes_time}
use Rattle.convoy_scenario.proofs.KeptRanges.{one_sender}
use Rattle.convoy_sim.specs.Delivery.{addressed_to}
use Rattle.convoy_sim.proofs.Addressed.{in_of_goes}
use Rattle.convoy_sim.proofs.Membership.{IsIn, all-in, in-map, in_of_contains, in_of_filter, in_of_map, in_of_range}
use Rattle.convoy_ceiling.specs.Ceiling.{ceiling_at, delays_between, longest_after, longest_from_arrival, longest_to_commit}
use Rattle.convoy_plans.specs.declared.plan.Origin.{Origin}
use Rattle.convoy_plans.specs.declared.plan.Origin.TheVariants.{Group}
use Rattle.convoy_plans.specs.PlanLaws.{GroupsHaveNoLinksToThemselves, MessagesAreOfPlans, RangesAreOfSites, sender_for}
use Rattle.convoy_plans.specs.Placements.{Completes, scenario_at}
use Rattle.convoy_plans.specs.Plans.{IsOrigin, IsPlan, Plan, origin_of}
use Rattle.convoy_best_order.specs.declared.excess.Excess.{Excess}
use Rattle.convoy_best_order.specs.declared.target.Target.{Target}
use Rattle.convoy_best_order.specs.declared.wanted.Wanted.{Wanted}
use Rattle.convoy_best_order.specs.Excesses.{IsAtMost}
use Rattle.convoy_best_order.specs.Targets.{MayBeTarget, counted, limit_of}
use Rattle.convoy_best_plan.specs.BestPlans.{targets_by}
use Rattle.convoy_best_plan.specs.Floors.{excess_at}
use Rattle.convoy_best_plan.specs.Leaves.{commit_known, origin_site, site_known, total_known}
use Rattle.convoy_best_plan.specs.Totals.{total_of}
use Rattle.convoy_best_plan.proofs.Agreeing.{Agree, agree, message_count, same_targets}
use Rattle.convoy_best_plan.proofs.LateAnyhow.{commit_low, goes_known, greatest_both, may_too, origin_at, same_total, total_low}
use Rattle.convoy_best_plan.proofs.Lower.{reached_total}
use Rattle.convoy_plan_ceilings.specs.declared.ceiling_choice.CeilingChoice.{CeilingChoice}
use Rattle.convoy_plan_ceilings.specs.declared.target_ceiling.TargetCeiling.{TargetCeiling}
use Rattle.convoy_plan_ceilings.specs.LeastCeilings.{IsCeilingChoice, IsNoBetter, excess_of, row_at, rows_at, worst_of}
use Rattle.convoy_plan_ceilings.specs.Leasts.{AreLeasts}
use Rattle.convoy_plan_ceilings.specs.Bounds.{IsHighAnyhow, after_known, after_least, ceiling_known, from_arrival_known, least_between, least_known}
use Rattle.convoy_plan_ceilings.proofs.Worst.{most_after, no_higher_by, worst_most}

-- what is left after a delay that is that long
after_low : (ticks longest least : ℕ) (known : Option ℕ) → ticks ≤ longest → ((l : ℕ) → known ≡ Some l → least ≡ l) → after_least ticks known ≤ longest - least
after_low ticks longest least None low is = omega arith
after_low ticks longest least (Some l) low is = let same = is l refl in omega (arith, low, same)

module _ (sites_law : RangesAreOfSites) (home_law : GroupsHaveNoLinksToThemselves) (messages_law : MessagesAreOfPlans) (plan : Plan) (is_plan : IsPlan plan) (placement : List ℕ) (sites : List (Option ℕ))
    (all : Completes placement sites) (scenario : Scenario) (made : scenario_at plan placement ≡ Ok scenario) (leasts : List (Option ℕ)) (are : AreLeasts plan leasts)
    (many : length scenario.multicasts ≡ length plan.written.messages) where
  -- the least delay that is known is that of the scenario
  least_is : (sender : Sender) (from : Origin) (g : ℕ) → sender ≡ sender_for plan from → IsOrigin plan from → g < length plan.written.groups
      → (l : ℕ) → least_known leasts sites sender from g ≡ Some l → (delays_between scenario sender g).0 ≡ l
  least_is sender from g same origin known l = by_test (is_same_sender sender (senders.Group g)) refl where
    itself : from ≡ Group g → is_same_sender sender (senders.Group g) ≡ true
    itself e = ap (λ (s : Sender). is_same_sender s (senders.Group g)) (same ∙ ap (sender_for plan) e) ∙ eq-eqb g g refl

    by_sites : (from ≡ Group g → ⊥) → (a : Option ℕ) → origin_site sites from ≡ a → (b : Option ℕ) → site_known sites g ≡ b → least_between leasts a b ≡ Some l
        → (range_between scenario sender g).0 ≡ l
    by_sites apart None e b k is = absurd cc
    by_sites apart (Some a) e None k is = absurd cc
    by_sites apart (Some a) e (Some b) k is =
        subst (λ (s : Sender). (range_between scenario s g).0 ≡ l) (sym same)
        (are a b l is placement scenario from g made origin known apart
        (origin_at sites_law messages_law plan is_plan placement sites all scenario made from a e) (all g b k))

    by_test : (b : Bool) → is_same_sender sender (senders.Group g) ≡ b
        → cond b (Some 0) (least_between leasts (origin_site sites from) (site_known sites g)) ≡ Some l → (delays_between scenario sender g).0 ≡ l
    by_test true here is =
        let none : takes_time scenario sender g ≡ false =
        subst (λ (s : Sender). takes_time scenario s g ≡ false) (sym (one_sender sender (senders.Group g) here)) (home_law plan placement scenario g made).messages in
        ap (λ (range : ℕ × ℕ). range.0) (cond-false _ _ _ none) ∙ same_Some 0 l is
    by_test false away is =
        let takes : takes_time scenario sender g ≡ true = ap (λ (home : Bool). not home || is_some (link_between scenario.links sender g)) away in
        ap (λ (range : ℕ × ℕ). range.0) (cond-true _ _ _ takes)
        ∙ by_sites (λ e. both_ways _ away (itself e)) (origin_site sites from) refl (site_known sites g) refl is

  from_arrival_low : (g n : ℕ) → g < length plan.written.groups → n < length plan.written.messages
      → from_arrival_known plan scenario leasts sites g n ≤ longest_from_arrival scenario g n
  from_arrival_low g n known low =
      let of = messages_law plan placement scenario n is_plan made low in
      after_low (commit_known plan scenario sites n g) (longest_to_commit scenario n g) (delays_between scenario (message_at scenario n).sender g).0
      (least_known leasts sites (message_at scenario n).sender (origin_of plan n) g)
      (commit_low sites_law messages_law plan is_plan placement sites all scenario made n low g known)
      (least_is (message_at scenario n).sender (origin_of plan n) g of.sender of.origin known)

  after_known_low : (g : ℕ) → g < length plan.written.groups → after_known plan scenario leasts sites g ≤ longest_after scenario g
  after_known_low g known =
      greatest_both (from_arrival_known plan scenario leasts sites g) (longest_from_arrival scenario g) (addressed_to scenario g)
      (λ n i.
      let among = in_of_filter (λ (k : ℕ). is_addressed (message_at scenario k) g) n _ i in
      let within = in_of_range n 0 (length scenario.multicasts) among.0 in
      from_arrival_low g n known (omega (arith, within.1, many)))

  pub ceiling_low : (m g : ℕ) → m < length plan.written.messages → g < length plan.written.groups
      → ceiling_known plan scenario leasts sites m g ≤ ceiling_at scenario m g
  unfolding ceiling_at
  ceiling_low m g low known =
      let commit = commit_low sites_law messages_law plan is_plan placement sites all scenario made m low g known in
      let after = after_known_low g known in
      omega (arith, commit, after)

-- the same of a scenario of the plan that has the same messages
same_ceiling : (plan : Plan) (leasts sites : List (Option ℕ)) (scenario other : Scenario) (m g : ℕ) → Agree scenario other
    → ceiling_known plan other leasts sites m g ≡ ceiling_known plan scenario leasts sites m g
same_ceiling plan leasts sites scenario other m g is =
    ap (λ (ms : List Message). ceiling_known plan (record other { multicasts = ms }) leasts sites m g) is.multicasts

up_to : (a b c d : ℕ) → a ≤ b → c ≡ b → c ≤ d → a ≤ d
up_to a b c d first same next = omega (arith, first, same, next)

-- what a lesser ceiling exceeds a greater one exceeds too
past_later : (least other : Excess) (early late limit : ℕ) → IsAtMost least other → IsAtMost other (record { latency = early; limit = limit }) → early ≤ late
    → IsAtMost least (record { latency = late; limit = limit })
past_later least other early late limit low past later = omega (arith, low, past, later)

-- the targets of a choice are those of each scenario of the plan
target_there : (wanted : Wanted) (plan : Plan) (chosen : CeilingChoice) (scenario : Scenario) (row : TargetCeiling) → Agree chosen.scenario scenario
    → IsCeilingChoice wanted plan chosen → IsIn row chosen.rows.items → IsIn row.target (targets_by wanted plan scenario)
target_there wanted plan chosen scenario row same is i =
    let found = in_of_map (row_at chosen.scenario) row (targets_by wanted plan chosen.scenario) (subst (IsIn row) is.rows i) in
    let its : found.0 ≡ row.target = ap (λ (r : TargetCeiling). r.target) found.2 in
    subst (λ (ts : List Target). IsIn row.target ts) (sym (ap counted (same_targets wanted plan.deadlines chosen.scenario scenario same)))
    (subst (λ (t : Target). IsIn t (targets_by wanted plan chosen.scenario)) its found.1)

pub high_passed : (sites_law : RangesAreOfSites) (home_law : GroupsHaveNoLinksToThemselves) (messages_law : MessagesAreOfPlans) (wanted : Wanted) (plan : Plan) (chosen : CeilingChoice) (leasts sites : List (Option ℕ))
    → IsPlan plan → IsCeilingChoice wanted plan chosen → AreLeasts plan leasts
    → IsHighAnyhow plan chosen.scenario leasts sites chosen.rows.items chosen.reach
    → (placement : List ℕ) → Completes placement sites → IsNoBetter wanted plan chosen.reach placement
high_passed sites_law home_law messages_law wanted plan chosen leasts sites is_plan is are high placement all scenario made =
    let first : Scenario = chosen.scenario in
    let row : TargetCeiling = high.row in
    let target : Target = row.target in
    let same = agree plan chosen.placement.items placement first scenario is_plan is.made made in
    let i = in_of_contains row chosen.rows.items high.of_row in
    let may = may_too first scenario target same (all-in (λ (r : TargetCeiling). MayBeTarget first r.target) row chosen.rows.items is.lawful i) in
    let many = message_count plan placement scenario made in
    let known : target.message < length plan.written.messages = let below = may.known in omega (arith, below, many) in
    let at_group : target.group < length plan.written.groups =
    goes_known sites_law messages_law plan is_plan placement sites all scenario made target.message known target.group (in_of_goes scenario target.message target.group may.addressed) in
    let ceiling = ceiling_low sites_law home_law messages_law plan is_plan placement sites all scenario made leasts are many target.message target.group known at_group in
    let total = total_low sites_law messages_law plan is_plan placement sites all scenario made many in
    let fewer : high.total ≤ total_of scenario = up_to high.total (total_known plan first sites) (total_known plan scenario sites) (total_of scenario) high.total_low (same_total plan sites first scenario same) total in
    let later : high.high.ceiling ≤ ceiling_at scenario target.message target.group =
    up_to high.high.ceiling (ceiling_known plan first leasts sites target.message target.group) (ceiling_known plan scenario leasts sites target.message target.group)
    (ceiling_at scenario target.message target.group) high.high.ceiling_low (same_ceiling plan leasts sites first scenario target.message target.group same) ceiling in
    let past : IsAtMost (excess_at chosen.reach (total_of scenario)) (excess_of (row_at scenario target)) =
    past_later (excess_at chosen.reach (total_of scenario)) (excess_at chosen.reach high.total) high.high.ceiling (ceiling_at scenario target.message target.group) (limit_of target)
    (reached_total chosen.reach high.total (total_of scenario) fewer) high.high.past later in
    let there = in-map (row_at scenario) target (targets_by wanted plan scenario) (target_there wanted plan chosen scenario row same is i) in
    no_higher_by chosen.reach (worst_of (rows_at wanted plan scenario)) (total_of scenario)
    (most_after (excess_at chosen.reach (total_of scenario)) (excess_of (row_at scenario target)) (worst_of (rows_at wanted plan scenario)) past
    (worst_most (rows_at wanted plan scenario) (row_at scenario target) there))
