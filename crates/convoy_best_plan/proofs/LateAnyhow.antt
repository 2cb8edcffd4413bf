-- All placements that have some sites are passed where some target is too late by its commit alone.
use Rattle.std.proofs.Common.{◌≡◌, ℕ, zero, suc, ◌<◌, ◌≤◌, ◌==◌, Bool, true, false, not, ◌||◌, cond, max, List, [], ◌∷◌, length, map, fold, get_or, Option, Some, None, is_some, Ok, inl, inr, refl, sym, ap, subst, subst₂, ◌∙◌, arith}
use Rattle.std.specs.List.{Contains, sum_by}
use Rattle.std.proofs.lemmas.Bool.{both_ways, cond-true, eq-eqb}
use Rattle.std.proofs.lemmas.List.Sums.{sum_by-cons}
use Rattle.std.proofs.lemmas.Option.{same_Some}
use Rattle.convoy_scenario.specs.declared.sender.Sender.{Sender}
use Rattle.convoy_scenario.specs.declared.sender.Sender.TheVariants as senders
use Rattle.convoy_scenario.specs.Numbering.{numbers_of}
use Rattle.convoy_scenario.specs.Room.{HasRoom}
use Rattle.convoy_scenario.specs.Targets.{with_target}
use Rattle.convoy_scenario.specs.Scenario.{Message, Scenario, is_addressed, is_same_sender, link_between, message_at, no_message, range_between, stamp_takes_time, takes_time}
use Rattle.convoy_scenario.specs.ScenarioLaws.{DraftsGiveScenarios, ScenariosHaveDrafts}
use Rattle.convoy_draft.specs.Checks.{is_among}
use Rattle.convoy_toml.specs.Shape.{WrittenMessage}
use Rattle.convoy_packets.proofs.Sent.{other_stamp_takes}
use Rattle.convoy_sim.specs.ProtocolLaws.{DeliveredAfterCommit}
use Rattle.convoy_sim.proofs.Addressed.{in_of_goes}
use Rattle.convoy_sim.proofs.Membership.{IsIn, all-in, greatest_most, in_greatest, in_of_contains, in_of_filter, in_of_range}
use Rattle.convoy_ceiling.specs.Ceiling.{delays_between, longest_by, longest_to_commit, stamp_delays}
use Rattle.convoy_orders.specs.Relisted.{RelistedDraftsAreRenumbered, RelistedDraftsGiveScenarios}
use Rattle.convoy_plans.specs.declared.plan.Origin.{Origin}
use Rattle.convoy_plans.specs.declared.plan.Origin.TheVariants.{Site, Group}
use Rattle.convoy_plans.specs.PlanLaws.{MessagesAreOfPlans, RangesAreOfSites, sender_for, site_of}
use Rattle.convoy_plans.specs.Placements.{Completes, scenario_at}
use Rattle.convoy_plans.specs.Plans.{IsOrigin, IsPlan, Plan, most_between, origin_of}
use Rattle.convoy_branch.specs.Options.{Settings}
use Rattle.convoy_best_order.specs.declared.excess.Excess.{Excess}
use Rattle.convoy_best_order.specs.declared.target.Target.{Target}
use Rattle.convoy_best_order.specs.declared.wanted.Wanted.{Wanted}
use Rattle.convoy_best_order.specs.Excesses.{IsAtMost}
use Rattle.convoy_best_order.specs.Targets.{MayBeTarget, asked_of, counted, limit_of}
use Rattle.convoy_best_order.proofs.Asking.{well_asked}
use Rattle.convoy_best_order.proofs.Relisting.{in_order, is_listed}
use Rattle.convoy_best_plan.specs.declared.planned.Planned.{Planned}
use Rattle.convoy_best_plan.specs.BestPlans.{IsNotBelow, reach_of}
use Rattle.convoy_best_plan.specs.Floors.{excess_at}
use Rattle.convoy_best_plan.specs.Leaves.{IsLateAnyhow, commit_known, most_known, origin_site, site_known, total_known, total_known_at, way_by, way_known}
use Rattle.convoy_best_plan.specs.Standings.{IsFound}
use Rattle.convoy_best_plan.specs.Totals.{total_at, total_of}
use Rattle.convoy_best_plan.proofs.Agreeing.{Agree, agree, message_count, same_targets, well_made}
use Rattle.convoy_best_plan.proofs.Commits.{commit_reached}
use Rattle.convoy_best_plan.proofs.Lower.{most_most, reached_lower, reached_total}

none_less : (n : ℕ) → 0 ≤ n
none_less n = omega arith

-- ---- lists
pub greatest_both : (f k : ℕ → ℕ) (xs : List ℕ) → ((x : ℕ) → IsIn x xs → f x ≤ k x) → fold max 0 (map f xs) ≤ fold max 0 (map k xs)
greatest_both f k xs low =
    greatest_most f (fold max 0 (map k xs)) xs (λ x i. let here = low x i in let most = in_greatest k x xs i in omega (arith, here, most))

sums_low : (f k : ℕ → ℕ) (xs : List ℕ) → ((x : ℕ) → IsIn x xs → f x ≤ k x) → sum_by f xs ≤ sum_by k xs
sums_low f k [] low = omega arith
sums_low f k (x ∷ xs) low =
    let here = low x (inl refl) in
    let rest = sums_low f k xs (λ y i. low y (inr i)) in
    omega (arith, sum_by-cons f x xs, sum_by-cons k x xs, here, rest)

-- a message goes to groups of the plan alone
number_below : (groups to : List (List ℕ)) (h : ℕ) → IsIn h (numbers_of groups to) → h < length groups
number_below groups to h i =
    let among = in_of_filter (λ g. is_among (get_or groups g []) to) h _ i in
    let within = in_of_range h 0 (length groups) among.0 in
    omega (arith, within.1)

below_in : (groups : List (List ℕ)) (messages : List WrittenMessage) (m h : ℕ) → IsIn h (get_or (map (λ (message : WrittenMessage). numbers_of groups message.to) messages) m [])
    → h < length groups
below_in groups [] m h i = absurd i
below_in groups (x ∷ xs) zero h i = number_below groups x.to h i
below_in groups (x ∷ xs) (suc m) h i = below_in groups xs m h i

module _ (sites_law : RangesAreOfSites) (messages_law : MessagesAreOfPlans) (plan : Plan) (is_plan : IsPlan plan) (placement : List ℕ) (sites : List (Option ℕ))
    (all : Completes placement sites) (scenario : Scenario) (made : scenario_at plan placement ≡ Ok scenario) where
  pub origin_at : (from : Origin) (a : ℕ) → origin_site sites from ≡ Some a → site_of placement from ≡ a
  origin_at (Site s) a e = same_Some s a e
  origin_at (Group h) a e = all h a e

  known_most : (from : Origin) (g : ℕ) → IsOrigin plan from → g < length plan.written.groups → (from ≡ Group g → ⊥)
      → most_known plan (origin_site sites from) (site_known sites g) ≤ (range_between scenario (sender_for plan from) g).1
  known_most from g origin known apart = by_sites (origin_site sites from) refl (site_known sites g) refl where
    by_sites : (a : Option ℕ) → origin_site sites from ≡ a → (b : Option ℕ) → site_known sites g ≡ b → most_known plan a b ≤ (range_between scenario (sender_for plan from) g).1
    by_sites None e b k = omega arith
    by_sites (Some a) e None k = omega arith
    by_sites (Some a) e (Some b) k =
        subst₂ (λ x y. most_between plan x y ≤ (range_between scenario (sender_for plan from) g).1) (origin_at from a e) (all g b k)
        (sites_law plan placement scenario from g is_plan made origin known apart)

  -- what goes from there takes as long at least as is known
  way_low : (sender : Sender) (from : Origin) (g : ℕ) → sender ≡ sender_for plan from → IsOrigin plan from → g < length plan.written.groups
      → way_known plan sites sender from g ≤ (delays_between scenario sender g).1
  way_low sender from g same origin known = by_test (is_same_sender sender (senders.Group g)) refl where
    itself : from ≡ Group g → is_same_sender sender (senders.Group g) ≡ true
    itself e = ap (λ (s : Sender). is_same_sender s (senders.Group g)) (same ∙ ap (sender_for plan) e) ∙ eq-eqb g g refl

    by_test : (b : Bool) → is_same_sender sender (senders.Group g) ≡ b
        → cond b 0 (most_known plan (origin_site sites from) (site_known sites g)) ≤ (delays_between scenario sender g).1
    by_test true here = none_less (delays_between scenario sender g).1
    by_test false away =
        let takes : takes_time scenario sender g ≡ true = ap (λ (home : Bool). not home || is_some (link_between scenario.links sender g)) away in
        subst (λ (range : ℕ × ℕ). most_known plan (origin_site sites from) (site_known sites g) ≤ range.1) (sym (cond-true _ _ _ takes))
        (subst (λ (s : Sender). most_known plan (origin_site sites from) (site_known sites g) ≤ (range_between scenario s g).1) (sym same)
        (known_most from g origin known (λ e. both_ways _ away (itself e))))

  -- so does a stamp from group to group
  stamp_low : (h g : ℕ) → h < length plan.written.groups → g < length plan.written.groups
      → way_known plan sites (senders.Group h) (Group h) g ≤ (stamp_delays scenario h g).1
  stamp_low h g origin known = by_test (h == g) refl where
    itself : ◌≡◌ {A = Origin} (Group h) (Group g) → (h == g) ≡ true
    itself e = ap (λ (s : Sender). is_same_sender s (senders.Group g)) (ap (sender_for plan) e) ∙ eq-eqb g g refl

    by_test : (b : Bool) → (h == g) ≡ b → cond b 0 (most_known plan (origin_site sites (Group h)) (site_known sites g)) ≤ (stamp_delays scenario h g).1
    by_test true here = none_less (stamp_delays scenario h g).1
    by_test false away =
        let takes : stamp_takes_time scenario h g ≡ true = other_stamp_takes scenario h g away in
        subst (λ (range : ℕ × ℕ). most_known plan (origin_site sites (Group h)) (site_known sites g) ≤ range.1) (sym (cond-true _ _ _ takes))
        (known_most (Group h) g origin known (λ e. both_ways _ away (itself e)))

  module _ (m : ℕ) (low : m < length plan.written.messages) where
    pub goes_known : (h : ℕ) → IsIn h (message_at scenario m).destinations → h < length plan.written.groups
    goes_known h i =
        let of = messages_law plan placement scenario m is_plan made low in
        below_in plan.written.groups plan.written.messages m h
        (subst (λ (goes : List (List ℕ)). IsIn h (get_or goes m [])) is_plan.goes (subst (IsIn h) of.destinations i))

    pub commit_low : (g : ℕ) → g < length plan.written.groups → commit_known plan scenario sites m g ≤ longest_to_commit scenario m g
    commit_low g known =
        let of = messages_law plan placement scenario m is_plan made low in
        greatest_both (way_by plan sites (message_at scenario m).sender (origin_of plan m) g) (longest_by scenario (message_at scenario m).sender g) (message_at scenario m).destinations
        (λ h i.
        let first = way_low (message_at scenario m).sender (origin_of plan m) h of.sender of.origin (goes_known h i) in
        let second = stamp_low h g (goes_known h i) known in
        omega (arith, first, second))

  pub total_low : length scenario.multicasts ≡ length plan.written.messages → total_known plan scenario sites ≤ total_of scenario
  total_low many =
      sums_low (total_known_at plan scenario sites) (total_at scenario) _
      (λ m i.
      let within = in_of_range m 0 (length scenario.multicasts) i in
      let low : m < length plan.written.messages = omega (arith, within.1, many) in
      sums_low (commit_known plan scenario sites m) (longest_to_commit scenario m) (message_at scenario m).destinations
      (λ g j. commit_low m low g (goes_known m low g j)))

-- the same of a scenario of the plan that has the same messages
pub same_total : (plan : Plan) (sites : List (Option ℕ)) (scenario other : Scenario) → Agree scenario other → total_known plan other sites ≡ total_known plan scenario sites
same_total plan sites scenario other is = ap (λ (ms : List Message). total_known plan (record other { multicasts = ms }) sites) is.multicasts

same_commit : (plan : Plan) (sites : List (Option ℕ)) (scenario other : Scenario) (m g : ℕ) → Agree scenario other
    → commit_known plan other sites m g ≡ commit_known plan scenario sites m g
same_commit plan sites scenario other m g is = ap (λ (ms : List Message). commit_known plan (record other { multicasts = ms }) sites m g) is.multicasts

pub may_too : (scenario other : Scenario) (target : Target) → Agree scenario other → MayBeTarget scenario target → MayBeTarget other target
may_too scenario other target is may = record {
  known = subst (λ (ms : List Message). target.message < length ms) (sym is.multicasts) may.known;
  addressed = subst (λ (ms : List Message). is_addressed (get_or ms target.message no_message) target.group ≡ true) (sym is.multicasts) may.addressed;
  room = subst (λ (ms : List Message). HasRoom (record (with_target other target.message target.group) { multicasts = ms })) (sym is.multicasts)
      (record { last = may.room.last; others = may.room.others });
}

-- what a lesser latency exceeds a greater one exceeds too
past_later : (least other : Excess) (early late limit : ℕ) → IsAtMost least other → IsAtMost other (record { latency = early; limit = limit }) → early ≤ late
    → IsAtMost least (record { latency = late; limit = limit })
past_later least other early late limit low past later = omega (arith, low, past, later)

up_to : (a b c d e : ℕ) → a ≤ b → c ≡ b → c ≤ d → d ≤ e → a ≤ e
up_to a b c d e first same next last = omega arith

-- the laws that it rests on
pub record Used : Type 0 where
  pub have : ScenariosHaveDrafts
  pub given : DraftsGiveScenarios
  pub give : RelistedDraftsGiveScenarios
  pub renumbered : RelistedDraftsAreRenumbered
  pub after : DeliveredAfterCommit
  pub ranges : RangesAreOfSites
  pub messages : MessagesAreOfPlans

pub late_passed : (used : Used) (settings : Settings) (wanted : Wanted) (plan : Plan) (told : List Planned) (planned : Planned) (sites : List (Option ℕ)) → IsPlan plan
    → IsFound settings wanted plan told planned → IsLateAnyhow plan planned.scenario sites planned.targets.items (reach_of planned)
    → (placement : List ℕ) → Completes placement sites → IsNotBelow wanted plan planned.floor placement
late_passed used settings wanted plan told planned sites is_plan is late placement all scenario made order in_order_is =
    let target : Target = late.target in
    let first : Scenario = planned.scenario in
    let same = agree plan planned.placement.items placement first scenario is_plan is.choice.made made in
    let well = well_made plan placement scenario made used.given in
    let may = may_too first scenario target same (all-in (MayBeTarget first) target planned.targets.items is.choice.lawful (in_of_contains target planned.targets.items late.of_target)) in
    let run = commit_reached used.have used.given used.give used.renumbered used.after scenario target well may order in_order_is in
    let many = message_count plan placement scenario made in
    let known : target.message < length plan.written.messages = let below = may.known in omega (arith, below, many) in
    let at_group : target.group < length plan.written.groups =
    goes_known used.ranges used.messages plan is_plan placement sites all scenario made target.message known target.group (in_of_goes scenario target.message target.group may.addressed) in
    let commit = commit_low used.ranges used.messages plan is_plan placement sites all scenario made target.message known target.group at_group in
    let total = total_low used.ranges used.messages plan is_plan placement sites all scenario made many in
    let commit_same = same_commit plan sites first scenario target.message target.group same in
    let total_same = same_total plan sites first scenario same in
    let fewer : late.total ≤ total_of scenario = up_to late.total (total_known plan first sites) (total_known plan scenario sites) (total_of scenario) (total_of scenario) late.total_low total_same total (omega arith) in
    let past = late.late.past in
    let lower = most_most (excess_at planned.floor (total_of scenario)) (excess_at (reach_of planned) (total_of scenario)) (excess_at (reach_of planned) late.total)
    (reached_lower planned.floor (reach_of planned) (total_of scenario) is.floor) (reached_total (reach_of planned) late.total (total_of scenario) fewer) in
    let later = up_to late.late.latency (commit_known plan first sites target.message target.group) (commit_known plan scenario sites target.message target.group)
    (longest_to_commit scenario target.message target.group) run.0 late.late.latency_low commit_same commit run.2 in
    record {
      target = target;
      of_target = subst (λ (ts : List Target). Contains ts target) (is.choice.targets ∙ sym (ap counted (same_targets wanted plan.deadlines first scenario same))) late.of_target;
      instance = in_order (asked_of scenario target) order;
      made = is_listed used.have used.give (asked_of scenario target) order (well_asked scenario target well may) in_order_is;
      latency = run.0;
      reached = run.1;
      exceeds = past_later (excess_at planned.floor (total_of scenario)) (excess_at (reach_of planned) late.total) late.late.latency run.0 (limit_of target) lower past later;
    }
