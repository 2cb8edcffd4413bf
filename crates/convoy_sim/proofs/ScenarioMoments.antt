-- The moments of a scenario: which they are, and that they make a run.
use Rattle.std.proofs.Common.{◌≡◌, ℕ, ◌<◌, ◌≤◌, ◌⊎◌, inl, inr, List, [], ◌∷◌, map, max, length, flat_map, refl, sym, ap, ap₂, subst, ◌∙◌, arith}
use Rattle.std.specs.List.{fold}
use Rattle.std.proofs.lemmas.Bool.{cond-true, eq-eqb}
use Rattle.std.proofs.lemmas.List.{length-replicate}
use Rattle.convoy_scenario.specs.Scenario.{Scenario, no_message, message_at, message_numbers}
use Rattle.convoy_scenario.specs.WellFormed.{IsScenario}
use Rattle.convoy_sim.specs.declared.moment.Moment.{Moment}
use Rattle.convoy_sim.specs.declared.moment.MomentKind.{MomentKind}
use Rattle.convoy_sim.specs.declared.moment.MomentKind.TheVariants.{Arrival, Commit}
use Rattle.convoy_sim.specs.Times.{arrive, settle, greatest, propose_arrive}
use Rattle.convoy_packets.specs.Assignment.{Schedule}
use Rattle.convoy_packets.specs.Order.{rank_at}
use Rattle.convoy_sim.specs.Moments.{arrival_of, arrival_rank, commit_of, commit_rank, rank_in, rank_then, moments_at, unordered_moments, moments_of}
use Rattle.convoy_sim.specs.Stamps.{first_clocks}
use Rattle.convoy_sim.specs.Traffic.{GoesToGroups, IsTraffic}
use Rattle.convoy_scenario.specs.Scenario.{GoesTo}
use Rattle.convoy_sim.proofs.Membership.{IsIn, IsOnce, in-flat_map, in_of_flat_map, in_of_range, in_greatest, once-flat_map, once-range, once-rising, all-in}
use Rattle.convoy_sim.proofs.Addressed.{in_of_goes, goes_from_in, number_of_goes, in-numbers}
use Rattle.convoy_sim.proofs.MomentsInOrder.{IsOrdered, in-inserts, in_of_inserts, inserts_ordered, inserts_once}
use Rattle.convoy_sim.proofs.Runs.{IsRun}

-- the messages of a scenario are traffic
pub traffic_of : (plan : Scenario) → IsScenario plan → IsTraffic plan
traffic_of plan well m other l =
    let message = well.messages m other l in
    record { destinations = message.destinations; ascending = message.ascending; known = message.known }

pub multicast_at : (plan : Scenario) → IsTraffic plan → (m : ℕ) → m < length plan.multicasts → GoesToGroups (length plan.groups) (message_at plan m)
multicast_at plan traffic m l = traffic m no_message l

-- ---- a message has come to each of its destinations when it is committed at any
pub arrive_settle : (plan : Scenario) (schedule : Schedule) (m g h : ℕ) → GoesTo plan m h → arrive plan schedule m h ≤ settle plan schedule m g
unfolding settle
arrive_settle plan schedule m g h i =
    let most = in_greatest (propose_arrive plan schedule m g) h (message_at plan m).destinations (in_of_goes plan m h i) in
    omega arith

-- .. and where it comes in the tick of that commit, its rank is no greater
pub arrival_rank_commit : (plan : Scenario) (schedule : Schedule) (m g h : ℕ) → GoesTo plan m h
    → arrive plan schedule m h ≡ settle plan schedule m g → arrival_rank plan schedule m h ≤ commit_rank plan schedule m g
unfolding commit_rank
arrival_rank_commit plan schedule m g h i e =
    let tick : ℕ = settle plan schedule m g in
    let most = in_greatest (rank_then plan schedule m tick) h (message_at plan m).destinations (in_of_goes plan m h i) in
    let then : rank_then plan schedule m tick h ≡ arrival_rank plan schedule m h = cond-true _ _ _ (eq-eqb _ tick e) in
    let past = greatest_past (rank_in plan.time (rank_at schedule.order.commits m g)) (map (rank_then plan schedule m tick) (message_at plan m).destinations) in
    omega arith where
      greatest_past : (x : ℕ) (xs : List ℕ) → greatest xs ≤ greatest (x ∷ xs)
      greatest_past x xs = fold_from xs 0 (max 0 x) (omega arith) where
        fold_from : (ys : List ℕ) (a b : ℕ) → a ≤ b → fold max a ys ≤ fold max b ys
        fold_from [] a b l = l
        fold_from (y ∷ ys) a b l = fold_from ys (max a y) (max b y) (omega arith)

-- ---- the moments
in_of_moments_at : (plan : Scenario) (schedule : Schedule) (m g : ℕ) (c : Moment) → IsIn c (moments_at plan schedule m g)
    → (arrival_of plan schedule m g ≡ c) ⊎ (commit_of plan schedule m g ≡ c)
in_of_moments_at plan schedule m g c (inl e) = inl e
in_of_moments_at plan schedule m g c (inr (inl e)) = inr e
in_of_moments_at plan schedule m g c (inr (inr n)) = absurd n

in-moments : (plan : Scenario) (schedule : Schedule) (m g : ℕ) (c : Moment) → GoesTo plan m g → IsIn c (moments_at plan schedule m g)
    → IsIn c (moments_of plan schedule)
unfolding moments_of
in-moments plan schedule m g c h i =
    in-inserts c [] (unordered_moments plan schedule)
    (in-flat_map (λ n. flat_map (moments_at plan schedule n) (message_at plan n).destinations) m c (message_numbers plan)
    (in-numbers plan m g h)
    (in-flat_map (moments_at plan schedule m) g c (message_at plan m).destinations (in_of_goes plan m g h) i))

pub coming_in : (plan : Scenario) (schedule : Schedule) (m g : ℕ) → GoesTo plan m g → IsIn (arrival_of plan schedule m g) (moments_of plan schedule)
coming_in plan schedule m g h = in-moments plan schedule m g _ h (inl refl)

pub commit_in : (plan : Scenario) (schedule : Schedule) (m g : ℕ) → GoesTo plan m g → IsIn (commit_of plan schedule m g) (moments_of plan schedule)
commit_in plan schedule m g h = in-moments plan schedule m g _ h (inr (inl refl))

-- each moment is an arrival or a commit of a message at a destination of it
pub moment_cases : (plan : Scenario) (schedule : Schedule) (c : Moment) → IsIn c (moments_of plan schedule)
    → (m : ℕ) × (g : ℕ) × GoesTo plan m g × ((arrival_of plan schedule m g ≡ c) ⊎ (commit_of plan schedule m g ≡ c))
unfolding moments_of
moment_cases plan schedule c i = elim (in_of_inserts c [] (unordered_moments plan schedule) i) [
  | inl n ↦ absurd n
  | inr j ↦
      let r = in_of_flat_map (λ n. flat_map (moments_at plan schedule n) (message_at plan n).destinations) c (message_numbers plan) j in
      let q = in_of_flat_map (moments_at plan schedule r.0) c (message_at plan r.0).destinations r.2 in
      (r.0, q.0, goes_from_in plan r.0 q.0 q.1, in_of_moments_at plan schedule r.0 q.0 c q.2)
]

-- a moment by its kind, message and group
moment_by : Scenario → Schedule → MomentKind → ℕ → ℕ → Moment
moment_by plan schedule Arrival m g = arrival_of plan schedule m g
moment_by plan schedule Commit m g = commit_of plan schedule m g

moment_is : (plan : Scenario) (schedule : Schedule) (c : Moment) → IsIn c (moments_of plan schedule)
    → (c ≡ moment_by plan schedule c.kind c.message c.group) × GoesTo plan c.message c.group
unfolding moment_by
moment_is plan schedule c i =
    let r = moment_cases plan schedule c i in
    elim r.3 [
      | inl e ↦ subst (λ d. (d ≡ moment_by plan schedule d.kind d.message d.group) × GoesTo plan d.message d.group) e (refl, r.2)
      | inr e ↦ subst (λ d. (d ≡ moment_by plan schedule d.kind d.message d.group) × GoesTo plan d.message d.group) e (refl, r.2)
    ]

pub coming_is : (plan : Scenario) (schedule : Schedule) (c : Moment) → IsIn c (moments_of plan schedule) → c.kind ≡ Arrival
    → (c ≡ arrival_of plan schedule c.message c.group) × GoesTo plan c.message c.group
unfolding moment_by
coming_is plan schedule c i k =
    let r = moment_is plan schedule c i in
    (r.0 ∙ ap (λ q. moment_by plan schedule q c.message c.group) k, r.1)

pub commit_is : (plan : Scenario) (schedule : Schedule) (c : Moment) → IsIn c (moments_of plan schedule) → c.kind ≡ Commit
    → (c ≡ commit_of plan schedule c.message c.group) × GoesTo plan c.message c.group
unfolding moment_by
commit_is plan schedule c i k =
    let r = moment_is plan schedule c i in
    (r.0 ∙ ap (λ q. moment_by plan schedule q c.message c.group) k, r.1)

-- ---- a run
message_of_moments_at : (plan : Scenario) (schedule : Schedule) (m g : ℕ) (c : Moment) → IsIn c (moments_at plan schedule m g)
    → (m ≡ c.message) × (g ≡ c.group)
message_of_moments_at plan schedule m g c i = elim (in_of_moments_at plan schedule m g c i) [
  | inl e ↦ (ap (λ d. d.message) e, ap (λ d. d.group) e)
  | inr e ↦ (ap (λ d. d.message) e, ap (λ d. d.group) e)
]

commit_not_coming : Commit ≡ Arrival → ⊥
commit_not_coming e = cc

moments_at_once : (plan : Scenario) (schedule : Schedule) (m g : ℕ) → IsOnce (moments_at plan schedule m g)
moments_at_once plan schedule m g = ((λ i. elim i [ inl e ↦ commit_not_coming (ap (λ d. d.kind) e) | inr n ↦ n ]), ((λ n. n), tt))

moments_to_once : (plan : Scenario) → IsTraffic plan → (schedule : Schedule) (m : ℕ) → m < length plan.multicasts
    → IsOnce (flat_map (moments_at plan schedule m) (message_at plan m).destinations)
moments_to_once plan traffic schedule m l =
    once-flat_map (moments_at plan schedule m) (message_at plan m).destinations
    (once-rising _ (multicast_at plan traffic m l).ascending) (λ g _. moments_at_once plan schedule m g)
    (λ g h c i j. (message_of_moments_at plan schedule m g c i).1 ∙ sym (message_of_moments_at plan schedule m h c j).1)

in_of_message : (plan : Scenario) (schedule : Schedule) (m : ℕ) (c : Moment)
    → IsIn c (flat_map (moments_at plan schedule m) (message_at plan m).destinations) → m ≡ c.message
in_of_message plan schedule m c i =
    let r = in_of_flat_map (moments_at plan schedule m) c (message_at plan m).destinations i in
    (message_of_moments_at plan schedule m r.0 c r.2).0

pub moments_once : (plan : Scenario) → IsTraffic plan → (schedule : Schedule) → IsOnce (moments_of plan schedule)
unfolding moments_of
moments_once plan traffic schedule =
    inserts_once [] (unordered_moments plan schedule) tt
    (once-flat_map (λ n. flat_map (moments_at plan schedule n) (message_at plan n).destinations) (message_numbers plan)
    (once-range 0 (length plan.multicasts))
    (λ m i. moments_to_once plan traffic schedule m (let r = in_of_range m 0 (length plan.multicasts) i in omega arith))
    (λ m n c i j. in_of_message plan schedule m c i ∙ sym (in_of_message plan schedule n c j)))
    (λ z i j. i)

moments_same : (plan : Scenario) (schedule : Schedule) (c d : Moment) → IsIn c (moments_of plan schedule) → IsIn d (moments_of plan schedule)
    → c.kind ≡ d.kind → c.message ≡ d.message → c.group ≡ d.group → c ≡ d
moments_same plan schedule c d i j k m g =
    (moment_is plan schedule c i).0
    ∙ (ap₂ (λ x y. moment_by plan schedule x y c.group) k m ∙ ap (moment_by plan schedule d.kind d.message) g)
    ∙ sym (moment_is plan schedule d j).0

moments_within : (plan : Scenario) → IsTraffic plan → (schedule : Schedule) → (c : Moment) → IsIn c (moments_of plan schedule)
    → c.group < length (first_clocks plan).numbers
moments_within plan traffic schedule c i =
    let goes = (moment_is plan schedule c i).1 in
    let known = (multicast_at plan traffic c.message (number_of_goes plan c.message c.group goes)).known in
    let low : c.group < length plan.groups =
    all-in (λ g. g < length plan.groups) c.group (message_at plan c.message).destinations known (in_of_goes plan c.message c.group goes) in
    let long : length (first_clocks plan).numbers ≡ length plan.groups = length-replicate (length plan.groups) 0 in
    omega arith

moments_ordered : (plan : Scenario) (schedule : Schedule) → IsOrdered (moments_of plan schedule)
unfolding moments_of
moments_ordered plan schedule = inserts_ordered [] (unordered_moments plan schedule) tt

pub moments_run : (plan : Scenario) → IsTraffic plan → (schedule : Schedule) → IsRun (first_clocks plan) (moments_of plan schedule)
moments_run plan traffic schedule = record {
  ordered = moments_ordered plan schedule;
  within = moments_within plan traffic schedule;
  same = moments_same plan schedule;
  none = λ x i. i;
}
