-- Ranks that keep the moments of a run in their order, whatever their ticks are: the rank of each is the number of those before it.
use Rattle.std.proofs.Common.{◌≡◌, ℕ, ◌+◌, ◌*◌, ◌/◌, ◌%◌, ◌<◌, ◌≤◌, true, if◌then◌else◌, inl, inr, List, length, get_or, map, filter, flat_map, refl, sym, ap, ap₂, subst, ◌∙◌, arith}
use Rattle.std.specs.List.{range_with_len}
use Rattle.std.proofs.lemmas.Bool.{cases_Bool, cond-true, cond-false}
use Rattle.std.proofs.lemmas.List.Elements.{All-map}
use Rattle.std.proofs.lemmas.List.FromFn.{length-range_with_len, length-map-range_with_len, get_or-map-range_with_len}
use Rattle.convoy_draft.specs.declared.time.Time.TheVariants.{Ticks, Real}
use Rattle.convoy_scenario.specs.Scenario.{Scenario, GoesTo, no_message, message_at, message_numbers, is_addressed}
use Rattle.convoy_packets.specs.declared.order.TheConstants.{GREATEST_RANK}
use Rattle.convoy_packets.specs.Order.{Order, IsOrder, AreRanks, rank_at}
use Rattle.convoy_packets.specs.Assignment.{Schedule}
use Rattle.convoy_sim.specs.declared.moment.Moment.{Moment}
use Rattle.convoy_sim.specs.Moments.{is_before, arrival_of, commit_of, moments_at, unordered_moments}
use Rattle.convoy_sim.proofs.Membership.{IsIn, in-flat_map, in_of_range, all-in}
use Rattle.convoy_sim.proofs.Addressed.{in_of_goes, in-numbers, number_of_goes}
use Rattle.convoy_sim.proofs.MomentsOrder.{before_itself, before_trans}
use Rattle.convoy_packets.proofs.Lists.{length-increasing-le}
use Rattle.convoy_laws.specs.FinerTicks.{IsFiner, IsRoundable}
use Rattle.convoy_origin.proofs.Lists.{filter_less, filter_not_all, flat_map_few}
use Rattle.convoy_laws.proofs.SameParts.{same_message, same_numbers, goes_too}

-- the rank of a moment among others: how many of them are before it
abbrev pub rank_among : List Moment → Moment → ℕ
rank_among moments x = length (filter (λ y. is_before y x) moments)

pub rank_rises : (moments : List Moment) (x y : Moment) → IsIn x moments → is_before x y ≡ true → rank_among moments x < rank_among moments y
rank_rises moments x y i b =
    filter_less (λ z. is_before z x) (λ z. is_before z y) moments (λ z h. before_trans z x y h b) x i (before_itself x) b

pub rank_below : (moments : List Moment) (x : Moment) → IsIn x moments → rank_among moments x < length moments
rank_below moments x i = filter_not_all (λ z. is_before z x) moments x i (before_itself x)

-- the ranks of the moments that messages have at groups, by place
abbrev entry_of : Scenario → List Moment → (ℕ → ℕ → Moment) → ℕ → ℕ
entry_of plan moments what i = if is_addressed (message_at plan (i / 8)) (i % 8) then rank_among moments (what (i / 8) (i % 8)) else 0

abbrev table_of : Scenario → List Moment → (ℕ → ℕ → Moment) → List ℕ
table_of plan moments what = map (entry_of plan moments what) (range_with_len 0 128)

-- the order in which the moments of a run are
abbrev pub order_among : Scenario → Scenario → Schedule → Order
order_among plan fine schedule = record {
  arrivals = table_of plan (unordered_moments fine schedule) (arrival_of fine schedule);
  commits = table_of plan (unordered_moments fine schedule) (commit_of fine schedule);
}

table_at : (plan : Scenario) (moments : List Moment) (what : ℕ → ℕ → Moment) (m g : ℕ) → m < 16 → g < 8
    → rank_at (table_of plan moments what) m g ≡ (if is_addressed (message_at plan m) g then rank_among moments (what m g) else 0)
table_at plan moments what m g few below =
    let message : (m * 8 + g) / 8 ≡ m = omega arith in
    let group : (m * 8 + g) % 8 ≡ g = omega arith in
    get_or-map-range_with_len (entry_of plan moments what) 0 128 (m * 8 + g) (m * 8 + g) 0 (omega arith) (omega arith)
    ∙ ap₂ (λ (n h : ℕ). if is_addressed (message_at plan n) h then rank_among moments (what n h) else 0) message group

are_ranks : (plan : Scenario) (moments : List Moment) (what : ℕ → ℕ → Moment) → length moments ≤ 256
    → ((m g : ℕ) → GoesTo plan m g → IsIn (what m g) moments) → AreRanks plan (table_of plan moments what)
are_ranks plan moments what few there = record {
  long = length-map-range_with_len (entry_of plan moments what) 0 128;
  small = All-map (λ rank. rank ≤ GREATEST_RANK) (entry_of plan moments what) (range_with_len 0 128) (λ i d l. low (get_or (range_with_len 0 128) i d));
  nowhere = λ m g l below elsewhere. table_at plan moments what m g l below ∙ cond-false _ _ _ elsewhere;
} where
  low : (i : ℕ) → entry_of plan moments what i ≤ GREATEST_RANK
  low i = elim (cases_Bool (is_addressed (message_at plan (i / 8)) (i % 8))) [
    | inl goes ↦
        let below = rank_below moments (what (i / 8) (i % 8)) (there (i / 8) (i % 8) goes) in
        let here : entry_of plan moments what i ≡ rank_among moments (what (i / 8) (i % 8)) = cond-true _ _ _ goes in
        omega arith
    | inr elsewhere ↦
        let here : entry_of plan moments what i ≡ 0 = cond-false _ _ _ elsewhere in
        omega arith
  ]

-- a moment of a message at a destination is among all
pub in_unordered : (plan : Scenario) (schedule : Schedule) (m g : ℕ) (c : Moment) → GoesTo plan m g → IsIn c (moments_at plan schedule m g)
    → IsIn c (unordered_moments plan schedule)
in_unordered plan schedule m g c goes i =
    in-flat_map (λ n. flat_map (moments_at plan schedule n) (message_at plan n).destinations) m c (message_numbers plan) (in-numbers plan m g goes)
    (in-flat_map (moments_at plan schedule m) g c (message_at plan m).destinations (in_of_goes plan m g goes) i)

-- a message goes to eight groups at most, and a group has one of the first eight numbers
few_destinations : (plan : Scenario) → IsRoundable plan → (m : ℕ) → m < length plan.multicasts → length (message_at plan m).destinations ≤ 8
few_destinations plan well m l =
    let message = well.messages m no_message l in
    let few = length-increasing-le (message_at plan m).destinations (length plan.groups) message.ascending message.known in
    let most = well.groups_high in
    omega arith

group_below : (plan : Scenario) → IsRoundable plan → (m g : ℕ) → GoesTo plan m g → g < 8
group_below plan well m g goes =
    let known = (well.messages m no_message (number_of_goes plan m g goes)).known in
    let here = all-in (λ h. h < length plan.groups) g (message_at plan m).destinations known (in_of_goes plan m g goes) in
    let most = well.groups_high in
    omega arith

module _ (k : ℕ) (plan fine : Scenario) (is : IsFiner k plan fine) (well : IsRoundable plan) (schedule : Schedule) where
  pub arrival_among : (m g : ℕ) → GoesTo plan m g → IsIn (arrival_of fine schedule m g) (unordered_moments fine schedule)
  arrival_among m g goes = in_unordered fine schedule m g _ (goes_too k plan fine is m g goes) (inl refl)

  pub commit_among : (m g : ℕ) → GoesTo plan m g → IsIn (commit_of fine schedule m g) (unordered_moments fine schedule)
  commit_among m g goes = in_unordered fine schedule m g _ (goes_too k plan fine is m g goes) (inr (inl refl))

  moments_few : length (unordered_moments fine schedule) ≤ 256
  moments_few =
      let most = flat_map_few (λ m. flat_map (moments_at fine schedule m) (message_at fine m).destinations) 16 (message_numbers fine) each in
      let many : length (message_numbers fine) ≡ length plan.multicasts =
      ap length (same_numbers k plan fine is) ∙ length-range_with_len 0 (length plan.multicasts) in
      let few = well.multicasts_high in
      omega arith where
        each : (m : ℕ) → IsIn m (message_numbers fine) → length (flat_map (moments_at fine schedule m) (message_at fine m).destinations) ≤ 16
        each m i =
            let number = in_of_range m 0 (length plan.multicasts) (subst (IsIn m) (same_numbers k plan fine is) i) in
            let few = few_destinations plan well m (omega arith) in
            let same : length (message_at fine m).destinations ≡ length (message_at plan m).destinations = ap length (same_message k plan fine is m).destinations in
            let most = flat_map_few (moments_at fine schedule m) 2 (message_at fine m).destinations (λ g j. omega arith) in
            omega arith

  pub is_order : plan.time ≡ Real → IsOrder plan (order_among plan fine schedule)
  is_order real = record {
    arrivals = are_ranks plan (unordered_moments fine schedule) (arrival_of fine schedule) moments_few arrival_among;
    commits = are_ranks plan (unordered_moments fine schedule) (commit_of fine schedule) moments_few commit_among;
    fixed = λ ticks. absurd (let never : Real ≡ Ticks = sym real ∙ ticks in cc);
  }

  -- the ranks of the order
  rank_is : (what : ℕ → ℕ → Moment) (m g : ℕ) → GoesTo plan m g
      → rank_at (table_of plan (unordered_moments fine schedule) what) m g ≡ rank_among (unordered_moments fine schedule) (what m g)
  rank_is what m g goes =
      let number = number_of_goes plan m g goes in
      let few = well.multicasts_high in
      table_at plan (unordered_moments fine schedule) what m g (omega arith) (group_below plan well m g goes) ∙ cond-true _ _ _ goes

  pub arrival_ranked : (m g : ℕ) → GoesTo plan m g
      → rank_at (order_among plan fine schedule).arrivals m g ≡ rank_among (unordered_moments fine schedule) (arrival_of fine schedule m g)
  arrival_ranked m g goes = rank_is (arrival_of fine schedule) m g goes

  pub commit_ranked : (m g : ℕ) → GoesTo plan m g
      → rank_at (order_among plan fine schedule).commits m g ≡ rank_among (unordered_moments fine schedule) (commit_of fine schedule m g)
  commit_ranked m g goes = rank_is (commit_of fine schedule) m g goes
