-- The run in whole ticks has the moments of the one in finer ticks in the same order, each rounded up.
use Rattle.std.proofs.Common.{◌≡◌, ℕ, ◌<◌, ◌≤◌, ◌==◌, max, true, false, inl, inr, List, ◌∷◌, map, fold, refl, sym, ap, ap₂, subst, ◌∙◌, arith}
use Rattle.std.proofs.lemmas.Bool.{cases_Bool, cond_both}
use Rattle.convoy_draft.specs.declared.time.Time.TheVariants.{Real}
use Rattle.convoy_scenario.specs.Scenario.{Scenario, GoesTo, message_at}
use Rattle.convoy_packets.specs.Order.{rank_at}
use Rattle.convoy_packets.specs.Assignment.{Schedule}
use Rattle.convoy_sim.specs.declared.moment.Moment.{Moment}
use Rattle.convoy_sim.specs.declared.moment.MomentKind.TheVariants.{Arrival, Commit}
use Rattle.convoy_sim.specs.Times.{arrive, settle}
use Rattle.convoy_sim.specs.Moments.{is_before, rank_in, arrival_rank, rank_then, commit_rank, arrival_of, commit_of, unordered_moments}
use Rattle.convoy_sim.proofs.Membership.{IsIn, in_of_map}
use Rattle.convoy_sim.proofs.Addressed.{goes_from_in}
use Rattle.convoy_sim.proofs.MomentsOrder.{before_one_way, before_itself, coming_before_commit, same_moment}
use Rattle.convoy_sim.proofs.MomentTicks.{tick_of_before}
use Rattle.convoy_laws.specs.FinerTicks.{IsFiner, IsRoundable}
use Rattle.convoy_laws.proofs.Used.{Used}
use Rattle.convoy_laws.proofs.Offset.{up_from, from_rises}
use Rattle.convoy_origin.proofs.Lists.{greatest_first}
use Rattle.convoy_laws.proofs.SameParts.{same_message, same_numbers, goes_too}
use Rattle.convoy_laws.proofs.Delays.{whole_in, arrives, settles}
use Rattle.convoy_laws.proofs.Ranks.{rank_among, rank_rises, order_among, arrival_among, arrival_ranked, commit_ranked}
use Rattle.convoy_laws.proofs.MomentOrder.{before_by_rank, arrival_rank_commit}
use Rattle.convoy_origin.proofs.SameRun.{IsMoved, moment_at, moved}

-- a moment rounded up to whole ticks, with its rank among others
abbrev whole_moment : ℕ → ℕ → List Moment → Moment → Moment
whole_moment k o moments = moved (λ x. up_from k o x.tick) (rank_among moments)

module _ (k : ℕ) (some : 1 ≤ k) (o : ℕ) (less : o < k) (moments : List Moment) where
  stays_before : (x y : Moment) → IsIn x moments → is_before x y ≡ true → is_before (whole_moment k o moments x) (whole_moment k o moments y) ≡ true
  stays_before x y i b =
      before_by_rank (whole_moment k o moments x) (whole_moment k o moments y) (from_rises k some o less x.tick y.tick (tick_of_before x y b))
      (rank_rises moments x y i b)

  before_same : (x y : Moment) → IsIn x moments → IsIn y moments → is_before (whole_moment k o moments x) (whole_moment k o moments y) ≡ is_before x y
  before_same x y i j = elim (cases_Bool (is_before x y)) [
    | inl b ↦ stays_before x y i b ∙ sym b
    | inr n ↦ elim (cases_Bool (is_before y x)) [
      | inl b ↦ before_one_way (whole_moment k o moments y) (whole_moment k o moments x) (stays_before y x j b) ∙ sym n
      | inr other ↦
          let same : x ≡ y = same_moment x y n other in
          subst (λ z. is_before (whole_moment k o moments x) (whole_moment k o moments z) ≡ false) same (before_itself (whole_moment k o moments x)) ∙ sym n
    ]
  ]

module _ (used : Used) (k : ℕ) (plan fine : Scenario) (is : IsFiner k plan fine) (o : ℕ) (less : o < k) (well : IsRoundable plan) (real : plan.time ≡ Real) (schedule : Schedule) where
  abbrev all : List Moment
  all = unordered_moments fine schedule

  abbrev whole : Schedule
  whole = whole_in k o plan fine schedule (order_among plan fine schedule)

  arrival_rank_is : (m g : ℕ) → GoesTo plan m g → arrival_rank plan whole m g ≡ rank_among all (arrival_of fine schedule m g)
  unfolding arrival_rank
  arrival_rank_is m g goes =
      ap (λ t. rank_in t (rank_at whole.order.arrivals m g)) real ∙ arrival_ranked k plan fine is well schedule m g goes

  -- a message is committed after all its arrivals
  arrival_first : (m g h : ℕ) → GoesTo plan m h → is_before (arrival_of fine schedule m h) (commit_of fine schedule m g) ≡ true
  arrival_first m g h goes =
      coming_before_commit (arrival_of fine schedule m h) (commit_of fine schedule m g)
      (used.arrivals fine schedule m g h (goes_too k plan fine is m h goes))
      (arrival_rank_commit fine schedule m g h (goes_too k plan fine is m h goes)) refl refl

  commit_rank_is : (m g : ℕ) → GoesTo plan m g → commit_rank plan whole m g ≡ rank_among all (commit_of fine schedule m g)
  unfolding commit_rank
  commit_rank_is m g goes =
      ap (λ c. fold max 0 (c ∷ map (rank_then plan whole m (settle plan whole m g)) (message_at plan m).destinations))
      (ap (λ t. rank_in t (rank_at whole.order.commits m g)) real ∙ commit_ranked k plan fine is well schedule m g goes)
      ∙ greatest_first (rank_among all (commit_of fine schedule m g)) (map (rank_then plan whole m (settle plan whole m g)) (message_at plan m).destinations)
      low where
        arrival_low : (h : ℕ) → IsIn h (message_at plan m).destinations → arrival_rank plan whole m h ≤ rank_among all (commit_of fine schedule m g)
        arrival_low h i =
            let there : GoesTo plan m h = goes_from_in plan m h i in
            let mine = arrival_rank_is m h there in
            let less = rank_rises all (arrival_of fine schedule m h) (commit_of fine schedule m g) (arrival_among k plan fine is well schedule m h there) (arrival_first m g h there) in
            omega arith

        low : (x : ℕ) → IsIn x (map (rank_then plan whole m (settle plan whole m g)) (message_at plan m).destinations)
            → x ≤ rank_among all (commit_of fine schedule m g)
        low x j =
            let r = in_of_map (rank_then plan whole m (settle plan whole m g)) x (message_at plan m).destinations j in
            subst (λ n. n ≤ rank_among all (commit_of fine schedule m g)) r.2
            (cond_both (arrive plan whole m r.0 == settle plan whole m g) (arrival_rank plan whole m r.0) 0
            (λ n. n ≤ rank_among all (commit_of fine schedule m g)) (λ e. arrival_low r.0 r.1) (λ e. omega arith))

  pub is_rounded : IsMoved (λ x. up_from k o x.tick) (rank_among all) plan whole fine schedule
  is_rounded = record {
    numbers = same_numbers k plan fine is;
    destinations = λ m. (same_message k plan fine is m).destinations;
    groups = is.groups;
    arrivals = λ m g goes. ap₂ (moment_at Arrival m g) (arrives used k plan fine is o less schedule (order_among plan fine schedule) m g) (arrival_rank_is m g goes);
    commits = λ m g goes. ap₂ (moment_at Commit m g) (settles used k plan fine is o less schedule (order_among plan fine schedule) m g) (commit_rank_is m g goes);
    before = before_same k is.some o less all;
  }
