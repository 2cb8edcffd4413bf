-- Where all issues are so many ticks later, so is the whole run.
use Rattle.std.proofs.Common.{◌≡◌, ℕ, ◌+◌, ◌-◌, ◌≤◌, ◌==◌, max, Bool, not, ◌&&◌, ◌||◌, if◌then◌else◌, nat_lt, nat_le, inl, inr, List, [], ◌∷◌, map, fold, filter, refl, sym, ap, ap₂, ◌∙◌, arith}
use Rattle.std.specs.List.{list_any, range_with_len}
use Rattle.std.proofs.lemmas.Bool.Decides.{nat_tests}
use Rattle.convoy_scenario.specs.Scenario.{Scenario, GoesTo, message_at, message_numbers, is_addressed}
use Rattle.convoy_packets.specs.declared.packet.Packet.TheVariants.{Multicast, Propose}
use Rattle.convoy_packets.specs.Order.{rank_at}
use Rattle.convoy_packets.specs.Assignment.{Schedule}
use Rattle.convoy_sim.specs.declared.moment.Moment.{Moment}
use Rattle.convoy_sim.specs.declared.moment.MomentKind.TheVariants.{Arrival, Commit}
use Rattle.convoy_sim.specs.Times.{arrive, settle, propose_arrive}
use Rattle.convoy_sim.specs.Moments.{arrival_of, arrival_rank, commit_of, commit_rank, is_before, is_kind_before, is_same_kind, moments_of, rank_in, rank_then}
use Rattle.convoy_sim.specs.Stamps.{is_less, local_stamp, final_stamp}
use Rattle.convoy_sim.specs.Delivery.{addressed_to, holds_back, is_free, deliver, latency_at}
use Rattle.convoy_sim.proofs.Membership.{IsIn}
use Rattle.convoy_sim.proofs.Addressed.{in_of_goes, goes_from_in, goes_of_addressed}
use Rattle.convoy_origin.proofs.Lists.{filter_same}
use Rattle.convoy_origin.proofs.SameRun.{IsMoved, moment_at, moments_are, same_local, same_final}
use Rattle.convoy_origin.proofs.Delivered.{delivered_by, delivered_free}
use Rattle.convoy_origin.specs.Later.{IssuesLater, RunsLater, RunsShift, moment_later}

-- ---- numbers and lists
plus_lt : (by x y : ℕ) → nat_lt (x + by) (y + by) ≡ nat_lt x y
plus_lt by x y = grind (arith, nat_tests)

plus_le : (by x y : ℕ) → nat_le (x + by) (y + by) ≡ nat_le x y
plus_le by x y = grind (arith, nat_tests)

plus_eq : (by x y : ℕ) → (x + by == y + by) ≡ (x == y)
plus_eq by x y = grind (arith, nat_tests)

plus_fold : {X : Type 0} (by start : ℕ) (f g : X → ℕ) (xs : List X) → ((x : X) → IsIn x xs → f x ≡ g x + by)
    → fold max (start + by) (map f xs) ≡ fold max start (map g xs) + by
plus_fold by start f g [] h = refl
plus_fold by start f g (x ∷ xs) h =
    let first = h x (inl refl) in
    let most : max (start + by) (f x) ≡ max start (g x) + by = omega arith in
    ap (λ n. fold max n (map f xs)) most ∙ plus_fold by (max start (g x)) f g xs (λ y i. h y (inr i))

-- the greatest of some numbers, each of which is so much greater
pub plus_greatest : {X : Type 0} (by : ℕ) (f g : X → ℕ) (xs : List X) (one : X) → IsIn one xs → ((x : X) → IsIn x xs → f x ≡ g x + by)
    → fold max 0 (map f xs) ≡ fold max 0 (map g xs) + by
plus_greatest by f g [] one i h = absurd i
plus_greatest by f g (x ∷ xs) one i h =
    let first = h x (inl refl) in
    let most : max 0 (f x) ≡ max 0 (g x) + by = omega arith in
    ap (λ n. fold max n (map f xs)) most ∙ plus_fold by (max 0 (g x)) f g xs (λ y j. h y (inr j))

pub map_same_in : {X Y : Type 0} (f g : X → Y) (xs : List X) → ((x : X) → IsIn x xs → f x ≡ g x) → map f xs ≡ map g xs
map_same_in f g [] h = refl
map_same_in f g (x ∷ xs) h = ap₂ (λ y ys. y ∷ ys) (h x (inl refl)) (map_same_in f g xs (λ y i. h y (inr i)))

any_same_in : {X : Type 0} (p q : X → Bool) (xs : List X) → ((x : X) → IsIn x xs → p x ≡ q x) → list_any p xs ≡ list_any q xs
any_same_in p q [] h = refl
any_same_in p q (x ∷ xs) h = ap₂ (λ a b. a || b) (h x (inl refl)) (any_same_in p q xs (λ y i. h y (inr i)))

-- ---- moments
pub later_before : (by : ℕ) (x y : Moment) → is_before (moment_later by x) (moment_later by y) ≡ is_before x y
later_before by x y =
    ap₂ (λ a b. a || (b && (nat_lt x.rank y.rank
    || ((x.rank == y.rank)
    && (is_kind_before x.kind y.kind
    || (is_same_kind x.kind y.kind && (nat_lt x.message y.message || ((x.message == y.message) && nat_lt x.group y.group))))))))
    (plus_lt by x.tick y.tick) (plus_eq by x.tick y.tick)

module _ (by : ℕ) (plan : Scenario) (schedule : Schedule) (other : Scenario) (late : Schedule) (is : IssuesLater by plan schedule other late) where
  same_numbers : message_numbers other ≡ message_numbers plan
  same_numbers = ap (range_with_len 0) is.alike.count

  same_addressed : (m g : ℕ) → is_addressed (message_at other m) g ≡ is_addressed (message_at plan m) g
  same_addressed m g = ap (λ hs. list_any (λ h. h == g) hs) (is.alike.destinations m)

  goes_too : (m g : ℕ) → GoesTo plan m g → GoesTo other m g
  goes_too m g goes = same_addressed m g ∙ goes

  goes_back : (m g : ℕ) → GoesTo other m g → GoesTo plan m g
  goes_back m g goes = sym (same_addressed m g) ∙ goes

  same_addressed_to : (g : ℕ) → addressed_to other g ≡ addressed_to plan g
  same_addressed_to g =
      filter_same (λ n. is_addressed (message_at other n) g) (λ n. is_addressed (message_at plan n) g) (message_numbers other) (λ n. same_addressed n g)
      ∙ ap (filter (λ n. is_addressed (message_at plan n) g)) same_numbers

  -- ---- its times
  arrives : (m g : ℕ) → GoesTo plan m g → arrive other late m g ≡ arrive plan schedule m g + by
  unfolding arrive
  arrives m g goes =
      let start = is.issues m g goes in
      let delay = is.delays (Multicast m g) refl in
      omega arith

  proposes : (m g h : ℕ) → GoesTo plan m h → propose_arrive other late m g h ≡ propose_arrive plan schedule m g h + by
  proposes m g h goes =
      let start = arrives m h goes in
      let delay = is.delays (Propose m h g) refl in
      omega arith

  settles : (m g : ℕ) → GoesTo plan m g → settle other late m g ≡ settle plan schedule m g + by
  unfolding settle
  settles m g goes =
      ap (λ hs. fold max 0 (map (propose_arrive other late m g) hs)) (is.alike.destinations m)
      ∙ plus_greatest by (propose_arrive other late m g) (propose_arrive plan schedule m g) (message_at plan m).destinations g (in_of_goes plan m g goes)
      (λ h i. proposes m g h (goes_from_in plan m h i))

  -- ---- its moments
  arrival_rank_is : (m g : ℕ) → arrival_rank other late m g ≡ arrival_rank plan schedule m g
  unfolding arrival_rank
  arrival_rank_is m g = ap₂ (λ t o. rank_in t (rank_at o m g)) is.alike.time (ap (λ o. o.arrivals) is.order)

  rank_then_is : (m g h : ℕ) → GoesTo plan m g → GoesTo plan m h
      → rank_then other late m (settle other late m g) h ≡ rank_then plan schedule m (settle plan schedule m g) h
  rank_then_is m g h goes there =
      ap₂ (λ (b : Bool) (r : ℕ). if b then r else 0)
      (ap₂ (λ (x y : ℕ). x == y) (arrives m h there) (settles m g goes) ∙ plus_eq by (arrive plan schedule m h) (settle plan schedule m g))
      (arrival_rank_is m h)

  commit_rank_is : (m g : ℕ) → GoesTo plan m g → commit_rank other late m g ≡ commit_rank plan schedule m g
  unfolding commit_rank
  commit_rank_is m g goes =
      ap₂ (λ (c : ℕ) (rs : List ℕ). fold max 0 (c ∷ rs))
      (ap₂ (λ t o. rank_in t (rank_at o m g)) is.alike.time (ap (λ o. o.commits) is.order))
      (ap (map (rank_then other late m (settle other late m g))) (is.alike.destinations m)
      ∙ map_same_in (rank_then other late m (settle other late m g)) (rank_then plan schedule m (settle plan schedule m g)) (message_at plan m).destinations
      (λ h i. rank_then_is m g h goes (goes_from_in plan m h i)))

  pub arrival_later : (m g : ℕ) → GoesTo plan m g → arrival_of other late m g ≡ moment_later by (arrival_of plan schedule m g)
  arrival_later m g goes = ap₂ (moment_at Arrival m g) (arrives m g goes) (arrival_rank_is m g)

  pub commit_later : (m g : ℕ) → GoesTo plan m g → commit_of other late m g ≡ moment_later by (commit_of plan schedule m g)
  commit_later m g goes = ap₂ (moment_at Commit m g) (settles m g goes) (commit_rank_is m g goes)

  is_moved : IsMoved (λ x. x.tick + by) (λ x. x.rank) other late plan schedule
  is_moved = record {
    numbers = sym same_numbers;
    destinations = λ m. sym (is.alike.destinations m);
    groups = sym is.alike.groups;
    arrivals = λ m g goes. arrival_later m g (goes_back m g goes);
    commits = λ m g goes. commit_later m g (goes_back m g goes);
    before = λ x y i j. later_before by x y;
  }

  moments_later : moments_of other late ≡ map (moment_later by) (moments_of plan schedule)
  moments_later = moments_are (λ x. x.tick + by) (λ x. x.rank) other late plan schedule is_moved

  locals : (m g : ℕ) → local_stamp other late m g ≡ local_stamp plan schedule m g
  locals m g = same_local (λ x. x.tick + by) (λ x. x.rank) other late plan schedule is_moved m g

  finals : (m : ℕ) → final_stamp other late m ≡ final_stamp plan schedule m
  finals m = same_final (λ x. x.tick + by) (λ x. x.rank) other late plan schedule is_moved m

  -- ---- its deliveries
  holds_same : (m g tick n : ℕ) → GoesTo plan n g → holds_back other late m g (tick + by) n ≡ holds_back plan schedule m g tick n
  unfolding holds_back
  holds_same m g tick n goes =
      ap₂ (λ a b. a && b)
      (ap₂ (λ a b. a && b)
      (ap (λ t. nat_le t (tick + by)) (arrives n g goes) ∙ plus_le by (arrive plan schedule n g) tick)
      (ap₂ is_less (locals n g) (finals m)))
      (ap (nat_lt (tick + by)) (settles n g goes) ∙ plus_lt by tick (settle plan schedule n g))

  free_same : (m g tick : ℕ) → is_free other late m g (tick + by) ≡ is_free plan schedule m g tick
  free_same m g tick =
      ap not
      (ap (list_any (holds_back other late m g (tick + by))) (same_addressed_to g)
      ∙ any_same_in (holds_back other late m g (tick + by)) (holds_back plan schedule m g tick) (addressed_to plan g)
      (λ n i. holds_same m g tick n (goes_of_addressed plan n g i)))

  no_later : (m g : ℕ) → GoesTo plan m g → deliver other late m g ≤ deliver plan schedule m g + by
  no_later m g goes =
      let done = delivered_free plan schedule m g goes in
      let first = done.0 in
      let settled = settles m g goes in
      delivered_by other late m g (deliver plan schedule m g + by) (omega arith) (free_same m g (deliver plan schedule m g) ∙ done.1)

  no_sooner : (m g : ℕ) → GoesTo plan m g → deliver plan schedule m g + by ≤ deliver other late m g
  no_sooner m g goes =
      let end : ℕ = deliver other late m g in
      let done = delivered_free other late m g (goes_too m g goes) in
      let first = done.0 in
      let settled = settles m g goes in
      let back : end ≡ (end - by) + by = omega arith in
      let least = delivered_by plan schedule m g (end - by) (omega arith) (sym (free_same m g (end - by)) ∙ ap (is_free other late m g) (sym back) ∙ done.1) in
      omega arith

  delivers : (m g : ℕ) → GoesTo plan m g → deliver other late m g ≡ deliver plan schedule m g + by
  delivers m g goes =
      let high = no_later m g goes in
      let low = no_sooner m g goes in
      omega arith

  latency_is : (m g : ℕ) → GoesTo plan m g → latency_at other late m g ≡ latency_at plan schedule m g
  unfolding latency_at
  latency_is m g goes =
      let delivered = delivers m g goes in
      let issued = is.issues m g goes in
      omega arith

  pub run_later : RunsLater by plan schedule other late
  run_later = record {
    arrivals = arrives;
    commits = settles;
    moments = moments_later;
    locals = locals;
    finals = finals;
    deliveries = delivers;
    latencies = latency_is;
  }

pub runs_shift : RunsShift
runs_shift by plan schedule other late is = run_later by plan schedule other late is
