-- Two runs with the same moments in the same order, at other ticks and of other ranks: they give the same stamps.
use Rattle.std.proofs.Common.{◌≡◌, ℕ, inl, inr, List, [], ◌∷◌, length, map, flat_map, fold, replicate, refl, sym, ap, ap₂, subst, ◌∙◌}
use Rattle.std.proofs.lemmas.Bool.{cases_Bool}
use Rattle.convoy_scenario.specs.Scenario.{Scenario, GoesTo, message_at, message_numbers}
use Rattle.convoy_packets.specs.Assignment.{Schedule}
use Rattle.convoy_sim.specs.declared.moment.Moment.{Moment}
use Rattle.convoy_sim.specs.declared.moment.MomentKind.{MomentKind}
use Rattle.convoy_sim.specs.Moments.{is_before, insert_moment, arrival_of, commit_of, moments_at, unordered_moments, moments_of}
use Rattle.convoy_sim.specs.Stamps.{Clocks, first_clocks, after_moment, clocks_of, local_in, greatest_in, local_stamp, final_stamp}
use Rattle.convoy_sim.proofs.Membership.{IsIn}
use Rattle.convoy_sim.proofs.Addressed.{goes_from_in}
use Rattle.convoy_sim.proofs.MomentsInOrder.{insert_before, insert_behind, in_of_insert}
use Rattle.convoy_origin.proofs.Lists.{flat_map_made}

-- a moment at a tick, with a rank
abbrev pub moment_at : MomentKind → ℕ → ℕ → ℕ → ℕ → Moment
moment_at kind m g tick rank = record { tick = tick; rank = rank; kind = kind; message = m; group = g }

-- a moment moved to another tick and rank
abbrev pub moved : (Moment → ℕ) → (Moment → ℕ) → Moment → Moment
moved tick rank x = moment_at x.kind x.message x.group (tick x) (rank x)

-- the moments of the one run are those of the other, moved to other ticks and ranks, and stay in their order
pub record IsMoved (tick rank : Moment → ℕ) (plan : Scenario) (schedule : Schedule) (other : Scenario) (run : Schedule) : Type 0 where
  pub numbers : message_numbers other ≡ message_numbers plan
  pub destinations : (m : ℕ) → (message_at other m).destinations ≡ (message_at plan m).destinations
  pub groups : length other.groups ≡ length plan.groups
  pub arrivals : (m g : ℕ) → GoesTo plan m g → arrival_of plan schedule m g ≡ moved tick rank (arrival_of other run m g)
  pub commits : (m g : ℕ) → GoesTo plan m g → commit_of plan schedule m g ≡ moved tick rank (commit_of other run m g)
  pub before : (x y : Moment) → IsIn x (unordered_moments other run) → IsIn y (unordered_moments other run)
      → is_before (moved tick rank x) (moved tick rank y) ≡ is_before x y

module _ (tick rank : Moment → ℕ) where
  abbrev move : Moment → Moment
  move = moved tick rank

  module _ (moments : List Moment) (before : (x y : Moment) → IsIn x moments → IsIn y moments → is_before (move x) (move y) ≡ is_before x y) where
    insert_same : (ys : List Moment) (x : Moment) → IsIn x moments → ((y : Moment) → IsIn y ys → IsIn y moments)
        → insert_moment (map move ys) (move x) ≡ map move (insert_moment ys x)
    insert_same [] x i h = refl
    insert_same (y ∷ ys) x i h =
        let same = before x y i (h y (inl refl)) in
        let rest = insert_same ys x i (λ z j. h z (inr j)) in
        elim (cases_Bool (is_before x y)) [
          | inl b ↦ insert_before (move x) (move y) (map move ys) (same ∙ b) ∙ ap (map move) (sym (insert_before x y ys b))
          | inr b ↦
              insert_behind (move x) (move y) (map move ys) (same ∙ b)
              ∙ ap (λ l. move y ∷ l) rest
              ∙ ap (map move) (sym (insert_behind x y ys b))
        ]

    inserts_same : (ys xs : List Moment) → ((y : Moment) → IsIn y ys → IsIn y moments) → ((x : Moment) → IsIn x xs → IsIn x moments)
        → fold insert_moment (map move ys) (map move xs) ≡ map move (fold insert_moment ys xs)
    inserts_same ys [] h i = refl
    inserts_same ys (x ∷ xs) h i =
        ap (λ l. fold insert_moment l (map move xs)) (insert_same ys x (i x (inl refl)) h)
        ∙ inserts_same (insert_moment ys x) xs
        (λ y j. elim (in_of_insert y x ys j) [ inl same ↦ subst (λ z. IsIn z moments) same (i x (inl refl)) | inr there ↦ h y there ])
        (λ z j. i z (inr j))

  -- clocks read neither ticks nor ranks
  read_same : (clocks : Clocks) (xs : List Moment) → fold after_moment clocks (map move xs) ≡ fold after_moment clocks xs
  read_same clocks [] = refl
  read_same clocks (x ∷ xs) = read_same (after_moment clocks x) xs

  module _ (plan : Scenario) (schedule : Schedule) (other : Scenario) (run : Schedule) (is : IsMoved tick rank plan schedule other run) where
    moments_of_message : (m : ℕ) → flat_map (moments_at plan schedule m) (message_at plan m).destinations
        ≡ map move (flat_map (moments_at other run m) (message_at other m).destinations)
    moments_of_message m =
        flat_map_made move (moments_at plan schedule m) (moments_at other run m) (message_at plan m).destinations
        (λ g i. ap₂ (λ x y. x ∷ y ∷ []) (is.arrivals m g (goes_from_in plan m g i)) (is.commits m g (goes_from_in plan m g i)))
        ∙ ap (λ gs. map move (flat_map (moments_at other run m) gs)) (sym (is.destinations m))

    unordered_are : unordered_moments plan schedule ≡ map move (unordered_moments other run)
    unordered_are =
        flat_map_made move (λ m. flat_map (moments_at plan schedule m) (message_at plan m).destinations)
        (λ m. flat_map (moments_at other run m) (message_at other m).destinations) (message_numbers plan) (λ m i. moments_of_message m)
        ∙ ap (λ ms. map move (flat_map (λ m. flat_map (moments_at other run m) (message_at other m).destinations) ms)) (sym is.numbers)

    pub moments_are : moments_of plan schedule ≡ map move (moments_of other run)
    unfolding moments_of
    moments_are =
        ap (fold insert_moment []) unordered_are
        ∙ inserts_same (unordered_moments other run) is.before [] (unordered_moments other run) (λ y i. absurd i) (λ x i. i)

    clocks_are : clocks_of plan schedule ≡ clocks_of other run
    unfolding clocks_of
    clocks_are =
        ap (fold after_moment (first_clocks plan)) moments_are
        ∙ read_same (first_clocks plan) (moments_of other run)
        ∙ ap (λ n. fold after_moment (record { numbers = replicate n 0; given = [] }) (moments_of other run)) (sym is.groups)

    pub same_local : (m g : ℕ) → local_stamp plan schedule m g ≡ local_stamp other run m g
    unfolding local_stamp
    same_local m g = ap (λ c. local_in c m g) clocks_are

    pub same_final : (m : ℕ) → final_stamp plan schedule m ≡ final_stamp other run m
    unfolding final_stamp
    same_final m = ap (λ c. greatest_in c m) clocks_are
