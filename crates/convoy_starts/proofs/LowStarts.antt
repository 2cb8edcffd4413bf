-- Starts that raise no clock, since few messages arrive after them.
use Rattle.std.proofs.Common.{◌≡◌, ◌≢◌, ℕ, ◌+◌, ◌<◌, ◌≤◌, ◌==◌, zero, suc, inl, inr, nat_le, max, min, Bool, true, false, ◌&&◌, not, cond, List, [], ◌∷◌, length, get_or, drop, map, filter, fold, refl, sym, ap, ◌∙◌, arith}
use Rattle.std.specs.List.{range_with_len}
use Rattle.std.proofs.Math.Nat.{max-zero}
use Rattle.std.proofs.Math.Seq.{drop-cons}
use Rattle.std.proofs.lemmas.Bool.{cases_Bool, cond_both, and_parts, both_ways, eq-eqb, le-leb}
use Rattle.std.proofs.lemmas.Bool.Decides.{nat_tests}
use Rattle.convoy_draft.specs.declared.time.Time.{Time}
use Rattle.convoy_draft.specs.declared.time.Time.TheVariants.{Ticks, Real}
use Rattle.convoy_scenario.specs.Scenario.{Scenario}
use Rattle.convoy_sim.specs.Times.{Tick, greatest}
use Rattle.convoy_sim.specs.Moments.{next_arrival}
use Rattle.convoy_sim.specs.Delivery.{addressed_to}
use Rattle.convoy_intervals.specs.Bounds.{Tables}
use Rattle.convoy_sure.specs.SureLeads.{Sure, may_be_earlier, lead_at}
use Rattle.convoy_starts.specs.Starts.{Start, arrivals_since, clock_from, may_arrive, may_start, room_above, value_for, window}
use Rattle.convoy_starts.proofs.Rooms.{filter_within}

-- one filter after the other
pub filter_twice : (p q : ℕ → Bool) (zs : List ℕ) → filter p (filter q zs) ≡ filter (λ z. q z && p z) zs
filter_twice p q [] = refl
filter_twice p q (z ∷ zs) = pick (q z) (filter_twice p q zs) where
  pick : (first : Bool) → filter p (filter q zs) ≡ filter (λ y. q y && p y) zs
      → filter p (cond first (z ∷ filter q zs) (filter q zs)) ≡ cond (first && p z) (z ∷ filter (λ y. q y && p y) zs) (filter (λ y. q y && p y) zs)
  pick true rest = ap (λ ys. cond (p z) (z ∷ ys) ys) rest
  pick false rest = rest

-- what arrives sooner is no less early
sooner : (time : Time) (a c z b q : ℕ) → c ≤ a → may_be_earlier time a z b q ≡ true → may_be_earlier time c z b q ≡ true
sooner Ticks a c z b q less is = grind (arith, nat_tests, less, is)
sooner Real a c z b q less is = grind (arith, nat_tests, less, is)

-- what may arrive after some tick may arrive at all
arrives_at_all : (time : Time) (tables : Tables) (tick : Tick) (q h : ℕ) (since : Tick) (z : ℕ)
    → may_arrive time tables tick q h since z ≡ true → may_arrive time tables tick q h 0 z ≡ true
arrives_at_all time tables tick q h since z is =
    let least : ℕ = tables.least_arrival z h in
    let parts = and_parts (not (z == q) && may_be_earlier time (max since least) z tick q) (nat_le since (tables.greatest_arrival z h)) is in
    let firsts = and_parts (not (z == q)) (may_be_earlier time (max since least) z tick q) parts.0 in
    both (not (z == q)) (may_be_earlier time (max 0 least) z tick q) (nat_le 0 (tables.greatest_arrival z h)) firsts.0
    (sooner time (max since least) (max 0 least) z tick q (omega arith) firsts.1) (le-leb 0 (tables.greatest_arrival z h) (omega arith)) where
      both : (a b c : Bool) → a ≡ true → b ≡ true → c ≡ true → ((a && b) && c) ≡ true
      both true true c s t u = u
      both true false c s t u = t
      both false b c s t u = s

-- so those that may arrive after a start, less its message, are no more than those that may arrive at all
others_few : (scenario : Scenario) (tables : Tables) (tick : Tick) (q h : ℕ) (since : Tick) (m : ℕ)
    → length (filter (λ z. not (z == m)) (arrivals_since scenario tables tick q h since)) ≤ length (arrivals_since scenario tables tick q h 0)
others_few scenario tables tick q h since m =
    let may : ℕ → Bool = may_arrive scenario.time tables tick q h since in
    let few = filter_within (λ z. may z && not (z == m)) (may_arrive scenario.time tables tick q h 0)
    (λ z both. arrives_at_all scenario.time tables tick q h since z (and_parts (may z) (not (z == m)) both).0) (addressed_to scenario h) in
    omega (arith, ap length (filter_twice (λ z. not (z == m)) may (addressed_to scenario h)))

-- a window is no wider than there are messages
least_within : (a : ℕ) (xs : List ℕ) → fold min a xs ≤ a
least_within a [] = omega arith
least_within a (x ∷ xs) = let rest = least_within (min a x) xs in omega arith

window_within : (sure : ℕ) (lead : ℕ → ℕ) (zs : List ℕ) (value : ℕ) → window sure lead zs value ≤ value + length zs
window_within sure lead zs value = least_within (value + length zs) (map (room_above sure lead zs) (range_with_len value (length zs)))

-- so a clock is no higher than the value of the start and how many may arrive
module _ (scenario : Scenario) (tables : Tables) (sure : Sure) (x q h : ℕ) (tick : Tick) (start : Start) where
  clock_few : clock_from scenario tables sure x q h tick start ≤ value_for start x q + length (arrivals_since scenario tables tick q h 0)
  clock_few =
      let since : Tick = next_arrival scenario.time start.at in
      let others : List ℕ = filter (λ z. not (z == start.message)) (arrivals_since scenario tables tick q h since) in
      let lead : ℕ → ℕ = λ z. lead_at sure.leads z h in
      let within = window_within sure.time lead others (value_for start x q) in
      let few = others_few scenario tables tick q h since start.message in
      cond_both (may_start scenario.time x q h tick start) (window sure.time lead others (value_for start x q)) 0
      (λ n. n ≤ value_for start x q + length (arrivals_since scenario tables tick q h 0))
      (λ t. omega arith) (λ t. omega arith)

  -- and it raises no clock that is as high
  pub clock_low : (many clock : ℕ) → many ≡ length (arrivals_since scenario tables tick q h 0)
      → (x ≢ start.message → value_for start x q + many ≤ clock) → max clock (clock_from scenario tables sure x q h tick start) ≡ clock
  clock_low many clock is low = elim (cases_Bool (start.message == x)) [
    | inl same ↦ ap (max clock) (barred ((start.group == h) && nat_le (next_arrival scenario.time start.at) tick && not (start.message == q)) _ same) ∙ max-zero clock
    | inr other ↦
        let high = low (λ e. both_ways (start.message == x) other (eq-eqb start.message x (sym e))) in
        let few = clock_few in
        omega (arith, is)
  ] where
    barred : (may : Bool) (n : ℕ) → (start.message == x) ≡ true → cond (may && not (start.message == x)) n 0 ≡ 0
    barred may n same = ap (λ m. cond (may && not m) n 0) same ∙ none may where
      none : (may : Bool) → cond (may && false) n 0 ≡ 0
      none true = refl
      none false = refl

-- ---- from the last start to the first
-- one start more
pub one_more : (f : Start → ℕ) (a : ℕ) (starts : List Start) (k : ℕ) (start : Start) → k < length starts
    → greatest (a ∷ map f (drop k starts)) ≡ max (greatest (a ∷ map f (drop (suc k) starts))) (f (get_or starts k start))
one_more f a starts k start within =
    ap (λ (ss : List Start). greatest (a ∷ map f ss)) (drop-cons starts k start within) ∙ pushed (max 0 a) (f (get_or starts k start)) (map f (drop (suc k) starts)) where
      pushed : (b n : ℕ) (ns : List ℕ) → fold max (max b n) ns ≡ max (fold max b ns) n
      pushed b n [] = refl
      pushed b n (y ∷ ys) = ap (λ (c : ℕ). fold max c ys) swap ∙ pushed (max b y) n ys where
        swap : max (max b n) y ≡ max (max b y) n
        swap = omega arith

-- none yet
pub none_yet : (f : Start → ℕ) (a : ℕ) (starts : List Start) (k : ℕ) → length starts ≤ k → greatest (a ∷ map f (drop k starts)) ≡ a
none_yet f a starts k all = ap (λ (ss : List Start). greatest (a ∷ map f ss)) (past starts k all) ∙ (omega arith) where
  past : (ss : List Start) (k : ℕ) → length ss ≤ k → drop k ss ≡ []
  past [] zero all = refl
  past [] (suc k) all = refl
  past (s ∷ ss) zero all = absurd (omega (arith, all))
  past (s ∷ ss) (suc k) all = past ss k (omega (arith, all))
