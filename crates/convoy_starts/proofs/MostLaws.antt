-- Numbers that are told for some messages at once, each barred.
use Rattle.std.proofs.Common.{◌≡◌, ◌≢◌, ℕ, ◌+◌, ◌-◌, ◌<◌, ◌≤◌, ◌==◌, suc, inl, inr, nat_le, Bool, true, false, ◌&&◌, not, cond, List, [], ◌∷◌, ◌++◌, length, get_or, set, max, min, map, fold, All, refl, sym, ap, ap₂, ◌∙◌, arith}
use Rattle.std.specs.List.{list_any}
use Rattle.std.proofs.Math.Nat.{max-zero}
use Rattle.std.proofs.lemmas.Bool.{cases_lt, cond_both}
use Rattle.std.proofs.lemmas.Bool.Decides.{nat_tests}
use Rattle.std.proofs.lemmas.Grind.{get_or-set_at}
use Rattle.std.proofs.lemmas.List.{get_or-set_other}
use Rattle.std.proofs.lemmas.List.FromFn.{get_or-range_with_len, length-range_with_len}
use Rattle.convoy_draft.specs.declared.time.Time.{Time}
use Rattle.convoy_scenario.specs.Scenario.{Scenario, message_at, message_numbers}
use Rattle.convoy_scenario.specs.WellFormed.{IsScenario}
use Rattle.convoy_sim.specs.Times.{Tick}
use Rattle.convoy_sim.specs.Moments.{next_arrival}
use Rattle.convoy_intervals.specs.Bounds.{Tables}
use Rattle.convoy_stamps.specs.declared.pair.Pair.{Pair}
use Rattle.convoy_stamps.proofs.Arrivals.{next_rises}
use Rattle.convoy_sure.specs.Windows.{LeadTables}
use Rattle.convoy_sure.specs.SureLeads.{Sure, pair_count}
use Rattle.convoy_starts.specs.Starts.{Start, arrives_by, capped, clock_alone, clock_from, clock_high, clock_since, covers, lead_by, may_have_come, raise_high, stamp_for, stamp_high, start_of, with_start}
use Rattle.convoy_starts.specs.Mosts.{AreFor, AreCurrent, IsCurrent, Memo, may_precede}

-- ---- lists for the bars
-- a list that has for each of the bars what a function says, is that function over the bars
mapped_by : (f : ℕ → ℕ) (bars xs : List ℕ) → length xs ≡ length bars → ((k : ℕ) → k < length bars → get_or xs k 0 ≡ f (get_or bars k 0)) → xs ≡ map f bars
mapped_by f [] [] long each = refl
mapped_by f [] (x ∷ xs) long each = absurd (omega (arith, long))
mapped_by f (b ∷ bs) [] long each = absurd (omega (arith, long))
mapped_by f (b ∷ bs) (x ∷ xs) long each =
    ap₂ (λ y ys. y ∷ ys) (each 0 (omega arith)) (mapped_by f bs xs (omega (arith, long)) (λ k l. each (suc k) (omega arith)))

pub mapped : (f : ℕ → ℕ) (bars xs : List ℕ) → AreFor f bars xs → xs ≡ map f bars
mapped f bars xs are = mapped_by f bars xs are.long are.each

-- ---- clocks
module _ (scenario : Scenario) (tables : Tables) (sure : Sure) (q h : ℕ) (tick : Tick) (start : Start) where
  abbrev clock : ℕ → ℕ
  clock x = clock_from scenario tables sure x q h tick start

  abbrev since : ℕ → ℕ
  since x = clock_since scenario tables sure x q h tick start

  -- a start that may not come before gives no clock
  pub clock_unless : (x : ℕ) → may_precede scenario.time q h tick start ≡ false → clock_from scenario tables sure x q h tick start ≡ 0
  clock_unless x none = ap (λ p. cond (p && not (start.message == x)) (since x) 0) none

  -- nor does one whose message is barred
  pub clock_barred : (x : ℕ) → may_precede scenario.time q h tick start ≡ true → (start.message == x) ≡ true → clock_from scenario tables sure x q h tick start ≡ 0
  clock_barred x may same = ap₂ (λ p m. cond (p && not m) (since x) 0) may same

  pub clock_passing : (x : ℕ) → may_precede scenario.time q h tick start ≡ true → (start.message == x) ≡ false
      → clock_from scenario tables sure x q h tick start ≡ clock_since scenario tables sure x q h tick start
  clock_passing x may other = ap₂ (λ p m. cond (p && not m) (since x) 0) may other

-- ---- starts that are added later
-- a start that an arrival by a tick may not follow is none that comes before
late_start : (time : Time) (q h : ℕ) (by : Tick) (new : Start) → by < next_arrival time new.at → may_precede time q h by new ≡ false
late_start time q h by new late = first (new.group == h) (nat_le (next_arrival time new.at) by) (not (new.message == q)) (before (next_arrival time new.at) by late) where
  before : (a b : ℕ) → b < a → nat_le a b ≡ false
  before a b l = grind (arith, nat_tests, l)

  first : (a b c : Bool) → b ≡ false → ((a && b) && c) ≡ false
  first true b c none = ap (λ d. d && c) none
  first false b c none = refl

module _ (scenario : Scenario) (tables : Tables) (sure : Sure) (starts : List Start) (new : Start) where
  -- and it changes no clock
  clock_same : (x q h : ℕ) (by : Tick) → by < next_arrival scenario.time new.at
      → clock_high scenario tables sure (starts ++ new ∷ []) x q h by ≡ clock_high scenario tables sure starts x q h by
  clock_same x q h by late =
      let f : Start → ℕ = clock_from scenario tables sure x q h by in
      let alone : ℕ = clock_alone scenario tables sure q h by in
      pushed f (max 0 alone) starts
      ∙ ap (λ n. max (fold max (max 0 alone) (map f starts)) n) (clock_unless scenario tables sure q h by new x (late_start scenario.time q h by new late))
      ∙ max-zero (fold max (max 0 alone) (map f starts)) where
        pushed : (f : Start → ℕ) (b : ℕ) (ys : List Start) → fold max b (map f (ys ++ new ∷ [])) ≡ max (fold max b (map f ys)) (f new)
        pushed f b [] = refl
        pushed f b (y ∷ ys) = pushed f (max b (f y)) ys

  -- so what a memo says still holds
  current_still : (bars : List ℕ) (tick : Tick) (memo : Memo) → tick ≤ new.at → IsCurrent scenario tables sure bars starts tick memo
      → IsCurrent scenario tables sure bars (starts ++ new ∷ []) tick memo
  current_still bars tick memo late is = record {
    soon = is.soon;
    each = λ k l.
        is.each k l
        ∙ sym (ap (λ (clock : ℕ). min (pair_count scenario) (capped sure.time (lead_by scenario tables sure memo.message memo.group memo.by) (clock + 1)))
        (clock_same (get_or bars k 0) memo.message memo.group memo.by
        (let soon = is.soon (omega arith) in let rise = next_rises scenario.time tick new.at late in omega arith)));
  }

-- memos hold with a start more, if it is of that tick
pub current_with : (scenario : Scenario) (tables : Tables) (sure : Sure) (bars : List ℕ) (starts : List Start) (new : Start) (tick : Tick) (memos : List Memo)
    → new.at ≡ tick → AreCurrent scenario tables sure bars starts tick memos → AreCurrent scenario tables sure bars (with_start starts new) tick memos
current_with scenario tables sure bars starts new tick memos is are =
    cond_both (list_any (λ old. covers old new) starts) starts (starts ++ new ∷ []) (λ ss. AreCurrent scenario tables sure bars ss tick memos)
    (λ t. are)
    (λ t. λ k d l. current_still scenario tables sure starts new bars tick (get_or memos k d) (omega (arith, is)) (are k d l))

-- and at a later tick
pub current_later : (scenario : Scenario) (tables : Tables) (sure : Sure) (bars : List ℕ) (starts : List Start) (tick next : Tick) (memos : List Memo)
    → tick ≤ next → AreCurrent scenario tables sure bars starts tick memos → AreCurrent scenario tables sure bars starts next memos
current_later scenario tables sure bars starts tick next memos late are k d l =
    let is = are k d l in
    let rise = next_rises scenario.time tick next late in
    record { soon = λ some. let soon = is.soon some in omega arith; each = is.each }

-- memos of nothing hold
pub current_first : (scenario : Scenario) (tables : Tables) (sure : Sure) (bars : List ℕ) (starts : List Start) (tick : Tick) (memos : List Memo)
    → All (λ t. (t.by ≡ 0) × (t.stamps ≡ [])) memos → AreCurrent scenario tables sure bars starts tick memos
current_first scenario tables sure bars starts tick memos none k d l =
    let here = none k d l in
    record { soon = λ some. absurd (omega (arith, ap length here.1)); each = λ i m. absurd (omega (arith, ap length here.1)) }

-- ---- what raises a clock is few
greatest_few : {X : Type 0} (f : X → ℕ) (most : ℕ) → ((x : X) → f x ≤ most) → (a : ℕ) (xs : List X) → a ≤ most → fold max a (map f xs) ≤ most
greatest_few f most few a [] low = low
greatest_few f most few a (x ∷ xs) low = greatest_few f most few (max a (f x)) xs (omega (arith, few x))

pub raise_small : (scenario : Scenario) (tables : LeadTables) (sure : Sure) (starts : List Start) (tick : Tick) (x c g : ℕ)
    → raise_high scenario tables sure starts tick x c g ≤ pair_count scenario
raise_small scenario tables sure starts tick x c g =
    cap_few _ _ _ (greatest_few (stamp_for scenario tables sure starts tick x c g) (pair_count scenario) (λ f. stamp_few f) 0 (message_at scenario c).destinations (omega arith)) where
      cap_few : (s l v : ℕ) → v ≤ pair_count scenario → capped s l v ≤ pair_count scenario
      cap_few s l v few = cond_both (l == 0) v (min v (s + 1 - l)) (λ n. n ≤ pair_count scenario) (λ t. few) (λ t. omega (arith, few))

      stamp_few : (f : ℕ) → stamp_for scenario tables sure starts tick x c g f ≤ pair_count scenario
      stamp_few f =
          cond_both (may_have_come tick f g) (stamp_high scenario tables.times sure starts x c f (arrives_by tables tick c g f)) 0 (λ n. n ≤ pair_count scenario)
          (λ t. omega arith) (λ t. omega arith)

-- ---- one entry of a list after the other
module _ (old now new : List ℕ) (f : ℕ → ℕ) (k : ℕ) (is : new ≡ set now k (f k)) (within : k < length now) where
  pub one_done : ((j : ℕ) → j < k → get_or now j 0 ≡ f j) → (j : ℕ) → j < k + 1 → get_or new j 0 ≡ f j
  one_done done j l = elim (cases_lt j k) [
    | inl before ↦
        let other : j ≢ k = omega arith in
        ap (λ xs. get_or xs j 0) is ∙ get_or-set_other now k j (f k) 0 other ∙ done j before
    | inr after ↦
        let here : j ≡ k = omega arith in
        ap (λ xs. get_or xs j 0) is ∙ get_or-set_at now k j (f k) 0 here within ∙ ap f (sym here)
  ]

  pub one_left : ((j : ℕ) → k ≤ j → get_or now j 0 ≡ get_or old j 0) → (j : ℕ) → k + 1 ≤ j → get_or new j 0 ≡ get_or old j 0
  one_left left j l =
      let other : j ≢ k = omega arith in
      ap (λ xs. get_or xs j 0) is ∙ get_or-set_other now k j (f k) 0 other ∙ left j (omega arith)

-- ---- the place of the target among the bars
pub target_within : (scenario : Scenario) → IsScenario scenario → scenario.target_message < length (message_numbers scenario)
target_within scenario well = omega (arith, well.target, length-range_with_len 0 (length scenario.multicasts))

pub target_there : (scenario : Scenario) → IsScenario scenario → get_or (message_numbers scenario) scenario.target_message 0 ≡ scenario.target_message
target_there scenario well =
    get_or-range_with_len 0 (length scenario.multicasts) scenario.target_message 0 (omega (arith, well.target)) ∙ (omega arith)

-- ---- a start by what was told for the bars
module _ (scenario : Scenario) (tables : LeadTables) (sure : Sure) (starts : List Start) (tick : Tick) (pair : Pair) where
  pub start_is : (barring : Bool) (base : ℕ) (barred : List ℕ)
      → base ≡ raise_high scenario tables sure starts tick scenario.target_message pair.message pair.group
      → barred ≡ cond barring (map (λ x. raise_high scenario tables sure starts tick x pair.message pair.group) (message_numbers scenario)) []
      → record { at = tick; message = pair.message; group = pair.group; base = base; barred = barred } ≡ start_of scenario tables sure barring starts tick pair
  start_is barring base barred b l = ap₂ (λ (n : ℕ) (ns : List ℕ). record { at = tick; message = pair.message; group = pair.group; base = n; barred = ns }) b l

  -- it is of that tick
  pub start_at : (barring : Bool) (start : Start) → start ≡ start_of scenario tables sure barring starts tick pair → start.at ≡ tick
  start_at barring start is = ap (λ (s : Start). s.at) is
