-- The plain bound: what may hold the target back under a schedule is among its rivals under tables that enclose it.
use Rattle.std.specs.Prelude.{◌≡◌, ℕ, ◌≤◌, nat_le, max, Bool, true, false, List, [], ◌∷◌, map, cond}
use Rattle.std.specs.List.{fold, filter, All}
use Rattle.std.proofs.Common.{refl, sym, arith}
use Rattle.std.proofs.lemmas.Bool.{false≢true}
use Rattle.std.proofs.lemmas.Bool.Decides.{nat_tests}
use Rattle.std.proofs.lemmas.List.Elements.{All-head, All-tail, All-weaker, filter_passes}
use Rattle.convoy_scenario.specs.Scenario.{Scenario, message_at, message_numbers, is_addressed, GoesTo}
use Rattle.convoy_packets.specs.Assignment.{Schedule}
use Rattle.convoy_sim.specs.Times.{greatest, arrive, settle}
use Rattle.convoy_sim.specs.Delivery.{addressed_to, deliver, latency_at, latency_of}
use Rattle.convoy_intervals.specs.Bounds.{Tables, Encloses, rivals, plain_bound_over}

-- at a number the second test says yes where the first does, and the second function gives no less
abbrev IsRaised : (p q : ℕ → Bool) (f g : ℕ → ℕ) → ℕ → Type 0
IsRaised p q f g x = (p x ≡ true → q x ≡ true) × (f x ≤ g x)

-- the greatest number of fewer and lesser ones
fold_max_filter_le : (p q : ℕ → Bool) (f g : ℕ → ℕ) (xs : List ℕ) → All (IsRaised p q f g) xs → (a b : ℕ) → a ≤ b → fold max a (map f (filter p xs)) ≤ fold max b (map g (filter q xs))
fold_max_filter_le p q f g [] each a b le = le
fold_max_filter_le p q f g (x ∷ xs) each a b le =
    let here = All-head (IsRaised p q f g) x xs each in
    by_test (p x) (q x) here.0 here.1 (fold_max_filter_le p q f g xs (All-tail (IsRaised p q f g) x xs each)) where
      by_test : (left right : Bool) → (left ≡ true → right ≡ true) → f x ≤ g x → ((c d : ℕ) → c ≤ d → fold max c (map f (filter p xs)) ≤ fold max d (map g (filter q xs))) → fold max a (map f (cond left (x ∷ filter p xs) (filter p xs))) ≤ fold max b (map g (cond right (x ∷ filter q xs) (filter q xs)))
      by_test true true same more rest = rest (max a (f x)) (max b (g x)) (omega arith)
      by_test true false same more rest = absurd (false≢true (same refl))
      by_test false true same more rest = rest a (max b (g x)) (omega arith)
      by_test false false same more rest = rest a b le

-- the messages that arrive at the group no later than message m is committed there
abbrev pub early : Scenario → Schedule → ℕ → ℕ → List ℕ
early plan schedule m g = filter (λ n. nat_le (arrive plan schedule n g) (settle plan schedule m g)) (addressed_to plan g)

-- where nothing differs
same_raised : (first other last end settled again : ℕ) → first ≡ other → last ≡ end → settled ≡ again → (nat_le first last ≡ true → nat_le other end ≡ true) × (settled ≤ again)
same_raised first other last end settled again a b c = (λ early_test. grind (arith, nat_tests), omega arith)

module _ (plan : Scenario) (schedule : Schedule) (tables : Tables) (enclosed : Encloses plan schedule tables) (addressed : GoesTo plan plan.target_message plan.target_group) where
  abbrev arrives_early : ℕ → Bool
  arrives_early n = nat_le (arrive plan schedule n plan.target_group) (settle plan schedule plan.target_message plan.target_group)

  abbrev is_rival : ℕ → Bool
  is_rival n = nat_le (tables.least_arrival n plan.target_group) (tables.greatest_settling plan.target_message plan.target_group)

  abbrev settled : ℕ → ℕ
  settled n = settle plan schedule n plan.target_group

  abbrev settled_last : ℕ → ℕ
  settled_last n = tables.greatest_settling n plan.target_group

  raised : (n : ℕ) → is_addressed (message_at plan n) plan.target_group ≡ true → IsRaised arrives_early is_rival settled settled_last n
  raised n goes =
      let g = plan.target_group in
      let last : settle plan schedule plan.target_message g ≤ tables.greatest_settling plan.target_message g = enclosed.settling_high plan.target_message g addressed in
      let first : tables.least_arrival n g ≤ arrive plan schedule n g = enclosed.arrival_low n g goes in
      (λ early_test. grind (arith, nat_tests), enclosed.settling_high n g goes)

  pub early_settles_le : greatest (map settled (plan.target_message ∷ early plan schedule plan.target_message plan.target_group)) ≤ greatest (map settled_last (plan.target_message ∷ rivals plan tables))
  early_settles_le =
      let m = plan.target_message in
      let g = plan.target_group in
      let here : settle plan schedule m g ≤ tables.greatest_settling m g = enclosed.settling_high m g addressed in
      let goes = λ (n : ℕ). is_addressed (message_at plan n) g in
      let each = All-weaker (λ n. goes n ≡ true) (IsRaised arrives_early is_rival settled settled_last) raised (addressed_to plan g) (filter_passes goes (message_numbers plan)) in
      fold_max_filter_le arrives_early is_rival settled settled_last (addressed_to plan g) each (max 0 (settled m)) (max 0 (settled_last m)) (omega arith)

  -- a delivery that waits for no message but these keeps the bound
  pub latency_le : deliver plan schedule plan.target_message plan.target_group ≤ greatest (map settled (plan.target_message ∷ early plan schedule plan.target_message plan.target_group)) → latency_of plan schedule ≤ plain_bound_over plan tables
  unfolding latency_of latency_at
  latency_le delivered =
      let most = early_settles_le in
      omega (arith, delivered, most)

-- tables that agree on the messages that go to the target's group
pub record DoAgree (plan : Scenario) (left right : Tables) : Type 0 where
  pub arrivals : (n : ℕ) → GoesTo plan n plan.target_group → left.least_arrival n plan.target_group ≡ right.least_arrival n plan.target_group
  pub settlings : (n : ℕ) → GoesTo plan n plan.target_group → left.greatest_settling n plan.target_group ≡ right.greatest_settling n plan.target_group

-- the bound over them is no greater, and so it is the same
bound_le : (plan : Scenario) (left right : Tables) → GoesTo plan plan.target_message plan.target_group → DoAgree plan left right → plain_bound_over plan left ≤ plain_bound_over plan right
bound_le plan left right addressed agree =
    let m = plan.target_message in
    let g = plan.target_group in
    let comes_left : ℕ → Bool = λ n. nat_le (left.least_arrival n g) (left.greatest_settling m g) in
    let comes_right : ℕ → Bool = λ n. nat_le (right.least_arrival n g) (right.greatest_settling m g) in
    let settled_left : ℕ → ℕ = λ n. left.greatest_settling n g in
    let settled_right : ℕ → ℕ = λ n. right.greatest_settling n g in
    let goes : ℕ → Bool = λ n. is_addressed (message_at plan n) g in
    let here : left.greatest_settling m g ≡ right.greatest_settling m g = agree.settlings m addressed in
    let raised : (n : ℕ) → goes n ≡ true → IsRaised comes_left comes_right settled_left settled_right n = λ n to. same_raised (left.least_arrival n g) (right.least_arrival n g) (left.greatest_settling m g) (right.greatest_settling m g) (settled_left n) (settled_right n) (agree.arrivals n to) here (agree.settlings n to) in
    let each = All-weaker (λ n. goes n ≡ true) (IsRaised comes_left comes_right settled_left settled_right) raised (addressed_to plan g) (filter_passes goes (message_numbers plan)) in
    let most = fold_max_filter_le comes_left comes_right settled_left settled_right (addressed_to plan g) each (max 0 (settled_left m)) (max 0 (settled_right m)) (omega arith) in
    omega (arith, most)

pub plain_bound_over-same : (plan : Scenario) (left right : Tables) → GoesTo plan plan.target_message plan.target_group → DoAgree plan left right → plain_bound_over plan left ≡ plain_bound_over plan right
plain_bound_over-same plan left right addressed agree =
    let back : DoAgree plan right left = record { arrivals = λ n to. sym (agree.arrivals n to); settlings = λ n to. sym (agree.settlings n to) } in
    omega (arith, bound_le plan left right addressed agree, bound_le plan right left addressed back)
