-- What follows for all orders of the groups: which is best for one target, and what none can better.
use Rattle.std.proofs.Common.{◌≡◌, ℕ, ◌<◌, ◌≤◌, inl, inr, List, [], ◌∷◌, length, refl, ap, arith}
use Rattle.std.specs.List.{Contains}
use Rattle.std.proofs.lemmas.Bool.{cases_lt}
use Rattle.convoy_scenario.specs.Scenario.{Scenario}
use Rattle.convoy_scenario.specs.WellFormed.{IsScenario}
use Rattle.convoy_sim.specs.Delivery.{latency_at}
use Rattle.convoy_sim.proofs.Membership.{IsIn, contains-in, in_of_contains}
use Rattle.convoy_orders.specs.AllOrders.{IsHeldUp, NoOrderIsBelow}
use Rattle.convoy_orders.specs.GreatestAt.{IsLate}
use Rattle.convoy_orders.specs.Renumbered.{IsRenumbered}
use Rattle.convoy_orders.specs.ListedOrder.{FewerBehindIsNoLater, FewerBehindIsNoSlower, LastListedIsBest, NoMoreAreBehind, RenumberedRunsAgree}
use Rattle.convoy_orders.proofs.SameParts.{goes_there, goes_back, turned}
use Rattle.convoy_orders.proofs.Composed.{composed}

pub last_best : FewerBehindIsNoSlower → LastListedIsBest
last_best slower renumber back plan other m g latency well well_too is goes last upper =
    slower renumber back plan other m g latency well well_too is goes
    (λ h there l. absurd (let most = last h there in omega arith))
    upper

-- that one of some groups which is listed first
first_listed : (place : ℕ → ℕ) (x : ℕ) (xs : List ℕ) → (g : ℕ) × IsIn g (x ∷ xs) × ((h : ℕ) → IsIn h (x ∷ xs) → place g ≤ place h)
first_listed place x [] = (x, inl refl, λ h i. elim i [ inl e ↦ (let same = ap place e in omega arith) | inr none ↦ absurd none ])
first_listed place x (y ∷ ys) =
    let rest = first_listed place y ys in
    elim (cases_lt (place rest.0) (place x)) [
      | inl l ↦ (rest.0, inr rest.1, λ h i. elim i [ inl e ↦ (let same = ap place e in omega arith) | inr later ↦ rest.2 h later ])
      | inr l ↦ (x, inl refl, λ h i. elim i [ inl e ↦ (let same = ap place e in omega arith) | inr later ↦ (let least = rest.2 h later in omega arith) ])
    ]

pub first_of : (place : ℕ → ℕ) (xs : List ℕ) → 0 < length xs → (g : ℕ) × IsIn g xs × ((h : ℕ) → IsIn h xs → place g ≤ place h)
first_of place [] l = absurd (omega arith)
first_of place (x ∷ xs) l = first_listed place x xs

module _ (agree : RenumberedRunsAgree) (later : FewerBehindIsNoLater) (renumber back : ℕ → ℕ) (plan other : Scenario)
    (well : IsScenario plan) (well_too : IsScenario other) (is : IsRenumbered renumber back plan other) where
  -- a message is as late where its group is listed before all these groups
  pub late_too : (groups : List ℕ) (m g late : ℕ) → ((h : ℕ) → Contains groups h → renumber g ≤ renumber h) → IsHeldUp plan groups m g late → IsLate other m (renumber g) late
  late_too groups m g late first held =
      let across = composed back renumber held.renumber held.back other plan held.listed (turned renumber back plan other is) held.is in
      let run = held.run in
      let here = agree (λ h. held.renumber (back h)) (λ h. renumber (held.back h)) other held.listed run.0 well_too held.well across run.1 in
      let low =
      later (λ h. held.renumber (back h)) (λ h. renumber (held.back h)) other held.listed here.0 run.0 m (renumber g) well_too held.well across here.2
      (goes_there renumber back plan other is m g held.goes) behind in
      let again : latency_at held.listed run.0 m (held.renumber (back (renumber g))) ≡ latency_at held.listed run.0 m (held.renumber g) =
      ap (λ h. latency_at held.listed run.0 m (held.renumber h)) (is.back_again g) in
      let past = run.2 in
      (here.0, here.1, omega arith) where
        behind : NoMoreAreBehind (λ h. held.renumber (back h)) other m (renumber g)
        behind h goes l =
            let mine : held.renumber (back (renumber g)) ≡ held.renumber g = ap held.renumber (is.back_again g) in
            let among = held.behind (back h) (goes_back renumber back plan other is m h goes) (omega arith) in
            let least = first (back h) among in
            let there = is.there_again h in
            elim (cases_lt (renumber g) h) [
              | inl less ↦ less
              | inr most ↦ absurd (
                  let same : renumber g ≡ h = omega arith in
                  let same_too : held.renumber (back (renumber g)) ≡ held.renumber (back h) = ap (λ k. held.renumber (back k)) same in
                  omega arith)
            ]

pub none_below : RenumberedRunsAgree → FewerBehindIsNoLater → NoOrderIsBelow
none_below agree later renumber back plan other groups message late well well_too is some held =
    let first = first_of renumber groups some in
    let g : ℕ = first.0 in
    let among = contains-in g groups first.1 in (
      g,
      among,
      late_too agree later renumber back plan other well well_too is groups (message g) g (late g) (λ h c. first.2 h (in_of_contains h groups c)) (held g among),
    )
