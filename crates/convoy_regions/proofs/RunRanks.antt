-- The ranks of a region's run: how many stages come before each, and that they rise along what comes before what.
use Rattle.std.proofs.Common.{◌≡◌, ℕ, ◌+◌, ◌*◌, ◌/◌, ◌%◌, ◌<◌, ◌≤◌, zero, suc, Bool, true, false, cond, inl, inr, List, [], ◌∷◌, ◌++◌, map, flat_map, fold, get_or, refl, sym, ap, subst, ◌∙◌, arith}
use Rattle.std.specs.List.{range_with_len, sum_by}
use Rattle.std.proofs.lemmas.Bool.{cases_eq, cond-true, false≢true}
use Rattle.std.proofs.lemmas.List.Elements.{All-map}
use Rattle.std.proofs.lemmas.List.FromFn.{length-range_with_len}
use Rattle.std.proofs.lemmas.List.Sums.{sum_by-cons, sum_by-le}
use Rattle.convoy_scenario.specs.Scenario.{Scenario, GoesTo}
use Rattle.convoy_packets.specs.Order.{Order, rank_at}
use Rattle.convoy_packets.specs.OrderLists.{AreSmall, by_place, has_moments, marks_of, order_of, put_place}
use Rattle.convoy_sim.specs.declared.moment.MomentKind.{MomentKind}
use Rattle.convoy_sim.specs.declared.moment.MomentKind.TheVariants.{Arrival, Commit}
use Rattle.convoy_regions.specs.declared.stage.Stage.{Stage}
use Rattle.convoy_regions.specs.Stages.{Precedence, is_own, known_before, of_group, stage_of, stages_in, stages_of, with_precedence}
use Rattle.convoy_regions.specs.Regions.{count_before, one_if, rank_by}
use Rattle.convoy_regions.proofs.Folds.{IsChained, Relation, chained}
use Rattle.convoy_regions.proofs.StageLists.{has_there, stage_there}

-- ---- ranks are small
one_at_most : (known : Bool) → one_if known ≤ 1
one_at_most true = omega arith
one_at_most false = omega arith

count_at_most : (before : List Precedence) (stage : Stage) (m : ℕ) → count_before before stage m ≤ 2
count_at_most before stage m =
    let arrival = one_at_most (known_before before (stage_of Arrival m stage.group) stage) in
    let commit = one_at_most (known_before before (stage_of Commit m stage.group) stage) in
    omega arith

rank_at_most : (before : List Precedence) (stage : Stage) → rank_by before stage ≤ 255
rank_at_most before stage =
    let numbers : List ℕ = range_with_len 0 16 in
    let most = sum_by-le (count_before before stage) 2 numbers (λ k d below. count_at_most before stage (get_or numbers k d)) in
    let long = length-range_with_len 0 16 in
    omega arith

pub ranks_small : (before : List Precedence) (stages : List Stage) → AreSmall (map (rank_by before) stages)
ranks_small before stages = All-map (λ rank. rank ≤ 255) (rank_by before) stages (λ k d below. rank_at_most before (get_or stages k d))

-- ---- an order of ranks has at each place those of its stages
one_place : (rank : Stage → ℕ) (has : Bool) (x y : Stage) (marks : List Bool) (rest : List Stage)
    → by_place (has ∷ marks) (map rank ((cond has (x ∷ y ∷ []) []) ++ rest)) ≡ put_place (cond has (rank x) 0) (cond has (rank y) 0) (by_place marks (map rank rest))
one_place rank true x y marks rest = refl
one_place rank false x y marks rest = refl

module _ (plan : Scenario) (rank : Stage → ℕ) where
  -- the order of the ranks at some places
  order_from : ℕ → ℕ → Order
  order_from n start = by_place (map (has_moments plan) (range_with_len start n)) (map rank (flat_map (stages_in plan) (range_with_len start n)))

  order_more : (n start : ℕ) → order_from (suc n) start ≡ put_place (cond (has_moments plan start) (rank (stage_of Arrival (start / 8) (start % 8))) 0) (cond (has_moments plan start) (rank (stage_of Commit (start / 8) (start % 8))) 0) (order_from n (start + 1))
  unfolding order_from
  order_more n start =
      one_place rank (has_moments plan start) (stage_of Arrival (start / 8) (start % 8)) (stage_of Commit (start / 8) (start % 8)) (map (has_moments plan) (range_with_len (start + 1) n))
      (flat_map (stages_in plan) (range_with_len (start + 1) n))

  -- the ranks at a place of an order
  record HasRanks (order : Order) (k at : ℕ) : Type 0 where
    pub arrival : get_or order.arrivals k 0 ≡ rank (stage_of Arrival (at / 8) (at % 8))
    pub commit : get_or order.commits k 0 ≡ rank (stage_of Commit (at / 8) (at % 8))

  ranks_from : (n start k at : ℕ) → k < n → start + k ≡ at → has_moments plan at ≡ true → HasRanks (order_from n start) k at
  ranks_from zero start k at below e has = absurd (omega arith)
  ranks_from (suc n) start zero at below e has =
      let same : start ≡ at = omega arith in
      let here : has_moments plan start ≡ true = ap (has_moments plan) same ∙ has in
      subst (λ order. HasRanks order 0 at) (sym (order_more n start)) (record {
        arrival = cond-true (has_moments plan start) _ _ here ∙ ap (λ p. rank (stage_of Arrival (p / 8) (p % 8))) same;
        commit = cond-true (has_moments plan start) _ _ here ∙ ap (λ p. rank (stage_of Commit (p / 8) (p % 8))) same;
      })
  ranks_from (suc n) start (suc k) at below e has =
      let rest = ranks_from n (start + 1) k at (omega arith) (omega arith) has in
      subst (λ order. HasRanks order (suc k) at) (sym (order_more n start)) (record { arrival = rest.arrival; commit = rest.commit })

  pub ranks_of_order : (m g : ℕ) → m < 16 → g < 8 → GoesTo plan m g
      → (rank_at (order_of plan (map rank (stages_of plan))).arrivals m g ≡ rank (stage_of Arrival m g))
      × (rank_at (order_of plan (map rank (stages_of plan))).commits m g ≡ rank (stage_of Commit m g))
  unfolding marks_of stages_of order_from
  ranks_of_order m g low below goes =
      let is = ranks_from 128 0 (m * 8 + g) (m * 8 + g) (omega arith) (omega arith) (has_there plan m g below goes) in
      (is.arrival ∙ ap rank (stage_there plan Arrival m g below), is.commit ∙ ap rank (stage_there plan Commit m g below))

-- ---- ranks rise
sum_no_less : (f g : ℕ → ℕ) → ((m : ℕ) → f m ≤ g m) → (n start : ℕ) → sum_by f (range_with_len start n) ≤ sum_by g (range_with_len start n)
sum_no_less f g each zero start = omega arith
sum_no_less f g each (suc n) start =
    let rest = sum_no_less f g each n (start + 1) in
    let here = each start in
    omega (arith, sum_by-cons f start (range_with_len (start + 1) n), sum_by-cons g start (range_with_len (start + 1) n))

sum_more : (f g : ℕ → ℕ) → ((m : ℕ) → f m ≤ g m) → (n start m : ℕ) → start ≤ m → m < start + n → f m < g m → sum_by f (range_with_len start n) < sum_by g (range_with_len start n)
sum_more f g each zero start m low high more = absurd (omega arith)
sum_more f g each (suc n) start m low high more =
    let f_first = sum_by-cons f start (range_with_len (start + 1) n) in
    let g_first = sum_by-cons g start (range_with_len (start + 1) n) in
    elim (cases_eq start m) [
      | inl e ↦
          let here : f start < g start = subst (λ k. f k < g k) (sym e) more in
          let rest = sum_no_less f g each n (start + 1) in
          omega (arith, f_first, g_first)
      | inr d ↦
          let here = each start in
          let rest = sum_more f g each n (start + 1) m (omega arith) (omega arith) more in
          omega (arith, f_first, g_first)
    ]

one_no_less : (p q : Bool) → (p ≡ true → q ≡ true) → one_if p ≤ one_if q
one_no_less false q to = omega arith
one_no_less true false to = absurd (false≢true (to refl))
one_no_less true true to = omega arith

one_more : (p q : Bool) → p ≡ false → q ≡ true → one_if p < one_if q
one_more false true none one = omega arith
one_more false false none one = absurd (false≢true one)
one_more true q none one = absurd (false≢true (sym none))

-- how many of the stages of a message at group g come before a stage
count_of : Relation → ℕ → Stage → ℕ → ℕ
count_of known g stage m = one_if (known (stage_of Arrival m g) stage) + one_if (known (stage_of Commit m g) stage)

more_before : (known : Relation) (kind : MomentKind) (g m : ℕ) (a b : Stage) → a ≡ stage_of kind m g → IsChained known → known a b ≡ true → known a a ≡ false → count_of known g a m < count_of known g b m
unfolding count_of
more_before known Arrival g m a b is chain there itself =
    let first = one_more (known (stage_of Arrival m g) a) (known (stage_of Arrival m g) b) (ap (λ x. known x a) (sym is) ∙ itself) (ap (λ x. known x b) (sym is) ∙ there) in
    let second = one_no_less (known (stage_of Commit m g) a) (known (stage_of Commit m g) b) (λ k. chain (stage_of Commit m g) a b k there) in
    omega arith
more_before known Commit g m a b is chain there itself =
    let first = one_more (known (stage_of Commit m g) a) (known (stage_of Commit m g) b) (ap (λ x. known x a) (sym is) ∙ itself) (ap (λ x. known x b) (sym is) ∙ there) in
    let second = one_no_less (known (stage_of Arrival m g) a) (known (stage_of Arrival m g) b) (λ k. chain (stage_of Arrival m g) a b k there) in
    omega arith

counts_rise : (known : Relation) (g m : ℕ) (a b : Stage) → IsChained known → known a b ≡ true → count_of known g a m ≤ count_of known g b m
unfolding count_of
counts_rise known g m a b chain there =
    let first = one_no_less (known (stage_of Arrival m g) a) (known (stage_of Arrival m g) b) (λ k. chain (stage_of Arrival m g) a b k there) in
    let second = one_no_less (known (stage_of Commit m g) a) (known (stage_of Commit m g) b) (λ k. chain (stage_of Commit m g) a b k there) in
    omega arith

-- what is known at a group
known_at : List Precedence → ℕ → Relation
known_at before g = fold with_precedence is_own (of_group g before)

rank_is : (before : List Precedence) (stage : Stage) → rank_by before stage ≡ sum_by (count_of (known_at before stage.group) stage.group stage) (range_with_len 0 16)
unfolding count_of known_at
rank_is before stage = refl

known_is : (before : List Precedence) (a b : Stage) → known_before before a b ≡ known_at before a.group a b
unfolding known_at
known_is before a b = refl

known_chained : (before : List Precedence) (g : ℕ) → IsChained (known_at before g)
unfolding known_at
known_chained before g = chained (of_group g before)

-- a stage that is known to come before another, and not before itself, has the lesser rank
pub ranks_rise : (before : List Precedence) (a b : Stage) → a.message < 16 → a.group ≡ b.group → known_before before a b ≡ true → known_before before a a ≡ false → rank_by before a < rank_by before b
ranks_rise before a b low group there itself =
    let g : ℕ = a.group in
    let known : Relation = known_at before g in
    let k : known a b ≡ true = sym (known_is before a b) ∙ there in
    let l : known a a ≡ false = sym (known_is before a a) ∙ itself in
    let first : rank_by before a ≡ sum_by (count_of known g a) (range_with_len 0 16) = rank_is before a in
    let second : rank_by before b ≡ sum_by (count_of known g b) (range_with_len 0 16) =
    rank_is before b ∙ ap (λ h. sum_by (count_of (known_at before h) h b) (range_with_len 0 16)) (sym group) in
    let more = sum_more (count_of known g a) (count_of known g b) (λ m. counts_rise known g m a b (known_chained before g) k) 16 0 a.message (omega arith) (omega arith)
    (more_before known a.kind g a.message a b refl (known_chained before g) k l) in
    omega arith
