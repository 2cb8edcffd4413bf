-- Where a region of one delay for each packet has a member, its run is a member too: each precedence holds there.
use Rattle.std.proofs.Common.{◌≡◌, ℕ, ◌<◌, true, false, ◌==◌, inl, inr, List, [], ◌∷◌, fold, get_or, map, All, refl, sym, ap, subst, ◌∙◌, arith}
use Rattle.std.proofs.lemmas.Bool.{and_from, cases_Bool, cond-true, cond-false, both_ways, eq-eqb, false_from_ne_true}
use Rattle.std.proofs.lemmas.List.Elements.{All-cons, All-nil}
use Rattle.convoy_draft.specs.declared.time.Time.TheVariants.{Real}
use Rattle.convoy_scenario.specs.Scenario.{GoesTo, Scenario}
use Rattle.convoy_scenario.specs.WellFormed.{IsScenario}
use Rattle.convoy_packets.specs.Assignment.{IsAssignment, Schedule}
use Rattle.convoy_packets.specs.Order.{rank_at}
use Rattle.convoy_packets.specs.OrderLists.{order_of}
use Rattle.convoy_packets.specs.ScheduleLaws.{DelaysAreWithin}
use Rattle.convoy_sim.specs.declared.moment.MomentKind.{MomentKind}
use Rattle.convoy_sim.specs.declared.moment.MomentKind.TheVariants.{Arrival, Commit}
use Rattle.convoy_sim.specs.Moments.{arrival_rank, commit_rank}
use Rattle.convoy_regions.specs.declared.stage.Stage.{Stage}
use Rattle.convoy_regions.specs.Stages.{AreKept, IsPrecedence, IsStage, Precedence, comes_before, is_own, known_before, moment_by, moment_of, of_group, stage_of, stages_of, with_precedence}
use Rattle.convoy_regions.specs.Regions.{rank_by}
use Rattle.convoy_regions.specs.RegionLaws.{KnownHolds}
use Rattle.convoy_regions.proofs.MomentsOrder.{before_by_rank, before_itself, tick_of_before}
use Rattle.convoy_regions.proofs.Folds.{Relation, kept, with_through}
use Rattle.convoy_regions.proofs.RunRanks.{ranks_of_order, ranks_rise}
use Rattle.convoy_regions.proofs.RunTicks.{arrival_rank_is, commit_rank_is}

-- ---- each precedence is known
known_from : (g : ℕ) (known : Relation) (before : List Precedence) → All (λ pair. pair.0.group ≡ g → fold with_precedence known (of_group g before) pair.0 pair.1 ≡ true) before
known_from g known [] = All-nil (λ pair. pair.0.group ≡ g → known pair.0 pair.1 ≡ true)
known_from g known (pair ∷ before) = elim (cases_Bool (pair.0.group == g)) [
  | inl e ↦
      let rest = known_from g (with_precedence known pair) before in
      let more : Precedence → Type 0 = λ p. p.0.group ≡ g → fold with_precedence known (pair ∷ of_group g before) p.0 p.1 ≡ true in
      subst (λ pairs. All (λ p. p.0.group ≡ g → fold with_precedence known pairs p.0 p.1 ≡ true) (pair ∷ before)) (sym (cond-true (pair.0.group == g) (pair ∷ of_group g before) (of_group g before) e))
      (All-cons more pair before (λ s. kept (with_precedence known pair) (of_group g before) pair.0 pair.1 (with_through known pair pair.0 pair.1 (inl refl) (inl refl))) rest)
  | inr e ↦
      let rest = known_from g known before in
      let more : Precedence → Type 0 = λ p. p.0.group ≡ g → fold with_precedence known (of_group g before) p.0 p.1 ≡ true in
      subst (λ pairs. All (λ p. p.0.group ≡ g → fold with_precedence known pairs p.0 p.1 ≡ true) (pair ∷ before)) (sym (cond-false (pair.0.group == g) (pair ∷ of_group g before) (of_group g before) e))
      (All-cons more pair before (λ s. absurd (both_ways (pair.0.group == g) e (eq-eqb pair.0.group g s))) rest)
]

pub known_each : (before : List Precedence) → All (λ pair. known_before before pair.0 pair.1 ≡ true) before
known_each before k d below = known_from (at k d).0.group is_own before k d below refl where
  at : ℕ → Precedence → Precedence
  at k d = get_or before k d

-- ---- the run of some precedences
module _ (law : DelaysAreWithin) (holds : KnownHolds) (plan : Scenario) (before : List Precedence) (s r : Schedule) (well : IsScenario plan) (real : plan.time ≡ Real) (assigned : IsAssignment plan r) (order : r.order ≡ order_of plan (map (rank_by before) (stages_of plan))) (known : All (IsPrecedence plan) before) (keeps : AreKept plan s before) where
  -- no stage is known to come before itself
  not_itself : (a : Stage) → IsStage plan a → known_before before a a ≡ false
  not_itself a stage =
      false_from_ne_true (known_before before a a) (λ t.
      both_ways (comes_before plan s a a) (before_itself (moment_of plan s a)) (holds plan s before a a known keeps stage t))

  rises : (a b : Stage) → IsStage plan a → a.group ≡ b.group → known_before before a b ≡ true → rank_by before a < rank_by before b
  rises a b stage group is = ranks_rise before a b stage.message group is (not_itself a stage)

  own_known : (m g : ℕ) → known_before before (stage_of Arrival m g) (stage_of Commit m g) ≡ true
  own_known m g = kept is_own (of_group g before) (stage_of Arrival m g) (stage_of Commit m g) (own m g) where
    own : (m g : ℕ) → is_own (stage_of Arrival m g) (stage_of Commit m g) ≡ true
    own m g = and_from (m == m) (g == g) (eq-eqb m m refl) (eq-eqb g g refl)

  -- the rank of a stage in the run
  arrival_ranked : (m g : ℕ) → m < 16 → g < 8 → GoesTo plan m g → arrival_rank plan r m g ≡ rank_by before (stage_of Arrival m g)
  arrival_ranked m g low below goes =
      arrival_rank_is law plan r well assigned m g real ∙ ap (λ o. rank_at o.arrivals m g) order ∙ (ranks_of_order plan (rank_by before) m g low below goes).0

  commit_ranked : (m g : ℕ) → m < 16 → g < 8 → GoesTo plan m g → commit_rank plan r m g ≡ rank_by before (stage_of Commit m g)
  commit_ranked m g low below goes =
      let first = arrival_ranked m g low below goes in
      let own : rank_at r.order.commits m g ≡ rank_by before (stage_of Commit m g) = ap (λ o. rank_at o.commits m g) order ∙ (ranks_of_order plan (rank_by before) m g low below goes).1 in
      let less = rises (stage_of Arrival m g) (stage_of Commit m g) (record { goes = goes; message = low; group = below }) refl (own_known m g) in
      commit_rank_is law plan r well assigned m g goes real (omega arith) ∙ own

  ranked : (kind : MomentKind) (m g : ℕ) → m < 16 → g < 8 → GoesTo plan m g → (moment_by kind plan r m g).rank ≡ rank_by before (stage_of kind m g)
  ranked Arrival m g low below goes = arrival_ranked m g low below goes
  ranked Commit m g low below goes = commit_ranked m g low below goes

  -- each precedence holds in the run
  pub run_keeps : ((a : Stage) → (moment_of plan s a).tick ≡ (moment_of plan r a).tick) → AreKept plan r before
  run_keeps ticks k d below =
      let pair : Precedence = get_or before k d in
      let is : IsPrecedence plan pair = known k d below in
      let p : IsStage plan pair.0 = is.first in
      let q : IsStage plan pair.1 = is.second in
      let sooner = tick_of_before (moment_of plan s pair.0) (moment_of plan s pair.1) (keeps k d below) in
      let less = rises pair.0 pair.1 p is.one_group (known_each before k d below) in
      let a : (moment_of plan r pair.0).rank ≡ rank_by before pair.0 = ranked pair.0.kind pair.0.message pair.0.group p.message p.group p.goes in
      let b : (moment_of plan r pair.1).rank ≡ rank_by before pair.1 = ranked pair.1.kind pair.1.message pair.1.group q.message q.group q.goes in
      let first = ticks pair.0 in
      let second = ticks pair.1 in
      before_by_rank (moment_of plan r pair.0) (moment_of plan r pair.1) (omega arith) (omega arith)
