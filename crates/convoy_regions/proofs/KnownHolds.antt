-- What comes before what by precedences does so in each run in which they hold.
use Rattle.std.proofs.Common.{◌≡◌, ℕ, ◌≤◌, max, true, ◌==◌, inl, inr, List, All, refl, sym, subst, arith}
use Rattle.std.proofs.lemmas.Bool.{cond-true, eq-eqb}
use Rattle.std.proofs.lemmas.List.Elements.{All-filter}
use Rattle.convoy_scenario.specs.Scenario.{Scenario, GoesTo, message_at}
use Rattle.convoy_packets.specs.Assignment.{Schedule}
use Rattle.convoy_packets.specs.Order.{rank_at}
use Rattle.convoy_sim.specs.declared.moment.MomentKind.TheVariants.{Arrival, Commit}
use Rattle.convoy_sim.specs.Times.{arrive, settle}
use Rattle.convoy_sim.specs.Moments.{arrival_of, arrival_rank, commit_of, commit_rank, rank_in, rank_then}
use Rattle.convoy_sim.specs.ProtocolLaws.{ArrivesBeforeCommit}
use Rattle.convoy_regions.specs.declared.stage.Stage.{Stage}
use Rattle.convoy_regions.specs.Stages.{AreKept, IsPrecedence, IsStage, Precedence, comes_before, is_own, known_before, moment_of, of_group, stage_of, with_precedence}
use Rattle.convoy_regions.proofs.Lists.{greatest_from}
use Rattle.convoy_regions.proofs.MomentsOrder.{arrival_before_commit, before_chain}
use Rattle.convoy_regions.proofs.Folds.{Relation, IsUpTo, along, own_parts, with_cases}

module _ (law : ArrivesBeforeCommit) (plan : Scenario) (schedule : Schedule) where
  -- the rank of a commit is no less than that of an arrival of its message in its tick
  rank_no_less : (m g : ℕ) → GoesTo plan m g → arrive plan schedule m g ≡ settle plan schedule m g → arrival_rank plan schedule m g ≤ commit_rank plan schedule m g
  unfolding commit_rank
  rank_no_less m g goes same =
      let f : ℕ → ℕ = rank_then plan schedule m (settle plan schedule m g) in
      let is : f g ≡ arrival_rank plan schedule m g =
      cond-true (arrive plan schedule m g == settle plan schedule m g) _ _ (eq-eqb (arrive plan schedule m g) (settle plan schedule m g) same) in
      let low = greatest_from f g (max 0 (rank_in plan.time (rank_at schedule.order.commits m g))) (message_at plan m).destinations goes in
      omega arith

  own_first : (m g : ℕ) → GoesTo plan m g → comes_before plan schedule (stage_of Arrival m g) (stage_of Commit m g) ≡ true
  own_first m g goes =
      arrival_before_commit (arrival_of plan schedule m g) (commit_of plan schedule m g) (law plan schedule m g g goes) (rank_no_less m g goes) refl refl

  -- what is known of the order of stages holds in the run
  abbrev Holds : Relation → Type 0
  Holds known = (a b : Stage) → IsStage plan a → known a b ≡ true → comes_before plan schedule a b ≡ true

  own_holds : Holds is_own
  own_holds a b stage own =
      let parts = own_parts a b own in
      let first : stage_of Arrival a.message a.group ≡ a = λ i. record { kind = sym parts.0 i; message = a.message; group = a.group } in
      let second : stage_of Commit a.message a.group ≡ b = λ i. record { kind = sym parts.1 i; message = parts.2 i; group = parts.3 i } in
      subst (λ x. comes_before plan schedule x b ≡ true) first
      (subst (λ y. comes_before plan schedule (stage_of Arrival a.message a.group) y ≡ true) second (own_first a.message a.group stage.goes))

  -- a precedence of stages of the scenario that holds in the run
  record IsHeld (pair : Precedence) : Type 0 where
    pub known : IsPrecedence plan pair
    pub holds : comes_before plan schedule pair.0 pair.1 ≡ true

  with_holds : (known : Relation) (pair : Precedence) → Holds known → IsHeld pair → Holds (with_precedence known pair)
  with_holds known pair holds held a b stage is = elim (with_cases known pair a b is) [
    | inl k ↦ holds a b stage k
    | inr two ↦
        let second : Stage = pair.1 in
        let middle : comes_before plan schedule a second ≡ true = to_second two.0 in
        from_second middle two.1
  ] where
    to_second : IsUpTo known a pair.0 → comes_before plan schedule a pair.1 ≡ true
    to_second (inl e) = subst (λ x. comes_before plan schedule x pair.1 ≡ true) (sym e) held.holds
    to_second (inr k) = before_chain (moment_of plan schedule a) (moment_of plan schedule pair.0) (moment_of plan schedule pair.1) (holds a pair.0 stage k) held.holds

    from_second : comes_before plan schedule a pair.1 ≡ true → IsUpTo known pair.1 b → comes_before plan schedule a b ≡ true
    from_second middle (inl e) = subst (λ x. comes_before plan schedule a x ≡ true) e middle
    from_second middle (inr k) = before_chain (moment_of plan schedule a) (moment_of plan schedule pair.1) (moment_of plan schedule b) middle (holds pair.1 b held.known.second k)

  pub known_holds : (before : List Precedence) (a b : Stage) → All (IsPrecedence plan) before → AreKept plan schedule before → IsStage plan a → known_before before a b ≡ true → comes_before plan schedule a b ≡ true
  known_holds before a b known kept stage is =
      along Holds IsHeld with_holds is_own (of_group a.group before) own_holds
      (All-filter (λ pair. pair.0.group == a.group) IsHeld before (λ k d below. record { known = known k d below; holds = kept k d below }))
      a b stage is
