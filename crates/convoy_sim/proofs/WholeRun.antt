-- When all moments have been read, the tables tell all that the definitions say.
use Rattle.std.proofs.Common.{◌≡◌, ℕ, ◌<◌, ◌≤◌, true, inl, inr, List, [], ◌∷◌, length, get_or, refl, sym, ap, subst, ◌∙◌, arith}
use Rattle.convoy_draft.specs.declared.limits.TheConstants.{MOST_GROUPS}
use Rattle.convoy_scenario.specs.Scenario.{Scenario}
use Rattle.convoy_scenario.specs.WellFormed.{IsScenario}
use Rattle.convoy_packets.specs.Assignment.{Schedule, IsAssignment}
use Rattle.convoy_sim.specs.declared.moment.Moment.{Moment}
use Rattle.convoy_sim.specs.declared.moment.MomentKind.TheVariants.{Commit}
use Rattle.convoy_sim.specs.Moments.{is_before, moments_of}
use Rattle.convoy_sim.specs.Stamps.{no_stamp, greatest_in, clocks_of, local_stamp, final_stamp}
use Rattle.convoy_scenario.specs.Scenario.{GoesTo}
use Rattle.convoy_sim.specs.Moments.{arrival_of}
use Rattle.convoy_packets.specs.Order.{place}
use Rattle.convoy_sim.specs.Agenda.{before}
use Rattle.convoy_sim.specs.StampTables.{StampTable}
use Rattle.convoy_sim.specs.Progress.{TellsAll}
use Rattle.convoy_sim.proofs.Membership.{IsIn, filter_keeps, in_of_filter}
use Rattle.convoy_sim.proofs.MomentsOrder.{before_by_tick}
use Rattle.convoy_sim.proofs.Addressed.{number_of_goes}
use Rattle.convoy_sim.proofs.ScenarioMoments.{moment_cases, coming_in, coming_is}
use Rattle.convoy_sim.proofs.Cuts.{known}
use Rattle.convoy_sim.proofs.Destinations.{group_below, comes_soon, settles_soon}
use Rattle.convoy_sim.proofs.StampsTold.{IsEnough, stamps_before, true_before, told_enough, some_time}

-- past all moments of a run
abbrev pub end : Moment
end = record { tick = 4294967295; rank = 0; kind = Commit; message = 0; group = 0 }

keep_all : (last : Moment) (ms : List Moment) → ((x : Moment) → IsIn x ms → is_before x last ≡ true) → before last ms ≡ ms
keep_all last [] h = refl
keep_all last (x ∷ xs) h =
    filter_keeps (λ y. is_before y last) x xs (h x (inl refl)) ∙ ap (λ l. x ∷ l) (keep_all last xs (λ y i. h y (inr i)))

module _ (plan : Scenario) (well : IsScenario plan) (schedule : Schedule) (within : IsAssignment plan schedule) where
  before_end : (x : Moment) → IsIn x (moments_of plan schedule) → is_before x end ≡ true
  before_end x i =
      let r = moment_cases plan schedule x i in
      let known = number_of_goes plan r.0 r.1 r.2 in
      elim r.3 [
        | inl e ↦
            let soon = comes_soon plan well schedule within r.0 r.1 known in
            let tick = ap (λ (y : Moment). y.tick) e in
            before_by_tick x end (omega arith)
        | inr e ↦
            let soon = settles_soon plan well schedule within r.0 r.1 known in
            let tick = ap (λ (y : Moment). y.tick) e in
            before_by_tick x end (omega arith)
      ]

  whole : before end (moments_of plan schedule) ≡ moments_of plan schedule
  whole = keep_all end (moments_of plan schedule) before_end

  final_at_end : (m : ℕ) → greatest_in (known plan well schedule (before end (moments_of plan schedule))) m ≡ final_stamp plan schedule m
  unfolding final_stamp clocks_of
  final_at_end m = ap (λ ms. greatest_in (known plan well schedule ms) m) whole

  come_by_end : (m g : ℕ) → GoesTo plan m g → IsIn (arrival_of plan schedule m g) (before end (moments_of plan schedule))
  come_by_end m g goes = subst (IsIn (arrival_of plan schedule m g)) (sym whole) (coming_in plan schedule m g goes)

  enough_at_end : (m g : ℕ) → IsEnough plan well schedule end m g
  enough_at_end m g = record { final = final_at_end m; others = λ n goes. inl (come_by_end n g goes) }

  abbrev pub table : StampTable
  table = stamps_before plan well schedule end

  told_time : (m g : ℕ) → GoesTo plan m g → get_or table.times (place m g) 0 ≡ (local_stamp plan schedule m g).time
  told_time m g goes =
      let l = number_of_goes plan m g goes in
      let most = well.multicasts_high in
      elim ((true_before plan well schedule end).times m g (omega arith) (group_below plan well m g goes)) [
        | inl h ↦ h.1
        | inr h ↦ absurd (h.0 (come_by_end m g goes))
      ]

  goes_from_time : (m g : ℕ) → m < length plan.multicasts → g < MOST_GROUPS → 0 < get_or table.times (place m g) 0 → GoesTo plan m g
  goes_from_time m g l k some =
      let most = well.multicasts_high in
      elim ((true_before plan well schedule end).times m g (omega arith) k) [
        | inl h ↦
            let there = in_of_filter (λ x. is_before x end) (arrival_of plan schedule m g) (moments_of plan schedule) h.0 in
            (coming_is plan schedule (arrival_of plan schedule m g) there.0 refl).1
        | inr h ↦ absurd (omega (arith, h.1))
      ]

  pub tells_all : TellsAll plan schedule table
  tells_all = record {
    goes = goes_from_time;
    times = told_time;
    given = λ m g goes. let time = told_time m g goes in let some = some_time plan well schedule m g goes in omega arith;
    ahead = λ m g goes. told_enough plan well schedule end m g goes (enough_at_end m g);
  }

  -- ---- final stamps
  pub finals_at : (m : ℕ) → m < length plan.multicasts → get_or table.finals m no_stamp ≡ final_stamp plan schedule m
  finals_at m l =
      let most = well.multicasts_high in
      (true_before plan well schedule end).finals m (omega arith) ∙ final_at_end m

  pub final_count : length plan.multicasts ≤ length table.finals
  final_count =
      let most = well.multicasts_high in
      omega (arith, (true_before plan well schedule end).sized.finals)
