-- Where precedences decide each tie with an arrival, two runs in which they hold have one order before arrivals.
use Rattle.std.proofs.Common.{◌≡◌, ℕ, ◌<◌, Bool, true, false, ◌==◌, ◌&&◌, nat_lt, ◌⊎◌, inl, inr, List, length, All, refl, sym, ap, ap₂, subst, ◌∙◌, arith}
use Rattle.std.specs.List.{list_any, range_with_len}
use Rattle.std.proofs.lemmas.Bool.{and_from, cases_Bool, cases_order, both_ways, eq-eqb, lt-ltb, true_from_ne_false}
use Rattle.convoy_scenario.specs.Scenario.{GoesTo, Scenario}
use Rattle.convoy_packets.specs.Assignment.{Schedule}
use Rattle.convoy_sim.specs.declared.moment.MomentKind.{MomentKind}
use Rattle.convoy_sim.specs.declared.moment.MomentKind.TheVariants.{Arrival, Commit}
use Rattle.convoy_regions.specs.declared.stage.Stage.{Stage}
use Rattle.convoy_regions.specs.Stages.{AreKept, IsPrecedence, IsStage, Precedence, comes_before, is_same, known_before, moment_of, stage_at, stage_of, stages_of}
use Rattle.convoy_regions.specs.Regions.{Region, can_order, has_open_tie, is_commit, is_open_tie, may_come_either_way, run_of}
use Rattle.convoy_regions.specs.RegionLaws.{KnownHolds}
use Rattle.convoy_regions.proofs.Lists.{none_passes}
use Rattle.convoy_regions.proofs.MomentsOrder.{before_itself, before_one_way, tick_of_before}
use Rattle.convoy_regions.proofs.Folds.{one_stage, same_from_parts}
use Rattle.convoy_regions.proofs.StageLists.{HasNumber, number_of}
use Rattle.convoy_regions.proofs.OrderHalves.{from_unknown, other_way}
use Rattle.convoy_regions.proofs.SameStamps.{KeepsOrder}

-- of two stages in one tick of a run, of which the second is an arrival, one is known to come before the other
pub record IsTied (plan : Scenario) (run : Schedule) (x y : Stage) : Type 0 where
  pub first : IsStage plan x
  pub second : IsStage plan y
  pub group : x.group ≡ y.group
  pub apart : is_same x y ≡ false
  pub arrives : y.kind ≡ Arrival
  pub tick : (moment_of plan run x).tick ≡ (moment_of plan run y).tick

abbrev pub AreDecided : Scenario → List Precedence → Schedule → Type 0
AreDecided plan before run = (x y : Stage) → IsTied plan run x y → (known_before before x y ≡ true) ⊎ (known_before before y x ≡ true)

-- ---- no open tie
module _ (plan : Scenario) (region : Region) (none : has_open_tie plan region ≡ false) where
  not_open : (first second : ℕ) → first < length (stages_of plan) → second < length (stages_of plan) → is_open_tie plan region first second ≡ false
  not_open first second p q =
      let numbers : List ℕ = range_with_len 0 (length (stages_of plan)) in
      let row = none_passes (λ k. list_any (is_open_tie plan region k) numbers) 0 (length (stages_of plan)) first none (omega arith) (omega arith) in
      none_passes (is_open_tie plan region first) 0 (length (stages_of plan)) second row (omega arith) (omega arith)

  -- a stage and the next may not come either way in one tick
  not_either_way : (first second : ℕ) → first < second → second < length (stages_of plan)
      → (moment_of plan (run_of plan region) (stage_at plan first)).tick ≡ (moment_of plan (run_of plan region) (stage_at plan second)).tick
      → may_come_either_way region.before (stage_at plan first) (stage_at plan second) ≡ true → ⊥
  not_either_way first second less below tick either =
      let can : can_order plan region first second ≡ true =
      and_from (nat_lt first second && nat_lt second (length (stages_of plan))) (may_come_either_way region.before (stage_at plan first) (stage_at plan second))
      (and_from (nat_lt first second) (nat_lt second (length (stages_of plan))) (lt-ltb first second less) (lt-ltb second (length (stages_of plan)) below)) either in
      let same = eq-eqb (moment_of plan (run_of plan region) (stage_at plan first)).tick (moment_of plan (run_of plan region) (stage_at plan second)).tick tick in
      both_ways (is_open_tie plan region first second) (not_open first second (omega arith) below)
      (and_from (can_order plan region first second) ((moment_of plan (run_of plan region) (stage_at plan first)).tick == (moment_of plan (run_of plan region) (stage_at plan second)).tick) can same)

  swapped : (a b : Stage) → is_same a b ≡ false → is_same b a ≡ false
  swapped a b apart = elim (cases_Bool (is_same b a)) [
    | inl e ↦ let s = one_stage b a e in absurd (both_ways (is_same a b) apart (subst (λ x. is_same x b ≡ true) s (same_from_parts b b refl refl refl)))
    | inr e ↦ e
  ]

  not_commits : (k l : MomentKind) → (k ≡ Arrival) ⊎ (l ≡ Arrival) → (is_commit k && is_commit l) ≡ false
  not_commits Arrival l e = refl
  not_commits Commit Arrival e = refl
  not_commits Commit Commit (inl e) = cc
  not_commits Commit Commit (inr e) = cc

  -- the same of two stages with these numbers
  not_unknown : (x y : Stage) (i j : ℕ) → HasNumber plan x i → HasNumber plan y j → i < j → x.group ≡ y.group → is_same x y ≡ false → (x.kind ≡ Arrival) ⊎ (y.kind ≡ Arrival)
      → (moment_of plan (run_of plan region) x).tick ≡ (moment_of plan (run_of plan region) y).tick
      → known_before region.before x y ≡ false → known_before region.before y x ≡ false → ⊥
  not_unknown x y i j p q less group apart arrives tick there back =
      let run : Schedule = run_of plan region in
      not_either_way i j less q.below
      (ap (λ z. (moment_of plan run z).tick) p.leads ∙ tick ∙ sym (ap (λ z. (moment_of plan run z).tick) q.leads))
      (ap₂ (may_come_either_way region.before) p.leads q.leads ∙ from_unknown region.before x y group apart (not_commits x.kind y.kind arrives) there back)

  one_known : (x y : Stage) → IsTied plan (run_of plan region) x y → known_before region.before x y ≡ false → known_before region.before y x ≡ false → ⊥
  one_known x y tied there back =
      let i = number_of plan x tied.first in
      let j = number_of plan y tied.second in
      let p : HasNumber plan x i.0 = i.1 in
      let q : HasNumber plan y j.0 = j.1 in
      elim (cases_order i.0 j.0) [
        | inl e ↦
            let s : x ≡ y = sym p.leads ∙ ap (stage_at plan) e ∙ q.leads in
            both_ways (is_same x y) tied.apart (subst (λ z. is_same x z ≡ true) s (same_from_parts x x refl refl refl))
        | inr d ↦ elim d [
          | inl l ↦ not_unknown x y i.0 j.0 p q l tied.group tied.apart (inr tied.arrives) tied.tick there back
          | inr l ↦ not_unknown y x j.0 i.0 q p l (sym tied.group) (swapped x y tied.apart) (inl tied.arrives) (sym tied.tick) back there
        ]
      ]

  pub are_decided : AreDecided plan region.before (run_of plan region)
  are_decided x y tied = elim (cases_Bool (known_before region.before x y)) [
    | inl e ↦ inl e
    | inr e ↦ elim (cases_Bool (known_before region.before y x)) [
      | inl f ↦ inr f
      | inr f ↦ absurd (one_known x y tied e f)
    ]
  ]

-- ---- one order before arrivals
module _ (holds : KnownHolds) (plan : Scenario) (before : List Precedence) (known : All (IsPrecedence plan) before) (s r : Schedule) (ticks : (a : Stage) → (moment_of plan s a).tick ≡ (moment_of plan r a).tick) (decided : AreDecided plan before s) (in_s : AreKept plan s before) (in_r : AreKept plan r before) where
  not_other : (x y : Stage) → IsStage plan x → IsStage plan y → x.group ≡ y.group → y.kind ≡ Arrival → comes_before plan s x y ≡ true → comes_before plan r x y ≡ false → ⊥
  not_other x y p q group arrives there back =
      let apart : is_same x y ≡ false = differ (is_same x y) refl in
      let other = other_way plan r x y apart back in
      let first = tick_of_before (moment_of plan s x) (moment_of plan s y) there in
      let second = tick_of_before (moment_of plan r y) (moment_of plan r x) other in
      let a = ticks x in
      let b = ticks y in
      elim (decided x y (record { first = p; second = q; group = group; apart = apart; arrives = arrives; tick = omega arith })) [
        | inl k ↦ both_ways (comes_before plan r x y) back (holds plan r before x y known in_r p k)
        | inr k ↦ both_ways (comes_before plan s x y) (before_one_way (moment_of plan s y) (moment_of plan s x) (holds plan s before y x known in_s q k)) there
      ] where
        differ : (t : Bool) → is_same x y ≡ t → is_same x y ≡ false
        differ false e = e
        differ true e =
            absurd (both_ways (comes_before plan s x y) (subst (λ z. comes_before plan s x z ≡ false) (one_stage x y e) (before_itself (moment_of plan s x))) there)

  order_kept : (x y : Stage) → IsStage plan x → IsStage plan y → x.group ≡ y.group → y.kind ≡ Arrival → comes_before plan s x y ≡ true → comes_before plan r x y ≡ true
  order_kept x y p q group arrives there = true_from_ne_false (comes_before plan r x y) (λ back. not_other x y p q group arrives there back)

  pub keeps_order : ((m g : ℕ) → GoesTo plan m g → (m < 16) × (g < 8)) → KeepsOrder plan s r
  keeps_order low =
      let stage : (kind : MomentKind) (m g : ℕ) → GoesTo plan m g → IsStage plan (stage_of kind m g) =
      λ kind m g goes. record { goes = goes; message = (low m g goes).0; group = (low m g goes).1 } in
      record {
        arrivals = λ z q h goes there is. order_kept (stage_of Arrival z h) (stage_of Arrival q h) (stage Arrival z h goes) (stage Arrival q h there) refl refl is;
        commits = λ c q h goes there is. order_kept (stage_of Commit c h) (stage_of Arrival q h) (stage Commit c h goes) (stage Arrival q h there) refl refl is;
      }
