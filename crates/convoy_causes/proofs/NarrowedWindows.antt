-- Windows that are cut by when what messages follow is delivered enclose each run in which messages follow their causes; so no such run takes longer than they say.
use Rattle.std.proofs.Common.{◌≡◌, ℕ, ◌+◌, Bool, true, ◌&&◌, inl, inr, List, [], ◌∷◌, zip, All, fold, refl, sym, subst}
use Rattle.std.proofs.lemmas.Bool.{and_parts, cases_Bool, cond-false, cond-true, false≢true, or_cases}
use Rattle.std.proofs.lemmas.List.Elements.{All-head, All-tail}
use Rattle.convoy_scenario.specs.Scenario.{Scenario, message_at}
use Rattle.convoy_scenario.specs.Targets.{may_be_target, with_target}
use Rattle.convoy_scenario.specs.WellFormed.{IsScenario}
use Rattle.convoy_scenario.proofs.OtherTargets.{with_target_formed}
use Rattle.convoy_scenario.proofs.RoomLemmas.{room_told}
use Rattle.convoy_sim.specs.Times.{Tick}
use Rattle.convoy_intervals.specs.Boxes.{root_of}
use Rattle.convoy_sure.specs.SureLaws.{WindowsEncloseMembers}
use Rattle.convoy_sure.specs.Windows.{Windows}
use Rattle.convoy_causes.specs.declared.cause.Cause.{Cause}
use Rattle.convoy_causes.specs.declared.event.Event.{Event}
use Rattle.convoy_causes.specs.declared.event.Event.TheVariants.{Issue, Arrival, Commit, Delivery}
use Rattle.convoy_causes.specs.Causes.{AreCauses, IsCause}
use Rattle.convoy_causes.specs.CauseWindows.{EncloseCaused, FollowsToo, IsDeliveredBy, all_windows, closes_by, follows_delivery, has_room_from, is_before, is_delivered_within, is_delivery, narrowed, scenario_from, tick_within, with_causes, with_effect_after, with_effect_within, with_issue_since, with_issue_until}
use Rattle.convoy_causes.specs.CauseLaws.{CausesCut, ClosedByCauses, ClosedOverCaused, DeliveriesCut, DeliveriesEnd, EffectsCut, KnownIsScenario, LateDeliveriesEnd}
use Rattle.convoy_causes.proofs.MovedCauses.{causes_from}

-- the laws on which this rests
pub record NarrowingHolds : Type 0 where
  pub over : ClosedOverCaused
  pub members : WindowsEncloseMembers
  pub by_causes : CausesCut
  pub effects : EffectsCut
  pub deliveries : DeliveriesCut
  pub ends : DeliveriesEnd
  pub late_ends : LateDeliveriesEnd
  pub known : KnownIsScenario

-- what each step keeps that takes an element and a number, all of them do
zip_keeps : {S X : Type 0} (P : S → Type 0) (Q : X → Type 0) (step : S → X × ℕ → S) → ((s : S) (x : X) (n : ℕ) → Q x → P s → P (step s (x, n)))
    → (s : S) (xs : List X) (ns : List ℕ) → All Q xs → P s → P (fold step s (zip xs ns))
zip_keeps P Q step each s [] ns all is = is
zip_keeps P Q step each s (x ∷ xs) [] all is = is
zip_keeps P Q step each s (x ∷ xs) (n ∷ ns) all is = zip_keeps P Q step each (step s (x, n)) xs ns (All-tail Q x xs all) (each s x n (All-head Q x xs all) is)

delivery_is : (event : Event) → is_delivery event ≡ true → event ≡ Delivery
delivery_is Issue e = absurd (false≢true e)
delivery_is Arrival e = absurd (false≢true e)
delivery_is Commit e = absurd (false≢true e)
delivery_is Delivery e = refl

module _ (laws : NarrowingHolds) (scenario : Scenario) (causes : List Cause) (well : IsScenario scenario) (are : AreCauses scenario causes) where
  abbrev Encloses : Windows → Type 0
  Encloses windows = EncloseCaused scenario causes windows

  -- the cause is as each of these
  abbrev IsOne : Cause → Type 0
  IsOne cause = IsCause scenario cause × FollowsToo scenario causes cause

  all_enclose : (windows : Windows) → Encloses windows → Encloses (with_causes scenario causes windows)
  all_enclose windows enclose schedule is = laws.by_causes scenario schedule causes windows well are is (enclose schedule is)

  goal_formed : (cause : Cause) → IsCause scenario cause → may_be_target scenario cause.message ≡ true → IsScenario (with_target scenario cause.message cause.group)
  goal_formed cause is may =
      let room = room_told (with_target scenario cause.message 0) may in
      with_target_formed scenario cause.message cause.group well is.message is.addressed (record { last = room.last; others = room.others })

  delivered_by : (cause : Cause) (windows : Windows) (within : ℕ) → IsOne cause → Encloses windows → cause.event ≡ Delivery → may_be_target scenario cause.message ≡ true
      → is_delivered_within scenario causes cause within windows ≡ true → IsDeliveredBy scenario causes cause.message cause.group (tick_within scenario cause.message within)
  delivered_by cause windows within one enclose is may delivered =
      let goal : Scenario = with_target scenario cause.message cause.group in
      let tick : Tick = tick_within scenario cause.message within in
      let formed = goal_formed cause one.0 may in
      elim (or_cases (is_before goal windows (tick + 1)) (is_before goal (with_causes scenario causes (with_issue_since scenario cause.effect (tick + 1 + cause.least) windows)) (tick + 1)) delivered) [
        | inl plain ↦ laws.ends scenario causes windows cause.message cause.group tick formed enclose plain
        | inr late ↦ laws.late_ends scenario causes cause windows tick well formed are one.1 is enclose late
      ]

  effect_encloses : (windows : Windows) (cause : Cause) (within : ℕ) → IsOne cause → Encloses windows → Encloses (with_effect_within scenario causes windows cause within)
  effect_encloses windows cause within one enclose =
      let tick : Tick = tick_within scenario cause.message within in
      let shown : Bool = follows_delivery scenario cause && is_delivered_within scenario causes cause within windows in
      let early : Windows = with_issue_until scenario cause.effect (tick + cause.most) windows in
      let plain : Windows = with_effect_after scenario cause windows in
      elim (cases_Bool shown) [
        | inl told ↦
            let parts = and_parts (follows_delivery scenario cause) (is_delivered_within scenario causes cause within windows) told in
            let asked = and_parts (is_delivery cause.event) (may_be_target scenario cause.message) parts.0 in
            let is = delivery_is cause.event asked.0 in
            let by = delivered_by cause windows within one enclose is asked.1 parts.1 in
            subst Encloses (sym (cond-true shown early plain told)) (laws.deliveries scenario causes cause windows tick well one.0 one.1 is by enclose)
        | inr other ↦ subst Encloses (sym (cond-false shown early plain other)) (laws.effects scenario causes cause windows well one.0 one.1 enclose)
      ]

  narrowed_encloses : (within : List ℕ) → Encloses (narrowed scenario causes within)
  narrowed_encloses within =
      let first : Windows = with_causes scenario causes (all_windows scenario) in
      let widest : Encloses (all_windows scenario) = λ schedule is. laws.members scenario (root_of scenario) schedule well is.assignment.delays in
      let each : All IsOne causes = λ k d l. (are k d l, λ schedule caused. caused.following k d l) in
      all_enclose _ (zip_keeps Encloses IsOne (λ (cut : Windows) (step : Cause × ℕ). with_effect_within scenario causes cut step.0 step.1) effect_encloses first causes within each (all_enclose _ widest))

pub closed_by_causes : NarrowingHolds → ClosedByCauses
unfolding closes_by
closed_by_causes laws plan causes x within most well are l closed =
    let there : Scenario = scenario_from plan x in
    let parts = and_parts (has_room_from plan x) (is_before there (narrowed there causes within) ((message_at there x).at + most + 1)) closed in
    let formed = laws.known plan x well l parts.0 in
    laws.over plan causes x most (narrowed there causes within) well are l formed
    (narrowed_encloses laws there causes formed (causes_from plan causes x are) within) parts.1
