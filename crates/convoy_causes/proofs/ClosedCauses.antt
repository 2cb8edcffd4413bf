-- Where windows say that the target is delivered within a time no run in which messages follow their causes has a greater one.
use Rattle.std.proofs.Common.{◌≡◌, ℕ, ◌+◌, ◌<◌, ◌≤◌, true, List, subst, arith}
use Rattle.convoy_scenario.specs.Scenario.{Scenario, message_at}
use Rattle.convoy_scenario.specs.Targets.{with_target}
use Rattle.convoy_scenario.specs.WellFormed.{IsScenario}
use Rattle.convoy_packets.specs.Assignment.{Schedule}
use Rattle.convoy_sim.specs.Delivery.{deliver}
use Rattle.convoy_sim.specs.ProtocolLaws.{IssuedAtItsTick}
use Rattle.convoy_origin.proofs.WidenedParts.{is_widened}
use Rattle.convoy_causes.specs.declared.cause.Cause.{Cause}
use Rattle.convoy_causes.specs.Causes.{IsCaused, IsUpperOfCaused}
use Rattle.convoy_sure.specs.Windows.{Windows}
use Rattle.convoy_causes.specs.CauseWindows.{EncloseCaused, is_before, scenario_from}
use Rattle.convoy_causes.specs.CauseLaws.{CausedRunsMove, ClosedOverCaused, DeliveredBefore, MetUpperIsGreatest}

-- the laws on which this rests
pub record ClosingHolds : Type 0 where
  pub before : DeliveredBefore
  pub move : CausedRunsMove
  pub at_tick : IssuedAtItsTick

module _ (laws : ClosingHolds) where
  -- the windows say that the target is delivered within that time from the first tick of message x
  abbrev IsShown : Scenario → List Cause → Windows → ℕ → ℕ → Type 0
  IsShown plan causes windows x most = EncloseCaused plan causes windows × (is_before plan windows ((message_at plan x).at + most + 1) ≡ true)

  delivered_by : (plan : Scenario) (causes : List Cause) (windows : Windows) (x most : ℕ) → IsScenario plan → IsShown plan causes windows x most
      → (schedule : Schedule) → IsCaused plan causes schedule → deliver plan schedule plan.target_message plan.target_group < (message_at plan x).at + most + 1
  delivered_by plan causes windows x most well shown schedule is =
      laws.before plan schedule windows ((message_at plan x).at + most + 1) well is.assignment (shown.0 schedule is) shown.1

  from_message : (plan : Scenario) (causes : List Cause) (windows : Windows) (x most : ℕ) → IsScenario plan → (message_at plan x).longest_wait ≡ 0
      → IsShown plan causes windows x most → IsUpperOfCaused plan causes x most
  from_message plan causes windows x most well still shown schedule is =
      let delivered = delivered_by plan causes windows x most well shown schedule is in
      let issued = laws.at_tick plan schedule x still in
      omega arith

  pub closed_over : ClosedOverCaused
  closed_over plan causes x most windows well are l formed enclose shown schedule is =
      let moved = laws.move plan causes x schedule well are l is in
      let still = (is_widened (with_target plan x plan.target_group)).target_fixed in
      let upper = from_message (scenario_from plan x) causes windows x most formed still (enclose, shown) moved.0 moved.1 in
      subst (λ t. t ≤ most) moved.2 upper

pub met_greatest : MetUpperIsGreatest
met_greatest plan causes x latency reached upper = record { reached = reached; upper = upper }
