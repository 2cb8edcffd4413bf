-- A run that is another one so many ticks later has the same finish latency: so it is in the widened scenario.
use Rattle.std.proofs.Common.{◌≡◌, ℕ, ◌+◌, ◌==◌, max, inl, inr, List, ◌∷◌, filter, map, refl, ap, ap₂, subst, ◌∙◌, arith}
use Rattle.std.specs.List.{list_any, range_with_len}
use Rattle.convoy_scenario.specs.Scenario.{Scenario, GoesTo, is_addressed, message_at}
use Rattle.convoy_scenario.specs.WellFormed.{IsScenario}
use Rattle.convoy_scenario.specs.Widened.{widened}
use Rattle.convoy_scenario.specs.WidenedLaws.{WidenedIsScenario}
use Rattle.convoy_packets.specs.Assignment.{Schedule, IsAssignment}
use Rattle.convoy_sim.specs.Times.{Tick, greatest, arrive, settle}
use Rattle.convoy_sim.specs.Stamps.{is_less, local_stamp, final_stamp}
use Rattle.convoy_sim.specs.Delivery.{addressed_to}
use Rattle.convoy_sim.specs.ProtocolLaws.{ahead_of}
use Rattle.convoy_sim.proofs.Membership.{IsIn}
use Rattle.convoy_sim.proofs.Addressed.{goes_from_in, in_of_ahead, in_of_goes}
use Rattle.convoy_intervals.specs.Boxes.{root_of}
use Rattle.convoy_sure.specs.SureLaws.{WindowsEncloseMembers}
use Rattle.convoy_origin.specs.Later.{AreAlike, RunsLater, RunsShift}
use Rattle.convoy_origin.specs.Widened.{AssignmentsWiden, widened_schedule}
use Rattle.convoy_origin.proofs.Lists.{filter_same}
use Rattle.convoy_origin.proofs.LaterRuns.{plus_greatest}
use Rattle.convoy_origin.proofs.WidenedRuns.{issues_later, left}
use Rattle.convoy_finishes.specs.Finishes.{finish_latency, way_at}
use Rattle.convoy_finishes.specs.FinishClosing.{all_windows, closes_finishing}
use Rattle.convoy_finishes.specs.FinishLaws.{ClosedFinishing, ClosedFinishingOverWindows, FinishesWiden}
use Rattle.convoy_finishes.proofs.Latest.{upper_of_latencies}

-- the last tick at which message n is finished at group g
abbrev pub last_at : Scenario → Schedule → List ℕ → ℕ → ℕ → Tick
last_at scenario schedule ways g n =
    max (settle scenario schedule n g) (greatest (map (λ k. arrive scenario schedule n k + way_at ways n k) (message_at scenario n).destinations))

-- the last one there of message t and of all that are ahead of it
abbrev pub latest_at : Scenario → Schedule → List ℕ → ℕ → ℕ → Tick
latest_at scenario schedule ways t g = greatest (map (last_at scenario schedule ways g) (t ∷ ahead_of scenario schedule t g))

module _ (by : ℕ) (plan : Scenario) (schedule : Schedule) (other : Scenario) (late : Schedule) (alike : AreAlike plan other) (is : RunsLater by plan schedule other late) (ways : List ℕ) where
  addressed_same : (g : ℕ) → addressed_to other g ≡ addressed_to plan g
  addressed_same g =
      filter_same (λ n. is_addressed (message_at other n) g) (λ n. is_addressed (message_at plan n) g) (range_with_len 0 _)
      (λ n. ap (λ hs. list_any (λ h. h == g) hs) (alike.destinations n))
      ∙ ap (λ count. filter (λ n. is_addressed (message_at plan n) g) (range_with_len 0 count)) alike.count

  ahead_same : (t g : ℕ) → ahead_of other late t g ≡ ahead_of plan schedule t g
  ahead_same t g =
      filter_same (λ n. is_less (local_stamp other late n g) (final_stamp other late t)) (λ n. is_less (local_stamp plan schedule n g) (final_stamp plan schedule t))
      (addressed_to other g) (λ n. ap₂ is_less (is.locals n g) (is.finals t))
      ∙ ap (filter (λ n. is_less (local_stamp plan schedule n g) (final_stamp plan schedule t))) (addressed_same g)

  last_later : (n g : ℕ) → GoesTo plan n g → last_at other late ways g n ≡ last_at plan schedule ways g n + by
  last_later n g goes =
      let committed = is.commits n g goes in
      let answered =
      ap (λ hs. greatest (map (λ k. arrive other late n k + way_at ways n k) hs)) (alike.destinations n)
      ∙ plus_greatest by (λ k. arrive other late n k + way_at ways n k) (λ k. arrive plan schedule n k + way_at ways n k) (message_at plan n).destinations g (in_of_goes plan n g goes)
      (λ k i. let come = is.arrivals n k (goes_from_in plan n k i) in omega arith) in
      omega arith

  pub latest_later : (t g : ℕ) → GoesTo plan t g → latest_at other late ways t g ≡ latest_at plan schedule ways t g + by
  latest_later t g goes =
      ap (λ ns. greatest (map (last_at other late ways g) (t ∷ ns))) (ahead_same t g)
      ∙ plus_greatest by (last_at other late ways g) (last_at plan schedule ways g) (t ∷ ahead_of plan schedule t g) t (inl refl)
      (λ n i. last_later n g (goes_there n i)) where
        goes_there : (n : ℕ) → IsIn n (t ∷ ahead_of plan schedule t g) → GoesTo plan n g
        goes_there n (inl same) = subst (λ k. GoesTo plan k g) same goes
        goes_there n (inr i) = (in_of_ahead plan schedule n t g i).0

pub finishes_widen : RunsShift → FinishesWiden
unfolding finish_latency widened
finishes_widen shift plan schedule ways goes given =
    let by : ℕ = left plan schedule given in
    let later = issues_later plan schedule given in
    let run = shift by plan schedule (widened plan) (widened_schedule plan schedule) later in
    let last = latest_later by plan schedule (widened plan) (widened_schedule plan schedule) later.alike run ways plan.target_message plan.target_group goes in
    let first = later.issues plan.target_message plan.target_group goes in
    omega arith

-- so what closes the widened scenario for a latency closes the scenario
pub closed_finishing : ClosedFinishingOverWindows → WindowsEncloseMembers → WidenedIsScenario → AssignmentsWiden → FinishesWiden → ClosedFinishing
unfolding closes_finishing
closed_finishing over enclosing well_too widen same plan ways latency well closed =
    upper_of_latencies plan ways latency well.addressed (λ schedule given.
    let wide : Scenario = widened plan in
    let run : Schedule = widened_schedule plan schedule in
    let given_too : IsAssignment wide run = (widen plan schedule well.addressed given).0 in
    let wide_well : IsScenario wide = well_too plan well in
    let most = over wide run (all_windows plan) ways latency wide_well given_too (enclosing wide (root_of wide) run wide_well given_too.delays) closed in
    let is = same plan schedule ways well.addressed given in
    omega arith)
