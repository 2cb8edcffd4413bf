-- A run of a scenario is one through no outages, so what no run through outages exceeds it does not exceed.
use Rattle.std.proofs.Common.{◌≡◌, ℕ, ◌*◌, false, cond, List, [], ◌∷◌, refl, arith}
use Rattle.std.specs.List.{AllZip, count_by}
use Rattle.std.proofs.lemmas.List.Sums.{sum_by-cons}
use Rattle.convoy_scenario.specs.Scenario.{Message, Scenario}
use Rattle.convoy_packets.specs.Assignment.{Schedule, IsAssignment, delay_of}
use Rattle.convoy_packets.specs.ScheduleLaws.{DelaysAreWithin, WaitsAreAtMost}
use Rattle.convoy_laws.specs.FinerTicks.{IsFinerMessage}
use Rattle.convoy_outages.specs.Outages.{Outages, sent_at, silent_ticks, ticks_between}
use Rattle.convoy_outages.proofs.Worked.{worked_most}
use Rattle.convoy_outage_runs.specs.OutageRuns.{IsRunThrough, LastInAll}
use Rattle.convoy_outage_runs.specs.OutageRunLaws.{UpperOfRunsIsUpper}

-- no tick belongs to an outage
abbrev never : Outages
never = λ tick. false

none_counted : (ticks : List ℕ) → count_by never ticks ≡ 0
none_counted [] = refl
none_counted (tick ∷ ticks) = let rest = none_counted ticks in let first = sum_by-cons (λ (x : ℕ). cond (never x) 1 0) tick ticks in omega arith

none_silent : (most : ℕ) → LastInAll most never
unfolding silent_ticks
none_silent most from to = let none = none_counted (ticks_between from to) in omega arith

-- in the same ticks a message is its own
same_messages : (messages : List Message) → AllZip (IsFinerMessage 1) messages messages
same_messages [] = tt
same_messages (message ∷ messages) =
    (record { sender = refl; destinations = refl; at = omega arith; until = omega arith }, same_messages messages)

ordinary_run : DelaysAreWithin → WaitsAreAtMost → (plan : Scenario) (schedule : Schedule) → IsAssignment plan schedule → IsRunThrough never 1 plan plan schedule
ordinary_run within waits plan schedule given = record {
  some = omega arith;
  time = refl;
  groups = refl;
  messages = same_messages plan.multicasts;
  homes = record { messages = λ g. refl; stamps = λ g. refl };
  target_message = refl;
  target_group = refl;
  waits = λ m. waits plan schedule m given;
  least = λ packet sent travels. let own = (within plan schedule packet given sent).0 in omega arith;
  most = λ packet sent travels.
      let own = (within plan schedule packet given sent).1 in
      let work = worked_most never (sent_at plan schedule packet) (delay_of plan schedule packet) in
      omega arith;
  order = given.order;
}

pub upper_without : DelaysAreWithin → WaitsAreAtMost → UpperOfRunsIsUpper
upper_without within waits span latency plan well upper schedule given =
    let most = upper never 1 plan schedule (ordinary_run within waits plan schedule given) (none_silent (1 * span)) in
    omega arith
