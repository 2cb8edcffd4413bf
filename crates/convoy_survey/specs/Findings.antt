-- What a survey finds of the latency of one message at one group, and what it tells where memory runs out.
use Rattle.std.specs.Prelude.{◌≡◌, ℕ, ◌≤◌, Bool, true, false, List, length, Option, Some, None, IfSome, Result, Ok, Err, IfOk, codes}
use Rattle.std.specs.Option.{option_and_then, option_map}
use Rattle.std.specs.declared.alloc.AllocError.{AllocError}
use Rattle.convoy_around.specs.Around.{around_at}
use Rattle.convoy_scenario.specs.Scenario.{Scenario}
use Rattle.convoy_scenario.specs.Targets.{with_target}
use Rattle.convoy_packets.specs.Assignment.{Schedule, IsAssignment}
use Rattle.convoy_sim.specs.Delivery.{latency_of}
use Rattle.convoy_sim.specs.Greatest.{IsGreatest, IsReached, IsUpper}
use Rattle.convoy_certificate.specs.Certificate.{Certificate}
use Rattle.convoy_checker.specs.Validity.{IsValid}
use Rattle.convoy_timeline.specs.Causes.{explanation_of}
use Rattle.convoy_branch.specs.Options.{Settings, limit_of}
use Rattle.convoy_commands.specs.Searches.{IsFrontBy}
use Rattle.convoy_survey.specs.declared.finding.Cause.{Cause}
use Rattle.convoy_survey.specs.declared.finding.Finding.{Finding}
use Rattle.convoy_survey.specs.declared.finding.Finding.TheVariants.{Greatest, Open, OutOfMemory}
use Rattle.convoy_survey.specs.declared.finding.Surveyed.{Surveyed}

-- why the target is late in the run of a schedule, as `explain` tells it
abbrev pub cause_in : Scenario → Schedule → Cause
cause_in scenario schedule =
    let why = explanation_of scenario schedule in
    record { rival = option_map (λ holder. holder.message) why.holder; tied = why.tied }

-- A valid certificate of the scenario shows that the latency is the greatest. The cause is told of its schedule, and the nodes are its.
pub record IsGreatestFound (scenario : Scenario) (latency : ℕ) (cause : Cause) (nodes : ℕ) : Type 0 where
  pub certificate : Certificate
  pub of_scenario : certificate.scenario ≡ scenario
  pub valid : IsValid certificate
  pub stated : certificate.latency ≡ latency
  pub greatest : IsGreatest scenario latency
  pub told_cause : cause ≡ cause_in scenario certificate.schedule
  pub told_nodes : nodes ≡ length certificate.nodes

-- The greatest latency is from `least` to `most`: so say a schedule, of which the cause is told, and the front, or both fronts, of a search that has stopped with boxes left.
pub record IsFrontFound (settings : Settings) (scenario : Scenario) (least most : ℕ) (cause : Cause) : Type 0 where
  pub schedule : Schedule
  pub assigned : IsAssignment scenario schedule
  pub reached : latency_of scenario schedule ≡ least
  pub upper : IsUpper scenario most
  pub front : IsFrontBy settings.ways scenario least most (limit_of settings)
  pub told_cause : cause ≡ cause_in scenario schedule

-- what a search with these settings finds of a scenario's target, as `latency` finds it: that memory ran out is no such finding
abbrev pub IsFinding : Settings → Scenario → Finding → Type 0
IsFinding settings scenario (Greatest latency cause nodes) = IsGreatestFound scenario latency cause nodes
IsFinding settings scenario (Open least most cause) = IsFrontFound settings scenario least most cause
IsFinding settings scenario OutOfMemory = ⊥

-- the message and the group
abbrev pub target_of : Surveyed → ℕ × ℕ
target_of row = (row.message, row.group)

-- what is told where a search answered so: what it found; or that memory ran out, where that was the answer
abbrev pub told_finding : Result Finding AllocError → Finding
told_finding (Ok finding) = finding
told_finding (Err error) = OutOfMemory

-- The row tells what the search for its target answered, where such answers may be given for a message at a group: so it tells that memory ran out just where that was the answer.
pub record IsRowBy (may_answer : ℕ → ℕ → Result Finding AllocError → Type 0) (row : Surveyed) : Type 0 where
  pub answer : Result Finding AllocError
  pub given : may_answer row.message row.group answer
  pub told : row.finding ≡ told_finding answer

-- the scenario in which the latency of a message at a group is asked: the same with that target, or where all is asked around it by so long a span, that around it
abbrev pub scenario_at : Option ℕ → Scenario → ℕ → ℕ → Scenario
scenario_at None scenario m g = with_target scenario m g
scenario_at (Some span) scenario m g = around_at span scenario m g

-- what a search with these settings may answer for a message at a group of the scenario: what it finds of that target, or, as with each command, that memory ran out
abbrev pub MayAnswer : Settings → Option ℕ → Scenario → ℕ → ℕ → Result Finding AllocError → Type 0
MayAnswer settings span scenario m g answer = IfOk answer (IsFinding settings (scenario_at span scenario m g))

-- the row tells what a search with these settings answered for its target
abbrev pub IsSurveyed : Settings → Option ℕ → Scenario → Surveyed → Type 0
IsSurveyed settings span scenario row = IsRowBy (MayAnswer settings span scenario) row

-- the words for what is known: of a fault those of its line
abbrev pub answer_word : Finding → List ℕ
answer_word (Greatest latency cause nodes) = codes "greatest"
answer_word (Open least most cause) = codes "open"
answer_word OutOfMemory = codes "fault 11 out of memory"

-- what the greatest latency is at least, and at most; where it is known, both are that
abbrev pub least_of : Finding → Option ℕ
least_of (Greatest latency cause nodes) = Some latency
least_of (Open least most cause) = Some least
least_of OutOfMemory = None

abbrev pub most_of : Finding → Option ℕ
most_of (Greatest latency cause nodes) = Some latency
most_of (Open least most cause) = Some most
most_of OutOfMemory = None

abbrev pub cause_of : Finding → Option Cause
cause_of (Greatest latency cause nodes) = Some cause
cause_of (Open least most cause) = Some cause
cause_of OutOfMemory = None

-- the messages of a cause that may not be known
abbrev pub rival_in : Option Cause → Option ℕ
rival_in cause = option_and_then (λ why. why.rival) cause

abbrev pub tied_in : Option Cause → Option ℕ
tied_in cause = option_and_then (λ why. why.tied) cause

abbrev pub rival_of : Finding → Option ℕ
rival_of finding = rival_in (cause_of finding)

abbrev pub tied_of : Finding → Option ℕ
tied_of finding = tied_in (cause_of finding)

abbrev pub nodes_of : Finding → Option ℕ
nodes_of (Greatest latency cause nodes) = Some nodes
nodes_of (Open least most cause) = None
nodes_of OutOfMemory = None

-- the search did not end
abbrev pub is_open : Finding → Bool
is_open (Greatest latency cause nodes) = false
is_open (Open least most cause) = true
is_open OutOfMemory = false

-- nothing was found
abbrev pub is_fault : Finding → Bool
is_fault (Greatest latency cause nodes) = false
is_fault (Open least most cause) = false
is_fault OutOfMemory = true

-- Some schedule has the least, none has a latency above the most, and so the greatest latency lies between them: of one that is not known nothing is said.
pub record Encloses (scenario : Scenario) (least most : Option ℕ) : Type 0 where
  pub reached : IfSome least (IsReached scenario)
  pub upper : IfSome most (IsUpper scenario)
  pub between : (latency : ℕ) → IsGreatest scenario latency → IfSome least (λ n. n ≤ latency) × IfSome most (λ n. latency ≤ n)
