-- What a search gives for a text, and what the commands `analyse` and `latency` write.
use Rattle.std.specs.Prelude.{◌≡◌, ◌≢◌, ◌⊎◌, ℕ, ◌≤◌, false, List, ◌++◌, length, None, Result, Ok, Err}
use Rattle.std.specs.List.{list_any}
use Rattle.convoy_scenario.specs.Scenario.{Scenario}
use Rattle.convoy_toml.specs.declared.asked.Asked.{Asked}
use Rattle.convoy_toml.specs.Reading.{scenario_of_text_by}
use Rattle.convoy_scenario.specs.WellFormed.{IsScenario}
use Rattle.convoy_draft.specs.declared.fault.ScenarioFault.{ScenarioFault}
use Rattle.convoy_packets.specs.Assignment.{Schedule, IsAssignment}
use Rattle.convoy_sim.specs.Delivery.{latency_of}
use Rattle.convoy_sim.specs.Greatest.{IsGreatest, IsReached, IsUpper}
use Rattle.convoy_certificate.specs.Certificate.{Certificate, IsCertificate}
use Rattle.convoy_certificate.specs.Text.{certificate_text, is_lead, is_stamp}
use Rattle.convoy_checker.specs.Validity.{IsValid}
use Rattle.convoy_branch.specs.declared.bounds.Bounds.{Bounds}
use Rattle.convoy_branch.specs.declared.bounds.Bounds.TheVariants.{Plain, Lead}
use Rattle.convoy_branch.specs.BothWays.{IsWithinBothWays, IsFrontBothWays, IsOutcomeBothWays}
use Rattle.convoy_branch.specs.Fronts.{IsFront}
use Rattle.convoy_branch.specs.Limits.{IsWithin}
use Rattle.convoy_branch.specs.Outcomes.{IsOutcome}
use Rattle.convoy_branch.specs.declared.limit.Limit.{Limit}
use Rattle.convoy_branch.specs.declared.outcome.Outcome.{Outcome}
use Rattle.convoy_branch.specs.declared.outcome.Outcome.TheVariants as outcomes
use Rattle.convoy_branch.specs.Options.{Settings, limit_of}
use Rattle.convoy_branch.specs.declared.options.Ways.{Ways}
use Rattle.convoy_branch.specs.declared.options.Ways.TheVariants.{One, Both}
use Rattle.convoy_commands.specs.declared.done.Done.{Done}
use Rattle.convoy_commands.specs.declared.done.Done.TheVariants.{Fine, Open}
use Rattle.convoy_commands.specs.declared.fault.Fault.{Fault}
use Rattle.convoy_commands.specs.declared.fault.Fault.TheVariants.{Memory}
use Rattle.convoy_commands.specs.declared.limits.TheConstants.{LONGEST_CERTIFICATE}
use Rattle.convoy_commands.specs.Checks.{check_reply}
use Rattle.convoy_commands.specs.Faults.{told_of}
use Rattle.convoy_commands.specs.ReplyLines.{accepted_line, greatest_line, open_line, schedule_text}
use Rattle.convoy_commands.specs.Measured.{measure_of_text}
use Rattle.convoy_commands.specs.Outsides.{outside_of_text, outside_text}
use Rattle.convoy_commands.specs.Replies.{Rule}
use Rattle.convoy_commands.specs.Verdicts.{judged, target_deadline, verdict_text}
use Rattle.convoy_commands.specs.declared.search.Searched.{Searched}

-- The text has this fault, where that is asked.
pub record IsFaultyBy (asked : Asked) (text : List ℕ) (fault : Fault) : Type 0 where
  pub cause : ScenarioFault
  pub found : scenario_of_text_by asked text ≡ Err cause
  pub told : fault ≡ told_of cause

-- what a search by one kind of bounds, or both ways, answers with that limit
abbrev pub IsOutcomeBy : Ways → Scenario → ℕ → Limit → Outcome → Type 0
IsOutcomeBy (One bounds) scenario workers limit outcome =
    IsWithin limit (λ tickets. IsOutcome bounds scenario workers tickets outcome)
IsOutcomeBy Both scenario workers limit outcome =
    IsWithinBothWays limit (λ plain leads. IsOutcomeBothWays scenario workers plain leads outcome)

-- how far one has come that has stopped with boxes left
abbrev pub IsFrontBy : Ways → Scenario → ℕ → ℕ → Limit → Type 0
IsFrontBy (One bounds) scenario least most limit = IsWithin limit (λ tickets. IsFront bounds scenario least most tickets)
IsFrontBy Both scenario least most limit =
    IsWithinBothWays limit (λ plain leads. IsFrontBothWays scenario least most plain leads)

-- how many tickets an outcome took
abbrev pub tickets_of : Outcome → ℕ
tickets_of (outcomes.Proved certificate tickets by_worker) = tickets
tickets_of (outcomes.Open best upper tickets by_worker) = tickets

-- A search with these settings for the scenario ended so. It tells a number of tickets for each of as many workers as they say, or for one where its first ticket was enough; the numbers add up to all its tickets, and more is not said of the workers.
pub record IsEnd (settings : Settings) (scenario : Scenario) (outcome : Outcome) : Type 0 where
  pub workers : ℕ
  pub as_said : (workers ≡ settings.workers) ⊎ ((workers ≡ 1) × (tickets_of outcome ≤ 1))
  pub found : IsOutcomeBy settings.ways scenario workers (limit_of settings) outcome

-- The text is that of this scenario, where that is asked, and a search for it with these settings ended so.
pub record IsSearchOf (asked : Asked) (settings : Settings) (text : List ℕ) (scenario : Scenario) (outcome : Outcome) : Type 0 where
  pub read : scenario_of_text_by asked text ≡ Ok scenario
  pub lawful : IsScenario scenario
  pub ended : IsEnd settings scenario outcome

-- what a search for the scenario of a text gives, with that scenario, how its times are told, the deadline of its target, and in which share of runs a packet may leave its range; or why there is no answer
abbrev pub SearchGives : Asked → Settings → List ℕ → Result Searched Fault → Type 0
SearchGives asked settings text (Ok searched) =
    IsSearchOf asked settings text searched.read searched.outcome
    × (searched.measure ≡ measure_of_text settings.unit text searched.read)
    × (searched.deadline ≡ target_deadline asked text searched.read)
    × (searched.outside ≡ outside_of_text text searched.read)
SearchGives asked settings text (Err fault) = IsFaultyBy asked text fault ⊎ (fault ≡ Memory)

-- THE HEADLINE. What is written is a certificate of the scenario that was read, with no more nodes than there are tickets; its schedule has the stated latency; no assignment has a greater one; and the checker accepts what is written. How the command ends, the deadline of the target says where there is one.
pub record IsProof (asked : Asked) (settings : Settings) (text : List ℕ) (end : Done) (out : List ℕ) : Type 0 where
  pub certificate : Certificate
  pub lawful : IsCertificate certificate
  pub read : scenario_of_text_by asked text ≡ Ok certificate.scenario
  pub written : out ≡ certificate_text certificate
  pub latency : latency_of certificate.scenario certificate.schedule ≡ certificate.latency
  pub greatest : IsGreatest certificate.scenario certificate.latency
  pub valid : IsValid certificate
  pub few : length certificate.nodes ≤ settings.limit
  -- by plain bounds alone it has no stamp leaf; by one kind of bounds it has lead leaves only where that is leads
  pub plain : settings.ways ≡ One Plain → list_any is_stamp certificate.nodes ≡ false
  pub no_leads : (bounds : Bounds) → settings.ways ≡ One bounds → bounds ≢ Lead → list_any is_lead certificate.nodes ≡ false
  -- the checker reads it whole: it is within the limit of bytes
  pub fits : length out ≤ LONGEST_CERTIFICATE
  pub accepted : check_reply out ≡ Ok (Fine, accepted_line certificate.latency)
  pub ends : end ≡ judged (target_deadline asked text certificate.scenario) certificate.latency certificate.latency Fine

-- The greatest latency of the scenario that was read is from `least` to `most`: so say the front, or both fronts, of a search that has stopped with boxes left.
pub record IsOpenBetween (asked : Asked) (settings : Settings) (text : List ℕ) (scenario : Scenario) (least most : ℕ) : Type 0 where
  pub read : scenario_of_text_by asked text ≡ Ok scenario
  pub lawful : IsScenario scenario
  pub reached : IsReached scenario least
  pub upper : IsUpper scenario most
  pub front : IsFrontBy settings.ways scenario least most (limit_of settings)

-- What is written is the least and the most that the greatest latency may be, and a schedule that has the least.
pub record IsOpenProof (asked : Asked) (settings : Settings) (text : List ℕ) (end : Done) (out : List ℕ) : Type 0 where
  pub scenario : Scenario
  pub schedule : Schedule
  pub most : ℕ
  pub assigned : IsAssignment scenario schedule
  pub between : IsOpenBetween asked settings text scenario (latency_of scenario schedule) most
  pub written : out ≡ open_line None (latency_of scenario schedule) most ++ schedule_text scenario schedule
  pub ends : end ≡ judged (target_deadline asked text scenario) (latency_of scenario schedule) most Open

-- what `analyse` may answer
abbrev pub AnalyseSays : Asked → Settings → Rule
AnalyseSays asked settings text (Ok (end, out)) = IsProof asked settings text end out ⊎ IsOpenProof asked settings text end out
AnalyseSays asked settings text (Err fault) = IsFaultyBy asked text fault

-- The greatest latency of the scenario that was read is written, how it keeps the deadline of the target where there is one, and how sure the ranges are where that is told.
pub record IsGreatestTold (asked : Asked) (settings : Settings) (text : List ℕ) (end : Done) (out : List ℕ) : Type 0 where
  pub scenario : Scenario
  pub latency : ℕ
  pub read : scenario_of_text_by asked text ≡ Ok scenario
  pub lawful : IsScenario scenario
  pub greatest : IsGreatest scenario latency
  pub written : out
      ≡ greatest_line (measure_of_text settings.unit text scenario) latency
      ++ (verdict_text (measure_of_text settings.unit text scenario) (target_deadline asked text scenario) latency latency
      ++ outside_text (outside_of_text text scenario))
  pub ends : end ≡ judged (target_deadline asked text scenario) latency latency Fine

-- What is written is the least and the most that the greatest latency may be, how that keeps the deadline, and how sure the ranges are.
pub record IsFrontTold (asked : Asked) (settings : Settings) (text : List ℕ) (end : Done) (out : List ℕ) : Type 0 where
  pub scenario : Scenario
  pub least : ℕ
  pub most : ℕ
  pub between : IsOpenBetween asked settings text scenario least most
  pub written : out
      ≡ open_line (measure_of_text settings.unit text scenario) least most
      ++ (verdict_text (measure_of_text settings.unit text scenario) (target_deadline asked text scenario) least most
      ++ outside_text (outside_of_text text scenario))
  pub ends : end ≡ judged (target_deadline asked text scenario) least most Open

-- what `latency` may answer
abbrev pub LatencySays : Asked → Settings → Rule
LatencySays asked settings text (Ok (end, out)) = IsGreatestTold asked settings text end out ⊎ IsFrontTold asked settings text end out
LatencySays asked settings text (Err fault) = IsFaultyBy asked text fault
