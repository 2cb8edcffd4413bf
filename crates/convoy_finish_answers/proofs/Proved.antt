-- What is written of a scenario whose groups are replicated by white box, from what its calls answered.
use Rattle.std.proofs.Common.{◌≡◌, ◌⊎◌, inl, inr, ℕ, List, ◌++◌, Option, ap, subst, sym, ◌∙◌}
use Rattle.convoy_draft.specs.declared.duration.TimeUnit.{TimeUnit}
use Rattle.convoy_scenario.specs.Scenario.{Scenario}
use Rattle.convoy_scenario.specs.WellFormed.{IsScenario}
use Rattle.convoy_packets.specs.Assignment.{Schedule, IsAssignment}
use Rattle.convoy_times.specs.Measures.{measure_by}
use Rattle.convoy_times.specs.declared.measure.Measure.{Measure}
use Rattle.convoy_toml.specs.declared.asked.Asked.{Asked}
use Rattle.convoy_toml.specs.Reading.{deadlines_of_text}
use Rattle.convoy_branch.specs.Options.{Settings}
use Rattle.convoy_finishes.specs.Finishes.{IsFinishReached, IsUpperOfFinishes, finish_latency}
use Rattle.convoy_commands.specs.declared.done.Done.{Done}
use Rattle.convoy_commands.specs.declared.done.Done.TheVariants.{Fine, Open}
use Rattle.convoy_commands.specs.Measured.{measure_of_text}
use Rattle.convoy_commands.specs.ReplyLines.{open_line, schedule_text}
use Rattle.convoy_commands.specs.Verdicts.{deadline_at, judged, target_deadline}
use Rattle.convoy_finish_checker.specs.declared.finish_certificate.FinishCertificate.{FinishCertificate}
use Rattle.convoy_finish_answers.specs.declared.accepted.Accepted.{Accepted}
use Rattle.convoy_finish_answers.specs.declared.finishing.SoughtFinish.{SoughtFinish}
use Rattle.convoy_finish_answers.specs.AcceptedTexts.{AreWaysOf, IsAccepted, accepting}
use Rattle.convoy_finish_answers.specs.FinishProofs.{IsFinishFound, IsFinishProof, IsRunTold, IsSought}

module _ (asked : Asked) (settings : Settings) (text : List ℕ) (accepted : Accepted) (measure : Option Measure) (deadline : Option ℕ) (deadlines : List (Option ℕ)) (message : ℕ)
    (same : Scenario) (sought : SoughtFinish) (certificate : FinishCertificate)
    (read : IsAccepted asked text accepted) (measured : measure ≡ measure_by settings.unit accepted.unit accepted.scenario)
    (are : deadlines ≡ accepted.deadlines.items) (of_message : message ≡ accepted.scenario.target_message) (within : deadline ≡ deadline_at deadlines message)
    (is : same ≡ accepted.scenario) (so : IsSought same accepted.ways sought)
    (its_ways : certificate.ways ≡ accepted.ways) (its_scenario : certificate.run.scenario ≡ same) (its_latency : certificate.run.latency ≡ sought.least)
    (its_schedule : certificate.run.schedule ≡ sought.schedule) where
  whole : certificate.run.scenario ≡ accepted.scenario
  whole = its_scenario ∙ is

  on_deadline : deadline ≡ target_deadline (accepting asked) text certificate.run.scenario
  on_deadline =
      within
      ∙ ap (λ (times : List (Option ℕ)). deadline_at times message) (are ∙ read.deadlines)
      ∙ ap (λ (m : ℕ). deadline_at (deadlines_of_text (accepting asked) text) m) of_message
      ∙ ap (λ (s : Scenario). target_deadline (accepting asked) text s) (sym whole)

  on_measure : measure ≡ measure_of_text settings.unit text certificate.run.scenario
  on_measure =
      measured
      ∙ ap (λ (u : Option TimeUnit). measure_by settings.unit u accepted.scenario) read.unit
      ∙ ap (λ (s : Scenario). measure_of_text settings.unit text s) (sym whole)

  ways_of : AreWaysOf asked text certificate.run.scenario certificate.ways
  ways_of =
      subst (λ (s : Scenario). AreWaysOf asked text s certificate.ways) (sym whole)
      (subst (λ (w : List ℕ). AreWaysOf asked text accepted.scenario w) (sym its_ways) read.ways)

  sought_of : IsSought certificate.run.scenario certificate.ways sought
  sought_of =
      subst (λ (s : Scenario). IsSought s certificate.ways sought) (sym its_scenario)
      (subst (λ (w : List ℕ). IsSought same w sought) (sym its_ways) so)

  assigned : IsAssignment certificate.run.scenario certificate.run.schedule
  assigned = subst (λ (s : Schedule). IsAssignment certificate.run.scenario s) (sym its_schedule) sought_of.assigned

  has_latency : finish_latency certificate.run.scenario certificate.ways certificate.run.schedule ≡ certificate.run.latency
  has_latency =
      ap (λ (s : Schedule). finish_latency certificate.run.scenario certificate.ways s) its_schedule
      ∙ sym sought_of.latency ∙ sym its_latency

  reached : IsFinishReached certificate.run.scenario certificate.ways certificate.run.latency
  reached = subst (λ (n : ℕ). IsFinishReached certificate.run.scenario certificate.ways n) (sym its_latency) sought_of.reached

  pub told_so : (end done : Done) (out : List ℕ) → IsRunTold measure certificate sought.most end out
      → done ≡ judged deadline certificate.run.latency sought.most end
      → IsFinishProof asked text done out ⊎ IsFinishFound asked settings text done out
  told_so end done out (inl (fine, written, proved)) judged_so = inl (record {
    certificate = certificate;
    lawful = proved.lawful;
    ways = ways_of;
    written = written;
    valid = proved.valid;
    greatest = proved.greatest;
    ends =
        judged_so
        ∙ ap (λ (d : Option ℕ). judged d certificate.run.latency sought.most end) on_deadline
        ∙ ap (λ (n : ℕ). judged (target_deadline (accepting asked) text certificate.run.scenario) certificate.run.latency n end) (sym proved.latency)
        ∙ ap (λ (e : Done). judged (target_deadline (accepting asked) text certificate.run.scenario) certificate.run.latency certificate.run.latency e) fine;
  })
  told_so end done out (inr (open_so, written)) judged_so = inr (record {
    scenario = certificate.run.scenario;
    finish_ways = certificate.ways;
    least = certificate.run.latency;
    most = sought.most;
    schedule = certificate.run.schedule;
    ways = ways_of;
    lawful = subst IsScenario (sym whole) read.lawful;
    assigned = assigned;
    latency = has_latency;
    reached = reached;
    safe = sought_of.safe;
    written =
        subst (λ (m : Option Measure). out ≡ open_line m certificate.run.latency sought.most ++ schedule_text certificate.run.scenario certificate.run.schedule) on_measure written;
    ends =
        judged_so
        ∙ ap (λ (d : Option ℕ). judged d certificate.run.latency sought.most end) on_deadline
        ∙ ap (λ (e : Done). judged (target_deadline (accepting asked) text certificate.run.scenario) certificate.run.latency sought.most e) open_so;
  })
