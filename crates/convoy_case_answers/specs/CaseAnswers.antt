-- What is answered of the latency in all cases of a text.
use Rattle.std.specs.Prelude.{◌≡◌, ◌⊎◌, ℕ, ◌<◌, ◌≤◌, false, true, List, Ok, Err}
use Rattle.convoy_draft.specs.declared.fault.Key.TheVariants.{From, Tick}
use Rattle.convoy_draft.specs.declared.fault.ScenarioFault.{ScenarioFault}
use Rattle.convoy_draft.specs.declared.fault.ScenarioFault.TheVariants.{Shape}
use Rattle.convoy_toml.specs.declared.asked.Asked.{Asked}
use Rattle.convoy_toml.specs.declared.cases.TheConstants.{MOST_CASES}
use Rattle.convoy_toml.specs.Cases.{cases_of_text, targets_of_text}
use Rattle.convoy_toml.specs.Shape.{WrittenTarget}
use Rattle.convoy_branch.specs.Options.{Settings}
use Rattle.convoy_commands.specs.declared.done.Done.{Done}
use Rattle.convoy_commands.specs.declared.fault.Fault.{Fault}
use Rattle.convoy_commands.specs.declared.fault.Fault.TheVariants as faults
use Rattle.convoy_commands.specs.Faults.{told_of}
use Rattle.convoy_commands.specs.Replies.{Rule}
use Rattle.convoy_case_answers.specs.declared.found.Found.{Found}
use Rattle.convoy_case_answers.specs.declared.late.Late.{Late}
use Rattle.convoy_case_answers.specs.Cases.{asked_cases, first_asked}
use Rattle.convoy_case_answers.specs.Founds.{AreFound, IsRefusedAmong}
use Rattle.convoy_case_answers.specs.Told.{are_alike, cases_end, cases_text, of_first}

-- THE HEADLINE. What is written is what was found in each case of the text, of who sends its messages, at each target that is asked about, in one length of ticks; and that says how the command ends.
pub record IsLatencyOfCases (late : Late) (asked : Asked) (settings : Settings) (text : List ℕ) (end : Done) (out : List ℕ) : Type 0 where
  pub targets : List WrittenTarget
  pub founds : List Found
  pub few : cases_of_text text ≤ MOST_CASES
  pub aimed : targets_of_text (first_asked late asked) text ≡ Ok targets
  pub found : AreFound late (asked_cases late asked targets (cases_of_text text)) settings text founds
  pub alike : are_alike founds ≡ true
  pub written : out ≡ cases_text late (of_first (λ f. f.measure) founds) (of_first (λ f. f.deadline) founds) founds
  pub ends : end ≡ cases_end late (of_first (λ f. f.deadline) founds) founds

-- There are more cases than are asked about.
pub record AreTooMany (text : List ℕ) (fault : Fault) : Type 0 where
  pub many : MOST_CASES < cases_of_text text
  pub told : fault ≡ faults.Scenario (Shape From)

-- The text has a fault in its shape.
pub record IsNotAimed (late : Late) (asked : Asked) (text : List ℕ) (fault : Fault) : Type 0 where
  pub cause : ScenarioFault
  pub found : targets_of_text (first_asked late asked) text ≡ Err cause
  pub told : fault ≡ told_of cause

-- Of one of the cases nothing is found.
pub record IsOneRefused (late : Late) (asked : Asked) (text : List ℕ) (fault : Fault) : Type 0 where
  pub targets : List WrittenTarget
  pub aimed : targets_of_text (first_asked late asked) text ≡ Ok targets
  pub refused : IsRefusedAmong late (asked_cases late asked targets (cases_of_text text)) text fault

-- The ticks of the cases have several lengths, since none is written.
pub record AreUnlike (fault : Fault) : Type 0 where
  pub founds : List Found
  pub unlike : are_alike founds ≡ false
  pub told : fault ≡ faults.Scenario (Shape Tick)

-- what may be answered
abbrev pub latency_of_cases_says : Late → Asked → Settings → Rule
latency_of_cases_says late asked settings text (Ok (end, out)) = IsLatencyOfCases late asked settings text end out
latency_of_cases_says late asked settings text (Err fault) =
    AreTooMany text fault ⊎ IsNotAimed late asked text fault ⊎ IsOneRefused late asked text fault ⊎ AreUnlike fault
