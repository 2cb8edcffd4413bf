-- What the command `check` writes where the certificate is to be that of a scenario, or where it is to tell what it accepts.
use Rattle.std.specs.Prelude.{◌≡◌, ℕ, Bool, true, false, List, ◌++◌, Option, Some, None, IfSome, IsSomeAnd, Ok}
use Rattle.convoy_draft.specs.declared.duration.TimeUnit.{TimeUnit}
use Rattle.convoy_scenario.specs.Scenario.{Scenario}
use Rattle.convoy_certificate.specs.Certificate.{Certificate}
use Rattle.convoy_commands.specs.declared.done.Done.TheVariants.{Fine, Differs}
use Rattle.convoy_commands.specs.declared.asking.Asking.TheVariants.{Check}
use Rattle.convoy_commands.specs.Asks.{AskSays}
use Rattle.convoy_commands.specs.Checks.{CheckSays, IsAccepted}
use Rattle.convoy_commands.specs.Replies.{Rule}
use Rattle.convoy_scenario.specs.declared.part.Part.{Part}
use Rattle.convoy_text_answers.specs.AcceptedLines.{differs_line, told_if}
use Rattle.convoy_scenario.specs.Differences.{IsFirstDifference}

-- the scenario is the one that is wanted, if one is
abbrev pub IsWanted : Option Scenario → Scenario → Type 0
IsWanted wanted scenario = IfSome wanted (λ asked. scenario ≡ asked)

-- one is wanted, and this is the first part in which the scenario differs from it
abbrev pub IsUnwanted : Option Scenario → Scenario → Part → Type 0
IsUnwanted wanted scenario part = IsSomeAnd wanted (λ asked. IsFirstDifference asked scenario part)

-- THE HEADLINE. `check` accepts the text with this line, which is that of a valid certificate: its latency is the greatest of its scenario, and that scenario is the one that is wanted, if one is. What is written is the yes, and below it what was accepted, where that is to be told, with times in the unit that is asked for.
pub record IsAcceptedAbout (wanted : Option Scenario) (tells : Bool) (unit : Option TimeUnit) (text out : List ℕ) : Type 0 where
  pub line : List ℕ
  pub accepted : IsAccepted text line
  pub of_wanted : IsWanted wanted accepted.certificate.scenario
  pub written : out ≡ line ++ told_if tells unit accepted.certificate

-- `check` accepts the text, but its certificate is that of another scenario than the one that is wanted. What is written is that refusal, with the first part that differs.
pub record IsOfAnother (wanted : Option Scenario) (part : Part) (text out : List ℕ) : Type 0 where
  pub line : List ℕ
  pub accepted : IsAccepted text line
  pub unwanted : IsUnwanted wanted accepted.certificate.scenario part
  pub written : out ≡ differs_line part

-- What may be answered for a text: a yes, or that it is of another scenario; whatever is neither is answered as `check` does.
abbrev pub CheckAboutSays : Option Scenario → Bool → Option TimeUnit → Rule
CheckAboutSays wanted tells unit text (Ok (Fine, out)) = IsAcceptedAbout wanted tells unit text out
CheckAboutSays wanted tells unit text (Ok (Differs part, out)) = IsOfAnother wanted part text out
CheckAboutSays wanted tells unit text other = AskSays Check text other

-- The rule of `check`, by the scenario that is wanted, if one is, by whether what is accepted is to be told, and by the unit that is asked for.
abbrev pub check_says : Option Scenario → Bool → Option TimeUnit → Rule
check_says None false unit = CheckSays
check_says None true unit = CheckAboutSays None true unit
check_says (Some scenario) tells unit = CheckAboutSays (Some scenario) tells unit

-- the certificate is the one that `check` accepts with this line
abbrev pub IsAcceptedAs : Certificate → List ℕ → List ℕ → Type 0
IsAcceptedAs certificate text line = (accepted : IsAccepted text line) × (accepted.certificate ≡ certificate)
