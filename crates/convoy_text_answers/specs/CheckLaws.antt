-- What is proved of `check`. Each is the one clause of the function of its name in the crate's module `check_laws`.
use Rattle.std.specs.Prelude.{◌≡◌, ℕ, ◌<◌, ◌^◌, Bool, List, ◌++◌, Option, Some, Ok}
use Rattle.convoy_draft.specs.declared.duration.TimeUnit.{TimeUnit}
use Rattle.convoy_scenario.specs.Scenario.{Scenario}
use Rattle.convoy_sim.specs.Greatest.{IsGreatest}
use Rattle.convoy_certificate.specs.Certificate.{Certificate, IsCertificate}
use Rattle.convoy_certificate.specs.Reading.{IsTextOf}
use Rattle.convoy_checker.specs.Validity.{IsValid}
use Rattle.convoy_commands.specs.declared.done.Done.{Done}
use Rattle.convoy_commands.specs.declared.done.Done.TheVariants.{Fine}
use Rattle.convoy_commands.specs.ReplyLines.{accepted_line}
use Rattle.convoy_text_answers.specs.Abouts.{CheckAboutSays}
use Rattle.convoy_text_answers.specs.AcceptedLines.{told_if}

-- where a scenario is wanted and the answer for a text is a yes, whatever is told below it, the number of its first line, which is below 2 ^ 32, is the scenario's greatest latency
abbrev pub YesIsGreatest : Type 0
YesIsGreatest =
    (scenario : Scenario) (latency : ℕ) (tells : Bool) (unit : Option TimeUnit) (text below : List ℕ) → latency < 2 ^ 32 →
    CheckAboutSays (Some scenario) tells unit text (Ok (Fine, accepted_line latency ++ below)) → IsGreatest scenario latency

-- the text of a valid certificate of the scenario that is wanted gets a yes, and no other answer
abbrev pub YesIsGiven : Type 0
YesIsGiven =
    (certificate : Certificate) (tells : Bool) (unit : Option TimeUnit) (text : List ℕ) (end : Done) (out : List ℕ) →
    IsCertificate certificate → IsTextOf certificate text → IsValid certificate →
    CheckAboutSays (Some certificate.scenario) tells unit text (Ok (end, out)) →
    (end ≡ Fine) × (out ≡ accepted_line certificate.latency ++ told_if tells unit certificate)
