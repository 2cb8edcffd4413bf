-- What the callers answer.
use Rattle.std.specs.Prelude.{ℕ, ℤ, pos, ◌≤◌, ◌<◌, List, [], ◌∷◌, codes, None, Result, Ok, Err}
use Rattle.std.specs.Result.{result_map_both}
use Rattle.convoy_library.specs.Draft.{Draft}
use Rattle.convoy_library.specs.Time.TheVariants.{Ticks}
use Rattle.convoy_library.specs.Scenario.{Scenario}
use Rattle.convoy_library.specs.Reading.{scenario_of_text}
use Rattle.convoy_library.specs.Assignment.{ranges_of}
use Rattle.convoy_library.specs.Given.{schedule_of}
use Rattle.convoy_library.specs.Delivery.{latency_of}
use Rattle.convoy_library.specs.Greatest.{IsReached, IsUpper, IsGreatest}
use Rattle.convoy_library.specs.CertificateReading.{certificate_of}
use Rattle.convoy_library.specs.Checks.{checked}
use Rattle.convoy_library_tests.specs.declared.fault.Fault.{Fault}
use Rattle.convoy_library_tests.specs.declared.greatest.Answer.{Answer}
use Rattle.convoy_library_tests.specs.declared.greatest.Answer.TheVariants.{Exactly, Between}
use Rattle.convoy_library_tests.specs.declared.timeout.Judgement.{Judgement}
use Rattle.convoy_library_tests.specs.declared.timeout.Judgement.TheVariants.{Enough, TooShort, Unknown}
use Rattle.convoy_library_tests.specs.Faults.{of_scenario, of_list, of_text, of_check}

-- what a call of the library answers, with its fault as these callers tell it
abbrev pub told : {A E : Type 0} → (E → Fault) → Result A E → Result A Fault
told of answer = result_map_both (λ x. x) of answer

-- then: the first fault ends it
infixl 10 ◌>>=◌
abbrev pub ◌>>=◌ : {A B : Type 0} → Result A Fault → (A → Result B Fault) → Result B Fault
Ok x >>= f = f x
Err fault >>= f = Err fault

-- the latency of the scenario that the text is, under the schedule that the list is, where ties fall in the fixed order; else the first fault, that of the text before that of the list
abbrev pub latency_given : List ℕ → List ℤ → Result ℕ Fault
latency_given text list = do
  scenario ← told of_scenario (scenario_of_text text)
  schedule ← told of_list (schedule_of (ranges_of scenario) list)
  Ok (latency_of scenario schedule)

-- the scenario of the valid certificate that the text is, and the latency stated there; else the first fault, that of the text before that of the certificate
abbrev pub vouched_in : List ℕ → Result (Scenario × ℕ) Fault
vouched_in text = do
  certificate ← told of_text (certificate_of text)
  latency ← told of_check (checked certificate)
  Ok (certificate.scenario, latency)

-- what is answered is true of the greatest latency of the scenario
abbrev pub IsAnswer : Scenario → Answer → Type 0
IsAnswer scenario (Exactly latency) = IsGreatest scenario latency
IsAnswer scenario (Between least most) = IsReached scenario least × IsUpper scenario most

-- no run takes longer than the timeout; or some run does; or the greatest latency lies between two others, and the timeout does too
abbrev pub IsJudgement : Scenario → ℕ → Judgement → Type 0
IsJudgement scenario timeout Enough = IsUpper scenario timeout
IsJudgement scenario timeout (TooShort latency) = IsReached scenario latency × (timeout < latency)
IsJudgement scenario timeout (Unknown least most) =
    IsReached scenario least × IsUpper scenario most × (least ≤ timeout) × (timeout < most)

-- the parts of a scenario in whole ticks: a client sends m to the groups a and b at tick 0, and it is asked when a delivers it
abbrev pub exchange : ℕ → Draft
exchange delay = record {
  time = Ticks;
  tick = None;
  delay = pos delay;
  groups = codes "a" ∷ codes "b" ∷ [];
  places = [];
  links = [];
  messages = record { name = codes "m"; sender = None; to = codes "a" ∷ codes "b" ∷ []; at = pos 0; until = pos 0 } ∷ [];
  target_message = codes "m";
  target_group = codes "a";
}
