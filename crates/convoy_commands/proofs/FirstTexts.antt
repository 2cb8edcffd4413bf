-- What is written for a text, from what the reader answered for it.
use Rattle.std.proofs.Common.{◌≡◌, inl, inr, ℕ, List, Ok, Err, refl}
use Rattle.convoy_scenario.specs.Memory.{IsUnlessMemory}
use Rattle.convoy_scenario.specs.Scenario.{Scenario}
use Rattle.convoy_toml.specs.declared.asked.Asked.{Asked}
use Rattle.convoy_toml.specs.Reading.{scenario_of_text_by}
use Rattle.convoy_draft.specs.declared.fault.ScenarioFault.{ScenarioFault}
use Rattle.convoy_draft.specs.declared.fault.ScenarioFault.TheVariants as scenario
use Rattle.convoy_commands.specs.declared.fault.Fault.{Fault}
use Rattle.convoy_commands.specs.declared.fault.Fault.TheVariants.{Memory}
use Rattle.convoy_commands.specs.Faults.{told_of}
use Rattle.convoy_commands.specs.First.{attained_text, first_text, least_schedule}
use Rattle.convoy_commands.proofs.NoDevice.{IsNoDevice, no_device_in_made, no_device_in_scenario}

-- the text has a fault, or memory ran out
pub text_refused : (asked : Asked) (text : List ℕ) (refused : ScenarioFault) →
    IsUnlessMemory scenario.Memory (scenario_of_text_by asked text) (Err refused) →
    IsUnlessMemory Memory (first_text asked text) (Err (told_of refused))
unfolding first_text
text_refused asked text refused (inl is) = inl (rw (← is) refl)
text_refused asked text refused (inr is) = let same : refused ≡ scenario.Memory = cc in inr (rw same refl)

-- the text is that of a scenario
pub text_answered : (asked : Asked) (text : List ℕ) (plan : Scenario) →
    IsUnlessMemory scenario.Memory (scenario_of_text_by asked text) (Ok plan) →
    first_text asked text ≡ Ok (attained_text plan (least_schedule plan))
unfolding first_text
text_answered asked text plan (inl is) = rw (← is) refl
text_answered asked text plan (inr is) = cc

-- its fault is no device's
pub first_no_device : (asked : Asked) (text : List ℕ) (fault : Fault) → first_text asked text ≡ Err fault → IsNoDevice fault
unfolding first_text
first_no_device asked text fault is =
    no_device_in_made _ told_of (scenario_of_text_by asked text) fault (λ refused same. no_device_in_scenario refused) is
