-- What is tried of a scenario: a change, and a search of the scenario that it makes.
use Rattle.std.specs.Prelude.{◌≡◌, ◌≢◌, ◌⊎◌, ℕ, Ok, Err, List, Option, None, option_map, Result}
use Rattle.std.specs.List.{Contains}
use denote.Ref.{Bor}
use Rattle.convoy_draft.specs.declared.fault.ScenarioFault.{ScenarioFault}
use Rattle.convoy_draft.specs.declared.fault.ScenarioFault.TheVariants.{Memory}
use Rattle.convoy_scenario.specs.Scenario.{Scenario, message_at}
use Rattle.convoy_branch.specs.Options.{Settings}
use Rattle.convoy_commands.specs.declared.fault.Fault.{Fault}
use Rattle.convoy_commands.specs.declared.fault.Fault.TheVariants as faults
use Rattle.convoy_survey.specs.declared.finding.Finding.TheVariants.{OutOfMemory}
use Rattle.convoy_survey.specs.Findings.{IsFinding, rival_of, tied_of}
use Rattle.convoy_what_if.specs.declared.kinds.Change.{Change}
use Rattle.convoy_what_if.specs.Changes.{changed}
use Rattle.convoy_what_if.specs.declared.tried.Searched.{Searched}
use Rattle.convoy_what_if.specs.declared.tried.Tried.{Tried}

-- the name that a message, if there is one, has in the scenario
abbrev pub name_in : Scenario → Option ℕ → Option (List ℕ)
name_in scenario m = option_map (λ m. (message_at scenario m).name) m

-- The row tells what was found in the scenario that the change makes, and the messages of its cause by the names that they have there.
pub record TellsFound (row : Tried) (searched : Searched) : Type 0 where
  pub found : row.finding ≡ searched.finding
  pub rival : row.rival ≡ name_in searched.instance (rival_of searched.finding)
  pub tied : row.tied ≡ name_in searched.instance (tied_of searched.finding)

-- The row tells that memory ran out.
pub record TellsMemory (row : Tried) : Type 0 where
  pub found : row.finding ≡ OutOfMemory
  pub no_rival : row.rival ≡ None
  pub no_tied : row.tied ≡ None

-- The row tells what was answered where its change was tried: what was found; or that memory ran out, just where that was the answer.
abbrev pub TellsAnswer : Tried → Result Searched ScenarioFault → Type 0
TellsAnswer row (Ok searched) = TellsFound row searched
TellsAnswer row (Err fault) = (fault ≡ Memory) × TellsMemory row

-- The row tells what was answered where its change was tried, where such answers may be given for a change.
pub record IsTriedBy (may_answer : Change → Result Searched ScenarioFault → Type 0) (row : Tried) : Type 0 where
  pub answer : Result Searched ScenarioFault
  pub given : may_answer row.change answer
  pub told : TellsAnswer row answer

-- The change makes that scenario, and a search with these settings found that there.
pub record IsSearched (settings : Settings) (scenario : Scenario) (change : Change) (searched : Searched) : Type 0 where
  pub made : changed scenario change ≡ Ok searched.instance
  pub found : IsFinding settings searched.instance searched.finding

-- what may be answered where a change is tried by a search with these settings: what it finds in the scenario that the change makes; or why that makes none; or, as with each command, that memory ran out
abbrev pub MayAnswer : Settings → Scenario → Change → Result Searched ScenarioFault → Type 0
MayAnswer settings scenario change (Ok searched) = IsSearched settings scenario change searched
MayAnswer settings scenario change (Err fault) = (changed scenario change ≡ Err fault) ⊎ (fault ≡ Memory)

-- It may be answered for the change, with some watch.
pub record MayAnswerBy {W : Type 0} (may_answer : Change → Bor W → Result Searched ScenarioFault → Type 0) (change : Change) (answer : Result Searched ScenarioFault) : Type 0 where
  pub watch : Bor W
  pub answered : may_answer change watch answer

-- the row tells what was answered where its change was tried by a search with these settings
abbrev pub IsTried : Settings → Scenario → Tried → Type 0
IsTried settings scenario row = IsTriedBy (MayAnswer settings scenario) row

-- Where such answers may be given for a change, the answer for this one may be a fault other than that memory ran out, and this fault tells it.
pub record IsRefusedBy (may_answer : Change → Result Searched ScenarioFault → Type 0) (change : Change) (fault : Fault) : Type 0 where
  pub cause : ScenarioFault
  pub answered : may_answer change (Err cause)
  pub no_memory : cause ≢ Memory
  pub told : fault ≡ faults.Scenario cause

-- It is so of one of these changes.
pub record HasRefusedBy (may_answer : Change → Result Searched ScenarioFault → Type 0) (changes : List Change) (fault : Fault) : Type 0 where
  pub change : Change
  pub listed : Contains changes change
  pub refused : IsRefusedBy may_answer change fault

-- The row is that of the change, and tells what was answered where it was tried.
pub record TellsChange (may_answer : Change → Result Searched ScenarioFault → Type 0) (change : Change) (row : Tried) : Type 0 where
  pub of_change : row.change ≡ change
  pub tried : IsTriedBy may_answer row

-- what may come of a change, where such answers may be given: its row; or the fault that was answered; or that there was no memory for the row
abbrev pub MayTry : (Change → Result Searched ScenarioFault → Type 0) → Change → Result Tried Fault → Type 0
MayTry may_answer change (Ok row) = TellsChange may_answer change row
MayTry may_answer change (Err fault) = IsRefusedBy may_answer change fault ⊎ (fault ≡ faults.Memory)

-- The change makes no scenario, for the cause that the fault tells.
pub record MakesNone (scenario : Scenario) (change : Change) (fault : Fault) : Type 0 where
  pub cause : ScenarioFault
  pub broken : changed scenario change ≡ Err cause
  pub told : fault ≡ faults.Scenario cause

-- One of these changes makes no scenario, for the cause that the fault tells.
pub record HasBroken (scenario : Scenario) (changes : List Change) (fault : Fault) : Type 0 where
  pub change : Change
  pub listed : Contains changes change
  pub makes_none : MakesNone scenario change fault
