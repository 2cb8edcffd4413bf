-- What is answered for a text of kinds of messages.
use Rattle.std.specs.Prelude.{◌≡◌, ℕ, Bool, if◌then◌else◌, List, Option, Ok, Err}
use Rattle.convoy_draft.specs.declared.duration.TimeUnit.{TimeUnit}
use Rattle.convoy_tables.specs.declared.format.Format.{Format}
use Rattle.convoy_kinds.specs.declared.fault.KindsFault.{KindsFault}
use Rattle.convoy_kinds.specs.Reading.{kinds_of_text}
use Rattle.convoy_kinds_told.specs.KindTables.{IsKindTable}
use Rattle.convoy_kinds_told.specs.Worst.{IsWorstTold}
use Rattle.convoy_commands.specs.declared.done.Done.{Done}
use Rattle.convoy_commands.specs.declared.done.Done.TheVariants.{Fine, Open}
use Rattle.convoy_commands.specs.declared.fault.Fault.{Fault}
use Rattle.convoy_commands.specs.Faults.{told_of_kinds}
use Rattle.convoy_commands.specs.Replies.{Rule}

-- the text has this fault as that of kinds
pub record AreFaultyKinds (text : List ℕ) (fault : Fault) : Type 0 where
  pub cause : KindsFault
  pub found : kinds_of_text text ≡ Err cause
  pub told : fault ≡ told_of_kinds cause

-- what may be answered where the ceilings of all kinds are asked for: the table of them, which ends well
abbrev pub KindTableSays : Format → Option TimeUnit → Rule
KindTableSays format unit text (Ok (end, out)) = (end ≡ Fine) × IsKindTable format unit text out
KindTableSays format unit text (Err fault) = AreFaultyKinds text fault

-- how it ends where the greatest of all is told: well where the traffic attains it
abbrev pub end_of_worst : Bool → Done
end_of_worst is_attained = if is_attained then Fine else Open

-- What is written is the greatest ceiling of all kinds with traffic, and it ends so.
pub record IsWorstEnded (unit : Option TimeUnit) (text : List ℕ) (end : Done) (out : List ℕ) : Type 0 where
  pub is_attained : Bool
  pub told : IsWorstTold unit text is_attained out
  pub ends : end ≡ end_of_worst is_attained

-- what may be answered where it is asked for
abbrev pub WorstKindSays : Option TimeUnit → Rule
WorstKindSays unit text (Ok (end, out)) = IsWorstEnded unit text end out
WorstKindSays unit text (Err fault) = AreFaultyKinds text fault
