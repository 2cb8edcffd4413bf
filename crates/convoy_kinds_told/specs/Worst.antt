-- What is told of the greatest ceiling of all.
use Rattle.std.specs.Prelude.{◌≡◌, ℕ, ◌≤◌, ◌==◌, Bool, List, ◌∷◌, [], ◌++◌, Vec, find, map, Option, Some, codes, decimal, Result, Ok, Err}
use Rattle.std.specs.Global.{Global}
use Rattle.convoy_draft.specs.declared.duration.TimeUnit.{TimeUnit}
use Rattle.convoy_lines.specs.Texts.{ended, line_of, number_line}
use Rattle.convoy_times.specs.declared.measure.Measure.{Measure}
use Rattle.convoy_times.specs.Measures.{told_in_unit}
use Rattle.convoy_toml_writer.specs.Text.{toml_text}
use Rattle.convoy_sim.specs.Record.{Record}
use Rattle.convoy_sim.specs.Times.{greatest}
use Rattle.convoy_scenario.specs.Scenario.{Scenario}
use Rattle.convoy_ceiling.specs.Ceiling.{IsTrafficOf}
use Rattle.convoy_ceiling.specs.Finding.{IsFound}
use Rattle.convoy_kinds.specs.declared.ceiling_row.CeilingRow.{CeilingRow}
use Rattle.convoy_kinds.specs.declared.fault.KindsFault.{KindsFault}
use Rattle.convoy_kinds.specs.Ceilings.{AreCeilingRows}
use Rattle.convoy_kinds.specs.Kinds.{IsKinds, Kinds, all_kinds}
use Rattle.convoy_kinds.specs.Pairs.{pair_of}
use Rattle.convoy_kinds.specs.Reading.{kinds_of_text}
use Rattle.convoy_kinds_told.specs.KindTables.{measure_of_kinds}

-- the greatest ceiling of some rows
abbrev pub greatest_ceiling : List CeilingRow → ℕ
greatest_ceiling rows = greatest (map (λ row. row.ceiling) rows)

-- the first row that has it
abbrev pub worst_of : List CeilingRow → Option CeilingRow
worst_of rows = find (λ row. row.ceiling == greatest_ceiling rows) rows

-- a ceiling in ticks and in the unit of the measure, the latency that was found in traffic, and that traffic with its schedule as a scenario's text
abbrev pub worst_text : Option Measure → ℕ → Record → List ℕ
worst_text measure ceiling found =
    ended (line_of (codes "ceiling") (decimal ceiling ∷ told_in_unit measure (ceiling ∷ [])))
    ++ (ended (number_line (codes "attained") found.latency) ++ toml_text found.scenario found.schedule)

-- It is traffic of the kind of a row and of its rival, so of these kinds, with a record of a schedule, of which the latency is no greater than the ceiling of the row.
pub record IsTrafficBeside (kinds : Kinds) (row : CeilingRow) (traffic : Scenario) (found : Record) : Type 0 where
  pub asked : IsFound (pair_of kinds row.kind row.rival row.group) traffic found
  pub of_kinds : IsTrafficOf (all_kinds kinds) traffic
  pub within : found.latency ≤ row.ceiling

-- What is written is the greatest ceiling of all kinds that the text gives at all groups that they go to, and traffic of the kind that has it and of its rival, so of these kinds, with a schedule that has the latency that is told, which is no greater; and it attains the ceiling or does not.
pub record IsWorstTold (unit : Option TimeUnit) (text : List ℕ) (is_attained : Bool) (out : List ℕ) : Type 0 where
  pub kinds : Kinds
  pub read : kinds_of_text text ≡ Ok kinds
  pub lawful : IsKinds kinds
  pub rows : List CeilingRow
  pub told : AreCeilingRows kinds rows
  pub worst : CeilingRow
  pub first : worst_of rows ≡ Some worst
  pub traffic : Record
  pub beside : IsTrafficBeside kinds worst traffic.scenario traffic
  pub attained : is_attained ≡ (traffic.latency == worst.ceiling)
  pub written : out ≡ worst_text (measure_of_kinds unit kinds) worst.ceiling traffic

-- what may be answered for a text where the greatest ceiling of its kinds is asked for
abbrev pub WorstSays : Option TimeUnit → List ℕ → Result (Bool × List ℕ) KindsFault → Type 0
WorstSays unit text (Ok (is_attained, out)) = IsWorstTold unit text is_attained out
WorstSays unit text (Err fault) = kinds_of_text text ≡ Err fault

-- what was answered, with its text as a list
abbrev pub worst_told : Result (Bool × Vec ℕ Global) KindsFault → Result (Bool × List ℕ) KindsFault
worst_told (Ok (is_attained, text)) = Ok (is_attained, text.items)
worst_told (Err fault) = Err fault
