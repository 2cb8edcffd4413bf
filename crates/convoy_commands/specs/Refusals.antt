-- The number and the text of each refusal of a certificate, and its line.
use Rattle.std.specs.Prelude.{ℕ, List, [], ◌∷◌, ◌++◌, codes, decimal}
use Rattle.convoy_scenario_lines.specs.declared.line_fault.Expected.{Expected}
use Rattle.convoy_scenario_lines.specs.declared.line_fault.Expected.TheVariants as lines
use Rattle.convoy_draft.specs.declared.fault.ScenarioFault.{ScenarioFault}
use Rattle.convoy_certificate.specs.declared.text_fault.TextFault.{TextFault}
use Rattle.convoy_certificate.specs.declared.text_fault.TextFault.TheVariants as texts
use Rattle.convoy_checker.specs.declared.refused.Refused.{Refused}
use Rattle.convoy_checker.specs.declared.refused.Refused.TheVariants as checks
use Rattle.convoy_checker.specs.declared.refusal.Refusal.{Refusal}
use Rattle.convoy_checker.specs.declared.refusal.Refusal.TheVariants.{Text, Check}
use Rattle.convoy_commands.specs.Faults.{memory_row, row_of_scenario}

-- the word of what a line has to be
abbrev pub line_word : Expected → List ℕ
line_word lines.Convoy = codes "convoy"
line_word lines.Time = codes "time"
line_word lines.Tick = codes "tick"
line_word lines.Delay = codes "delay"
line_word lines.Groups = codes "groups"
line_word lines.Places = codes "places"
line_word lines.Link = codes "link"
line_word lines.Multicast = codes "multicast"
line_word lines.Target = codes "target"
line_word lines.Latency = codes "latency"
line_word lines.Schedule = codes "schedule"
line_word lines.Order = codes "order"
line_word lines.Node = codes "node"

-- a fault of the scenario: its own number and text, after a word
abbrev pub scenario_text : ScenarioFault → List ℕ
scenario_text fault =
    let row = row_of_scenario fault in codes "scenario " ++ (decimal row.0 ++ 32 ∷ row.1)

-- the number and the text of a fault of the certificate's text
abbrev pub row_of_text : TextFault → ℕ × List ℕ
row_of_text (texts.Line number expected) =
    (20, codes "line " ++ (decimal number ++ (codes " expected " ++ line_word expected)))
row_of_text (texts.Scenario fault) = (21, scenario_text fault)
row_of_text texts.Schedule = (22, codes "schedule")
row_of_text texts.TreeCount = (25, codes "tree count")
row_of_text texts.AfterEnd = (28, codes "after end")
row_of_text texts.Memory = memory_row

-- the number and the text of a fault of the certificate
abbrev pub row_of_check : Refused → ℕ × List ℕ
row_of_check (checks.Latency simulated) = (23, codes "simulated " ++ decimal simulated)
row_of_check (checks.Split node) = (24, codes "split node " ++ decimal node)
row_of_check checks.TreeCount = (25, codes "tree count")
row_of_check (checks.BoundLeaf node bound) =
    (26, codes "bound leaf " ++ (decimal node ++ (codes " bound " ++ decimal bound)))
row_of_check (checks.PointLeaf node) = (27, codes "point leaf " ++ decimal node)
row_of_check (checks.StampLeaf node bound) =
    (29, codes "stamp leaf " ++ (decimal node ++ (codes " bound " ++ decimal bound)))
row_of_check (checks.LeadLeaf node) = (36, codes "lead leaf " ++ decimal node)
row_of_check checks.Memory = memory_row

-- the number and the text of a refusal
abbrev pub row_of_refusal : Refusal → ℕ × List ℕ
row_of_refusal (Text fault) = row_of_text fault
row_of_refusal (Check fault) = row_of_check fault

-- the line of a refusal
unfoldable pub refused_line : ℕ × List ℕ → List ℕ
refused_line row = codes "refused " ++ (decimal row.0 ++ 32 ∷ (row.1 ++ 10 ∷ []))
