-- The number and the text of each refusal of a certificate of a plan.
use Rattle.std.specs.Prelude.{ℕ, List, ◌++◌, codes, decimal}
use Rattle.convoy_commands.specs.Faults.{memory_row}
use Rattle.convoy_plan_certificate.specs.declared.plan_text_fault.PlanLine.{PlanLine}
use Rattle.convoy_plan_certificate.specs.declared.plan_text_fault.PlanLine.TheVariants as lines
use Rattle.convoy_plan_certificate.specs.declared.plan_text_fault.PlanTextFault.{PlanTextFault}
use Rattle.convoy_plan_certificate.specs.declared.plan_text_fault.PlanTextFault.TheVariants as texts
use Rattle.convoy_plan_checker.specs.declared.plan_refusal.PlanRefusal.{PlanRefusal}
use Rattle.convoy_plan_checker.specs.declared.plan_refusal.PlanRefusal.TheVariants.{Text, Check}
use Rattle.convoy_plan_checker.specs.declared.plan_refused.PlanRefused.{PlanRefused}
use Rattle.convoy_plan_checker.specs.declared.plan_refused.PlanRefused.TheVariants as checks

-- the word of what a line has to be
abbrev pub plan_line_word : PlanLine → List ℕ
plan_line_word lines.Plan = codes "convoy plan"
plan_line_word lines.Sites = codes "sites"
plan_line_word lines.Order = codes "order"
plan_line_word lines.Tree = codes "tree"
plan_line_word lines.Node = codes "node"
plan_line_word lines.Witness = codes "witness"
plan_line_word lines.Schedule = codes "schedule"
plan_line_word lines.Ranks = codes "order"

-- of a fault of the text
abbrev pub row_of_text : PlanTextFault → ℕ × List ℕ
row_of_text (texts.Line number expected) =
    (20, codes "line " ++ (decimal number ++ (codes " expected " ++ plan_line_word expected)))
row_of_text (texts.Certificate number fault) = (81, codes "no certificate " ++ decimal number)
row_of_text texts.AfterEnd = (28, codes "after end")
row_of_text texts.Spelling = (80, codes "spelling")
row_of_text texts.Memory = memory_row

-- of a fault of the certificate
abbrev pub row_of_check : PlanRefused → ℕ × List ℕ
row_of_check checks.Placement = (82, codes "placement")
row_of_check checks.Unmade = (83, codes "no scenario")
row_of_check checks.Order = (84, codes "order")
row_of_check checks.Count = (85, codes "certificate count")
row_of_check (checks.Scenario number) = (86, codes "other scenario " ++ decimal number)
row_of_check (checks.Certificate number refused) = (87, codes "certificate " ++ decimal number)
row_of_check (checks.Split node) = (24, codes "split node " ++ decimal node)
row_of_check (checks.Apart node) = (88, codes "apart leaf " ++ decimal node)
row_of_check (checks.Commit node) = (89, codes "commit leaf " ++ decimal node)
row_of_check (checks.NoScenario node) = (90, codes "scenario leaf " ++ decimal node)
row_of_check (checks.Late node) = (91, codes "witness leaf " ++ decimal node)
row_of_check checks.TreeCount = (25, codes "tree count")
row_of_check checks.Memory = memory_row

-- of a refusal
abbrev pub row_of_refusal : PlanRefusal → ℕ × List ℕ
row_of_refusal (Text fault) = row_of_text fault
row_of_refusal (Check refused) = row_of_check refused
