-- The number and the text of each refusal of a certificate of finishes.
use Rattle.std.specs.Prelude.{ℕ, List, ◌++◌, codes, decimal}
use Rattle.convoy_commands.specs.Faults.{memory_row}
use Rattle.convoy_commands.specs.Refusals as refusals
use Rattle.convoy_finish_checker.specs.declared.finish_text_fault.FinishLine.{FinishLine}
use Rattle.convoy_finish_checker.specs.declared.finish_text_fault.FinishLine.TheVariants as lines
use Rattle.convoy_finish_checker.specs.declared.finish_text_fault.FinishTextFault.{FinishTextFault}
use Rattle.convoy_finish_checker.specs.declared.finish_text_fault.FinishTextFault.TheVariants as texts
use Rattle.convoy_finish_checker.specs.declared.finish_refusal.FinishRefusal.{FinishRefusal}
use Rattle.convoy_finish_checker.specs.declared.finish_refusal.FinishRefusal.TheVariants.{Text, Check}
use Rattle.convoy_finish_checker.specs.declared.finish_refused.FinishRefused.{FinishRefused}
use Rattle.convoy_finish_checker.specs.declared.finish_refused.FinishRefused.TheVariants as checks

-- the word of what a line has to be
abbrev pub finish_line_word : FinishLine → List ℕ
finish_line_word lines.Finish = codes "convoy finish"
finish_line_word lines.Ways = codes "ways"

-- of a fault of the text: one of what stands below the ways is told as of a certificate
abbrev pub row_of_text : FinishTextFault → ℕ × List ℕ
row_of_text (texts.Line number expected) =
    (20, codes "line " ++ (decimal number ++ (codes " expected " ++ finish_line_word expected)))
row_of_text (texts.Certificate fault) = refusals.row_of_text fault
row_of_text texts.Spelling = (80, codes "spelling")
row_of_text texts.Memory = memory_row

-- of a fault of the certificate
abbrev pub row_of_check : FinishRefused → ℕ × List ℕ
row_of_check checks.Tree = (25, codes "tree count")
row_of_check (checks.Latency simulated) = (23, codes "simulated " ++ decimal simulated)
row_of_check checks.Open = (95, codes "not closed")
row_of_check checks.Memory = memory_row

-- of a refusal
abbrev pub row_of_refusal : FinishRefusal → ℕ × List ℕ
row_of_refusal (Text fault) = row_of_text fault
row_of_refusal (Check refused) = row_of_check refused
