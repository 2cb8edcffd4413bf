-- What `sweep` writes: the greatest latency with each value of a key of the text, or of two.
use Rattle.std.specs.Prelude.{◌≡◌, ◌⊎◌, ℕ, Bool, List, Option, Result, Ok, Err}
use Rattle.std.specs.List.{list_any}
use Rattle.std.specs.Result.{result_map_both}
use Rattle.convoy_draft.specs.declared.fault.ScenarioFault.TheVariants.{Memory}
use Rattle.convoy_toml.specs.declared.asked.Asked.{Asked}
use Rattle.convoy_branch.specs.Options.{Settings}
use Rattle.convoy_tables.specs.declared.format.Format.{Format}
use Rattle.convoy_tables.specs.Formats.{table_text}
use Rattle.convoy_commands.specs.declared.answer.Answer.{Answer}
use Rattle.convoy_commands.specs.declared.done.Done.{Done}
use Rattle.convoy_commands.specs.Ends.{end_by}
use Rattle.convoy_commands.specs.Measured.{measure_of_text}
use Rattle.convoy_commands.specs.Replies.{told_of_answer}
use Rattle.convoy_commands.specs.Verdicts.{target_deadline}
use Rattle.convoy_survey.specs.Findings.{is_fault}
use Rattle.convoy_survey.specs.Judgements.{is_finding_beyond, is_finding_open}
use Rattle.convoy_survey.specs.Times.{times_of}
use Rattle.convoy_sweep.specs.declared.fault.SweepFault.{SweepFault}
use Rattle.convoy_sweep.specs.declared.fault.SweepFault.TheVariants.{Text}
use Rattle.convoy_sweep.specs.declared.kinds.Sweep.{Sweep}
use Rattle.convoy_sweep.specs.declared.kinds.Swept.{Swept}
use Rattle.convoy_sweep.specs.Cells.{table_of}
use Rattle.convoy_sweep.specs.Points.{Prepared, prepared_of}
use Rattle.convoy_sweep.specs.Rows.{AreSwept}

-- how it ends with these rows: one beyond the deadline of the target comes before a fault, and that before one that is open
abbrev pub end_of : Option ℕ → List Swept → Done
end_of deadline rows =
    end_by (list_any (λ row. is_finding_beyond deadline row.finding) rows) (list_any (λ row. is_fault row.finding) rows)
    (list_any (λ row. is_finding_open deadline row.finding) rows)

-- THE HEADLINE. What is written is the table of these rows in this format: one for each point of the sweep, with what a search finds of the scenario that the text makes there, judged by the deadline of the text's target, and the end is told by all rows.
pub record IsSweepTold (format : Format) (sweep : Sweep) (envelope : Bool) (asked : Asked) (settings : Settings) (text : List ℕ) (end : Done) (out : List ℕ) : Type 0 where
  pub prepared : Prepared
  pub rows : List Swept
  pub read : prepared_of sweep envelope asked text ≡ Ok prepared
  pub swept : AreSwept settings prepared.made rows
  pub written : out
      ≡ table_text format
      (table_of envelope (times_of format (measure_of_text settings.unit text prepared.scenario)) (target_deadline asked text prepared.scenario) sweep prepared.scenario rows)
  pub ends : end ≡ end_of (target_deadline asked text prepared.scenario) rows

-- how a sweep ends and what it writes, or why there is none
abbrev pub SweepReply : Type 0
SweepReply = Result (Done × List ℕ) SweepFault

-- the same of an answer
abbrev pub sweep_reply : Result Answer SweepFault → SweepReply
sweep_reply result = result_map_both told_of_answer (λ fault. fault) result

-- what `sweep` may answer for a text: the fault is the first that there is before any search
abbrev pub SweepSays : Format → Sweep → Bool → Asked → Settings → List ℕ → SweepReply → Type 0
SweepSays format sweep envelope asked settings text (Ok (end, out)) = IsSweepTold format sweep envelope asked settings text end out
SweepSays format sweep envelope asked settings text (Err fault) = prepared_of sweep envelope asked text ≡ Err fault

-- the same, unless memory ran out
abbrev pub SweepSaysUnlessMemory : Format → Sweep → Bool → Asked → Settings → List ℕ → SweepReply → Type 0
SweepSaysUnlessMemory format sweep envelope asked settings text reply =
    SweepSays format sweep envelope asked settings text reply ⊎ (reply ≡ Err (Text Memory))
