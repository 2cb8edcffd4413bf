-- What is known where a curve is drawn.
use Rattle.std.proofs.Common.{◌≡◌, ◌∙◌, inl, ℕ, Bool, List, Option, Ok, Vec}
use Rattle.std.specs.declared.alloc.Global.{Global}
use Rattle.convoy_toml.specs.declared.asked.Asked.{Asked}
use Rattle.convoy_branch.specs.Options.{Settings}
use Rattle.convoy_times.specs.declared.measure.Measure.{Measure}
use Rattle.convoy_commands.specs.declared.answer.Answer.{Answer}
use Rattle.convoy_commands.specs.declared.done.Done.{Done}
use Rattle.convoy_commands.specs.Measured.{measure_of_text}
use Rattle.convoy_commands.specs.Replies.{told_of_answer}
use Rattle.convoy_commands.specs.Verdicts.{target_deadline}
use Rattle.convoy_sweep.specs.declared.kinds.Setting.{Setting}
use Rattle.convoy_sweep.specs.declared.kinds.Swept.{Swept}
use Rattle.convoy_sweep.specs.Answers.{end_of}
use Rattle.convoy_sweep.specs.Curves.{CurveSaysUnlessMemory, IsCurveOf, IsCurveTold, of_one}
use Rattle.convoy_sweep.specs.Points.{Prepared, prepared_of}
use Rattle.convoy_sweep.specs.Rows.{AreSwept}

-- a curve of the rows that were searched, with the deadline and the measure that the text gives, is the one that is told
told_by : (setting : Setting) (envelope : Bool) (asked : Asked) (settings : Settings) (text : List ℕ) (prepared : Prepared) (measure : Option Measure) (deadline : Option ℕ) (rows : List Swept) (end : Done) (out : List ℕ) →
    prepared_of (of_one setting) envelope asked text ≡ Ok prepared → AreSwept settings prepared.made rows →
    IsCurveOf measure deadline setting.key prepared.scenario rows out →
    measure ≡ measure_of_text settings.unit text prepared.scenario → deadline ≡ target_deadline asked text prepared.scenario → end ≡ end_of deadline rows →
    IsCurveTold setting envelope asked settings text end out
told_by setting envelope asked settings text prepared measure deadline rows end out read swept is measured due ends = record {
  prepared = prepared;
  rows = rows;
  read = read;
  swept = swept;
  drawn = rw (measured, due) at is;
  ends = rw due at ends;
}

-- so is an answer that ends as these rows do, and has that curve for its text
pub answered_by : (setting : Setting) (envelope : Bool) (asked : Asked) (settings : Settings) (text : List ℕ) (prepared : Prepared) (measure : Option Measure) (deadline : Option ℕ) (rows : List Swept) (answer : Answer) (end : Done) (out : Vec ℕ Global) →
    prepared_of (of_one setting) envelope asked text ≡ Ok prepared → AreSwept settings prepared.made rows →
    IsCurveOf measure deadline setting.key prepared.scenario rows out.items →
    measure ≡ measure_of_text settings.unit text prepared.scenario → deadline ≡ target_deadline asked text prepared.scenario → end ≡ end_of deadline rows →
    answer.done ≡ end → answer.text ≡ out →
    CurveSaysUnlessMemory setting envelope asked settings text (Ok (told_of_answer answer))
answered_by setting envelope asked settings text prepared measure deadline rows answer end out read swept is measured due ends done written =
    let drawn : IsCurveOf measure deadline setting.key prepared.scenario rows answer.text.items = rw (← written) at is in
    let ended : answer.done ≡ end_of deadline rows = done ∙ ends in
    inl (told_by setting envelope asked settings text prepared measure deadline rows answer.done answer.text.items read swept drawn measured due ended)
