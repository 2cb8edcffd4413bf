use Rattle.std.proofs.Common.{◌≡◌, ◌++◌, ◌∙◌, ℕ, List, Option, OnOk, ap, append_assoc, codes, subst}
use Rattle.convoy_commands.specs.Verdicts.{has_deadline}
use Rattle.convoy_survey.specs.declared.finding.Surveyed.{Surveyed}
use Rattle.convoy_survey.specs.Surveys.{end_of}
use Rattle.convoy_report.specs.declared.notes.TheConstants.{SURVEY_NOTE}
use Rattle.convoy_report.specs.Pages.{around_text, start_text, survey_of, table_section, title_text, verdict_text}
use Rattle.convoy_report.proofs.page.push_answers.Goals as goal

pub returns : goal.returns
returns c =
    let report = c.args.report.now in
    let out : List ℕ = c.args.out.now.items in
    let start : List ℕ = start_text (title_text report.scenario report.scenario.target_message report.scenario.target_group) in
    let told : List (Option ℕ) → List Surveyed → List ℕ = λ deadlines rows. verdict_text (has_deadline deadlines) (end_of deadlines rows) in
    let verdict : List ℕ = told report.deadlines.items report.rows.items in
    let around : List ℕ = around_text report.span in
    let section : List ℕ → List ℕ = λ table. table_section (codes "Worst cases") SURVEY_NOTE.now table in
    let table : List ℕ = section (survey_of report) in
    let same_verdict : told c.deref.result.now c.deref-2.result.now ≡ verdict =
    ap (λ (deadlines : List (Option ℕ)). told deadlines c.deref-2.result.now) c.deref.ensures.value
    ∙ ap (λ (rows : List Surveyed). told report.deadlines.items rows) c.deref-2.ensures.value in
    let same_table : section c.deref-3.result.now ≡ table = ap section (c.deref-3.ensures.value ∙ c.in_ok-survey.ensures) in
    let before : c.push_verdict.new.out.items ≡ (out ++ start) ++ verdict =
    c.in_ok-push_verdict.ensures
    ∙ ap (λ (text : List ℕ). c.push_title.new.out.items ++ text) same_verdict
    ∙ ap (λ (text : List ℕ). text ++ verdict) c.in_ok-push_title.ensures in
    let so_far : c.push_around.new.out.items ≡ ((out ++ start) ++ verdict) ++ around =
    c.in_ok-push_around.ensures ∙ ap (λ (text : List ℕ). text ++ around) before in
    let whole : c.push_around.new.out.items ++ section c.deref-3.result.now ≡ out ++ (start ++ (verdict ++ (around ++ table))) =
    ap (λ (text : List ℕ). c.push_around.new.out.items ++ text) same_table
    ∙ ap (λ (text : List ℕ). text ++ table) so_far ∙ append_assoc ((out ++ start) ++ verdict) around table
    ∙ append_assoc (out ++ start) verdict (around ++ table) ∙ append_assoc out start (verdict ++ (around ++ table)) in
    subst (λ (text : List ℕ). OnOk c.push_table.result (c.push_table.new.out.items ≡ text)) whole c.push_table.ensures
