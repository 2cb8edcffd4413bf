use Rattle.std.proofs.Common.{◌≡◌, ◌∙◌, ℕ, List, Option, false, refl, subst}
use Rattle.std.proofs.lemmas.Result.{err_from_is_err_and}
use Rattle.convoy_survey.specs.declared.finding.Surveyed.{Surveyed}
use Rattle.convoy_tables.specs.declared.format.Format.TheVariants.{Html}
use Rattle.convoy_what_if.specs.WhatIf.{WhatIfSays}
use Rattle.convoy_report.specs.Reports.{AreRunsOf, shown_targets}
use Rattle.convoy_report.proofs.Replies.{changes_refused, said}
use Rattle.convoy_report.proofs.answering.report_of.Goals as goal

pub returns-in_err-changes : goal.returns-in_err-changes
returns-in_err-changes g c =
    let returned = err_from_is_err_and c.from_residual-in_err-changes.result c.from_residual-in_err-changes.ensures.1 in
    rw (returned.1, returned.2) (changes_refused c.args.asked.now c.args.options.now c.args.text.now _ c.in_err-changes.ensures)

pub returns : goal.returns
returns g c =
    let scenario = c.in_ok-scenario.field-0.scenario in
    let deadlines : List (Option ℕ) = c.in_ok-scenario.field-0.deadlines.items in
    let rows : List Surveyed = c.in_ok-rows.rows.items in
    let same_deadlines : c.deref.result.now ≡ deadlines = c.deref.ensures.value in
    let same_rows : c.deref-2.result.now ≡ rows = c.deref-2.ensures.value in
    let targets : c.deref-3.result.now ≡ shown_targets scenario c.deref.result.now c.deref-2.result.now =
    c.deref-3.ensures.value ∙ c.in_ok-targets.ensures in
    let by_rows : c.deref-3.result.now ≡ shown_targets scenario c.deref.result.now rows =
    subst (λ (found : List Surveyed). c.deref-3.result.now ≡ shown_targets scenario c.deref.result.now found) same_rows targets in
    let shown : c.deref-3.result.now ≡ shown_targets scenario deadlines rows =
    subst (λ (times : List (Option ℕ)). c.deref-3.result.now ≡ shown_targets scenario times rows) same_deadlines by_rows in
    record {
      read = c.in_ok-scenario.ensures.read;
      lawful = c.message_count-count.ensures.lawful;
      deadlines = c.in_ok-scenario.ensures.deadlines;
      times = rw (c.of-times.ensures, c.of.ensures, c.unit.ensures, c.in_ok-scenario.ensures.unit) refl;
      span = c.span_of-span.ensures.value;
      surveyed = c.in_ok-rows.ensures;
      runs =
          subst (λ (targets : List (ℕ × ℕ)). AreRunsOf c.args.asked.now c.args.options.now c.args.text.now scenario targets c.in_ok-runs.runs.items)
          shown c.in_ok-runs.ensures;
      change_end = c.in_ok-changes.changes.done;
      changed =
          said (WhatIfSays Html false c.args.asked.now c.args.options.now) c.args.text.now
          c.in_ok-changes.changes.done c.in_ok-changes.changes.text.items c.in_ok-changes.ensures;
      digest = c.in_ok-digest.ensures;
    }
