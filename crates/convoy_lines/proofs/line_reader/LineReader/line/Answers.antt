use Rattle.std.proofs.Common.{◌∙◌, ap, sym}
use Rattle.std.specs.Option.{option_copied}
use Rattle.convoy_lines.specs.Words.{joined_by}
use Rattle.convoy_lines.specs.Places.{line_at, past_line}
use Rattle.convoy_lines.proofs.Splitting.{at_line, at_rest}
use Rattle.convoy_lines.proofs.line_reader.LineReader.line.Goals as goal

pub returns-in_err-self-inside-clause-line : goal.returns-in_err-self-inside-clause-line
returns-in_err-self-inside-clause-line c =
    let front = c.cut.result.0.now in
    let whole = c.cut.ensures.whole ∙ ap (λ o. joined_by 10 front (option_copied o)) c.in_err-self-inside.was in
    let at = sym c.self.view_is ∙ at_rest c.self.inside.rest.now front c.self.inside.number c.cut.ensures.front whole in
    ap option_copied c.from_residual.ensures ∙ sym (ap line_at at)

pub returns-in_err-self-inside-clause-place : goal.returns-in_err-self-inside-clause-place
returns-in_err-self-inside-clause-place c =
    let front = c.cut.result.0.now in
    let whole = c.cut.ensures.whole ∙ ap (λ o. joined_by 10 front (option_copied o)) c.in_err-self-inside.was in
    let at = sym c.self.view_is ∙ at_rest c.self.inside.rest.now front c.self.inside.number c.cut.ensures.front whole in
    at ∙ sym (ap past_line at)

pub returns-clause-line : goal.returns-clause-line
returns-clause-line c =
    let front = c.cut.result.0.now in
    let rest = c.in_ok-self-inside.field-0.now in
    let whole = c.cut.ensures.whole ∙ ap (λ o. joined_by 10 front (option_copied o)) c.in_ok-self-inside.was in
    let at = sym c.self.view_is ∙ at_line c.self.inside.rest.now front rest c.self.inside.number c.cut.ensures.front whole in
    sym (ap line_at at)

pub returns-clause-place : goal.returns-clause-place
returns-clause-place c =
    let front = c.cut.result.0.now in
    let rest = c.in_ok-self-inside.field-0.now in
    let whole = c.cut.ensures.whole ∙ ap (λ o. joined_by 10 front (option_copied o)) c.in_ok-self-inside.was in
    let at = sym c.self.view_is ∙ at_line c.self.inside.rest.now front rest c.self.inside.number c.cut.ensures.front whole in
    sym (ap past_line at)
