use Rattle.std.proofs.Common.{◌≡◌, ◌∙◌, refl, string_bytes}
use Rattle.std.proofs.lemmas.Result.{IfOk-weaker}
use Rattle.convoy_picture.specs.Words.{answer_text, reason_text}
use Rattle.convoy_draw.specs.Drawings.{head_of, head_text}
use Rattle.convoy_draw.proofs.drawing.head.Goals as goal

pub returns : goal.returns
returns c =
    let scenario = c.args.scenario.now in
    let measure = c.args.measure.now in
    let picture = c.args.picture.now in
    let x = c.args.origin in
    let answer : c.deref.result.now ≡ answer_text measure scenario picture x = c.deref.ensures ∙ c.in_ok-answer.ensures in
    let reason : c.deref-2.result.now ≡ reason_text scenario picture.why = c.deref-2.ensures ∙ (rw c.why.ensures at c.in_ok-reason.ensures) in
    IfOk-weaker c.head_of.result (λ text. string_bytes text ≡ head_of c.deref.result.now c.deref-2.result.now)
    (λ text. string_bytes text ≡ head_text measure scenario picture x)
    (λ text whole. rw (whole, answer, reason) refl)
    c.head_of.ensures
