use Rattle.std.proofs.Common.{◌≡◌, ◌∙◌, string_bytes}
use Rattle.std.proofs.lemmas.Result.{IfOk-weaker}
use Rattle.convoy_draw.specs.Drawings.{Tells}
use Rattle.convoy_draw.specs.Layers.{element_text}
use Rattle.convoy_draw.proofs.Telling.{element_tells}
use Rattle.convoy_curve.specs.Curves.{deadline_text}
use Rattle.convoy_curve.proofs.marks.line_at.Goals as goal

pub returns : goal.returns
returns c =
    let told = deadline_text c.args.curve.now.measure c.args.deadline in
    let drawn = c.deref-2.result.now in
    let is : c.deref.result.now ≡ told = c.deref.ensures ∙ c.in_ok-told.ensures in
    IfOk-weaker c.element.result (λ text. string_bytes text ≡ element_text c.deref.result.now drawn)
    (λ text. Tells told (string_bytes text)) (λ text whole. rw (whole, is) (element_tells told drawn)) c.element.ensures
