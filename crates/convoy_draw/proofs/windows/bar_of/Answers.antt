use Rattle.std.proofs.Common.{◌≡◌, ◌∙◌, IsTrue, string_bytes}
use Rattle.std.proofs.lemmas.Result.{IfOk-weaker}
use Rattle.convoy_scenario.specs.Scenario.{may_wait, message_at}
use Rattle.convoy_timeline.specs.Explanations.{window_text}
use Rattle.convoy_draw.specs.Drawings.{Tells}
use Rattle.convoy_draw.specs.Layers.{element_text}
use Rattle.convoy_draw.proofs.Telling.{element_tells}
use Rattle.convoy_draw.proofs.windows.bar_of.Goals as goal

pub returns : goal.returns
returns c =
    let told = window_text c.args.scene.now.scenario.now c.args.message in
    let drawn = c.deref-2.result.now in
    let is : c.deref.result.now ≡ told = c.deref.ensures ∙ c.in_ok-told.ensures in
    IfOk-weaker c.element.result (λ text. string_bytes text ≡ element_text c.deref.result.now drawn)
    (λ text. IsTrue (may_wait (message_at c.args.scene.now.scenario.now c.args.message)) → Tells told (string_bytes text))
    (λ text whole waits. rw (whole, is) (element_tells told drawn))
    c.element.ensures
