use Rattle.std.proofs.Common.{◌≡◌, ◌∙◌, List, ℕ}
use Rattle.std.proofs.lemmas.Result.{IfOk-weaker}
use Rattle.convoy_draw.specs.Layers.{IsToldIn, element_text, with_element}
use Rattle.convoy_draw.proofs.Telling.{element_tells, told_after, told_before}
use Rattle.convoy_draw.proofs.layers.Layers.push_telling.Goals as goal

pub returns-clause-told : goal.returns-clause-told
returns-clause-told c =
    let told = c.args.told.now in
    let drawn = c.args.drawn.now in
    let element : c.deref.result.now ≡ element_text told drawn = c.deref.ensures ∙ c.in_ok-element.ensures in
    IfOk-weaker c.push.result (λ done. c.push.new.self ≡ with_element c.args.self.now c.args.role c.deref.result.now)
    (λ done. IsToldIn c.push.new.self told)
    (λ done is. rw (is, element) (told_after c.args.self.now c.args.role (element_text told drawn) told (element_tells told drawn)))
    c.push.ensures

pub returns-clause-still : goal.returns-clause-still
returns-clause-still c =
    IfOk-weaker c.push.result (λ done. c.push.new.self ≡ with_element c.args.self.now c.args.role c.deref.result.now)
    (λ done. (piece : List ℕ) → IsToldIn c.args.self.now piece → IsToldIn c.push.new.self piece)
    (λ done is piece told. rw is (told_before c.args.self.now c.args.role c.deref.result.now piece told))
    c.push.ensures
