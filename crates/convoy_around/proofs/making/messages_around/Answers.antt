use Rattle.std.proofs.Common.{◌<◌, ◌≤◌, ◌++◌, [], ◌∷◌, List, length, map, ap, ap₂, sym, ◌∙◌, arith}
use Rattle.std.proofs.lemmas.List.{take_all}
use Rattle.convoy_draft.specs.Draft.{DraftMessage}
use Rattle.convoy_scenario.specs.Naming.{draft_message}
use Rattle.convoy_around.specs.Around.{around_at}
use Rattle.convoy_around.proofs.AroundLemmas.{many, message_is, one_more}
use Rattle.convoy_around.proofs.making.messages_around.Goals as goal

pub loop-message-preserved : goal.loop-message-preserved
loop-message-preserved c =
    let plan = c.args.scenario.now in
    let made = around_at c.args.span plan c.args.target 0 in
    let as_many = c.message_count-message-end.ensures.value in
    let there : c.loop-message.message < length plan.multicasts = omega (arith, as_many, c.loop-message-test.true) in
    let within : c.loop-message.message < length made.multicasts = omega (arith, there, many c.args.span plan c.args.target 0) in
    c.in_ok-push.ensures.items
    ∙ ap₂ (λ (ms : List DraftMessage) (m : DraftMessage). ms ++ m ∷ []) c.loop-message.invariant
    (c.in_ok-message_around.ensures ∙ ap (draft_message plan) (sym (message_is c.args.span plan c.args.target 0 c.loop-message.message there)))
    ∙ sym (one_more (draft_message plan) made.multicasts c.loop-message.message within)

pub returns : goal.returns
returns c =
    let plan = c.args.scenario.now in
    let made = around_at c.args.span plan c.args.target 0 in
    let as_many = c.message_count-message-end.ensures.value in
    let all : length made.multicasts ≤ c.loop-message.message = omega (arith, as_many, many c.args.span plan c.args.target 0, c.loop-message-test.false) in
    c.loop-message.invariant ∙ ap (map (draft_message plan)) (take_all c.loop-message.message made.multicasts all)
