use Rattle.std.proofs.Common.{◌≤◌, ◌<◌, ◌++◌, [], ◌∷◌, List, length, ap, ap₂, sym, ◌∙◌, arith}
use Rattle.std.proofs.lemmas.List.{take_all, take_more}
use Rattle.convoy_scenario.specs.Scenario.{Message, Scenario, no_message}
use Rattle.convoy_scenario.specs.Widened.{widened}
use Rattle.convoy_scenario.proofs.WidenedLemmas.{many}
use Rattle.convoy_scenario.proofs.scenario.Scenario.widened_multicasts.Goals as goal

pub loop-message-preserved : goal.loop-message-preserved
loop-message-preserved c =
    let plan = c.args.self.now in
    let as_many = ap (λ (s : Scenario). length s.multicasts) c.self.view_is in
    let within : c.loop-message.message < length (widened plan).multicasts = omega (arith, many plan, as_many, c.loop-message-test.true, c.len-message-end.ensures) in
    c.in_ok-push.ensures.items
    ∙ ap₂ (λ (ms : List Message) (m : Message). ms ++ m ∷ []) c.loop-message.invariant c.in_ok-widened_multicast.ensures
    ∙ sym (take_more (widened plan).multicasts c.loop-message.message no_message within)

pub returns : goal.returns
returns c =
    let plan = c.args.self.now in
    let as_many = ap (λ (s : Scenario). length s.multicasts) c.self.view_is in
    let all : length (widened plan).multicasts ≤ c.loop-message.message = omega (arith, many plan, as_many, c.loop-message-test.false, c.len-message-end.ensures) in
    c.loop-message.invariant ∙ take_all c.loop-message.message (widened plan).multicasts all
