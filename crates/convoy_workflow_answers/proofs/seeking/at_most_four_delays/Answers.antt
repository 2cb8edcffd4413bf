use Rattle.std.proofs.Common.{◌≡◌, ◌*◌, ◌∙◌, rules}
use Rattle.convoy_workflow_answers.proofs.Uppers.{at_most_four}
use Rattle.convoy_workflow_answers.proofs.seeking.at_most_four_delays.Goals as goal

pub returns-then-longest-most : goal.returns-then-longest-most
returns-then-longest-most c =
    let longest : 4 * c.from-longest.result ≡ 4 * c.args.instance.now.delay = search rules in
    at_most_four c.latency_within_four_delays.ensures c.args.instance.now c.args.causes.now c.args.origin (4 * c.from-longest.result) c.scenario-scenario.ensures.lawful
    (c.if-origin-target_message.true ∙ c.target_message.ensures.value) longest
