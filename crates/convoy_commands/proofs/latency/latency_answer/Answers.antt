use Rattle.std.proofs.Common.{inl}
use Rattle.convoy_commands.specs.Searches.{LatencySays}
use Rattle.convoy_commands.proofs.CeilingWithins.{says_ended}
use Rattle.convoy_commands.proofs.latency.latency_answer.Goals as goal

pub returns : goal.returns
returns g c =
    let searched = c.in_ok-searched.ensures in
    inl
    (rw c.with.ensures
    (c.in_ok-told.ensures c.args.asked.now c.args.options.now c.args.text.now (rw c.scenario.ensures searched.0.read) (rw c.scenario.ensures searched.1)
    (says_ended (LatencySays c.args.asked.now c.args.options.now) c.args.text.now _ _ (c.in_ok-answer.ensures c.args.asked.now c.args.text.now searched))))
