use Rattle.std.proofs.Common.{◌≡◌, refl, subst, sym}
use Rattle.convoy_outage_runs.specs.OutageRuns.{IsUpperOfRuns}
use Rattle.convoy_outage_answers.specs.Latencies.{outage_ceiling_of}
use Rattle.convoy_outage_answers.proofs.upper.ceiling_of.Goals as goal

pub returns-clause-safe : goal.returns-clause-safe
returns-clause-safe c =
    let is : c.outage_ceiling.result ≡ outage_ceiling_of c.args.span c.args.instance.now =
    rw (c.outage_ceiling.ensures.value, c.target_message-message.ensures.value, c.target_group-group.ensures.value, c.scenario-scenario.ensures.value) refl in
    subst (IsUpperOfRuns c.args.span c.args.instance.now) (sym is)
    (c.runs_are_within_outage_ceiling.ensures c.args.span c.args.instance.now c.scenario-scenario.ensures.lawful)
