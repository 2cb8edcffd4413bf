use Rattle.std.proofs.Common.{rules}
use Rattle.convoy_outage_runs.proofs.Drafted.{drafted}
use Rattle.convoy_outage_runs.proofs.compressing.draft_compressed.Goals as goal

pub returns-clause-value : goal.returns-clause-value
returns-clause-value c =
    drafted c.args.factor c.args.span c.args.scenario.now c.compressed_delay.ensures.lawful.target c.saved_ticks-saved.result c.compressed_delay.result _
    c.saved_ticks-saved.ensures c.compressed_delay.ensures.value (search rules)
