use Rattle.convoy_scenario_lines.proofs.KeptLines.{kept_scenario}
use Rattle.convoy_scenario_lines.proofs.scenario_lines.read_scenario.Goals as goal

pub returns : goal.returns
returns c = rw (kept_scenario c.args.version c.args.reader.now) at c.read_kept.ensures
