use Rattle.convoy_arguments.specs.Verdicts.{file_of, scenario_file_of}
use Rattle.convoy_streams.specs.Sources.{IsSource}
use Rattle.convoy.proofs.obeying.open_and_obey.Goals as goal

pub returns : goal.returns
returns g c =
    let first : IsSource g.R.Opener.opens (file_of c.args.verdict.now) c.source_of-source.result = rw c.file.ensures at c.source_of-source.ensures in
    let second : IsSource g.R.Opener.opens (scenario_file_of c.args.verdict.now) c.source_of-other.result = rw c.scenario_file.ensures at c.source_of-other.ensures in
    record {
      source = c.source_of-source.result;
      other = c.source_of-other.result;
      is_source = first;
      is_other = second;
      obeys = c.obey-result.ensures;
    }
