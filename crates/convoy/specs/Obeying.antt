-- How a verdict is obeyed with the inputs that it names.
use Rattle.std.specs.Prelude.{ℕ, List, Option, Result}
use Rattle.std.specs.declared.io.Error.{Error}
use Rattle.convoy_arguments.specs.declared.verdict.Verdict.{Verdict}
use Rattle.convoy_arguments.specs.Verdicts.{file_of, scenario_file_of}
use Rattle.convoy_streams.specs.Devices.{Answer}
use Rattle.convoy_streams.specs.Sources.{InputReads, InputSource, IsSource}
use Rattle.convoy.specs.Verdicts.{Obeys, done_of_run}
use Rattle.convoy.specs.declared.obeying.Obeyed.{Obeyed}

-- The verdict was obeyed: its task read the input that the command line names for it, from its begin, and the scenario
-- for a certificate is that of the input which the command line names for that.
pub record HasObeyed {F K : Type 0} (opens : List ℕ → Result F Error → Type 0) (left_in : F → Option (List ℕ))
    (may_write : K → Answer → K → Type 0) (verdict : Verdict) (sink new_sink : K) (obeyed : Obeyed F) : Type 0 where
  pub source : InputSource F
  pub other : InputSource F
  pub is_source : IsSource opens (file_of verdict) source
  pub is_other : IsSource opens (scenario_file_of verdict) other
  pub obeys : Obeys (InputReads left_in) may_write verdict source obeyed.source other obeyed.other sink new_sink (done_of_run obeyed.result)
