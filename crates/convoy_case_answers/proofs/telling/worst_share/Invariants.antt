use Rattle.std.proofs.Common.{◌≡◌, None, drop}
use Rattle.convoy_case_answers.specs.Told.{worst_share}
use Rattle.convoy_case_answers.proofs.telling.worst_share.Given as goal

abbrev pub invariant-loop-found : goal.invariant-loop-found
invariant-loop-found l = worst_share None l.founds ≡ worst_share l.worst (drop l.found-index l.founds)
