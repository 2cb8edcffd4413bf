use Rattle.std.proofs.Common.{◌≡◌, ◌++◌, drop}
use Rattle.convoy_toml.specs.Times.{times_of_agreements}
use Rattle.convoy_toml.proofs.times.push_agreements.Given as goal

abbrev pub invariant-loop-agreement : goal.invariant-loop-agreement
invariant-loop-agreement l =
    l.times.items ++ times_of_agreements (drop l.agreement-index l.agreements) ≡ l.initial.times.items ++ times_of_agreements l.agreements
