use Rattle.std.proofs.Common.{◌≡◌, take}
use Rattle.convoy_toml.proofs.copying.copy_agreements.Given as goal

abbrev pub invariant-loop-agreement : goal.invariant-loop-agreement
invariant-loop-agreement l = l.copies.items ≡ take l.agreement-index l.agreements
