use Rattle.std.proofs.Common.{◌≡◌, ◌++◌, take}
use Rattle.convoy_toml.specs.Agreements.{home_links}
use Rattle.convoy_toml.proofs.agreements.push_home_links.Given as goal

abbrev pub invariant-loop-agreement : goal.invariant-loop-agreement
invariant-loop-agreement l = l.links.items ≡ l.initial.links.items ++ home_links (take l.agreement-index l.agreements)
