use Rattle.std.proofs.Common.{◌≡◌, ◌++◌, take}
use Rattle.convoy_budget.specs.Budgets.{keys_of}
use Rattle.convoy_budget.proofs.rows.push_keys.Given as goal

-- the keys so far are those before and those of the ways so far
abbrev pub invariant-loop-way : goal.invariant-loop-way
invariant-loop-way l = l.keys.items ≡ l.initial.keys.items ++ keys_of (take l.way-index l.ways) l.target
