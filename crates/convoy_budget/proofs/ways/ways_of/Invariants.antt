use Rattle.std.proofs.Common.{◌≡◌, filter, take}
use Rattle.convoy_budget.specs.Ways.{is_travelled}
use Rattle.convoy_budget.proofs.ways.ways_of.Given as goal

-- of the ways so far those on which packets travel
abbrev pub invariant-loop-way : goal.invariant-loop-way
invariant-loop-way l = l.ways.items ≡ filter (is_travelled l.instance) (take l.way-index l.way-items)
