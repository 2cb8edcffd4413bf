use Rattle.std.proofs.Common.{◌-◌}
use Rattle.convoy_budget.specs.Brackets.{IsBracket}
use Rattle.convoy_budget.proofs.searching.room_between.Given as goal

abbrev pub invariant-loop-bracket : goal.invariant-loop-bracket
invariant-loop-bracket g l = IsBracket (goal.F-post g l.judge) l.bracket

abbrev pub decreases-loop-bracket : goal.decreases-loop-bracket
decreases-loop-bracket g l = l.bracket.wide - l.bracket.kept
