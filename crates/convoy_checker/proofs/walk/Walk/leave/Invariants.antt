use Rattle.std.proofs.Common.{◌≡◌, [], reverse, vec_len}
use Rattle.convoy_checker.specs.Walks.{below_first, opened, IsWalk}
use Rattle.convoy_checker.proofs.walk.Walk.leave.Given as goal

abbrev pub invariant-loop-change : goal.invariant-loop-change
invariant-loop-change l = record {
  opens : opened l.self-inside.current (reverse l.self-inside.changes.items) ≡ below_first (λ _. []) l.fn.self;
  lawful : IsWalk l.self-inside.stands l.self-inside.current l.self-inside.changes.items;
}

abbrev pub decreases-loop-change : goal.decreases-loop-change
decreases-loop-change l = vec_len l.self-inside.changes
