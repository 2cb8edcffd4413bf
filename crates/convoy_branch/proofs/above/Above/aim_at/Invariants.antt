use Rattle.std.proofs.Common.{◌≡◌, All}
use Rattle.convoy_branch.specs.Aims.{HasRisen}
use Rattle.convoy_branch.proofs.above.Above.aim_at.Given as goal

abbrev pub invariant-loop : goal.invariant-loop
invariant-loop g l = record {
  risen : HasRisen l.fn.self l.self;
  work : All (λ left. left.scenario ≡ l.fn.self.origin.now) l.work.items;
}
