use Rattle.std.proofs.Common.{◌<◌}
use Rattle.convoy_causes.specs.Climbing.{IsClimbing}
use Rattle.convoy_causes.proofs.climber.Climber.try_out.Given as goal

abbrev pub invariant-loop : goal.invariant-loop
invariant-loop l = record {
  climbing : IsClimbing l.question.instance.now l.question.causes.now l.question.origin l.self;
  left : l.self.left < l.fn.self.left;
}
