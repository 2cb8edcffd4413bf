use Rattle.std.proofs.Common.{◌≡◌, length}
use Rattle.convoy_seek.proofs.Schedules.{same_length}
use Rattle.convoy_scenario.specs.Scenario.{Scenario}
use Rattle.std.specs.Prelude.{ℕ, List}
use Rattle.convoy_finishes.specs.Climbing.{IsClimbing}
use Rattle.convoy_finishes.specs.declared.climber.Climber.{Climber}
use Rattle.convoy_finishes.proofs.climber.Climber.climb.Goals as goal

as_long : (plan : Scenario) (ways : List ℕ) (climber : Climber) → IsClimbing plan ways climber → length climber.kept.delays ≡ length climber.tried.delays
as_long plan ways climber is = same_length plan climber.kept climber.tried is.kept is.tried

pub copy_from-requires : goal.copy_from-requires
copy_from-requires c = as_long c.args.instance.now c.args.ways.now c.weigh.new.self c.in_ok-score.ensures.goes_on.climbing

pub copy_from-requires-in-loop-stale : goal.copy_from-requires-in-loop-stale
copy_from-requires-in-loop-stale c =
    same_length c.args.instance.now c.loop-stale.self.tried c.loop-stale.self.kept c.loop-stale.invariant.climbing.tried c.loop-stale.invariant.climbing.kept

pub copy_from-requires-then-ge : goal.copy_from-requires-then-ge
copy_from-requires-then-ge c =
    as_long c.args.instance.now c.args.ways.now c.weigh-in-loop-stale.new.self c.in_ok-next.ensures.goes_on.climbing
