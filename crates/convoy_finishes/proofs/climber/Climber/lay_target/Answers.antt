use Rattle.convoy_seek.proofs.Schedules.{same_length}
use Rattle.convoy_finishes.proofs.climber.Climber.lay_target.Goals as goal

pub copy_from-requires : goal.copy_from-requires
copy_from-requires c = same_length c.args.instance.now c.args.self.now.tried c.args.self.now.best c.requires.tried c.requires.best
