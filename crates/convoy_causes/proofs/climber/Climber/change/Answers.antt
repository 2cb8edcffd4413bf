use Rattle.convoy_seek.proofs.Schedules.{same_length}
use Rattle.convoy_causes.proofs.climber.Climber.change.Goals as goal

pub copy_from-requires : goal.copy_from-requires
copy_from-requires c = same_length c.args.question.now.instance.now c.args.self.now.tried c.args.self.now.kept c.requires.climbing.tried c.requires.climbing.kept
