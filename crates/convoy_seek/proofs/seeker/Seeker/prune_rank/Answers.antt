use Rattle.convoy_seek.proofs.Schedules.{record_as_long}
use Rattle.convoy_seek.proofs.seeker.Seeker.prune_rank.Goals as goal

pub copy_from-requires : goal.copy_from-requires
copy_from-requires c =
    record_as_long c.args.instance.now c.args.self.now c.schedule.result.now c.requires.seeking c.schedule.ensures.attained c.schedule.ensures.value
