use Rattle.std.proofs.Common.{◌≡◌, ◌<◌, [], get_or, length, arith}
use Rattle.std.proofs.lemmas.Grind.{common_steps}
use Rattle.std.proofs.lemmas.List.{get_or_read}
use Rattle.convoy_scenario.proofs.NumberLemmas.{filter_range_more}
use Rattle.convoy_kinds.proofs.numbers.numbers_of.Goals as goal

pub loop-g-preserved : goal.loop-g-preserved
loop-g-preserved c =
    let within : c.loop-g.g < length c.args.groups.now = omega arith in
    let read : c.index-groups-g.result ≡ get_or c.args.groups.now c.loop-g.g [] = get_or_read c.args.groups.now c.loop-g.g _ within c.index-groups-g.is [] in
    grind (arith, common_steps, filter_range_more, read)
