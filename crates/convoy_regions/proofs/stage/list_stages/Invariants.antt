use Rattle.std.proofs.Common.{◌≡◌}
use Rattle.std.specs.List.{flat_map, range_with_len}
use Rattle.convoy_regions.specs.Stages.{stages_in}
use Rattle.convoy_regions.proofs.stage.list_stages.Given as goal

abbrev pub invariant-loop-place : goal.invariant-loop-place
invariant-loop-place l = l.stages.items ≡ flat_map (stages_in l.scenario) (range_with_len 0 l.place)
