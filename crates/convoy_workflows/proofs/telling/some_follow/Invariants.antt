use Rattle.std.proofs.Common.{◌≡◌, drop}
use Rattle.toml.specs.View.{items_view}
use Rattle.convoy_workflows.specs.Reading.{some_follow}
use Rattle.convoy_workflows.proofs.telling.some_follow.Given as goal

-- none so far does
abbrev pub invariant-loop-item : goal.invariant-loop-item
invariant-loop-item l = some_follow (items_view l.items.items) ≡ some_follow (items_view (drop l.item-index l.items.items))
