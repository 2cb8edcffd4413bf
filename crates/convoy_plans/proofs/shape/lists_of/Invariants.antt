use Rattle.std.proofs.Common.{◌≡◌, ◌++◌, drop, option_map}
use Rattle.toml.specs.View.{items_view}
use Rattle.convoy_toml.specs.Shape.{all_of}
use Rattle.convoy_plans.specs.Shape.{as_texts}
use Rattle.convoy_plans.proofs.shape.lists_of.Given as goal

abbrev pub invariant-loop-item : goal.invariant-loop-item
invariant-loop-item l =
    all_of as_texts (items_view l.items.items) ≡ option_map (λ lists. l.lists.items ++ lists) (all_of as_texts (items_view (drop l.item-index l.items.items)))
