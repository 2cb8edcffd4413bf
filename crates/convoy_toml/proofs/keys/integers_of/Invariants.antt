use Rattle.std.proofs.Common.{◌≡◌, ◌++◌, drop, option_map}
use Rattle.toml.specs.Data.{as_integer}
use Rattle.toml.specs.View.{items_view}
use Rattle.convoy_toml.specs.Shape.{all_of}
use Rattle.convoy_toml.proofs.keys.integers_of.Given as goal

abbrev pub invariant-loop-item : goal.invariant-loop-item
invariant-loop-item l =
    all_of as_integer (items_view l.items.items) ≡ option_map (λ numbers. l.integers.items ++ numbers) (all_of as_integer (items_view (drop l.item-index l.items.items)))
