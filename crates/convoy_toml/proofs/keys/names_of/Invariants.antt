use Rattle.std.proofs.Common.{◌≡◌, ◌++◌, drop, option_map}
use Rattle.toml.specs.Data.{as_str}
use Rattle.toml.specs.View.{items_view}
use Rattle.convoy_toml.specs.Shape.{all_of}
use Rattle.convoy_toml.proofs.keys.names_of.Given as goal

abbrev pub invariant-loop-item : goal.invariant-loop-item
invariant-loop-item l =
    all_of as_str (items_view l.items.items) ≡ option_map (λ texts. l.names.items ++ texts) (all_of as_str (items_view (drop l.item-index l.items.items)))
