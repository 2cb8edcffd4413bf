use Rattle.std.proofs.Common.{◌≡◌, ◌++◌, drop, map, option_map}
use Rattle.toml.specs.Data.{as_table}
use Rattle.toml.specs.View.{items_view, table_view}
use Rattle.convoy_toml.specs.Shape.{all_of}
use Rattle.convoy_toml.proofs.keys.tables_of.Given as goal

abbrev pub invariant-loop-item : goal.invariant-loop-item
invariant-loop-item l =
    all_of as_table (items_view l.items.items)
    ≡ option_map (λ tables. map (λ t. table_view t.now) l.tables.items ++ tables) (all_of as_table (items_view (drop l.item-index l.items.items)))
