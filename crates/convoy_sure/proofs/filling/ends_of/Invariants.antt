use Rattle.std.proofs.Common.{◌≡◌, ◌≤◌, map, All}
use Rattle.std.specs.List.{range_with_len}
use Rattle.convoy_sure.specs.Filling.{least_entry, greatest_entry, last_entry}
use Rattle.convoy_sure.proofs.filling.ends_of.Given as goal

abbrev pub invariant-loop-place : goal.invariant-loop-place
invariant-loop-place l = record {
  least : l.least.items ≡ map (least_entry l.instance l.delay_box l.kind) (range_with_len 0 l.place);
  greatest : l.greatest.items ≡ map (greatest_entry l.instance l.delay_box l.kind) (range_with_len 0 l.place);
  least_fit : All (λ entry. entry ≤ last_entry l.kind) l.least.items;
  greatest_fit : All (λ entry. entry ≤ last_entry l.kind) l.greatest.items;
}
