use Rattle.std.proofs.Common.{◌≡◌, ◌≤◌, ◌/◌, ◌%◌, map, All}
use Rattle.std.specs.List.{range_with_len}
use Rattle.convoy_draft.specs.declared.limits.TheConstants.{MOST_GROUPS}
use Rattle.convoy_finishes.specs.WhiteBox.{white_box_way}
use Rattle.convoy_finishes.proofs.ways.Ways.white_box.Given as goal

abbrev pub invariant-loop-i : goal.invariant-loop-i
invariant-loop-i l = record {
  value : l.entries.items ≡ map (λ i. white_box_way l.scenario l.replicas (i / MOST_GROUPS) (i % MOST_GROUPS)) (range_with_len 0 l.i);
  fits : All (λ way. way ≤ 131070) l.entries.items;
}
