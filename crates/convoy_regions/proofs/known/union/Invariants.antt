use Rattle.std.proofs.Common.{◌≡◌, ℕ, ◌<◌, ◌≤◌, ◌||◌, length}
use Rattle.convoy_regions.specs.Known.{cell}
use Rattle.convoy_regions.proofs.known.union.Given as goal

abbrev pub invariant-loop-k : goal.invariant-loop-k
invariant-loop-k l = record {
  long : length l.row.cells ≡ 32;
  done : (j : ℕ) → j < l.k → cell l.row j ≡ (cell l.fn.row j || cell l.more j);
  left : (j : ℕ) → l.k ≤ j → cell l.row j ≡ cell l.fn.row j;
}
