use Rattle.std.proofs.Common.{◌≡◌, ℕ, ◌<◌, ◌≤◌, ◌==◌, ◌&&◌, ◌||◌, length, get_or}
use Rattle.convoy_regions.specs.Known.{cell, entry, no_row}
use Rattle.convoy_regions.proofs.known.with_precedence.Given as goal

abbrev pub invariant-loop-row : goal.invariant-loop-row
invariant-loop-row l = record {
  long : length l.table.rows ≡ 32;
  done : (r k : ℕ) → r < l.row → k < 32
      → entry l.table r k ≡ (entry l.fn.table r k || (((r == l.first) || entry l.fn.table r l.first) && cell l.after k));
  left : (r : ℕ) → l.row ≤ r → get_or l.table.rows r no_row ≡ get_or l.fn.table.rows r no_row;
}
