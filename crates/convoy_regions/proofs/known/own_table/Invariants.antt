use Rattle.std.proofs.Common.{◌≡◌, ℕ, ◌+◌, ◌*◌, ◌%◌, ◌<◌, length, true}
use Rattle.convoy_regions.specs.Known.{entry}
use Rattle.convoy_regions.proofs.known.own_table.Given as goal

abbrev pub invariant-loop-message : goal.invariant-loop-message
invariant-loop-message l = record {
  long : length l.table.rows ≡ 32;
  set : (m : ℕ) → m < l.message → entry l.table (2 * m) (2 * m + 1) ≡ true;
  only : (r c : ℕ) → c < 32 → entry l.table r c ≡ true → (c ≡ r + 1) × (r % 2 ≡ 0);
}
