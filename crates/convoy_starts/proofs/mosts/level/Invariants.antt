use Rattle.std.proofs.Common.{◌≡◌, ℕ, ◌<◌, length, get_or}
use Rattle.convoy_starts.proofs.mosts.level.Given as goal

abbrev pub invariant-loop-place : goal.invariant-loop-place
invariant-loop-place l =
    record {
      long : length l.mosts.items ≡ l._place;
      each : (k : ℕ) → k < l._place → get_or l.mosts.items k 0 ≡ l.value;
    }
