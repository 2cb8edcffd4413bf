use Rattle.std.proofs.Common.{◌≡◌, [], length, All}
use Rattle.convoy_starts.proofs.starts.write_nothing.Given as goal

abbrev pub invariant-loop-place : goal.invariant-loop-place
invariant-loop-place l =
    record {
      long : length l.memos.items ≡ l._place;
      nothing : All (λ t. (t.by ≡ 0) × (t.stamps ≡ [])) l.memos.items;
    }
