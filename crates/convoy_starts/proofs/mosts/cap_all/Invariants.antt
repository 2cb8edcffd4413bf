use Rattle.std.proofs.Common.{◌≡◌, ℕ, ◌<◌, ◌≤◌, get_or}
use Rattle.convoy_starts.specs.Starts.{capped}
use Rattle.convoy_starts.proofs.mosts.cap_all.Given as goal

abbrev pub invariant-loop-k : goal.invariant-loop-k
invariant-loop-k l =
    record {
      done : (j : ℕ) → j < l.k → get_or l.mosts j 0 ≡ capped l.sure l.lead (get_or l.initial.mosts j 0);
      left : (j : ℕ) → l.k ≤ j → get_or l.mosts j 0 ≡ get_or l.initial.mosts j 0;
    }
