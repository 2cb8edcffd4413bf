use Rattle.std.proofs.Common.{◌≡◌, ℕ, ◌≤◌, fold, take, All}
use Rattle.convoy_sure.specs.Windows.{arrivals_before}
use Rattle.convoy_sure.proofs.windows.Windows.lower_all_arrivals.Given as goal

abbrev pub invariant-loop-from : goal.invariant-loop-from
invariant-loop-from l =
    record {
      so_far : l.arrivals ≡ fold (arrivals_before l.scenario l.self l.message l.group l.tick) l.initial.arrivals (take l.from-index l.from-items);
      limit : (last : ℕ) → All (λ entry. entry ≤ last) l.initial.arrivals → All (λ entry. entry ≤ last) l.arrivals;
    }
