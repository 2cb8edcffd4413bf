use Rattle.std.proofs.Common.{◌≡◌, ℕ, ◌+◌, ◌≤◌, fold, take, All}
use Rattle.convoy_sure.specs.Windows.{entry_at, lowered}
use Rattle.convoy_sure.proofs.later_cuts.lower_row.Given as goal

abbrev pub invariant-loop-to : goal.invariant-loop-to
invariant-loop-to l =
    record {
      so_far : l.entries ≡ fold (λ lowering to. lowered lowering l.message to (l.tick + entry_at l.delays l.message to)) l.initial.entries (take l.to-index l.to-items);
      limit : (last : ℕ) → All (λ entry. entry ≤ last) l.initial.entries → All (λ entry. entry ≤ last) l.entries;
    }
