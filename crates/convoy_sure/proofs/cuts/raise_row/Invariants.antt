use Rattle.std.proofs.Common.{◌≡◌, ℕ, ◌+◌, ◌≤◌, fold, take, All}
use Rattle.convoy_sure.specs.Windows.{entry_at, raised}
use Rattle.convoy_sure.proofs.cuts.raise_row.Given as goal

abbrev pub invariant-loop-to : goal.invariant-loop-to
invariant-loop-to l =
    record {
      so_far : l.entries ≡ fold (λ raising to. raised raising l.message to (l.tick + entry_at l.delays l.row to)) l.initial.entries (take l.to-index l.to-items);
      limit : (last : ℕ) → l.tick + 65535 ≤ last → All (λ entry. entry ≤ last) l.initial.entries → All (λ entry. entry ≤ last) l.entries;
    }
