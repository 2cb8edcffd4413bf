use Rattle.std.proofs.Common.{ℕ, ◌<◌, ◌≤◌, get_or}
use Rattle.convoy_stamps.specs.declared.pair.Pair.{Pair}
use Rattle.convoy_sure.specs.Windows.{tables_by}
use Rattle.convoy_starts.specs.Changes.{IsUnread}
use Rattle.convoy_starts.proofs.setting.Setting.hasten.Given as goal

abbrev pub invariant-loop-k : goal.invariant-loop-k
invariant-loop-k l =
    record {
      sooner : (j : ℕ) → get_or l.nexts j 0 ≤ get_or l.initial.nexts j 0;
      past : (j : ℕ) → l.tick < get_or l.initial.nexts j 0 → l.tick < get_or l.nexts j 0;
      unread : (j : ℕ) (pair : Pair) (later : ℕ) → j < l.k → later < get_or l.nexts j 0
          → IsUnread l.self.scenario.now (tables_by l.self.windows.now) l.group l.tick later (get_or l.pairs j pair);
    }
