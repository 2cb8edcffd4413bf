use Rattle.std.proofs.Common.{◌≡◌, drop}
use Rattle.std.specs.List.{list_any}
use Rattle.convoy_starts.specs.Starts.{covers}
use Rattle.convoy_starts.proofs.start.is_covered.Given as goal

abbrev pub invariant-loop-old : goal.invariant-loop-old
invariant-loop-old l =
    list_any (λ old. covers old l.new) (drop l.old-index l.starts) ≡ list_any (λ old. covers old l.new) l.starts
