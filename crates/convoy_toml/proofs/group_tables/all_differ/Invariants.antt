use Rattle.std.proofs.Common.{◌≡◌, length}
use Rattle.convoy_draft.specs.Checks.{all_differ}
use Rattle.convoy_toml.proofs.group_tables.all_differ.Given as goal

abbrev pub invariant-loop-name : goal.invariant-loop-name
invariant-loop-name l = all_differ l.rest ≡ all_differ l.names

abbrev pub decreases-loop-name : goal.decreases-loop-name
decreases-loop-name l = length l.rest
