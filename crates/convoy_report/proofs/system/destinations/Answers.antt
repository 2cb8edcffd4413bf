use Rattle.std.proofs.Common.{List, ℕ, length, ap, codes, arith, string_bytes}
use Rattle.convoy_scenario.specs.Scenario.{group_name_at, message_at}
use Rattle.convoy_tables.proofs.Pieces.{none_left}
use Rattle.convoy_report.proofs.system.destinations.Goals as goal

pub returns : goal.returns
returns c =
    none_left (codes ", ") (λ i g. group_name_at c.args.scenario.now g) (string_bytes c.loop-i.text) _
    (message_at c.args.scenario.now c.args.message).destinations c.loop-i.i (omega (arith, ap (λ (groups : List ℕ). length groups) c.destinations-groups.ensures.value)) c.loop-i.invariant
