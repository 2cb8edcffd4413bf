use Rattle.std.proofs.Common.{◌≡◌, ◌++◌, codes, drop, string_bytes}
use Rattle.convoy_scenario.specs.Scenario.{group_name_at, message_at}
use Rattle.convoy_tables.proofs.Pieces.{joined_from}
use Rattle.convoy_report.specs.Systems.{destinations_text}
use Rattle.convoy_report.proofs.system.destinations.Given as goal

-- the names so far and those that are left are all of them
abbrev pub invariant-loop-i : goal.invariant-loop-i
invariant-loop-i l =
    string_bytes l.text ++ joined_from (codes ", ") (λ i g. group_name_at l.scenario g) l.i (drop l.i (message_at l.scenario l.message).destinations)
    ≡ destinations_text l.scenario l.message
