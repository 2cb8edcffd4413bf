use Rattle.std.specs.List.{All}
use Rattle.convoy_machine.specs.Replays.{IsEventOf}
use Rattle.convoy_library_tests.proofs.machine.events_of.Given as goal

abbrev pub invariant-loop-chosen : goal.invariant-loop-chosen
invariant-loop-chosen l = All (IsEventOf l.found.scenario) l.events.items
