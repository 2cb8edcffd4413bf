use Rattle.std.proofs.Common.{◌≡◌, take}
use Rattle.convoy_scenario.proofs.naming.draft_places.Given as goal

abbrev pub invariant-loop-place : goal.invariant-loop-place
invariant-loop-place l = l.names.items ≡ take l.place l.scenario.places
