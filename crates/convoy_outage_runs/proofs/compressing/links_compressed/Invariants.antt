use Rattle.std.proofs.Common.{◌≡◌, map, take}
use Rattle.convoy_scenario.specs.Naming.{draft_link}
use Rattle.convoy_outage_runs.specs.Compressed.{compressed_link}
use Rattle.convoy_outage_runs.proofs.compressing.links_compressed.Given as goal

-- the links so far
abbrev pub invariant-loop-link : goal.invariant-loop-link
invariant-loop-link l = l.links.items ≡ map (draft_link l.scenario) (map (compressed_link l.factor l.span) (take l.link-index l.scenario.links))
