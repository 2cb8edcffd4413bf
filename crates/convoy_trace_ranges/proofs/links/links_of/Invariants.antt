use Rattle.std.proofs.Common.{◌≡◌, drop, []}
use Rattle.convoy_trace_ranges.specs.Links.{links_from}
use Rattle.convoy_trace_ranges.proofs.links.links_of.Given as goal

-- the links so far, and the entries that are left
abbrev pub invariant-loop-one : goal.invariant-loop-one
invariant-loop-one l = links_from l.told l.links.items (drop l.one-index l.one-items) ≡ links_from l.told [] l.told
