use Rattle.std.proofs.Common.{◌≡◌, length, vec_len}
use Rattle.convoy_scenario_lines.specs.LineReading.{links_at}
use Rattle.convoy_scenario_lines.proofs.Links.{with_front}
use Rattle.convoy_scenario_lines.proofs.scenario_lines.read_links.Given as goal

abbrev pub invariant-loop-alloc : goal.invariant-loop-alloc
invariant-loop-alloc l = with_front l.links.items (links_at l.version (vec_len l.links) l.reader) ≡ links_at l.version 0 l.fn.reader

abbrev pub decreases-loop-alloc : goal.decreases-loop-alloc
decreases-loop-alloc l = length l.reader.ended
