use Rattle.std.proofs.Common.{◌≡◌, ◌≤◌, All, length, vec_len}
use Rattle.convoy_certificate.specs.declared.certificate.TheConstants.{MOST_LEADS}
use Rattle.convoy_certificate.specs.Text.{says_time}
use Rattle.convoy_certificate.specs.Certificate.{IsNodeWhere}
use Rattle.convoy_certificate.specs.Reading.{nodes_at}
use Rattle.convoy_certificate.proofs.Nodes.{with_front}
use Rattle.convoy_certificate.proofs.reading.read_nodes.Given as goal

abbrev pub invariant-loop-nodes : goal.invariant-loop-nodes
invariant-loop-nodes l = record {
  so_far : with_front l.nodes.items (nodes_at l.version l.time (vec_len l.nodes) l.leads l.reader) ≡ nodes_at l.version l.time 0 0 l.fn.reader;
  few : l.leads ≤ MOST_LEADS;
  lawful : All (IsNodeWhere (says_time l.version) l.time) l.nodes.items;
}

abbrev pub decreases-loop-nodes : goal.decreases-loop-nodes
decreases-loop-nodes l = length l.reader.ended
