use Rattle.convoy_certificate.proofs.Pieces.{in_map}
use Rattle.convoy_lines.specs.Texts.{ended}
use Rattle.convoy_certificate.specs.Text.{node_line}
use Rattle.convoy_certificate.proofs.writing.push_nodes.Goals as goal

pub returns : goal.returns
returns c = in_map ended node_line c.args.nodes.now c.loop-node.node-index c.args.text.now.items c.loop-node.text.items c.loop-node-test.false c.loop-node.invariant
