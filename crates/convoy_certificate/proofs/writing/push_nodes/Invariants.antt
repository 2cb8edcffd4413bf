use Rattle.std.proofs.Common.{◌≡◌, ◌++◌, take}
use Rattle.std.specs.List.{flat_map}
use Rattle.convoy_lines.specs.Texts.{ended}
use Rattle.convoy_certificate.specs.Text.{node_line}
use Rattle.convoy_certificate.proofs.writing.push_nodes.Given as goal

abbrev pub invariant-loop-node : goal.invariant-loop-node
invariant-loop-node l = l.text.items ≡ l.fn.text.items ++ flat_map (λ node. ended (node_line node)) (take l.node-index l.nodes)
