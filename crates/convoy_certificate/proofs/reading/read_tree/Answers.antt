use Rattle.std.proofs.Common.{◌∙◌, sym}
use Rattle.convoy_certificate.proofs.Parts.{nodes_are}
use Rattle.convoy_certificate.proofs.reading.read_tree.Goals as goal

pub returns-clause-lawful : goal.returns-clause-lawful
returns-clause-lawful c =
    nodes_are c.args.scenario.now c.args.version c.version_for-due.result c.is_timed.result c.target_waits-waits.result c.time-time.result c.link_count.result c.deref.result.now c.in_ok-nodes.nodes.items
    (sym c.is_same_version.ensures ∙ c.if-not-is_same_version.false) c.version_for-due.ensures c.is_timed.ensures.value c.time-time.ensures.value c.in_ok-nodes.ensures.lawful
