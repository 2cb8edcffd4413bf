use Rattle.convoy_checker.proofs.tree_laws.point_leaves_cover.Goals as goal

pub returns : goal.returns
returns c plan latency region schedule lawful is_region closed member order =
    rw (c.decided_has_one_latency.ensures plan region schedule lawful is_region closed.0 member order) closed.1
