use Rattle.convoy_checker.proofs.tree_laws.lead_leaves_cover.Goals as goal

pub returns : goal.returns
returns c plan latency region schedule lawful is_region closed member order =
    c.leads_from_origin_hold.ensures plan region latency lawful is_region closed schedule (c.members_are_assignments.ensures plan region.ranges schedule is_region.inside member.0 order) member
