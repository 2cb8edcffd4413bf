use Rattle.std.proofs.Common.{sym, ◌∙◌, arith}
use Rattle.convoy_plan_ceilings.proofs.Noting.{shown_by}
use Rattle.convoy_plan_ceilings.proofs.learning.learn_way.Goals as goal

pub note-requires-clause-is : goal.note-requires-clause-is
note-requires-clause-is c =
    shown_by c.leasts_are_of_sites.ensures c.messages_are_of_plans.ensures c.args.plan.now c.args.placement.now c.args.scenario.now c.args.message c.args.group c.origin-origin.result
    c.site_of-from.result c.site_at-to.result c.sender.result c.range_between-least.result c.message_count.ensures.lawful c.requires.made
    (omega (arith, c.message_count.ensures.value, c.if-message-message_count.false)) (omega (arith, c.group_count.ensures.value, c.if-group-group_count.false)) c.origin-origin.ensures.value
    (sym c.is_group.ensures ∙ c.if-is_group.false) c.site_of-from.ensures c.site_at-to.ensures (omega (arith, c.most.ensures.value, c.if-most-eq0.false)) c.sender.ensures.value
    c.range_between-least.ensures.value
