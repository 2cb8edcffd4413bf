use Rattle.std.proofs.Common.{◌∙◌}
use Rattle.convoy_regions.proofs.Walks.{found_or_none}
use Rattle.convoy_regions.proofs.ties.has_open_tie.Goals as goal

pub returns : goal.returns
returns c =
    c.is_some.ensures
    ∙ found_or_none c.args.instance.now (record { ranges = c.args.tracked.now.delay_box; before = c.args.before.now }) c.in_ok-tie.tie c.in_ok-tie.ensures.some c.in_ok-tie.ensures.none
