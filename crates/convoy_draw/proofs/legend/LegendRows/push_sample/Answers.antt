use Rattle.std.proofs.Common.{append_assoc}
use Rattle.convoy_draw.proofs.Showing.{more_sample}
use Rattle.convoy_draw.proofs.legend.LegendRows.push_sample.Goals as goal

pub returns : goal.returns
returns c =
    more_sample c.args.words.now c.args.sample.now c.saturating_add-left.result c.self.inside.down _ _
    (rw (c.in_ok-push_str-2.ensures.bytes, c.in_ok-push_str.ensures.bytes, c.deref.ensures, c.in_ok-line.ensures, ← c.self.view_is) (simp append_assoc))
    c.requires
