use Rattle.std.proofs.Common.{ℕ, ◌/◌, ◌%◌}
use Rattle.convoy_draft.specs.declared.limits.TheConstants.{MOST_GROUPS}
use Rattle.convoy_sure.proofs.Loops.{pushed, pushed_within}
use Rattle.convoy_finishes.specs.WhiteBox.{white_box_way}
use Rattle.convoy_finishes.proofs.ways.Ways.white_box.Goals as goal

pub loop-i-preserved : goal.loop-i-preserved
loop-i-preserved c = record {
  value =
      pushed (λ (i : ℕ). white_box_way c.args.scenario.now c.args.replicas.now (i / MOST_GROUPS) (i % MOST_GROUPS)) _ _ c.loop-i.i c.white_box_way-way.result
      c.in_ok-push.ensures.items c.loop-i.invariant.value c.white_box_way-way.ensures.value;
  fits = pushed_within _ _ _ c.white_box_way-way.result c.in_ok-push.ensures.items c.loop-i.invariant.fits c.white_box_way-way.ensures.fits;
}
