use Rattle.std.proofs.Common.{ℕ}
use Rattle.convoy_sure.specs.Filling.{least_entry, greatest_entry, last_entry}
use Rattle.convoy_sure.proofs.Loops.{pushed, pushed_within}
use Rattle.convoy_sure.proofs.filling.ends_of.Goals as goal

pub loop-place-preserved : goal.loop-place-preserved
loop-place-preserved c =
    let scenario = c.args.instance.now in
    let ranges = c.args.delay_box.now in
    let kind = c.args.kind in
    let place : ℕ = c.loop-place.place in
    let was = c.loop-place.invariant in
    let found = c.ends_at-low.ensures in
    record {
      least = pushed (least_entry scenario ranges kind) _ _ place _ c.in_ok-push.ensures.items was.least found.least;
      greatest = pushed (greatest_entry scenario ranges kind) _ _ place _ c.in_ok-push-2.ensures.items was.greatest found.greatest;
      least_fit = pushed_within (last_entry kind) _ _ _ c.in_ok-push.ensures.items was.least_fit found.fits.0;
      greatest_fit = pushed_within (last_entry kind) _ _ _ c.in_ok-push-2.ensures.items was.greatest_fit found.fits.1;
    }
