use Rattle.std.proofs.Common.{◌≤◌, ◌++◌, [], ◌∷◌, ap₂, arith, subst, sym, ◌∙◌}
use Rattle.std.proofs.lemmas.List.{map_more}
use Rattle.std.proofs.lemmas.List.Elements.{All-push}
use Rattle.convoy_packets.specs.OrderLists.{AreSmall}
use Rattle.convoy_packets.specs.declared.order.TheConstants.{GREATEST_RANK}
use Rattle.convoy_regions.specs.Stages.{no_stage}
use Rattle.convoy_regions.specs.Regions.{rank_by}
use Rattle.convoy_regions.proofs.run.ranks_by.Goals as goal

pub loop-stage-preserved : goal.loop-stage-preserved
loop-stage-preserved c =
    let l = c.loop-stage in
    let more = map_more (rank_by c.of-known.result) c.deref-stage-items.result.now l.stage-index no_stage c.loop-stage-test.true in
    let pushed = c.in_ok-push.ensures.items in
    record {
      so_far = pushed ∙ ap₂ (λ ranks rank. ranks ++ rank ∷ []) l.invariant.so_far c.rank_by.ensures.value ∙ sym more;
      small = subst AreSmall (sym pushed) (All-push (λ rank. rank ≤ GREATEST_RANK) l.ranks.items c.rank_by.result l.invariant.small (omega (arith, c.rank_by.ensures.small)));
    }
