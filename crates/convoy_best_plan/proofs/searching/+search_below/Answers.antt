use Rattle.std.proofs.Common.{None, get_or, length, rules, arith}
use Rattle.std.proofs.lemmas.Option.{slice_get_within}
use Rattle.convoy_best_plan.proofs.Found.{fallen_after, fallen_self}
use Rattle.convoy_best_plan.proofs.Placing.{as_long, one_less, one_less_of}
use Rattle.convoy_best_plan.proofs.Passing.{all_sites, next_site, none_yet}
use Rattle.convoy_best_plan.proofs.searching.+search_below.Goals as goal

pub returns-then-cut : goal.returns-then-cut
returns-then-cut g t c = record {
  standing = c.requires.standing;
  fallen = fallen_self c.args.standing.chosen;
  passed = c.is_cut-cut.ensures c.args.options.now c.args.wanted c.args.told.now c.requires.standing c.if-cut.true;
}

pub loop-site-init : goal.loop-site-init
loop-site-init g t c = record {
  standing = c.requires.standing;
  fallen = fallen_self c.args.standing.chosen;
  passed = none_yet c.args.wanted c.args.plan.now c.args.told.now c.args.standing.chosen c.args.sites.now c.in-Some.group;
}

pub loop-site-preserved : goal.loop-site-preserved
loop-site-preserved g t c = record {
  standing = c.in_ok-next.ensures.standing;
  fallen = fallen_after c.args.standing.chosen c.loop-site.standing.chosen c.in_ok-next.next.chosen c.loop-site.invariant.fallen c.in_ok-next.ensures.fallen;
  passed = next_site c.args.wanted c.args.plan.now c.args.told.now c.loop-site.standing.chosen c.in_ok-next.next.chosen c.args.sites.now c.in_ok-more.more.items c.deref.result.now c.sites_of-homes.result.now
      c.in-Some.group c.loop-site.site-index (slice_get_within c.args.sites.now c.in-Some.group None c.in-Some.ensures.some) c.sites_of-homes.ensures.value
      c.deref.ensures.value c.in_ok-more.ensures c.in_ok-next.ensures.fallen c.loop-site.invariant.passed c.in_ok-next.ensures.passed;
}

pub overflow_sub-left : goal.overflow_sub-left
overflow_sub-left g t c =
    let less = one_less c.args.sites.now c.in-Some.group 0 c.in-Some.ensures.some in
    let most = c.requires.left in
    omega (arith, less, most)

pub search_below-requires : goal.search_below-requires
search_below-requires g t c κs within =
    let less =
    one_less_of c.args.sites.now c.in_ok-more.more.items c.deref.result.now c.in-Some.group (get_or c.sites_of-homes.result.now c.loop-site.site-index 0) c.in-Some.ensures.some
    c.deref.ensures.value c.in_ok-more.ensures in
    let long =
    as_long c.args.sites.now c.in_ok-more.more.items c.deref.result.now c.in-Some.group (get_or c.sites_of-homes.result.now c.loop-site.site-index 0)
    (length c.args.plan.now.written.groups) c.deref.ensures.value c.in_ok-more.ensures c.requires.long in
    let most = c.requires.left in
    let falls = c.decreases in (
      omega (arith, less, most, falls),
      (
        search rules,
        (search rules, (search rules, (search rules, (c.requires.watched, (long, (omega (arith, less, most), c.loop-site.invariant.standing)))))),
      ),
    )

pub returns : goal.returns
returns g t c =
    let within = slice_get_within c.args.sites.now c.in-Some.group None c.in-Some.ensures.some in
    let as_many = c.sites_of-homes.ensures.lawful.housed in
    let long = c.requires.long in
    record {
      standing = c.loop-site.invariant.standing;
      fallen = c.loop-site.invariant.fallen;
      passed = all_sites c.args.wanted c.args.plan.now c.args.told.now c.loop-site.standing.chosen c.args.sites.now c.sites_of-homes.result.now c.in-Some.group c.loop-site.site-index
          (omega (arith, within, as_many, long)) c.sites_of-homes.ensures.value (omega arith) c.loop-site.invariant.passed;
    }
