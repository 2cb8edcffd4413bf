use Rattle.std.specs.Prelude.{[], ◌∷◌}
use Rattle.std.proofs.lemmas.List.Elements.{All-nil, All-cons, All-head}
use Rattle.convoy_regions.specs.Regions.{IsRegion, root_region}
use Rattle.convoy_regions.specs.Stages.{IsPrecedence}
use Rattle.convoy_checker.proofs.Covering.{Grounds, IsCovered, trees_cover}
use Rattle.convoy_checker.proofs.tree_laws.trees_cover.Goals as goal

pub returns : goal.returns
returns c plan latency nodes lawful tree schedule assigned =
    let grounds : Grounds = record {
      halves = c.halves_are_regions.ensures;
      part = c.halves_partition.ensures;
      orders = c.orders_partition.ensures;
      bound = c.leaves_cover.ensures.bound;
      point = c.leaves_cover.ensures.point;
      stamp = c.leaves_cover.ensures.stamp;
      lead = c.leaves_cover.ensures.lead;
    } in
    let root = root_region plan in
    let is_root : IsRegion plan root = record { inside = c.root_is_box.ensures plan lawful; within = All-nil (IsPrecedence plan) } in
    let are_regions = All-cons (IsRegion plan) root [] is_root (All-nil (IsRegion plan)) in
    let covered = All-head (IsCovered plan latency) root [] (trees_cover grounds plan lawful latency (root ∷ []) nodes are_regions tree) in
    let member = (c.root_holds_all.ensures plan schedule).0 assigned in
    covered.at schedule member.0 member.1
