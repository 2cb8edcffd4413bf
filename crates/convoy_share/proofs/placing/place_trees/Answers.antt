use Rattle.std.proofs.Common.{arith, ap, sym, subst, ◌∙◌, List, reverse}
use Rattle.std.proofs.lemmas.List.{reverse-reverse, nil_from_length}
use Rattle.convoy_share.specs.Filling.{IsPlacing}
use Rattle.convoy_share.specs.Subtrees.{Subtree}
use Rattle.convoy_share.proofs.Placings.{IsPlacing-put, IsPlacing-ended}
use Rattle.convoy_share.proofs.placing.place_trees.Goals as goal

pub loop-tree-init : goal.loop-tree-init
loop-tree-init c bounds scenario seen put all taken placing =
    let turned = ap (λ (ts : List Subtree). reverse ts) c.reverse.ensures.items ∙ reverse-reverse c.args.trees.items in
    (taken, subst (λ (ts : List Subtree). IsPlacing bounds scenario seen put all c.args.slots.items taken ts) (sym turned) placing)

pub index_mut-requires : goal.index_mut-requires
index_mut-requires c =
    let r = c.requires in
    let here = c.loop-tree in
    let parts = c.into_parts-number.ensures in
    let held = here.invariant r.0 r.1 r.2 r.3 r.4 r.5 r.6 in
    omega (arith, here.slots.ok, (IsPlacing-put r.0 r.1 r.2 r.3 r.4 here.slots.items held.0 here.trees.items c.pop.new.self.items c.in-Some.tree c.into_parts-number.result.0 c.of.result parts.number (c.of.ensures ∙ parts.pieces) c.in-Some.ensures.items held.1).0)

pub loop-tree-preserved : goal.loop-tree-preserved
loop-tree-preserved c bounds scenario seen put all taken placing =
    let here = c.loop-tree in
    let parts = c.into_parts-number.ensures in
    let held = here.invariant bounds scenario seen put all taken placing in
    (IsPlacing-put bounds scenario seen put all here.slots.items held.0 here.trees.items c.pop.new.self.items c.in-Some.tree c.into_parts-number.result.0 c.of.result parts.number (c.of.ensures ∙ parts.pieces) c.in-Some.ensures.items held.1).1

pub returns : goal.returns
returns c bounds scenario seen put all taken placing =
    let here = c.loop-tree in
    let held = here.invariant bounds scenario seen put all taken placing in
    let none = nil_from_length here.trees.items (omega (arith, c.in_default.ensures.cases.0, here.trees.ok)) in
    IsPlacing-ended bounds scenario seen put all here.slots.items held.0 (subst (λ (ts : List Subtree). IsPlacing bounds scenario seen put all here.slots.items held.0 (reverse ts)) none held.1)
