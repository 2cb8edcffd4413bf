use Rattle.std.proofs.lemmas.List.{nil_from_length}
use Rattle.std.proofs.Common.{arith, List, reverse, subst, sym, ap, refl, ◌∙◌, ◌∷◌, [], ◌++◌, length, length-append}
use Rattle.convoy_share.specs.declared.piece.Piece.{Piece}
use Rattle.convoy_share.specs.declared.piece.Piece.TheVariants.{Done, Todo, Pushed}
use Rattle.convoy_branch.specs.Fronts.{left_in}
use Rattle.convoy_share.specs.Filling.{IsFilling}
use Rattle.convoy_share.specs.Pieces.{front}
use Rattle.convoy_share.proofs.Fillings.{IsFilling-popped, IsFilling-moved, left_done}
use Rattle.convoy_share.proofs.filling.Filling.next_left.Goals as goal

pub returns-in-Todo-clause-some : goal.returns-in-Todo-clause-some
returns-in-Todo-clause-some c bounds scenario seen tickets put filling =
    let here = c.loop-piece.self in
    IsFilling-popped bounds scenario seen tickets put here.done.items here.rest.items c.pop.new.self.items c.in-Some.piece (Todo c.in-Todo.branch c.in-Todo.tried) here.slots.items c.in-Some.ensures.items (sym c.into_piece.ensures ∙ c.in-Todo.is) (c.loop-piece.invariant.0 bounds scenario seen tickets put filling)

pub fill_place-requires : goal.fill_place-requires
fill_place-requires c =
    let here = c.loop-piece.self in
    let r = c.requires in
    (r.0, r.1, r.2, r.3, r.4, IsFilling-popped r.0 r.1 r.2 r.3 r.4 here.done.items here.rest.items c.pop.new.self.items c.in-Some.piece (Pushed c.in-Pushed.number) here.slots.items c.in-Some.ensures.items (sym c.into_piece.ensures ∙ c.in-Pushed.is) (c.loop-piece.invariant.0 r.0 r.1 r.2 r.3 r.4 r.5))

pub loop-piece-preserved-in-Continue-1 : goal.loop-piece-preserved-in-Continue-1
loop-piece-preserved-in-Continue-1 c =
    let here = c.loop-piece.self in
    let told = c.in_ok-fill_place-in-Pushed.ensures in (
      (λ bounds scenario seen tickets put filling. told.filling bounds scenario seen tickets put (IsFilling-popped bounds scenario seen tickets put here.done.items here.rest.items c.pop.new.self.items c.in-Some.piece (Pushed c.in-Pushed.number) here.slots.items c.in-Some.ensures.items (sym c.into_piece.ensures ∙ c.in-Pushed.is) (c.loop-piece.invariant.0 bounds scenario seen tickets put filling))),
      (λ put. ap (λ (ps : List Piece). left_in (front put ps)) told.done ∙ c.loop-piece.invariant.1 put),
      omega (arith, told.pieces, c.loop-piece.invariant.2, ap length c.in-Some.ensures.items, length-append c.pop.new.self.items (c.in-Some.piece ∷ [])),
    )

pub loop-piece-preserved : goal.loop-piece-preserved
loop-piece-preserved c =
    let here = c.loop-piece.self in
    let node = Done c.in-Done.node in
    let pushed = c.in_ok-push-in-Done.ensures.items ∙ ap (λ (p : Piece). here.done.items ++ p ∷ []) c.done.ensures in (
      (λ bounds scenario seen tickets put filling.
          let popped = IsFilling-popped bounds scenario seen tickets put here.done.items here.rest.items c.pop.new.self.items c.in-Some.piece node here.slots.items c.in-Some.ensures.items (sym c.into_piece.ensures ∙ c.in-Done.is) (c.loop-piece.invariant.0 bounds scenario seen tickets put filling) in
          subst (λ (ps : List Piece). IsFilling bounds scenario seen tickets put ps (reverse c.pop.new.self.items) here.slots.items) (sym pushed) (IsFilling-moved bounds scenario seen tickets put here.done.items (reverse c.pop.new.self.items) node here.slots.items refl popped)),
      (λ put. ap (λ (ps : List Piece). left_in (front put ps)) pushed ∙ left_done put here.done.items c.in-Done.node ∙ c.loop-piece.invariant.1 put),
      omega (arith, c.loop-piece.invariant.2, ap length c.in-Some.ensures.items, length-append c.pop.new.self.items (c.in-Some.piece ∷ [])),
    )

pub returns-clause-none : goal.returns-clause-none
returns-clause-none c bounds scenario seen tickets put filling =
    let here = c.loop-piece.self in
    subst (λ (ps : List Piece). IsFilling bounds scenario seen tickets put here.done.items (reverse ps) here.slots.items) (nil_from_length here.rest.items (omega (arith, c.in_default.ensures.cases.0, here.rest.ok))) (c.loop-piece.invariant.0 bounds scenario seen tickets put filling)
