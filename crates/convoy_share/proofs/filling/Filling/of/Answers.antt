use Rattle.std.proofs.Common.{ap, refl, ◌∙◌, List, [], ◌∷◌, ◌++◌, reverse}
use Rattle.convoy_share.specs.declared.piece.Piece.{Piece}
use Rattle.convoy_share.specs.declared.piece.Piece.TheVariants.{Pushed}
use Rattle.convoy_share.proofs.Fillings.{IsFilling-by}
use Rattle.convoy_share.proofs.Placings.{IsPlacing-opened, IsFilling-opened}
use Rattle.convoy_share.proofs.filling.Filling.of.Goals as goal

pub place_trees-slots-requires : goal.place_trees-slots-requires
place_trees-slots-requires c =
    let r = c.requires in
    (r.0, r.1, r.2, r.4, c.args.trees.items, r.5, IsPlacing-opened r.0 r.1 r.2 r.3 c.args.count r.4 r.5 c.args.trees.items c.in_ok-empty_slots.field-0.items c.in_ok-empty_slots.ensures r.6)

pub returns-clause-filling : goal.returns-clause-filling
returns-clause-filling c bounds scenario seen tickets put taken can =
    let all = c.args.trees.items in
    let slots = c.place_trees-slots.result.items in
    let start = IsPlacing-opened bounds scenario seen tickets c.args.count put taken all c.in_ok-empty_slots.field-0.items c.in_ok-empty_slots.ensures can in
    let placed = c.place_trees-slots.ensures bounds scenario seen put all taken start in
    let rest = ap (λ (ps : List Piece). reverse ps) (c.in_ok-push.ensures.items ∙ ap (λ (p : Piece). c.new-rest.result.items ++ p ∷ []) c.pushed.ensures ∙ ap (λ (ps : List Piece). ps ++ Pushed 0 ∷ []) c.new-rest.ensures.items) in
    IsFilling-by bounds scenario seen tickets put [] c.new.result.items (Pushed 0 ∷ []) (reverse c.push.new.self.items) slots slots c.new.ensures.items rest refl (IsFilling-opened bounds scenario seen tickets c.args.count put taken all slots can placed)
