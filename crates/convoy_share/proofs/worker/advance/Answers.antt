use Rattle.std.proofs.Common.{sym, ap, subst, ◌∙◌, List, reverse, [], ◌∷◌, false, inr}
use Rattle.std.proofs.lemmas.List.Elements.{All-head, All-tail}
use Rattle.convoy_scenario.specs.Scenario.{Scenario}
use Rattle.convoy_branch.specs.declared.step.Turn.{Turn}
use Rattle.convoy_branch.specs.declared.step.Turn.TheVariants.{Closed, Halves}
use Rattle.convoy_share.specs.declared.means.TakenUp.{TakenUp}
use Rattle.convoy_share.specs.declared.means.TakenUp.TheVariants.{Turned}
use Rattle.convoy_share.specs.declared.piece.Piece.{Piece}
use Rattle.convoy_share.specs.declared.piece.Piece.TheVariants.{Done, Todo}
use Rattle.convoy_share.specs.Pieces.{IsPiece, left_regions}
use Rattle.convoy_share.specs.Means.{IsTakenUp}
use Rattle.convoy_share.proofs.Grown.{IsGrown-turned, IsGrown-left, left_same}
use Rattle.convoy_share.proofs.Placed.{IsGrown-placed}
use Rattle.convoy_share.proofs.worker.advance.Goals as goal

pub place-first-requires : goal.place-first-requires
place-first-requires g c =
    let h = c.in-Turned-Halves in
    let P = IsPiece c.args.shared.now.instance.now c.take_up.new.means.hand.seen [] in
    let Taken : TakenUp → Type 0 = λ t. IsTakenUp c.args.shared.now.bounds c.args.shared.now.instance.now c.args.shared.now.limit.may_stop c.args.shared.now.ledger.now.most c.args.branch c.args.means.now c.take_up.new.means t in
    let taken = subst Taken (h.is ∙ ap (λ (t : Turn). Turned t) h.field-0-is) c.in_ok-node.ensures in
    let rest = All-tail P (Done h.split) (Todo h.first false ∷ Todo h.second h.tried ∷ []) taken.ticket.3.each in
    let H = g.H.Halves in
    subst (λ (s : Scenario). H.takes (H.fixed c.args.halves.now) s) (sym (All-head P (Todo h.first false) (Todo h.second h.tried ∷ []) rest).0) c.requires.halves

pub returns-in_ok-close-in-Turned-Closed-clause-grown : goal.returns-in_ok-close-in-Turned-Closed-clause-grown
returns-in_ok-close-in-Turned-Closed-clause-grown g c before first low boxes below grown =
    let H = g.H.Halves in
    let bounds = c.args.shared.now.bounds in
    let scenario = c.args.shared.now.instance.now in
    let may_stop = c.args.shared.now.limit.may_stop in
    let most = c.args.shared.now.ledger.now.most in
    let Taken : TakenUp → Type 0 = λ t. IsTakenUp bounds scenario may_stop most c.args.branch c.args.means.now c.take_up.new.means t in
    let better = c.fronts_better.ensures in
    let between = c.args.means.now in
    let after = c.take_up.new.means in
    let here = H.put c.args.halves.now in
    let front = c.args.growing.now.work.items in
    let rest = reverse c.args.growing.now.written.items in
    let h = c.in-Turned-Closed in
    let taken = subst Taken (h.is ∙ ap (λ (t : Turn). Turned t) h.field-0-is) c.in_ok-node.ensures in
    rw c.in_ok-close-in-Turned-Closed.ensures.pieces (IsGrown-turned better bounds scenario may_stop most before between after first here low boxes front rest c.args.branch c.args.tried (Closed h.node) taken grown)

pub returns-in_ok-part-in-Turned-Halves-clause-grown : goal.returns-in_ok-part-in-Turned-Halves-clause-grown
returns-in_ok-part-in-Turned-Halves-clause-grown g c before first low boxes below grown =
    let H = g.H.Halves in
    let bounds = c.args.shared.now.bounds in
    let scenario = c.args.shared.now.instance.now in
    let may_stop = c.args.shared.now.limit.may_stop in
    let most = c.args.shared.now.ledger.now.most in
    let Taken : TakenUp → Type 0 = λ t. IsTakenUp bounds scenario may_stop most c.args.branch c.args.means.now c.take_up.new.means t in
    let better = c.fronts_better.ensures in
    let between = c.args.means.now in
    let after = c.take_up.new.means in
    let here = H.put c.args.halves.now in
    let front = c.args.growing.now.work.items in
    let rest = reverse c.args.growing.now.written.items in
    let h = c.in-Turned-Halves in
    let taken = subst Taken (h.is ∙ ap (λ (t : Turn). Turned t) h.field-0-is) c.in_ok-node.ensures in
    rw c.in_ok-part-in-Turned-Halves.ensures.pieces (IsGrown-placed better bounds scenario may_stop most before between after first here (H.put c.place-first.new.self) low boxes front rest c.args.branch c.args.tried h.split h.first h.second h.tried c.place-first.result taken c.place-first.ensures.placed below grown)

pub returns-in_ok-leave-in-Left-clause-grown : goal.returns-in_ok-leave-in-Left-clause-grown
returns-in_ok-leave-in-Left-clause-grown g c before first low boxes below grown =
    let H = g.H.Halves in
    let bounds = c.args.shared.now.bounds in
    let scenario = c.args.shared.now.instance.now in
    let may_stop = c.args.shared.now.limit.may_stop in
    let most = c.args.shared.now.ledger.now.most in
    let Taken : TakenUp → Type 0 = λ t. IsTakenUp bounds scenario may_stop most c.args.branch c.args.means.now c.take_up.new.means t in
    let better = c.fronts_better.ensures in
    let between = c.args.means.now in
    let after = c.take_up.new.means in
    let here = H.put c.args.halves.now in
    let front = c.args.growing.now.work.items in
    let rest = reverse c.args.growing.now.written.items in
    let taken = subst Taken c.in-Left.is c.in_ok-node.ensures in
    rw c.in_ok-leave-in-Left.ensures.pieces (IsGrown-left better bounds scenario may_stop most before between after first here low boxes front rest c.args.branch c.in-Left.branch c.args.tried taken grown)

pub returns-in_ok-close-in-Turned-Closed-clause-left : goal.returns-in_ok-close-in-Turned-Closed-clause-left
returns-in_ok-close-in-Turned-Closed-clause-left g c before =
    let bounds = c.args.shared.now.bounds in
    let scenario = c.args.shared.now.instance.now in
    let may_stop = c.args.shared.now.limit.may_stop in
    let most = c.args.shared.now.ledger.now.most in
    let Taken : TakenUp → Type 0 = λ t. IsTakenUp bounds scenario may_stop most c.args.branch c.args.means.now c.take_up.new.means t in
    let between = c.args.means.now in
    let after = c.take_up.new.means in
    let written = reverse c.args.growing.now.written.items in
    let h = c.in-Turned-Closed in
    let taken = subst Taken (h.is ∙ ap (λ (t : Turn). Turned t) h.field-0-is) c.in_ok-node.ensures in
    left_same bounds scenario may_stop most between after written (reverse c.close.new.self.written.items) c.args.branch (Closed h.node) taken c.in_ok-close-in-Turned-Closed.ensures.left before

pub returns-in_ok-part-in-Turned-Halves-clause-left : goal.returns-in_ok-part-in-Turned-Halves-clause-left
returns-in_ok-part-in-Turned-Halves-clause-left g c before =
    let bounds = c.args.shared.now.bounds in
    let scenario = c.args.shared.now.instance.now in
    let may_stop = c.args.shared.now.limit.may_stop in
    let most = c.args.shared.now.ledger.now.most in
    let Taken : TakenUp → Type 0 = λ t. IsTakenUp bounds scenario may_stop most c.args.branch c.args.means.now c.take_up.new.means t in
    let between = c.args.means.now in
    let after = c.take_up.new.means in
    let written = reverse c.args.growing.now.written.items in
    let h = c.in-Turned-Halves in
    let taken = subst Taken (h.is ∙ ap (λ (t : Turn). Turned t) h.field-0-is) c.in_ok-node.ensures in
    left_same bounds scenario may_stop most between after written (reverse c.part.new.self.written.items) c.args.branch (Halves h.split h.first h.second h.tried) taken (ap (λ (ps : List Piece). left_regions (reverse ps)) c.in_ok-part-in-Turned-Halves.ensures.written) before

pub returns-in_ok-leave-in-Left-clause-left : goal.returns-in_ok-leave-in-Left-clause-left
returns-in_ok-leave-in-Left-clause-left g c before =
    let Taken : TakenUp → Type 0 = λ t. IsTakenUp c.args.shared.now.bounds c.args.shared.now.instance.now c.args.shared.now.limit.may_stop c.args.shared.now.ledger.now.most c.args.branch c.args.means.now c.take_up.new.means t in
    let taken = subst Taken c.in-Left.is c.in_ok-node.ensures in inr taken.ticket.2
