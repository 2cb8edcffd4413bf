use Rattle.std.proofs.Common.{ℕ, List, [], ◌∷◌, ◌≤◌, length, reverse, subst, ◌∙◌, arith}
use Rattle.convoy_share.specs.declared.piece.Piece.{Piece}
use Rattle.convoy_share.specs.Means.{IsGrown}
use Rattle.convoy_share.proofs.Grown.{IsLeftAtEnd-by, todo_right}
use Rattle.convoy_share.proofs.worker.search_branch.Goals as goal

pub advance-requires-clause-halves : goal.advance-requires-clause-halves
advance-requires-clause-halves g c =
    let H = g.H.Halves in
    rw c.loop-growing.invariant.4 c.requires.halves

pub advance-requires-clause-of_scenario : goal.advance-requires-clause-of_scenario
advance-requires-clause-of_scenario g c =
    let H = g.H.Halves in
    let some = rw c.in-Some.is at c.in_ok-branch.ensures.some in
    let means = c.loop-growing.means in
    let boxes = c.args.branch.region ∷ [] in
    let first = H.put c.args.halves.now in
    let put = H.put c.loop-growing.halves in
    let grown = subst (λ (ps : List Piece). IsGrown c.args.shared.now.bounds c.args.shared.now.instance.now c.args.means.now means first put 0 boxes ps) some (c.loop-growing.invariant.0 0 (omega arith)) in
    (todo_right c.args.shared.now.bounds c.args.shared.now.instance.now c.args.means.now means first put 0 boxes c.next.new.self.work.items (reverse c.next.new.self.written.items) c.in-Some.branch c.in-Some.tried grown).0

pub advance-requires-clause-known : goal.advance-requires-clause-known
advance-requires-clause-known g c =
    let H = g.H.Halves in
    let some = rw c.in-Some.is at c.in_ok-branch.ensures.some in
    let means = c.loop-growing.means in
    let boxes = c.args.branch.region ∷ [] in
    let first = H.put c.args.halves.now in
    let put = H.put c.loop-growing.halves in
    let grown = subst (λ (ps : List Piece). IsGrown c.args.shared.now.bounds c.args.shared.now.instance.now c.args.means.now means first put 0 boxes ps) some (c.loop-growing.invariant.0 0 (omega arith)) in
    (todo_right c.args.shared.now.bounds c.args.shared.now.instance.now c.args.means.now means first put 0 boxes c.next.new.self.work.items (reverse c.next.new.self.written.items) c.in-Some.branch c.in-Some.tried grown).1

pub loop-growing-preserved : goal.loop-growing-preserved
loop-growing-preserved g c =
    let H = g.H.Halves in
    let some = rw c.in-Some.is at c.in_ok-branch.ensures.some in
    let boxes = c.args.branch.region ∷ [] in
    let first = H.put c.args.halves.now in
    let put = H.put c.loop-growing.halves in
    let held = c.loop-growing.invariant in
    let told = c.in_ok-advance.ensures in
    let left = IsLeftAtEnd-by c.args.shared.now.limit.may_stop c.loop-growing.means (reverse c.loop-growing.growing.written.items) (reverse c.next.new.self.written.items) c.in_ok-branch.ensures.left held.1 in
    let grown = λ (low : ℕ) (below : low ≤ length first). subst (λ (ps : List Piece). IsGrown c.args.shared.now.bounds c.args.shared.now.instance.now c.args.means.now c.loop-growing.means first put low boxes ps) some (held.0 low below) in (
      (λ low below. told.grown c.args.means.now first low boxes below (grown low below)),
      told.left left,
      told.board,
      told.ledger,
      told.fixed ∙ held.4,
    )

pub returns-clause-grown : goal.returns-clause-grown
returns-clause-grown g c low below =
    let H = g.H.Halves in
    let none = rw c.in_default.is at c.in_ok-branch.ensures.none in
    subst (λ (ps : List Piece). IsGrown c.args.shared.now.bounds c.args.shared.now.instance.now c.args.means.now c.loop-growing.means (H.put c.args.halves.now) (H.put c.loop-growing.halves) low (c.args.branch.region ∷ []) ps) none (c.loop-growing.invariant.0 low below)

pub returns-clause-left : goal.returns-clause-left
returns-clause-left g c =
    IsLeftAtEnd-by c.args.shared.now.limit.may_stop c.loop-growing.means (reverse c.loop-growing.growing.written.items) (reverse c.next.new.self.written.items) c.in_ok-branch.ensures.left c.loop-growing.invariant.1
