use Rattle.std.proofs.Common.{sym, ap, ◌∙◌, subst, arith, Some}
use Rattle.convoy_incumbent.specs.Boards.{BoardId, Holding, board_of, IsBetterOf, IsNoteOf}
use Rattle.convoy_incumbent.specs.Rule.{latency_in}
use Rattle.convoy_incumbent.specs.declared.rule.Pair.{Pair}
use Rattle.convoy_incumbent.proofs.Notes.{best_put, least_is_told, none_above_put, pair_of_word, reached_by}
use Rattle.convoy_incumbent.proofs.Steps.{publishes}
use Rattle.convoy_incumbent.proofs.board.Board.publish.Goals as goal

pub fetch_max-found-requires : goal.fetch_max-found-requires
fetch_max-found-requires c =
    let mine = ap (λ (holding : Holding). holding.board) c.hand.view_is ∙ c.requires.hand in
    let hand = c.hand.invariant in
    let table = c.self.invariant in
    let told = c.pair.ensures in
    let note = c.args.noted in
    let word = c.word-word.result in
    let pair = pair_of_word note c.pair.result word c.word-word.ensures told.pair told.place in
    let plan = c.hand.inside.seat.me.0.store.scenario.value in
    let same = c.requires.noted.1 ∙ sym (ap (λ (id : BoardId). id.scenario) mine) in (
      ap (λ (id : BoardId). id.table) (mine ∙ sym c.self.view_is),
      omega arith,
      rw table.2 (publishes _ _ _ _ word (omega arith) (reached_by note.value plan (latency_in word) told.attained same (ap (λ (p : Pair). p.latency) pair))),
    )

pub invariant_of-hand : goal.invariant_of-hand
invariant_of-hand c =
    let mine = ap (λ (holding : Holding). holding.board) c.hand.view_is ∙ c.requires.hand in
    let hand = c.hand.invariant in
    let seat = c.hand.inside.seat in
    let told = c.pair.ensures in
    let note = c.args.noted in
    let word = c.word-word.result in
    let pair = pair_of_word note c.pair.result word c.word-word.ensures told.pair told.place in
    let new = subst (λ id. IsNoteOf id note) (sym mine) c.requires.noted in
    let found = c.fetch_max-found.ensures in
    let better = subst (λ best. IsBetterOf best (Some note) c.better_of.result) c.take-best.ensures.value c.better_of.ensures in
    let best = best_put (board_of seat.table_id seat.me.0.store) seat.me.0.pairs c.hand.inside.best note word c.better_of.result pair hand.3 new better in
    let none = none_above_put seat.me.0.seen c.fetch_max-found.result word seat.me.0.pairs found.2.1 hand.4 in
    rw (found.0, found.2.0) (hand.0, hand.1, hand.2, best, none)

pub returns-clause-least : goal.returns-clause-least
returns-clause-least c =
    let hand = c.hand.invariant in
    let seat = c.hand.inside.seat in
    let told = c.pair.ensures in
    let note = c.args.noted in
    let word = c.word-word.result in
    let pair = pair_of_word note c.pair.result word c.word-word.ensures told.pair told.place in
    let found = c.fetch_max-found.ensures in
    least_is_told seat.me.0.seen c.args.hand.now.seen c.fetch_max-found.result word c.max.result seat.me.0.pairs c.args.hand.now.pairs note pair c.max.ensures
    (ap (λ (holding : Holding). holding.seen) c.hand.view_is)
    (ap (λ (holding : Holding). holding.pairs) c.hand.view_is)
    found.2.1
    hand.4
