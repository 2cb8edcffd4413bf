use Rattle.std.proofs.Common.{sym, ap, ◌∙◌}
use Rattle.boxcar.specs.Table.{Where}
use Rattle.convoy_sim.specs.Record.{Record}
use Rattle.convoy_incumbent.specs.declared.rule.Pair.{Pair}
use Rattle.convoy_incumbent.proofs.Notes.{reached_by}
use Rattle.convoy_incumbent.proofs.Steps.{begins}
use Rattle.convoy_incumbent.proofs.board.Board.open.Goals as goal

pub of_words-requires : goal.of_words-requires
of_words-requires g c =
    let pair = c.pair-first.ensures in
    let kept = ap (λ (note : Where Record). note.value) c.of-noted.ensures ∙ c.in_ok-pushed.ensures.0.1 in
    begins record { records = c.in-Ok-new.records; scenario = c.scenario-scenario.result; first = c.pair-first.result } c.word-word.result c.word-word.ensures
    pair.place
    (reached_by c.of-noted.result.value c.scenario-scenario.result.value c.pair-first.result.latency pair.attained (ap (λ (a : Record). a.scenario) kept ∙ sym c.scenario-scenario.ensures) (ap (λ (p : Pair). p.latency) pair.pair))
