use Rattle.std.proofs.Common.{List, ℕ, take, ◌++◌, ap, sym, subst}
use Rattle.std.proofs.lemmas.List.{append-nil, take_all}
use Rattle.std.proofs.lemmas.Result.{err_from_is_err_and}
use Rattle.convoy_commands.specs.Searches.{LatencySays}
use Rattle.convoy_batches.specs.BatchSteps.{IsUnderWay}
use Rattle.convoy_batches.proofs.BatchRuns.{byte_taken, stops_in_piece}
use Rattle.convoy_batches.proofs.batch.Batch.take_piece.Goals as goal

pub loop-byte-init : goal.loop-byte-init
loop-byte-init g c = λ start text under.
    let P : List ℕ → Type 0 = λ t. IsUnderWay (LatencySays c.args.asked.now c.args.options.now) g.K.Sink.writes start c.args.sink.now t c.args.self.now in
    subst P (sym (append-nil text)) under

pub loop-byte-preserved : goal.loop-byte-preserved
loop-byte-preserved g c = λ start text under.
    let P : List ℕ → Type 0 = λ t. IsUnderWay (LatencySays c.args.asked.now c.args.options.now) g.K.Sink.writes start c.take.new.sink t c.take.new.self in
    subst P (byte_taken text c.args.piece.now c.loop-byte.byte-index c.loop-byte-test.true)
    (c.in_ok-take.ensures start (text ++ take c.loop-byte.byte-index c.args.piece.now) (c.loop-byte.invariant start text under))

pub returns-in_err-take : goal.returns-in_err-take
returns-in_err-take g c = λ start text under.
    let returned = err_from_is_err_and c.from_residual.result c.from_residual.ensures.1 in
    rw (returned.1, returned.2)
    (stops_in_piece c.ended_jobs_stay.ensures _ _ start _ text c.args.piece.now c.loop-byte.byte-index _ c.loop-byte-test.true
    (c.in_err-take.ensures start (text ++ take c.loop-byte.byte-index c.args.piece.now) (c.loop-byte.invariant start text under)))

pub returns : goal.returns
returns g c = λ start text under.
    let P : List ℕ → Type 0 = λ t. IsUnderWay (LatencySays c.args.asked.now c.args.options.now) g.K.Sink.writes start c.loop-byte.sink t c.loop-byte.self in
    subst P (ap (λ x. text ++ x) (take_all c.loop-byte.byte-index c.args.piece.now c.loop-byte-test.false)) (c.loop-byte.invariant start text under)
