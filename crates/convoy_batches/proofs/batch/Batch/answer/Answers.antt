use Rattle.std.proofs.Common.{sym, ◌∙◌}
use Rattle.convoy_batches.proofs.Blocks.{block_failed, block_out}
use Rattle.convoy_batches.proofs.batch.Batch.answer.Goals as goal

pub returns-then-is_err-clause-job : goal.returns-then-is_err-clause-job
returns-then-is_err-clause-job g c = λ job held.
    block_failed _ _ _ _ _ _ _ job _ _ _ _ c.write_all.result (c.job_answer-answer.ensures job held) c.fill-end.ensures (c.label.ensures.label _ job held) c.bytes.ensures c.write_all.ensures
    (sym c.is_err.ensures.value ∙ c.if-is_err.true)

pub returns-clause-job : goal.returns-clause-job
returns-clause-job g c = λ job held.
    block_out _ _ _ _ _ _ _ _ job _ _ _ _ c.write_all.result (c.job_answer-answer.ensures job held) c.fill-end.ensures (c.label.ensures.label _ job held) c.bytes.ensures c.write_all.ensures
    (sym c.is_err.ensures.value ∙ c.if-is_err.false) c.worse-self.ensures
