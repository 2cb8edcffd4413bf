use Rattle.std.proofs.Common.{sym, ◌∙◌}
use Rattle.convoy_streams.proofs.Stepping.{finishes_part, finishes_whole}
use Rattle.convoy_streams.proofs.splitter.Splitter.finish.Goals as goal

pub returns-then-is_whole : goal.returns-then-is_whole
returns-then-is_whole c = λ longest text after.
    finishes_whole longest c.args.self.now _ text c.divide.result (rw c.len.ensures.value at (sym c.is_whole.ensures ∙ c.if-is_whole.true))
    (c.divide.ensures longest) after

pub returns : goal.returns
returns c = λ longest text after.
    finishes_part longest c.args.self.now _ text (rw c.len.ensures.value at (sym c.is_whole.ensures ∙ c.if-is_whole.false))
    (c.keep_line.ensures.held longest) after
