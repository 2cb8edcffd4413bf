use Rattle.std.proofs.Common.{refl, ◌∙◌}
use Rattle.convoy_streams.proofs.Stepping.{adds, ends, keeps, waits}
use Rattle.convoy_streams.proofs.splitter.Splitter.take.Goals as goal

pub returns-in-Ends : goal.returns-in-Ends
returns-in-Ends c = λ longest text after.
    ends longest c.args.self.now _ text _ c.divide.result (rw c.len.ensures.value at c.in-Ends.ensures) (c.divide.ensures longest) after

pub returns-in-Waits : goal.returns-in-Waits
returns-in-Waits c = λ longest text after.
    waits longest c.args.self.now _ text _ (rw c.len.ensures.value at c.in-Waits.ensures) refl
    (λ job held. record { most = held.most; kept = held.kept; named = held.named }) after

pub returns-in-Adds : goal.returns-in-Adds
returns-in-Adds c = λ longest text after.
    adds longest c.args.self.now _ text _ (rw c.len.ensures.value at c.in-Adds.ensures) c.push.ensures.items refl
    (λ job held. record { most = held.most; kept = held.kept; named = held.named }) after

pub returns-in-Keeps : goal.returns-in-Keeps
returns-in-Keeps c = λ longest text after.
    keeps longest c.args.self.now _ text _ (rw c.len.ensures.value at c.in-Keeps.ensures) (c.keep.ensures.next ∙ c.keep_line.ensures.none)
    (λ job held.
    let kept = c.keep.ensures.held longest _ (c.keep_line.ensures.held longest job held) in
    record { most = kept.most; kept = kept.kept; named = kept.named })
    after
