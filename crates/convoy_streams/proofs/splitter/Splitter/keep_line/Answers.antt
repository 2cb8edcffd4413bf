use Rattle.std.proofs.Common.{◌∙◌, ap, ℕ}
use Rattle.arrayvec.specs.ArrayVec.{ArrayVec}
use Rattle.convoy_streams.proofs.Stepping.{kept_twice}
use Rattle.convoy_streams.proofs.splitter.Splitter.keep_line.Goals as goal

pub returns-clause-held : goal.returns-clause-held
returns-clause-held c = λ longest job held.
    let first = c.keep.ensures.held longest job (record { most = held.most; kept = held.kept; named = held.named }) in
    kept_twice longest _ job _ _ _ _ c.front.ensures (c.deref.ensures.0 ∙ ap (λ (l : ArrayVec ℕ). l.items) c.take-label.ensures.value)
    (c.keep-2.ensures.held longest _ first)
