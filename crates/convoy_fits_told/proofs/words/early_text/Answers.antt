use Rattle.std.proofs.Common.{sym}
use Rattle.convoy_fits_told.specs.Words.{early_text}
use Rattle.convoy_fits_told.proofs.words.early_text.Goals as goal

pub returns : goal.returns
unfolding early_text
returns c =
    simp (sym c.in_ok-what.ensures, sym c.in_ok-first.ensures, sym c.in_ok-second.ensures) c.format.ensures.ok
