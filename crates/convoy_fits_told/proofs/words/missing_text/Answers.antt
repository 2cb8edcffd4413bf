use Rattle.std.proofs.Common.{sym}
use Rattle.convoy_fits_told.specs.Words.{missing_text}
use Rattle.convoy_fits_told.proofs.words.missing_text.Goals as goal

pub returns : goal.returns
unfolding missing_text
returns c =
    simp (sym c.in_ok-what.ensures, sym c.in_ok-time.ensures) c.format.ensures.ok
