use Rattle.std.proofs.Common.{sym}
use Rattle.convoy_fits_told.specs.Words.{moment_text}
use Rattle.convoy_fits_told.proofs.words.moment_text.Goals as goal

pub returns : goal.returns
unfolding moment_text
returns c =
    simp (sym c.in_ok-what.ensures, sym c.in_ok-time.ensures, sym c.told_by.ensures, sym c.in_ok-moment.ensures) c.format.ensures.ok
