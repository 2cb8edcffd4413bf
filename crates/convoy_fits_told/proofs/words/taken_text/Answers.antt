use Rattle.std.proofs.Common.{sym}
use Rattle.convoy_fits_told.specs.Words.{taken_text}
use Rattle.convoy_fits_told.proofs.words.taken_text.Goals as goal

pub returns : goal.returns
unfolding taken_text
returns c =
    simp (sym c.in_ok-what.ensures, sym c.in_ok-taken.ensures, sym c.in_ok-range.ensures) c.format.ensures.ok
