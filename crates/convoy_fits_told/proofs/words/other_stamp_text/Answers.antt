use Rattle.std.proofs.Common.{sym}
use Rattle.convoy_fits_told.specs.Words.{other_stamp_text}
use Rattle.convoy_fits_told.proofs.words.other_stamp_text.Goals as goal

pub returns : goal.returns
unfolding other_stamp_text
returns c =
    simp (sym c.in_ok-what.ensures, sym c.in_ok-time.ensures, sym c.in_ok-stamp.ensures) c.format.ensures.ok
