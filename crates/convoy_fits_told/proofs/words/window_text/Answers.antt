use Rattle.std.proofs.Common.{sym}
use Rattle.convoy_fits_told.specs.Words.{window_text}
use Rattle.convoy_fits_told.proofs.words.window_text.Goals as goal

pub returns : goal.returns
unfolding window_text
returns c =
    simp (sym c.in_ok-issue.ensures, sym c.in_ok-time.ensures, sym c.window.ensures, sym c.in_ok-span.ensures) c.format.ensures.ok
