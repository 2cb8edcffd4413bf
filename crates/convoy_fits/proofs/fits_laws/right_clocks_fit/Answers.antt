use Rattle.convoy_fits.proofs.Skewed.{right_within}
use Rattle.convoy_fits.proofs.fits_laws.right_clocks_fit.Goals as goal

pub returns : goal.returns
returns c = right_within
