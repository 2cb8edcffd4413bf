use Rattle.convoy_fits.proofs.Skewed.{right_without}
use Rattle.convoy_fits.proofs.fits_laws.no_skew_is_none.Goals as goal

pub returns : goal.returns
returns c = right_without
