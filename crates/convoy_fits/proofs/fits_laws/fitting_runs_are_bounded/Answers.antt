use Rattle.std.proofs.Common.{◌≡◌, ℕ, Option, Some, None}
use Rattle.std.specs.Prelude.{option_map}
use Rattle.convoy_fits.proofs.fits_laws.fitting_runs_are_bounded.Goals as goal

told_is : (latency late : ℕ) (o : Option ℕ) → Some latency ≡ option_map (λ time. late) o → latency ≡ late
told_is latency late None e = absurd cc
told_is latency late (Some time) e = cc e

pub returns : goal.returns
returns c = λ skew scenario trace latency greatest well real upper within.
    let fits = within.fits in
    let is = told_is latency _ _ fits.late in
    rw (is, ← within.skewed.factor)
    (c.whole_ticks_are_enough.ensures within.other.factor scenario fits.finer greatest (c.scenarios_are_roundable.ensures scenario well) real fits.run.told_finer upper
    fits.schedule fits.run.assignment)
