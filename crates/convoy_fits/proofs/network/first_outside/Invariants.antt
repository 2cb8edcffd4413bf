use Rattle.std.specs.Prelude.{IfSome}
use Rattle.convoy_fits.specs.Departures.{IsOutside}
use Rattle.convoy_fits.proofs.network.first_outside.Given as goal

-- what is known is outside
abbrev pub invariant-loop-one : goal.invariant-loop-one
invariant-loop-one l = IfSome l.known (IsOutside l.skew l.scenario l.trace)
