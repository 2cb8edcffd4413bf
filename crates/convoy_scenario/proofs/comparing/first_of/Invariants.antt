use Rattle.std.proofs.Common.{take}
use Rattle.std.specs.List.{All}
use Rattle.convoy_scenario.specs.Differences.{AgreeIn}
use Rattle.convoy_scenario.proofs.comparing.first_of.Given as goal

-- the two agree in each part so far
abbrev pub invariant-loop-part : goal.invariant-loop-part
invariant-loop-part l = All (AgreeIn l.wanted l.other) (take l.part-index l.parts)
