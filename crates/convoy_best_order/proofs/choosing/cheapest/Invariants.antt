use Rattle.convoy_best_order.specs.Choices.{IsCheapest, costs_of}
use Rattle.convoy_best_order.proofs.choosing.cheapest.Given as goal

-- the cheapest so far
abbrev pub invariant-loop-place : goal.invariant-loop-place
invariant-loop-place l = IsCheapest (costs_of l.reasons) l.place l.cheapest
