use Rattle.std.proofs.Common.{◌≡◌, filter, take}
use Rattle.convoy_kinds.specs.Reading.{sends}
use Rattle.convoy_kinds.proofs.read.sending.Given as goal

-- of the places so far those that send
abbrev pub invariant-loop-place : goal.invariant-loop-place
invariant-loop-place l = l.names.items ≡ filter (sends l.tables) (take l.place-index l.places)
