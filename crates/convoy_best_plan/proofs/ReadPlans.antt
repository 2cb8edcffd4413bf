-- What was read, where memory did not run out.
use Rattle.std.proofs.Common.{◌≡◌, Result, Ok, inl, inr, sym}
use Rattle.convoy_scenario.specs.Memory.{IsUnlessMemory}

pub read_by : {X E : Type 0} (memory : E) (want : Result X E) (x : X) → IsUnlessMemory memory want (Ok x) → want ≡ Ok x
read_by memory want x (inl is) = sym is
read_by memory want x (inr is) = cc
