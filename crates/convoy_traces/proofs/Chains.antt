-- One thing after another, which may be faulty or find no memory.
use Rattle.std.proofs.Common.{◌≡◌, Result, Ok, Err, refl, ap, sym, ◌∙◌, inl, inr}
use Rattle.convoy_lines.specs.Results.{◌>>=◌}
use Rattle.convoy_scenario.specs.Memory.{IsUnlessMemory}
use Rattle.convoy_traces.specs.declared.fault.TraceFault.{TraceFault}
use Rattle.convoy_traces.specs.declared.fault.TraceFault.TheVariants.{Memory}

module _ {X Y : Type 0} (r : Result Y TraceFault) (next : Y → Result X TraceFault) where
  -- what was found is gone on with
  pub goes_on : (y : Y) (total : Result X TraceFault) → IsUnlessMemory Memory r (Ok y) → (r >>= next) ≡ total → next y ≡ total
  goes_on y total (inl e) so_far = rw (← e) at so_far
  goes_on y total (inr e) so_far = absurd cc

  -- the first fault ends it
  pub stops : (fault : TraceFault) (total : Result X TraceFault) → IsUnlessMemory Memory r (Err fault) → (r >>= next) ≡ total → IsUnlessMemory Memory total (Err fault)
  stops fault total (inl e) so_far = inl (rw (← e) at so_far)
  stops fault total (inr e) so_far = let same : fault ≡ Memory = cc in inr (ap Err same)

  -- what comes after something that was found
  pub then_goes : (y : Y) (result : Result X TraceFault) → IsUnlessMemory Memory r (Ok y) → IsUnlessMemory Memory (next y) result → IsUnlessMemory Memory (r >>= next) result
  then_goes y result (inl e) told = rw (← e) told
  then_goes y result (inr e) told = absurd cc

  -- what comes after something, where that is faulty
  pub then_stops : (fault : TraceFault) → IsUnlessMemory Memory r (Err fault) → IsUnlessMemory Memory (r >>= next) (Err fault)
  then_stops fault (inl e) = inl (rw (← e) refl)
  then_stops fault (inr e) = let same : fault ≡ Memory = cc in inr (ap Err same)
