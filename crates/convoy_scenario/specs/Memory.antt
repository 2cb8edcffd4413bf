-- What a call answers that may find no memory.
use Rattle.std.specs.Prelude.{◌≡◌, ◌⊎◌, Result, Err}

-- The result is the one wanted, or memory ran out.
abbrev pub IsUnlessMemory : {X E : Type 0} → E → Result X E → Result X E → Type 0
IsUnlessMemory memory want result = (result ≡ want) ⊎ (result ≡ Err memory)
