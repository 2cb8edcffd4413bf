-- One thing after another, as long as there is something.
use Rattle.std.specs.Prelude.{Option, Some, None}

-- then: the first None ends it
infixl 10 ◌>>=◌
abbrev pub ◌>>=◌ : {A B : Type 0} → Option A → (A → Option B) → Option B
None >>= f = None
(Some x) >>= f = f x
