-- One thing after another, as long as there is no fault.
use Rattle.std.specs.Prelude.{Result, Ok, Err}

-- then: the first fault ends it
infixl 10 ◌>>=◌
abbrev pub ◌>>=◌ : {A B E : Type 0} → Result A E → (A → Result B E) → Result B E
Ok x >>= f = f x
Err fault >>= f = Err fault
