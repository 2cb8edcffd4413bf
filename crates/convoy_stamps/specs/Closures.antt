-- What can be reached in a finite list, step by step.
use Rattle.std.specs.Prelude.{ℕ, zero, suc, Bool, List, [], ◌∷◌, length}
use Rattle.std.specs.List.{filter, list_any}

-- the element follows one of these
abbrev pub is_follower : {X : Type 0} → (X → X → Bool) → List X → X → Bool
is_follower follows some y = list_any (λ x. follows x y) some

-- what is reached from an element in so many rounds
abbrev pub reached_after : {X : Type 0} → (X → X → Bool) → List X → X → ℕ → List X
reached_after follows all start zero = start ∷ []
reached_after follows all start (suc rounds) = filter (is_follower follows (reached_after follows all start rounds)) all

-- what is reached in any number of rounds: where each element follows itself, no more rounds add one than there are elements
abbrev pub reached_from : {X : Type 0} → (X → X → Bool) → List X → X → List X
reached_from follows all start = reached_after follows all start (suc (length all))
