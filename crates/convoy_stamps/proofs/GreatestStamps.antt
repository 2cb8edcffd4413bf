-- The greatest of some stamps.
use Rattle.std.proofs.Common.{◌≡◌, true, List, [], ◌∷◌, inl, inr, fold, subst, arith}
use Rattle.std.proofs.lemmas.Bool.Decides.{nat_tests}
use Rattle.convoy_sim.specs.declared.timestamp.Timestamp.{Timestamp}
use Rattle.convoy_sim.specs.Stamps.{is_less, later}
use Rattle.convoy_sim.proofs.Membership.{IsIn}

less_by_first : (a b s : Timestamp) → is_less (later a b) s ≡ true → is_less a s ≡ true
less_by_first a b s h = grind (arith, nat_tests)

less_by_second : (a b s : Timestamp) → is_less (later a b) s ≡ true → is_less b s ≡ true
less_by_second a b s h = grind (arith, nat_tests)

pub fold_later_first : (a s : Timestamp) (xs : List Timestamp) → is_less (fold later a xs) s ≡ true → is_less a s ≡ true
fold_later_first a s [] h = h
fold_later_first a s (x ∷ xs) h = less_by_first a x s (fold_later_first (later a x) s xs h)

-- what is above the greatest is above each
pub less_by_greatest : (a s x : Timestamp) (xs : List Timestamp) → is_less (fold later a xs) s ≡ true → IsIn x xs → is_less x s ≡ true
less_by_greatest a s x [] h i = absurd i
less_by_greatest a s x (y ∷ ys) h (inl e) = subst (λ z. is_less z s ≡ true) e (less_by_second a y s (fold_later_first (later a y) s ys h))
less_by_greatest a s x (y ∷ ys) h (inr i) = less_by_greatest (later a y) s x ys h i
