-- The least and the greatest of excesses, one more at a time.
use Rattle.std.proofs.Common.{All, ◌≡◌, ℕ, ◌+◌, ◌<◌, Bool, true, false, cond, List, [], ◌∷◌, ◌++◌, length, map, take, get_or, refl, sym, ap, subst, ◌∙◌, arith}
use Rattle.std.specs.List.{Contains}
use Rattle.std.proofs.lemmas.Bool.Decides.{nat_tests}
use Rattle.std.proofs.lemmas.List.{get_or-map, length-map, map-append, take_more}
use Rattle.std.proofs.lemmas.List.Elements.{All-push}
use Rattle.convoy_best_order.specs.declared.excess.Excess.{Excess}
use Rattle.convoy_best_order.specs.Excesses.{IsAtMost, IsLess, greater, is_less, lesser}

pub less_of : (excess other : Excess) → is_less excess other ≡ true → IsLess excess other
less_of excess other is = grind (arith, nat_tests, is)

pub at_most_of : (excess other : Excess) → is_less excess other ≡ false → IsAtMost other excess
at_most_of excess other is = grind (arith, nat_tests, is)

pub at_most_self : (excess : Excess) → IsAtMost excess excess
at_most_self excess = omega arith

pub at_most_after : (a b c : Excess) → IsAtMost a b → IsAtMost b c → IsAtMost a c
at_most_after a b c first then = omega (arith, first, then)

pub at_most_less : (a b : Excess) → IsLess a b → IsAtMost a b
at_most_less a b less = omega (arith, less)

-- what holds of both where they are chosen holds of the lesser, and of the greater
lesser_has : (P : Excess → Type 0) (least x : Excess) → (is_less x least ≡ true → P x) → (is_less x least ≡ false → P least) → P (lesser least x)
lesser_has P least x new old = by_test (is_less x least) refl where
  by_test : (b : Bool) → is_less x least ≡ b → P (cond b x least)
  by_test true is = new is
  by_test false is = old is

pub greater_has : (P : Excess → Type 0) (greatest x : Excess) → (is_less greatest x ≡ true → P x) → (is_less greatest x ≡ false → P greatest) → P (greater greatest x)
greater_has P greatest x new old = by_test (is_less greatest x) refl where
  by_test : (b : Bool) → is_less greatest x ≡ b → P (cond b x greatest)
  by_test true is = new is
  by_test false is = old is

module _ {X : Type 0} (f : X → Excess) (xs : List X) (i : ℕ) (x : X) (within : i < length xs) (is_next : x ≡ get_or xs i x) where
  -- the excesses of one more
  one_more : map f (take (i + 1) xs) ≡ map f (take i xs) ++ f x ∷ []
  one_more =
      ap (map f) (take_more xs i x within) ∙ map-append f (take i xs) (get_or xs i x ∷ []) ∙ ap (λ (y : X). map f (take i xs) ++ f y ∷ []) (sym is_next)

  pub among : Contains (map f xs) (f x)
  among = (i, subst (λ n. i < n) (sym (length-map xs f)) within, get_or-map f xs i x (f x) within ∙ ap f (sym is_next))

  pub still_one : (least : Excess) → Contains (map f xs) least → Contains (map f xs) (lesser least (f x))
  still_one least old = lesser_has (Contains (map f xs)) least (f x) (λ is. among) (λ is. old)

  pub still_one_too : (greatest : Excess) → Contains (map f xs) greatest → Contains (map f xs) (greater greatest (f x))
  still_one_too greatest old = greater_has (Contains (map f xs)) greatest (f x) (λ is. among) (λ is. old)

  pub none_less : (least : Excess) → All (IsAtMost least) (map f (take i xs)) → All (IsAtMost (lesser least (f x))) (map f (take (i + 1) xs))
  none_less least all =
      let y : Excess = f x in
      subst (λ (es : List Excess). All (IsAtMost (lesser least y)) es) (sym one_more)
      (lesser_has (λ (least_too : Excess). All (IsAtMost least_too) (map f (take i xs) ++ y ∷ [])) least y
      (λ is.
      All-push (IsAtMost y) (map f (take i xs)) y
      (λ k e l. at_most_after y least (get_or (map f (take i xs)) k e) (at_most_less y least (less_of y least is)) (all k e l)) (at_most_self y))
      (λ is. All-push (IsAtMost least) (map f (take i xs)) y all (at_most_of y least is)))

  pub none_greater : (greatest : Excess) → All (λ (excess : Excess). IsAtMost excess greatest) (map f (take i xs))
      → All (λ (excess : Excess). IsAtMost excess (greater greatest (f x))) (map f (take (i + 1) xs))
  none_greater greatest all =
      let y : Excess = f x in
      subst (λ (es : List Excess). All (λ (excess : Excess). IsAtMost excess (greater greatest y)) es) (sym one_more)
      (greater_has (λ (greatest_too : Excess). All (λ (excess : Excess). IsAtMost excess greatest_too) (map f (take i xs) ++ y ∷ [])) greatest y
      (λ is.
      All-push (λ (excess : Excess). IsAtMost excess y) (map f (take i xs)) y
      (λ k e l. at_most_after (get_or (map f (take i xs)) k e) greatest y (all k e l) (at_most_less greatest y (less_of greatest y is))) (at_most_self y))
      (λ is. All-push (λ (excess : Excess). IsAtMost excess greatest) (map f (take i xs)) y all (at_most_of greatest y is)))
