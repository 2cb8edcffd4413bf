-- Lists of which one has no more than the other, and what is counted and tested in them.
use Rattle.std.proofs.Common.{◌≡◌, ℕ, ◌<◌, ◌≤◌, max, Bool, true, false, cond, ◌&&◌, inl, inr, List, [], ◌∷◌, length, filter, fold, refl, ap, subst, ◌∙◌, arith}
use Rattle.std.specs.List.{list_all}
use Rattle.std.proofs.lemmas.List.{map-id}
use Rattle.std.proofs.lemmas.Bool.{cases_Bool, cases_lt, and_from, and_parts}
use Rattle.convoy_sim.specs.Times.{greatest}
use Rattle.convoy_leads.proofs.LedLaw.{list_all_in}
use Rattle.convoy_sim.proofs.Membership.{IsIn, filter_keeps, filter_drops, in-filter, in_greatest, greatest_most}

-- a weaker test passes no fewer elements
pub no_fewer : {X : Type 0} (p q : X → Bool) (xs : List X) → ((x : X) → IsIn x xs → p x ≡ true → q x ≡ true) → length (filter p xs) ≤ length (filter q xs)
no_fewer p q [] h = omega arith
no_fewer p q (x ∷ xs) h =
    let rest = no_fewer p q xs (λ y i. h y (inr i)) in
    elim (cases_Bool (p x)) [
      | inl e ↦ omega (arith, ap length (filter_keeps p x xs e), ap length (filter_keeps q x xs (h x (inl refl) e)))
      | inr e ↦ elim (cases_Bool (q x)) [
        | inl f ↦ omega (arith, ap length (filter_drops p x xs e), ap length (filter_keeps q x xs f))
        | inr f ↦ omega (arith, ap length (filter_drops p x xs e), ap length (filter_drops q x xs f))
      ]
    ]

-- the first list is no longer than the second one, and no test passes more of it than a weaker one passes of the second
pub record AreAmong (few many : List ℕ) : Type 0 where
  pub shorter : length few ≤ length many
  pub counts : (p q : ℕ → Bool) → ((z : ℕ) → IsIn z few → p z ≡ true → q z ≡ true) → length (filter p few) ≤ length (filter q many)

pub among_itself : (zs : List ℕ) → AreAmong zs zs
among_itself zs = record { shorter = omega arith; counts = λ p q h. no_fewer p q zs h }

filter_both : (test p : ℕ → Bool) (zs : List ℕ) → filter test (filter p zs) ≡ filter (λ z. p z && test z) zs
filter_both test p [] = refl
filter_both test p (z ∷ zs) = one (p z) ∙ ap (λ ys. cond (p z && test z) (z ∷ ys) ys) (filter_both test p zs) where
  one : (b : Bool) → filter test (cond b (z ∷ filter p zs) (filter p zs)) ≡ cond (b && test z) (z ∷ filter test (filter p zs)) (filter test (filter p zs))
  one true = refl
  one false = refl

pub among_filtered : (few many : List ℕ) (p q : ℕ → Bool) → AreAmong few many → ((z : ℕ) → IsIn z few → p z ≡ true → q z ≡ true) → AreAmong (filter p few) (filter q many)
among_filtered few many p q among weaker = record { shorter = among.counts p q weaker; counts = each } where
  each : (s t : ℕ → Bool) → ((z : ℕ) → IsIn z (filter p few) → s z ≡ true → t z ≡ true) → length (filter s (filter p few)) ≤ length (filter t (filter q many))
  each s t h =
      let both = among.counts (λ z. p z && s z) (λ z. q z && t z) (λ z i e.
      let r = and_parts (p z) (s z) e in
      and_from (q z) (t z) (weaker z i r.0) (h z (in-filter p z few i r.0) r.1)) in
      omega (arith, ap length (filter_both s p few), ap length (filter_both t q many))

-- what passes a test is among what passes a weaker one
pub among_passed : (p q : ℕ → Bool) (zs : List ℕ) → ((z : ℕ) → IsIn z zs → p z ≡ true → q z ≡ true) → AreAmong (filter p zs) (filter q zs)
among_passed p q zs weaker = among_filtered zs zs p q (among_itself zs) weaker

-- either way
pub among_chosen : (b : Bool) (few many less more : List ℕ) → AreAmong few many → AreAmong less more → AreAmong (cond b few less) (cond b many more)
among_chosen true few many less more one other = one
among_chosen false few many less more one other = other

-- ---- tests of all
pub all_from : (p : ℕ → Bool) (zs : List ℕ) → ((z : ℕ) → IsIn z zs → p z ≡ true) → list_all p zs ≡ true
all_from p [] each = refl
all_from p (z ∷ zs) each = and_from (p z) (list_all p zs) (each z (inl refl)) (all_from p zs (λ y i. each y (inr i)))

pub all_too : (p q : ℕ → Bool) (zs : List ℕ) → ((z : ℕ) → IsIn z zs → p z ≡ true → q z ≡ true) → list_all p zs ≡ true → list_all q zs ≡ true
all_too p q zs weaker all = all_from q zs (λ z i. weaker z i (list_all_in p z zs all i))

-- ---- the greatest and the least of some
pub is_within_greatest : (x : ℕ) (xs : List ℕ) → IsIn x xs → x ≤ greatest xs
is_within_greatest x xs i = subst (λ (ys : List ℕ). x ≤ fold max 0 ys) (map-id xs) (in_greatest (λ (y : ℕ). y) x xs i)

pub greatest_is_within : (most : ℕ) (xs : List ℕ) → ((x : ℕ) → IsIn x xs → x ≤ most) → greatest xs ≤ most
greatest_is_within most xs each = subst (λ (ys : List ℕ). fold max 0 ys ≤ most) (map-id xs) (greatest_most (λ (y : ℕ). y) most xs each)

-- one of some elements has the least number of all
pub least_is_one : (f : ℕ → ℕ) (xs : List ℕ) → 0 < length xs → (y : ℕ) × IsIn y xs × ((z : ℕ) → IsIn z xs → f y ≤ f z)
least_is_one f [] some = absurd (omega arith)
least_is_one f (x ∷ xs) some = first x xs where
  itself : (x z : ℕ) → x ≡ z → f x ≤ f z
  itself x z e = subst (λ y. f x ≤ f y) e (omega arith)

  first : (x : ℕ) (xs : List ℕ) → (y : ℕ) × IsIn y (x ∷ xs) × ((z : ℕ) → IsIn z (x ∷ xs) → f y ≤ f z)
  first x [] = (x, inl refl, λ z i. elim i [ inl e ↦ itself x z e | inr none ↦ absurd none ])
  first x (w ∷ ws) =
      let r = first w ws in
      elim (cases_lt (f x) (f r.0)) [
        | inl l ↦ (x, inl refl, λ z i. elim i [ inl e ↦ itself x z e | inr j ↦ (let low = r.2 z j in omega arith) ])
        | inr l ↦ (r.0, inr r.1, λ z i. elim i [ inl e ↦ subst (λ y. f r.0 ≤ f y) e l | inr j ↦ r.2 z j ])
      ]
