-- Rows that are made of keys.
use Rattle.std.proofs.Common.{ℕ, ◌≡◌, ◌+◌, ◌<◌, List, [], ◌∷◌, map, length, get_or, suc, zero, Result, Ok, ap, subst, ◌∙◌, refl, arith}
use Rattle.std.specs.List.{All, AllZip, Contains, range_with_len}
use denote.Ref.{Bor}
use Rattle.convoy_rows.specs.Rows.{AreMade, AreMadeOf, IsMade, IsMadeAt, IsMadeOf}

-- what holds of each pair of two lists is another thing where it follows
pub all_zip_then : {A B : Type 0} (P Q : A → B → Type 0) (xs : List A) (ys : List B) → ((x : A) (y : B) → P x y → Q x y) → AllZip P xs ys → AllZip Q xs ys
all_zip_then P Q [] [] then all = tt
all_zip_then P Q [] (y ∷ ys) then all = absurd all
all_zip_then P Q (x ∷ xs) [] then all = absurd all
all_zip_then P Q (x ∷ xs) (y ∷ ys) then all = (then x y all.0, all_zip_then P Q xs ys then all.1)

-- rows that tell their keys
pub keys_are : {A B C : Type 0} (P : A → B → Type 0) (of : A → C) (key : B → C) (xs : List A) (ys : List B) → ((x : A) (y : B) → P x y → key y ≡ of x) → AllZip P xs ys
    → map key ys ≡ map of xs
keys_are P of key [] [] then all = refl
keys_are P of key [] (y ∷ ys) then all = absurd all
keys_are P of key (x ∷ xs) [] then all = absurd all
keys_are {A} {B} {C} P of key (x ∷ xs) (y ∷ ys) then all =
    ap (λ (k : C). k ∷ map key ys) (then x y all.0) ∙ ap (λ (ks : List C). of x ∷ ks) (keys_are P of key xs ys then all.1)

-- what holds of each row
pub all_rows : {A B : Type 0} (P : A → B → Type 0) (Q : B → Type 0) (xs : List A) (ys : List B) → ((x : A) (y : B) → P x y → Q y) → AllZip P xs ys → All Q ys
all_rows P Q [] [] then all = λ k d small. absurd (omega (arith, small))
all_rows P Q [] (y ∷ ys) then all = absurd all
all_rows P Q (x ∷ xs) [] then all = absurd all
all_rows {A} {B} P Q (x ∷ xs) (y ∷ ys) then all = at (all_rows P Q xs ys then all.1) where
  at : All Q ys → (k : ℕ) (d : B) → k < suc (length ys) → Q (get_or (y ∷ ys) k d)
  at rest zero d small = then x y all.0
  at rest (suc k) d small = rest k d (omega (arith, small))

-- rows that all are values
pub all_zip_values : {A B E : Type 0} (P : A → Result B E → Type 0) (xs : List A) (ys : List B) → AllZip P xs (map Ok ys) → AllZip (λ x y. P x (Ok y)) xs ys
all_zip_values P [] [] all = tt
all_zip_values P [] (y ∷ ys) all = absurd all
all_zip_values P (x ∷ xs) [] all = absurd all
all_zip_values P (x ∷ xs) (y ∷ ys) all = (all.0, all_zip_values P xs ys all.1)

-- rows by number, where the number is the place of a key, are rows by key
pub made_of_keys : {K W V T : Type 0} (by_place : ℕ → Bor W → T → Type 0) (by_key : Bor K → Bor V → T → Type 0) (keys : List K) (rows : List T)
    → ((i : ℕ) (watch : Bor W) (row : T) → by_place i watch row → IsMadeAt by_key keys i row) → AreMade by_place (length keys) rows → AreMadeOf by_key keys rows
made_of_keys {K} {W} {V} {T} by_place by_key keys rows then all = over keys rows 0 (λ i watch row made. then i watch row (subst (λ n. by_place n watch row) (omega arith) made)) all where
  over : (keys : List K) (rows : List T) (from : ℕ) → ((i : ℕ) (watch : Bor W) (row : T) → by_place (from + i) watch row → IsMadeAt by_key keys i row)
      → AllZip (IsMade by_place) (range_with_len from (length keys)) rows → AreMadeOf by_key keys rows
  over [] [] from then all = tt
  over [] (row ∷ rows) from then all = absurd all
  over (key ∷ keys) [] from then all = absurd all
  over (key ∷ keys) (row ∷ rows) from then all = (
    then 0 all.0.watch row (subst (λ n. by_place n all.0.watch row) (omega arith) all.0.answered) key,
    over keys rows (from + 1) (λ i watch r made. then (suc i) watch r (subst (λ n. by_place n watch r) (omega arith) made)) all.1,
  )

-- rows that are made of keys, by what a call says of the key that it is lent
pub by_keys : {K W T : Type 0} (may_answer : Bor K → Bor W → T → Type 0) (P : K → T → Type 0) (keys : List K) (rows : List T)
    → ((lent : Bor K) (watch : Bor W) (row : T) → may_answer lent watch row → P lent.now row) → AreMadeOf may_answer keys rows → AllZip P keys rows
by_keys may_answer P keys rows then all =
    all_zip_then (IsMadeOf may_answer) P keys rows (λ key row made. subst (λ k. P k row) made.key_is (then made.lent made.watch row made.answered)) all

-- One of the keys, of which it holds.
pub record HasKey {K : Type 0} (P : K → Type 0) (keys : List K) : Type 0 where
  pub key : K
  pub listed : Contains keys key
  pub holds : P key

one_more : {K : Type 0} (key : K) (keys : List K) (other : K) → Contains keys other → Contains (key ∷ keys) other
one_more key keys other (k, small, is) = (suc k, omega (arith, small), is)

-- a row is that of a key
pub key_of_row : {K T : Type 0} (P : K → T → Type 0) (keys : List K) (rows : List T) (row : T) → AllZip P keys rows → Contains rows row → HasKey (λ key. P key row) keys
key_of_row P [] [] row all (k, small, is) = absurd (omega (arith, small))
key_of_row P [] (r ∷ rows) row all has = absurd all
key_of_row P (key ∷ keys) [] row all has = absurd all
key_of_row P (key ∷ keys) (r ∷ rows) row all (zero, small, is) = record { key = key; listed = (0, omega arith, refl); holds = subst (P key) is all.0 }
key_of_row {K} P (key ∷ keys) (r ∷ rows) row all (suc k, small, is) =
    let rest : HasKey (λ (other : K). P other row) keys = key_of_row P keys rows row all.1 (k, omega (arith, small), is) in
    record { key = rest.key; listed = one_more key keys rest.key rest.listed; holds = rest.holds }
