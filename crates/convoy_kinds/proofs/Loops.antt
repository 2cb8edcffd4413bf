-- Loops over the first numbers, and over tables, one more at a time.
use Rattle.std.proofs.Common.{◌≡◌, ℕ, ◌+◌, ◌<◌, suc, Bool, cond, List, [], ◌∷◌, ◌++◌, length, get_or, drop, take, map, flat_map, filter, ◌==◌, sym, ap, ◌∙◌, append_assoc, arith}
use Rattle.std.specs.List.{range_with_len}
use Rattle.std.proofs.lemmas.List.{at_drop_more, flat_map_more, map-append, take_more}
use Rattle.std.proofs.lemmas.List.Elements.{filter-append}
use Rattle.convoy_scenario.proofs.NumberLemmas.{range_with_len-more}
use Rattle.convoy_kinds.specs.Kinds.{Kind}
use Rattle.convoy_kinds.specs.Numbering.{kinds_by, kinds_from, senders_in, set_of, sets_in}
use Rattle.convoy_kinds.specs.Shape.{WrittenKind}

-- what f gives of the next number passes the test, or it does not
pub filter_map_more : {X : Type 0} (p : X → Bool) (f : ℕ → X) (n : ℕ)
    → filter p (map f (range_with_len 0 (n + 1))) ≡ filter p (map f (range_with_len 0 n)) ++ cond (p (f n)) (f n ∷ []) []
filter_map_more p f n =
    let next : n + 1 ≡ suc n = omega arith in
    let last : 0 + n ≡ n = omega arith in
    ap (λ m. filter p (map f (range_with_len 0 m))) next
    ∙ ap (λ ns. filter p (map f ns)) (range_with_len-more 0 n)
    ∙ ap (λ m. filter p (map f (range_with_len 0 n ++ m ∷ []))) last
    ∙ ap (filter p) (map-append f (range_with_len 0 n) (n ∷ []))
    ∙ filter-append p (map f (range_with_len 0 n)) (f n ∷ [])

-- the kinds of one table more
pub kinds_more : (groups places : List (List ℕ)) (tables : List WrittenKind) (done now all : List Kind) (t : ℕ) (table : WrittenKind)
    → t < length tables → table ≡ get_or tables t table → now ≡ done ++ kinds_by t (sets_in groups table) (senders_in groups places table.senders)
    → done ++ kinds_from t groups places (drop t tables) ≡ all → now ++ kinds_from (t + 1) groups places (drop (t + 1) tables) ≡ all
kinds_more groups places tables done now all t table below is has so_far =
    let of : WrittenKind → List Kind = λ w. kinds_by t (sets_in groups w) (senders_in groups places w.senders) in
    ap (λ ks. ks ++ kinds_from (t + 1) groups places (drop (t + 1) tables)) has
    ∙ append_assoc done (of table) (kinds_from (t + 1) groups places (drop (t + 1) tables))
    ∙ ap (λ w. done ++ (of w ++ kinds_from (t + 1) groups places (drop (t + 1) tables))) is
    ∙ ap (λ ks. done ++ ks) (sym (at_drop_more (kinds_from t groups places) tables t table below))
    ∙ so_far

-- the set of the next number is kept where it has the size
pub kept_more : (groups size n : ℕ) (before done now : List (List ℕ)) (set : List ℕ) → set ≡ set_of groups n
    → done ≡ before ++ filter (λ s. length s == size) (map (set_of groups) (range_with_len 0 n))
    → now ≡ done ++ cond (length set == size) (set ∷ []) []
    → now ≡ before ++ filter (λ s. length s == size) (map (set_of groups) (range_with_len 0 (n + 1)))
kept_more groups size n before done now set is so_far next =
    let p : List ℕ → Bool = λ s. length s == size in
    next
    ∙ ap (λ s. done ++ cond (length s == size) (s ∷ []) []) is
    ∙ ap (λ xs. xs ++ cond (p (set_of groups n)) (set_of groups n ∷ []) []) so_far
    ∙ append_assoc before (filter p (map (set_of groups) (range_with_len 0 n))) (cond (p (set_of groups n)) (set_of groups n ∷ []) [])
    ∙ ap (λ xs. before ++ xs) (sym (filter_map_more p (set_of groups) n))

-- the targets of one kind more
pub targets_more : (of : ℕ → List (ℕ × ℕ)) (k : ℕ) → flat_map of (range_with_len 0 (k + 1)) ≡ flat_map of (range_with_len 0 k) ++ of k
targets_more of k =
    let next : k + 1 ≡ suc k = omega arith in
    let last : 0 + k ≡ k = omega arith in
    ap (λ n. flat_map of (range_with_len 0 n)) next
    ∙ ap (flat_map of) (range_with_len-more 0 k)
    ∙ ap (λ n. flat_map of (range_with_len 0 k ++ n ∷ [])) last
    ∙ sym (flat_map_more of [] (range_with_len 0 k) k)

-- what f gives of one element more
pub flat_map_take_more : {X Y : Type 0} (f : X → List Y) (xs : List X) (i : ℕ) (x : X) (before done now : List Y) → i < length xs → x ≡ get_or xs i x
    → done ≡ before ++ flat_map f (take i xs) → now ≡ done ++ f x → now ≡ before ++ flat_map f (take (i + 1) xs)
flat_map_take_more f xs i x before done now below is so_far next =
    next
    ∙ ap (λ ys. ys ++ f x) so_far
    ∙ flat_map_more f before (take i xs) x
    ∙ ap (λ ys. before ++ flat_map f ys) (ap (λ y. take i xs ++ y ∷ []) is ∙ sym (take_more xs i x below))
