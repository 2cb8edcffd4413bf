-- Lists of branches: which branch stands where, after one is turned and after others come to its end.
use Rattle.std.specs.Prelude.{◌≡◌, ◌≢◌, ◌⊎◌, ℕ, ◌+◌, ◌<◌, Bool, true, false, not, if◌then◌else◌, List, [], ◌∷◌, ◌++◌, length, slice_set}
use Rattle.std.specs.List.{Any, count_by}
use Rattle.std.proofs.Common.{arith, refl, sym, ap, subst, ◌∙◌, inl, inr, get_or, set, length-append, zero, suc}
use Rattle.std.proofs.lemmas.Bool.{false≢true, cases_eq}
use Rattle.std.proofs.lemmas.List.{get_or_default, get_or-set_other, get_or_append_left, get_or-append-add, length-set}
use Rattle.std.proofs.lemmas.List.Sums.{sum_by-set}
use Rattle.convoy_machine.specs.declared.parts.Branch.{Branch}
use Rattle.convoy_machine.specs.declared.parts.BranchState.{BranchState}
use Rattle.convoy_machine.specs.declared.parts.BranchState.TheVariants.{Free, Taken, Split, Closed}
use Rattle.convoy_machine.specs.Machine.{branch_at, is_free, is_left, is_with, stands, turned}
use Rattle.convoy_machine.specs.Replays.{is_done}

-- what passes a test is there
pub stands_told : (test : BranchState → Bool) (branches : List Branch) (number : ℕ) → stands test branches number ≡ true → (number < length branches) × (test (branch_at branches number).state ≡ true)
stands_told test [] number passes = absurd (false≢true passes)
stands_told test (branch ∷ branches) zero passes = (omega arith, passes)
stands_told test (branch ∷ branches) (suc number) passes =
    let rest = stands_told test branches number passes in (omega (arith, rest.0), rest.1)

-- what is there is told by its state
pub stands-at : (test : BranchState → Bool) (branches : List Branch) (number : ℕ) → number < length branches → stands test branches number ≡ test (branch_at branches number).state
stands-at test [] number within = absurd (omega arith)
stands-at test (branch ∷ branches) zero within = refl
stands-at test (branch ∷ branches) (suc number) within = stands-at test branches number (omega arith)

-- a branch that is free, or that a worker has, is left
pub left_since_free : (state : BranchState) → is_free state ≡ true → is_left state ≡ true
left_since_free Free free = refl
left_since_free (Taken holder) free = refl
left_since_free Split free = absurd (false≢true free)
left_since_free Closed free = absurd (false≢true free)

pub left_since_with : (worker : ℕ) (state : BranchState) → is_with worker state ≡ true → is_left state ≡ true
left_since_with worker Free has = refl
left_since_with worker (Taken holder) has = refl
left_since_with worker Split has = absurd (false≢true has)
left_since_with worker Closed has = absurd (false≢true has)

-- another branch at a place
pub stands-set_same : (test : BranchState → Bool) (branches : List Branch) (number : ℕ) (branch : Branch) → number < length branches → stands test (slice_set branches number branch) number ≡ test branch.state
stands-set_same test [] number branch within = absurd (omega arith)
stands-set_same test (first ∷ branches) zero branch within = refl
stands-set_same test (first ∷ branches) (suc number) branch within =
    stands-set_same test branches number branch (omega arith)

pub stands-set_other : (test : BranchState → Bool) (branches : List Branch) (number other : ℕ) (branch : Branch) → other ≢ number → stands test (slice_set branches number branch) other ≡ stands test branches other
stands-set_other test [] number other branch apart = refl
stands-set_other test (first ∷ branches) zero zero branch apart = absurd (apart refl)
stands-set_other test (first ∷ branches) zero (suc other) branch apart = refl
stands-set_other test (first ∷ branches) (suc number) zero branch apart = refl
stands-set_other test (first ∷ branches) (suc number) (suc other) branch apart =
    stands-set_other test branches number other branch (λ same. apart (ap suc same))

-- further branches that fail the test
pub stands-append : (test : BranchState → Bool) (branches more : List Branch) (number : ℕ) → ((k : ℕ) → stands test more k ≡ false) → stands test (branches ++ more) number ≡ stands test branches number
stands-append test [] more number fail = fail number
stands-append test (first ∷ branches) more zero fail = refl
stands-append test (first ∷ branches) more (suc number) fail = stands-append test branches more number fail

-- some element, after another is written and after others come to the end
pub Any-set_cases : {X : Type 0} (P : X → Type 0) (xs : List X) (i : ℕ) (y d : X) → Any P xs → P (get_or xs i d) ⊎ Any P (set xs i y)
Any-set_cases P xs i y d any =
    elim (cases_eq any.0 i) [
      | inl same ↦ inl (subst P (sym any.3 ∙ (get_or_default xs any.0 any.1 d any.2 ∙ ap (λ k. get_or xs k d) same)) any.4)
      | inr other ↦ inr (any.0, any.1, omega (arith, length-set xs i y, any.2), get_or-set_other xs i any.0 y any.1 other ∙ any.3, any.4)
    ]

pub Any-append_left : {X : Type 0} (P : X → Type 0) (xs ys : List X) → Any P xs → Any P (xs ++ ys)
Any-append_left P xs ys any =
    (any.0, any.1, omega (arith, length-append xs ys, any.2), get_or_append_left xs ys any.1 any.0 any.2 ∙ any.3, any.4)

pub Any-append_right : {X : Type 0} (P : X → Type 0) (xs ys : List X) → Any P ys → Any P (xs ++ ys)
Any-append_right P xs ys any =
    (length xs + any.0, any.1, omega (arith, length-append xs ys, any.2), get_or-append-add xs ys any.0 any.1 ∙ any.3, any.4)

-- how many branches are done, after one that is left is turned
pub count_done-turned : (branches : List Branch) (number : ℕ) (state : BranchState) → number < length branches → is_left (branch_at branches number).state ≡ true → count_by (λ branch. is_done branch.state) (turned branches number state) ≡ count_by (λ branch. is_done branch.state) branches + (if is_done state then 1 else 0)
count_done-turned branches number state within left =
    let weight : Branch → ℕ = λ branch. if is_done branch.state then 1 else 0 in
    let before : weight (branch_at branches number) ≡ 0 = ap (λ (b : Bool). if not b then 1 else 0) left in
    omega (arith, before, sum_by-set weight branches number (record (branch_at branches number) { state = state }) (record { delay_box = []; state = Closed }) within)
