-- Sums over several views, and lists of tasks.
use Rattle.std.proofs.Common.{◌≡◌, ℕ, zero, suc, ◌+◌, ◌<◌, ◌≤◌, List, [], ◌∷◌, ◌++◌, length, get_or, set, refl, ◌∙◌, arith, Some}
use Rattle.std.specs.Prelude.{slice_get}
use Rattle.std.specs.List.{All, sum_by}
use Rattle.std.proofs.lemmas.Bool.Decides.{nat_tests}
use Rattle.std.proofs.lemmas.List.Elements.{All-weaker}
use Rattle.std.proofs.lemmas.List.Sums.{sum_by-append}
use mathlib.Core.Option.{some}
use lib.ListN.{get_elem?}
use Rattle.atomic_table.proofs.Lists.{set_else}
use Rattle.convoy_shares.specs.Shares.{once_below}
use Rattle.convoy_shares.proofs.Sums.{sum_set, part_le_sum, sum_of_one}
use Rattle.convoy_regions.specs.Regions.{Region}
use Rattle.convoy_share_deque.specs.declared.rule.View.{View}
use Rattle.convoy_share_deque.specs.declared.task.Task.{Task}
use Rattle.convoy_share_deque.specs.Tasks.{tasks_at, IsPut}
use Rattle.convoy_share_deque.specs.Rule.{nobody}

stands : {A : Type 0} (l : List A) (k : ℕ) (d : A) → k < length l → get_elem? l k ≡ some (get_or l k d)
stands [] k d lt = absurd (omega arith)
stands (x ∷ xs) zero d lt = refl
stands (x ∷ xs) (suc k) d lt = stands xs k d (omega arith)

-- two views have at most what all have together
pub two_le_sum : (f : View → ℕ) (views : List View) (k j : ℕ) (v u : View) → f nobody ≡ 0 → get_elem? views k ≡ some v → get_elem? views j ≡ some u → (j ≡ k → ⊥) → f v + f u ≤ sum_by f views
two_le_sum f views k j v u none here there apart =
    let rest = set views k nobody in
    let other = part_le_sum f rest j u (set_else views k j nobody apart ∙ there) in
    omega (arith, other, none, sum_set f views k v nobody here)

-- where one view has all of g, and f is 0 wherever g is, that view has all of f
pub all_of_one : (f g : View → ℕ) (views : List View) (k : ℕ) (v : View) → f nobody ≡ 0 → g nobody ≡ 0 → get_elem? views k ≡ some v → sum_by g views ≡ g v → ((j : ℕ) (u : View) → get_elem? views j ≡ some u → g u ≡ 0 → f u ≡ 0) → sum_by f views ≡ f v
all_of_one f g views k v f0 g0 e whole empty =
    sum_of_one f g nobody views k v f0 g0 e whole (λ j d lt. empty j (get_or views j d) (stands views j d lt))

pub tasks_at-append : (x : ℕ) (xs ys : List Task) → tasks_at x (xs ++ ys) ≡ tasks_at x xs + tasks_at x ys
tasks_at-append x xs ys = sum_by-append _ xs ys

pub once_more : (x : ℕ) (task : Task) → once_below x (task.number + 1) ≡ once_below x task.number + tasks_at x (task ∷ [])
once_more x task = grind (arith, nat_tests)

pub none_below : (x : ℕ) → 0 ≡ once_below x 0
none_below x = grind (arith, nat_tests)

-- of two lists of tasks, what holds of each
pub All-parts : (P : Task → Type 0) (xs ys : List Task) → All P (xs ++ ys) → All P xs × All P ys
All-parts P [] ys all = (λ k d lt. absurd (omega arith), all)
All-parts P (x ∷ xs) ys all =
    let rest = All-parts P xs ys (λ k d lt. all (suc k) d (omega arith)) in
    (λ k d lt. first k d lt (all 0 d (omega arith)) rest.0, rest.1)
  where
    first : (k : ℕ) (d : Task) → k < length (x ∷ xs) → P x → All P xs → P (get_or (x ∷ xs) k d)
    first zero d lt here others = here
    first (suc k) d lt here others = others k d (omega arith)

get_front : (put : List Region) (b : Region) (k : ℕ) (c : Region) → slice_get put k ≡ Some c → slice_get (put ++ b ∷ []) k ≡ Some c
get_front [] b k c e = absurd (cc)
get_front (p ∷ ps) b zero c e = e
get_front (p ∷ ps) b (suc k) c e = get_front ps b k c e

pub get_last : (put : List Region) (b : Region) (n : ℕ) → n ≡ length put → slice_get (put ++ b ∷ []) n ≡ Some b
get_last [] b zero e = refl
get_last [] b (suc n) e = absurd (omega arith)
get_last (p ∷ ps) b zero e = absurd (omega arith)
get_last (p ∷ ps) b (suc n) e = get_last ps b n (omega arith)

-- what was put stays put where more is
pub put_more : (put : List Region) (b : Region) (tasks : List Task) → All (IsPut put) tasks → All (IsPut (put ++ b ∷ [])) tasks
put_more put b tasks all = All-weaker (IsPut put) (IsPut (put ++ b ∷ [])) (λ task. get_front put b task.number task.branch.region) tasks all

-- where nothing was put, no task is right
pub none_put : (put : List Region) (tasks : List Task) → put ≡ [] → All (IsPut put) tasks → tasks ≡ []
none_put put [] empty all = refl
none_put [] (task ∷ tasks) empty all = let here = all 0 task (omega arith) in absurd (cc)
none_put (p ∷ ps) (task ∷ tasks) empty all = absurd (cc)
