-- Orders of ties and their lists of ranks: each gives the other.
use Rattle.std.proofs.Common.{◌≡◌, ◌↔◌, ◌∙◌, ℕ, ℤ, pos, negsuc, zero, suc, ◌+◌, ◌-◌, ◌*◌, ◌/◌, ◌%◌, ◌<◌, ◌≤◌, ◌==◌, Bool, true, false, ◌&&◌, nat_le, if◌then◌else◌, List, [], ◌∷◌, ◌++◌, length, get_or, drop, take, replicate, Result, Ok, Err, Some, None, Option, arith, refl, sym, ap, ap₂, append_assoc, set, ◌⊎◌, inl, inr}
use Rattle.std.specs.Prelude.{IsFalse, IsTrue}
use Rattle.std.specs.List.{AllByRecursion, list_all}
use Rattle.std.proofs.lemmas.Bool.Decides.{nat_tests}
use Rattle.std.proofs.lemmas.Bool.{and_parts, and_from, eqb-true}
use Rattle.std.proofs.lemmas.List.{length-replicate, get_or-replicate, get_or-set_other, length-set, length-drop, drop_more, drop_all, take_all, take_more, take_more_set, append-nil}
use Rattle.std.proofs.lemmas.List.Elements.{All-from_recursion, recursion_from_All}
use Rattle.std.proofs.lemmas.List.FromFn.{length-map-range_with_len, get_or-map-range_with_len}
use Rattle.convoy_draft.specs.declared.time.Time.TheVariants.{Ticks, Real}
use Rattle.convoy_scenario.specs.Memory.{IsUnlessMemory}
use Rattle.convoy_scenario.specs.Scenario.{Scenario, message_at, is_addressed}
use Rattle.convoy_packets.specs.declared.fault.ListFault.{ListFault}
use Rattle.convoy_packets.specs.declared.fault.ListFault.TheVariants.{Memory, Range}
use Rattle.convoy_packets.specs.declared.order.TheConstants.{GREATEST_RANK}
use Rattle.convoy_packets.specs.Order.{AreRanks, IsOrder, Order, no_order, rank_at}
use Rattle.convoy_packets.specs.Given.{delay_given, put_first}
use Rattle.convoy_packets.specs.OrderLists.{AreSmall, by_place, has_moments, is_no_order, marks_of, order_of, put_place, rank_count, rank_count_at, ranks_at, ranks_given, ranks_of}

-- ---- tables and lists, by marks

-- a table has as many ranks as there are marks, and where a place is not marked its rank is 0
abbrev pub AreMarked : List Bool → List ℕ → Type 0
AreMarked [] [] = Unit {0}
AreMarked (true ∷ marks) (rank ∷ ranks) = AreMarked marks ranks
AreMarked (false ∷ marks) (rank ∷ ranks) = (rank ≡ 0) × AreMarked marks ranks
AreMarked marks ranks = ⊥

-- no rank of a table is too great
abbrev AreLow : List ℕ → Type 0
AreLow ranks = AllByRecursion (λ rank. rank ≤ GREATEST_RANK) ranks

tables_again : (marks : List Bool) (arrivals commits : List ℕ) → AreMarked marks arrivals → AreMarked marks commits → by_place marks (ranks_at marks arrivals commits) ≡ record { arrivals = arrivals; commits = commits }
tables_again [] [] [] p q = refl
tables_again [] [] (c ∷ commits) p q = absurd q
tables_again [] (a ∷ arrivals) commits p q = absurd p
tables_again (true ∷ marks) [] commits p q = absurd p
tables_again (true ∷ marks) (a ∷ arrivals) [] p q = absurd q
tables_again (true ∷ marks) (a ∷ arrivals) (c ∷ commits) p q = ap (put_place a c) (tables_again marks arrivals commits p q)
tables_again (false ∷ marks) [] commits p q = absurd p
tables_again (false ∷ marks) (a ∷ arrivals) [] p q = absurd q
tables_again (false ∷ marks) (a ∷ arrivals) (c ∷ commits) p q =
    ap (put_place 0 0) (tables_again marks arrivals commits p.1 q.1)
    ∙ ap₂ (λ (x y : ℕ). record { arrivals = x ∷ arrivals; commits = y ∷ commits }) (sym p.0) (sym q.0)

ranks_again : (marks : List Bool) (ranks : List ℕ) → length ranks ≡ rank_count_at marks → ranks_at marks (by_place marks ranks).arrivals (by_place marks ranks).commits ≡ ranks
ranks_again [] [] long = refl
ranks_again [] (r ∷ ranks) long = absurd (omega arith)
ranks_again (false ∷ marks) ranks long = ranks_again marks ranks long
ranks_again (true ∷ marks) [] long = absurd (omega arith)
ranks_again (true ∷ marks) (a ∷ []) long = absurd (omega arith)
ranks_again (true ∷ marks) (a ∷ c ∷ ranks) long = ap (λ rest. a ∷ c ∷ rest) (ranks_again marks ranks (omega arith))

-- the tables of a list are marked
arrivals_marked : (marks : List Bool) (ranks : List ℕ) → AreMarked marks (by_place marks ranks).arrivals
arrivals_marked [] ranks = tt
arrivals_marked (false ∷ marks) ranks = (refl, arrivals_marked marks ranks)
arrivals_marked (true ∷ marks) [] = arrivals_marked marks []
arrivals_marked (true ∷ marks) (a ∷ []) = arrivals_marked marks (a ∷ [])
arrivals_marked (true ∷ marks) (a ∷ c ∷ ranks) = arrivals_marked marks ranks

commits_marked : (marks : List Bool) (ranks : List ℕ) → AreMarked marks (by_place marks ranks).commits
commits_marked [] ranks = tt
commits_marked (false ∷ marks) ranks = (refl, commits_marked marks ranks)
commits_marked (true ∷ marks) [] = commits_marked marks []
commits_marked (true ∷ marks) (a ∷ []) = commits_marked marks (a ∷ [])
commits_marked (true ∷ marks) (a ∷ c ∷ ranks) = commits_marked marks ranks

-- the tables of a list of low ranks are low, and the list of low tables is
arrivals_low : (marks : List Bool) (ranks : List ℕ) → AreLow ranks → AreLow (by_place marks ranks).arrivals
arrivals_low [] ranks low = tt
arrivals_low (false ∷ marks) ranks low = (omega arith, arrivals_low marks ranks low)
arrivals_low (true ∷ marks) [] low = (omega arith, arrivals_low marks [] low)
arrivals_low (true ∷ marks) (a ∷ []) low = (omega arith, arrivals_low marks (a ∷ []) low)
arrivals_low (true ∷ marks) (a ∷ c ∷ ranks) low = (low.0, arrivals_low marks ranks low.1.1)

commits_low : (marks : List Bool) (ranks : List ℕ) → AreLow ranks → AreLow (by_place marks ranks).commits
commits_low [] ranks low = tt
commits_low (false ∷ marks) ranks low = (omega arith, commits_low marks ranks low)
commits_low (true ∷ marks) [] low = (omega arith, commits_low marks [] low)
commits_low (true ∷ marks) (a ∷ []) low = (omega arith, commits_low marks (a ∷ []) low)
commits_low (true ∷ marks) (a ∷ c ∷ ranks) low = (low.1.0, commits_low marks ranks low.1.1)

ranks_low : (marks : List Bool) (arrivals commits : List ℕ) → AreLow arrivals → AreLow commits → AreLow (ranks_at marks arrivals commits)
ranks_low [] arrivals commits p q = tt
ranks_low (true ∷ marks) [] commits p q = tt
ranks_low (true ∷ marks) (a ∷ arrivals) [] p q = tt
ranks_low (true ∷ marks) (a ∷ arrivals) (c ∷ commits) p q = (p.0, (q.0, ranks_low marks arrivals commits p.1 q.1))
ranks_low (false ∷ marks) [] commits p q = tt
ranks_low (false ∷ marks) (a ∷ arrivals) [] p q = tt
ranks_low (false ∷ marks) (a ∷ arrivals) (c ∷ commits) p q = ranks_low marks arrivals commits p.1 q.1

-- how many there are
ranks_counted : (marks : List Bool) (arrivals commits : List ℕ) → AreMarked marks arrivals → AreMarked marks commits → length (ranks_at marks arrivals commits) ≡ rank_count_at marks
ranks_counted [] arrivals commits p q = refl
ranks_counted (true ∷ marks) [] commits p q = absurd p
ranks_counted (true ∷ marks) (a ∷ arrivals) [] p q = absurd q
ranks_counted (true ∷ marks) (a ∷ arrivals) (c ∷ commits) p q = let rest = ranks_counted marks arrivals commits p q in omega arith
ranks_counted (false ∷ marks) [] commits p q = absurd p
ranks_counted (false ∷ marks) (a ∷ arrivals) [] p q = absurd q
ranks_counted (false ∷ marks) (a ∷ arrivals) (c ∷ commits) p q = ranks_counted marks arrivals commits p.1 q.1

marked_long : (marks : List Bool) (ranks : List ℕ) → AreMarked marks ranks → length ranks ≡ length marks
marked_long [] [] p = refl
marked_long [] (r ∷ ranks) p = absurd p
marked_long (true ∷ marks) [] p = absurd p
marked_long (true ∷ marks) (r ∷ ranks) p = let rest = marked_long marks ranks p in omega arith
marked_long (false ∷ marks) [] p = absurd p
marked_long (false ∷ marks) (r ∷ ranks) p = let rest = marked_long marks ranks p.1 in omega arith

counted_low : (marks : List Bool) → rank_count_at marks ≤ 2 * length marks
counted_low [] = omega arith
counted_low (true ∷ marks) = let rest = counted_low marks in omega arith
counted_low (false ∷ marks) = let rest = counted_low marks in omega arith

-- where no mark stands the rank is 0, and the other way round
marked_at : (marks : List Bool) (ranks : List ℕ) (i : ℕ) → AreMarked marks ranks → get_or marks i true ≡ false → get_or ranks i 0 ≡ 0
marked_at [] ranks i p none = absurd cc
marked_at (true ∷ marks) [] i p none = absurd p
marked_at (true ∷ marks) (r ∷ ranks) zero p none = absurd cc
marked_at (true ∷ marks) (r ∷ ranks) (suc i) p none = marked_at marks ranks i p none
marked_at (false ∷ marks) [] i p none = absurd p
marked_at (false ∷ marks) (r ∷ ranks) zero p none = p.0
marked_at (false ∷ marks) (r ∷ ranks) (suc i) p none = marked_at marks ranks i p.1 none

marked_if : (marks : List Bool) (ranks : List ℕ) → length ranks ≡ length marks → ((i : ℕ) → i < length marks → get_or marks i true ≡ false → get_or ranks i 0 ≡ 0) → AreMarked marks ranks
marked_if [] [] long none = tt
marked_if [] (r ∷ ranks) long none = absurd (omega arith)
marked_if (true ∷ marks) [] long none = absurd (omega arith)
marked_if (true ∷ marks) (r ∷ ranks) long none = marked_if marks ranks (omega arith) (λ i below. none (suc i) (omega arith))
marked_if (false ∷ marks) [] long none = absurd (omega arith)
marked_if (false ∷ marks) (r ∷ ranks) long none =
    (none 0 (omega arith) refl, marked_if marks ranks (omega arith) (λ i below. none (suc i) (omega arith)))

-- no ranks are ranks that are all 0
none_by_place : (marks : List Bool) → by_place marks [] ≡ record { arrivals = replicate (length marks) 0; commits = replicate (length marks) 0 }
none_by_place [] = refl
none_by_place (true ∷ marks) = ap (put_place 0 0) (none_by_place marks)
none_by_place (false ∷ marks) = ap (put_place 0 0) (none_by_place marks)

all_zero : (ranks : List ℕ) → list_all (λ rank. rank == 0) ranks ≡ true → ranks ≡ replicate (length ranks) 0
all_zero [] e = refl
all_zero (r ∷ ranks) e =
    let both = and_parts (r == 0) (list_all (λ rank. rank == 0) ranks) e in
    ap₂ (λ (x : ℕ) (xs : List ℕ). x ∷ xs) (eqb-true r 0 both.0) (all_zero ranks both.1)

zeros_all : (n : ℕ) → list_all (λ rank. rank == 0) (replicate n 0) ≡ true
zeros_all zero = refl
zeros_all (suc n) = zeros_all n

-- ---- tables that are written place by place

-- a place takes no ranks where it is not marked, or where there are not two
skips : (mark : Bool) (marks : List Bool) (ranks : List ℕ) → (mark ≡ false) ⊎ (length ranks < 2) → by_place (mark ∷ marks) ranks ≡ put_place 0 0 (by_place marks ranks)
skips false marks ranks none = refl
skips true marks [] none = refl
skips true marks (a ∷ []) none = refl
skips true marks (a ∷ c ∷ ranks) (inl unmarked) = absurd cc
skips true marks (a ∷ c ∷ ranks) (inr short) = absurd (omega arith)

-- a table has all its places, and from one place on nothing is written in it
pub record AreUnwritten (i : ℕ) (table : List ℕ) : Type 0 where
  pub long : length table ≡ 128
  pub zero : (k : ℕ) → i ≤ k → k < 128 → get_or table k 0 ≡ 0

-- the first places of two tables, and then the places of an order
abbrev pub first_places : ℕ → List ℕ → List ℕ → Order → Order
first_places i arrivals commits rest = record { arrivals = take i arrivals ++ rest.arrivals; commits = take i commits ++ rest.commits }

one_more : (i : ℕ) (table : List ℕ) (rank : ℕ) (rest : List ℕ) → length table ≡ 128 → i < 128 → take (i + 1) (set table i rank) ++ rest ≡ take i table ++ rank ∷ rest
one_more i table rank rest long below =
    ap (λ xs. xs ++ rest) (take_more_set table i rank (omega arith)) ∙ append_assoc (take i table) (rank ∷ []) rest

one_skipped : (i : ℕ) (table rest : List ℕ) → AreUnwritten i table → i < 128 → take (i + 1) table ++ rest ≡ take i table ++ 0 ∷ rest
one_skipped i table rest unwritten below =
    ap (λ xs. xs ++ rest) (take_more table i 0 (omega (arith, unwritten.long)) ∙ ap (λ x. take i table ++ x ∷ []) (unwritten.zero i (omega arith) below))
    ∙ append_assoc (take i table) (0 ∷ []) rest

pub written_after : (i : ℕ) (table : List ℕ) (rank : ℕ) → AreUnwritten i table → AreUnwritten (i + 1) (set table i rank)
written_after i table rank unwritten = record {
  long = length-set table i rank ∙ unwritten.long;
  zero = λ k le below. get_or-set_other table i k rank 0 (λ same. omega arith) ∙ unwritten.zero k (omega arith) below;
}

pub unwritten_after : (i : ℕ) (table : List ℕ) → AreUnwritten i table → AreUnwritten (i + 1) table
unwritten_after i table unwritten = record { long = unwritten.long; zero = λ k le below. unwritten.zero k (omega arith) below }

pub unwritten : AreUnwritten 0 (replicate 128 0)
unwritten = record { long = length-replicate {A = ℕ} 128 0; zero = λ k le below. get_or-replicate 128 k 0 0 below }

-- what follows the first two of a list
pub past_two : (ranks : List ℕ) → take (length ranks - 2) (drop 2 ranks) ≡ drop 2 ranks
past_two ranks = take_all (length ranks - 2) (drop 2 ranks) (omega (arith, length-drop 2 ranks))

-- ---- lists of numbers

small_rank : (z : ℤ) (rank : ℕ) → delay_given (0, GREATEST_RANK) z ≡ Some rank → rank ≤ GREATEST_RANK
small_rank (pos n) rank e = below n rank e where
  below : (n rank : ℕ) → (if nat_le 0 n && nat_le n GREATEST_RANK then Some n else None) ≡ Some rank → rank ≤ GREATEST_RANK
  below n rank e = grind (arith, nat_tests)
small_rank (negsuc n) rank e = cc

low_if_given : (i : ℕ) (numbers : List ℤ) (ranks : List ℕ) → ranks_given i numbers ≡ Ok ranks → AreLow ranks
low_if_given i [] [] e = tt
low_if_given i [] (r ∷ ranks) e = absurd cc
low_if_given i (z ∷ numbers) ranks e = put (delay_given (0, GREATEST_RANK) z) (ranks_given (i + 1) numbers) ranks (small_rank z) (low_if_given (i + 1) numbers) e where
  put : (o : Option ℕ) (rest : Result (List ℕ) ListFault) (ranks : List ℕ) → ((rank : ℕ) → o ≡ Some rank → rank ≤ GREATEST_RANK) → ((others : List ℕ) → rest ≡ Ok others → AreLow others) → put_first (Range i) o rest ≡ Ok ranks → AreLow ranks
  put None rest ranks first others e = absurd cc
  put (Some rank) (Err fault) ranks first others e = absurd cc
  put (Some rank) (Ok more) [] first others e = absurd cc
  put (Some rank) (Ok more) (r ∷ ranks) first others e =
      let head : r ≡ rank = cc in
      let tail : ranks ≡ more = cc in
      (rw head (first rank refl), rw tail (others more refl))

-- what was given is small
pub given_small : (numbers : List ℤ) (ranks : List ℕ) → IsUnlessMemory Memory (ranks_given 0 numbers) (Ok ranks) → AreSmall ranks
given_small numbers ranks (inl is) = All-from_recursion (λ rank. rank ≤ GREATEST_RANK) ranks (low_if_given 0 numbers ranks (sym is))
given_small numbers ranks (inr is) = absurd cc

-- ---- the marks of a scenario

module _ (plan : Scenario) where
  pub length-marks : length (marks_of plan) ≡ 128
  unfolding marks_of
  length-marks = length-map-range_with_len (has_moments plan) 0 128

  mark_at : (i : ℕ) (d : Bool) → i < 128 → get_or (marks_of plan) i d ≡ has_moments plan i
  unfolding marks_of
  mark_at i d below = get_or-map-range_with_len (has_moments plan) 0 128 i i d below (omega arith)

  pub marks_more : (i : ℕ) → i < 128 → drop i (marks_of plan) ≡ has_moments plan i ∷ drop (i + 1) (marks_of plan)
  marks_more i below =
      drop_more (marks_of plan) i true (rw length-marks below) ∙ ap (λ mark. mark ∷ drop (i + 1) (marks_of plan)) (mark_at i true below)

  -- one place more, and all of them
  pub counted_more : (i : ℕ) → i < 128 → has_moments plan i ≡ true → rank_count_at (drop i (marks_of plan)) ≡ rank_count_at (drop (i + 1) (marks_of plan)) + 2
  counted_more i below marked = ap rank_count_at (marks_more i below ∙ ap (λ mark. mark ∷ drop (i + 1) (marks_of plan)) marked)

  pub counted_skipped : (i : ℕ) → i < 128 → has_moments plan i ≡ false → rank_count_at (drop i (marks_of plan)) ≡ rank_count_at (drop (i + 1) (marks_of plan))
  counted_skipped i below unmarked = ap rank_count_at (marks_more i below ∙ ap (λ mark. mark ∷ drop (i + 1) (marks_of plan)) unmarked)

  pub marks_over : (i : ℕ) → 128 ≤ i → drop i (marks_of plan) ≡ []
  marks_over i over = drop_all i (marks_of plan) (rw length-marks over)

  pub listed_more : (arrivals commits : List ℕ) (i : ℕ) → length arrivals ≡ 128 → length commits ≡ 128 → i < 128 → has_moments plan i ≡ true
      → ranks_at (drop i (marks_of plan)) (drop i arrivals) (drop i commits) ≡ get_or arrivals i 0 ∷ get_or commits i 0 ∷ ranks_at (drop (i + 1) (marks_of plan)) (drop (i + 1) arrivals) (drop (i + 1) commits)
  listed_more arrivals commits i a c below marked =
      rw (marks_more i below, marked, drop_more arrivals i 0 (omega arith), drop_more commits i 0 (omega arith)) refl

  pub listed_skipped : (arrivals commits : List ℕ) (i : ℕ) → length arrivals ≡ 128 → length commits ≡ 128 → i < 128 → has_moments plan i ≡ false
      → ranks_at (drop i (marks_of plan)) (drop i arrivals) (drop i commits) ≡ ranks_at (drop (i + 1) (marks_of plan)) (drop (i + 1) arrivals) (drop (i + 1) commits)
  listed_skipped arrivals commits i a c below unmarked =
      rw (marks_more i below, unmarked, drop_more arrivals i 0 (omega arith), drop_more commits i 0 (omega arith)) refl

  pub placed_more : (i : ℕ) (arrivals commits : List ℕ) (arrival commit : ℕ) (ranks : List ℕ) → length arrivals ≡ 128 → length commits ≡ 128 → i < 128 → has_moments plan i ≡ true
      → first_places (i + 1) (set arrivals i arrival) (set commits i commit) (by_place (drop (i + 1) (marks_of plan)) ranks) ≡ first_places i arrivals commits (by_place (drop i (marks_of plan)) (arrival ∷ commit ∷ ranks))
  placed_more i arrivals commits arrival commit ranks a c below marked =
      let rest = by_place (drop (i + 1) (marks_of plan)) ranks in
      ap₂ (λ (x y : List ℕ). record { arrivals = x; commits = y }) (one_more i arrivals arrival rest.arrivals a below) (one_more i commits commit rest.commits c below)
      ∙ ap (λ marks. first_places i arrivals commits (by_place marks (arrival ∷ commit ∷ ranks))) (sym (marks_more i below ∙ ap (λ mark. mark ∷ drop (i + 1) (marks_of plan)) marked))

  pub placed_two : (i : ℕ) (arrivals commits ranks : List ℕ) → AreUnwritten i arrivals → AreUnwritten i commits → i < 128 → has_moments plan i ≡ true → 2 ≤ length ranks
      → first_places (i + 1) (set arrivals i (get_or ranks 0 0)) (set commits i (get_or ranks 1 0)) (by_place (drop (i + 1) (marks_of plan)) (drop 2 ranks)) ≡ first_places i arrivals commits (by_place (drop i (marks_of plan)) ranks)
  placed_two i arrivals commits [] a c below marked long = absurd (omega arith)
  placed_two i arrivals commits (x ∷ []) a c below marked long = absurd (omega arith)
  placed_two i arrivals commits (x ∷ y ∷ ranks) a c below marked long = placed_more i arrivals commits x y ranks a.long c.long below marked

  pub placed_over : (i : ℕ) (arrivals commits ranks : List ℕ) → AreUnwritten i arrivals → AreUnwritten i commits → 128 ≤ i
      → record { arrivals = arrivals; commits = commits } ≡ first_places i arrivals commits (by_place (drop i (marks_of plan)) ranks)
  placed_over i arrivals commits ranks a c over =
      ap₂ (λ (x y : List ℕ). record { arrivals = x; commits = y }) (whole arrivals a.long) (whole commits c.long)
      ∙ ap (λ marks. first_places i arrivals commits (by_place marks ranks)) (sym (marks_over i over)) where
        whole : (table : List ℕ) → length table ≡ 128 → table ≡ take i table ++ []
        whole table long = sym (append-nil (take i table) ∙ take_all i table (omega arith))

  pub placed_skipped : (i : ℕ) (arrivals commits ranks : List ℕ) → AreUnwritten i arrivals → AreUnwritten i commits → i < 128 → (has_moments plan i ≡ false) ⊎ (length ranks < 2)
      → first_places (i + 1) arrivals commits (by_place (drop (i + 1) (marks_of plan)) ranks) ≡ first_places i arrivals commits (by_place (drop i (marks_of plan)) ranks)
  placed_skipped i arrivals commits ranks a c below skipped =
      let rest = by_place (drop (i + 1) (marks_of plan)) ranks in
      ap₂ (λ (x y : List ℕ). record { arrivals = x; commits = y }) (one_skipped i arrivals rest.arrivals a below) (one_skipped i commits rest.commits c below)
      ∙ ap (first_places i arrivals commits) (sym (ap (λ marks. by_place marks ranks) (marks_more i below) ∙ skips (has_moments plan i) (drop (i + 1) (marks_of plan)) ranks skipped))

  -- the ranks of an order are marked
  marked_ranks : (ranks : List ℕ) → AreRanks plan ranks → AreMarked (marks_of plan) ranks
  marked_ranks ranks are = marked_if (marks_of plan) ranks (are.long ∙ sym length-marks) none where
    none : (i : ℕ) → i < length (marks_of plan) → get_or (marks_of plan) i true ≡ false → get_or ranks i 0 ≡ 0
    none i below unmarked =
        let within : i < 128 = rw length-marks at below in
        let here : (i / 8) * 8 + i % 8 ≡ i = omega arith in
        rw here at (are.nowhere (i / 8) (i % 8) (omega arith) (omega arith) (sym (mark_at i true within) ∙ unmarked))

  -- marked tables of low ranks are those of an order
  ranks_of_marked : (ranks : List ℕ) → AreMarked (marks_of plan) ranks → AreLow ranks → AreRanks plan ranks
  ranks_of_marked ranks marked low = record {
    long = marked_long (marks_of plan) ranks marked ∙ length-marks;
    small = All-from_recursion (λ rank. rank ≤ GREATEST_RANK) ranks low;
    nowhere = nowhere;
  } where
    nowhere : (m g : ℕ) → m < 16 → g < 8 → IsFalse (is_addressed (message_at plan m) g) → rank_at ranks m g ≡ 0
    nowhere m g few below not =
        let message : (m * 8 + g) / 8 ≡ m = omega arith in
        let group : (m * 8 + g) % 8 ≡ g = omega arith in
        let mark : has_moments plan (m * 8 + g) ≡ is_addressed (message_at plan m) g = ap₂ (λ (x y : ℕ). is_addressed (message_at plan x) y) message group in
        marked_at (marks_of plan) ranks (m * 8 + g) marked (mark_at (m * 8 + g) true (omega arith) ∙ mark ∙ not)

  -- ---- the laws

  pub order_again : (order : Order) → IsOrder plan order → order_of plan (ranks_of plan order) ≡ order
  order_again order is = tables_again (marks_of plan) order.arrivals order.commits (marked_ranks order.arrivals is.arrivals) (marked_ranks order.commits is.commits)

  pub list_again : (ranks : List ℕ) → length ranks ≡ rank_count plan → ranks_of plan (order_of plan ranks) ≡ ranks
  list_again ranks long = ranks_again (marks_of plan) ranks long

  pub list_long : (order : Order) → IsOrder plan order → length (ranks_of plan order) ≡ rank_count plan
  list_long order is = ranks_counted (marks_of plan) order.arrivals order.commits (marked_ranks order.arrivals is.arrivals) (marked_ranks order.commits is.commits)

  pub list_low : (order : Order) → IsOrder plan order → AreSmall (ranks_of plan order)
  list_low order is =
      let Low = λ (rank : ℕ). rank ≤ GREATEST_RANK in
      All-from_recursion Low (ranks_of plan order) (ranks_low (marks_of plan) order.arrivals order.commits (recursion_from_All Low order.arrivals is.arrivals.small) (recursion_from_All Low order.commits is.commits.small))

  pub list_few : rank_count plan ≤ 256
  list_few = omega (arith, counted_low (marks_of plan), length-marks)

  -- the order of a list of low ranks is one of the scenario's in real time
  pub list_is_order : (ranks : List ℕ) → plan.time ≡ Real → AreSmall ranks → IsOrder plan (order_of plan ranks)
  list_is_order ranks real small =
      let low = recursion_from_All (λ (rank : ℕ). rank ≤ GREATEST_RANK) ranks small in
      let marks = marks_of plan in
      record {
        arrivals = ranks_of_marked (by_place marks ranks).arrivals (arrivals_marked marks ranks) (arrivals_low marks ranks low);
        commits = ranks_of_marked (by_place marks ranks).commits (commits_marked marks ranks) (commits_low marks ranks low);
        fixed = λ ticks. absurd (let no : Real ≡ Ticks = sym real ∙ ticks in cc);
      }

  pub no_list : order_of plan [] ≡ no_order
  unfolding no_order
  no_list = none_by_place (marks_of plan) ∙ ap (λ n. record { arrivals = replicate n 0; commits = replicate n 0 }) length-marks

  pub none_decided : (order : Order) → IsOrder plan order → IsTrue (is_no_order order) ↔ (order ≡ no_order)
  unfolding no_order
  none_decided order is = (there, back) where
    there : IsTrue (is_no_order order) → order ≡ no_order
    there yes_none =
        let both = and_parts (list_all (λ rank. rank == 0) order.arrivals) (list_all (λ rank. rank == 0) order.commits) yes_none in
        let arrivals : order.arrivals ≡ replicate 128 0 = all_zero order.arrivals both.0 ∙ ap (λ n. replicate n 0) is.arrivals.long in
        let commits : order.commits ≡ replicate 128 0 = all_zero order.commits both.1 ∙ ap (λ n. replicate n 0) is.commits.long in
        ap₂ (λ (x y : List ℕ). record { arrivals = x; commits = y }) arrivals commits

    back : order ≡ no_order → IsTrue (is_no_order order)
    back same = rw same (and_from _ _ (zeros_all 128) (zeros_all 128))
