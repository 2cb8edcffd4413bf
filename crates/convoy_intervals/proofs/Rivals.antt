-- The last commit of the target and its rivals, found message by message.
use Rattle.std.specs.Prelude.{◌≡◌, ℕ, suc, ◌+◌, ◌-◌, ◌<◌, ◌≤◌, nat_le, max, Bool, true, false, ◌&&◌, List, ◌∷◌, map, length, cond}
use Rattle.std.specs.List.{fold, filter, range_with_len}
use Rattle.std.proofs.Common.{refl, sym, ap, ap₂, ◌∙◌, arith}
use Rattle.convoy_scenario.specs.Scenario.{Scenario, message_at, is_addressed}
use Rattle.convoy_packets.specs.Table.{least_of}
use Rattle.convoy_sim.specs.Times.{arrive, settle}
use Rattle.convoy_intervals.specs.Boxes.{greatest_of}
use Rattle.convoy_intervals.specs.Bounds.{Tables, tables_of, plain_bound_over, plain_bound}

-- the greatest of `last` and of what f gives for those of the numbers from `from` on that pass both tests
pub greatest_passing : (p q : ℕ → Bool) (f : ℕ → ℕ) → ℕ → ℕ → ℕ → ℕ
greatest_passing p q f last from more = fold max last (map f (filter q (filter p (range_with_len from more))))

pub greatest_passing-zero : (p q : ℕ → Bool) (f : ℕ → ℕ) (last from : ℕ) → greatest_passing p q f last from 0 ≡ last
unfolding greatest_passing
greatest_passing-zero p q f last from = refl

pub greatest_passing-suc : (p q : ℕ → Bool) (f : ℕ → ℕ) (last from more : ℕ) → greatest_passing p q f last from (suc more) ≡ greatest_passing p q f (cond (p from && q from) (max last (f from)) last) (from + 1) more
unfolding greatest_passing
greatest_passing-suc p q f last from more = first (p from) where
  rest : List ℕ
  rest = filter p (range_with_len (from + 1) more)

  second : (b : Bool) → fold max last (map f (cond b (from ∷ filter q rest) (filter q rest))) ≡ fold max (cond b (max last (f from)) last) (map f (filter q rest))
  second true = refl
  second false = refl

  first : (a : Bool) → fold max last (map f (filter q (cond a (from ∷ rest) rest))) ≡ fold max (cond (a && q from) (max last (f from)) last) (map f (filter q rest))
  first true = second (q from)
  first false = refl

-- one number more
pub passing_step : (p q : ℕ → Bool) (f : ℕ → ℕ) (total last next i end : ℕ) → i < end → next ≡ cond (p i && q i) (max last (f i)) last → greatest_passing p q f last i (end - i) ≡ total → greatest_passing p q f next (i + 1) (end - (i + 1)) ≡ total
passing_step p q f total last next i end below is so_far =
    let more : end - i ≡ suc (end - (i + 1)) = omega arith in
    ap (λ n. greatest_passing p q f n (i + 1) (end - (i + 1))) is ∙ sym (greatest_passing-suc p q f last i (end - (i + 1))) ∙ sym (ap (λ n. greatest_passing p q f last i n) more) ∙ so_far

-- no number left
pub passing_end : (p q : ℕ → Bool) (f : ℕ → ℕ) (total last i end : ℕ) → end ≤ i → greatest_passing p q f last i (end - i) ≡ total → last ≡ total
passing_end p q f total last i end past so_far =
    let none : end - i ≡ 0 = omega arith in
    sym (greatest_passing-zero p q f last i) ∙ sym (ap (λ n. greatest_passing p q f last i n) none) ∙ so_far

-- the plain bound over tables, from the messages that pass the tests of its rivals
pub plain_bound_over_is : (plan : Scenario) (tables : Tables) (committed : ℕ) → committed ≡ tables.greatest_settling plan.target_message plan.target_group → plain_bound_over plan tables ≡ greatest_passing (λ n. is_addressed (message_at plan n) plan.target_group) (λ n. nat_le (tables.least_arrival n plan.target_group) committed) (λ n. tables.greatest_settling n plan.target_group) committed 0 (length plan.multicasts) - (message_at plan plan.target_message).at
unfolding greatest_passing
plain_bound_over_is plan tables committed is =
    let group = plan.target_group in
    let settled = tables.greatest_settling plan.target_message group in
    let goes = λ (n : ℕ). is_addressed (message_at plan n) group in
    let comes_by = λ (c n : ℕ). nat_le (tables.least_arrival n group) c in
    let committed_at = λ (n : ℕ). tables.greatest_settling n group in
    let rivals_by = λ (c : ℕ). map committed_at (filter (comes_by c) (filter goes (range_with_len 0 (length plan.multicasts)))) in
    let first : max 0 settled ≡ settled = omega arith in
    ap (λ c. fold max c (rivals_by settled) - (message_at plan plan.target_message).at) first ∙ ap (λ c. fold max c (rivals_by c) - (message_at plan plan.target_message).at) (sym is)

pub plain_bound_over_told : (plan : Scenario) (tables : Tables) (committed last count at result : ℕ) → committed ≡ tables.greatest_settling plan.target_message plan.target_group → last ≡ greatest_passing (λ n. is_addressed (message_at plan n) plan.target_group) (λ n. nat_le (tables.least_arrival n plan.target_group) committed) (λ n. tables.greatest_settling n plan.target_group) committed 0 count → count ≡ length plan.multicasts → at ≡ (message_at plan plan.target_message).at → result ≡ last - at → result ≡ plain_bound_over plan tables
plain_bound_over_told plan tables committed last count at result is last_is count_is at_is result_is =
    let from = greatest_passing (λ n. is_addressed (message_at plan n) plan.target_group) (λ n. nat_le (tables.least_arrival n plan.target_group) committed) (λ n. tables.greatest_settling n plan.target_group) committed 0 in
    result_is ∙ ap₂ (λ x y. x - y) (last_is ∙ ap from count_is) at_is ∙ sym (plain_bound_over_is plan tables committed is)

-- and that of a box
pub plain_bound_is : (plan : Scenario) (ranges : List (ℕ × ℕ)) (committed : ℕ) → committed ≡ settle plan (greatest_of ranges) plan.target_message plan.target_group → plain_bound plan ranges ≡ greatest_passing (λ n. is_addressed (message_at plan n) plan.target_group) (λ n. nat_le (arrive plan (least_of ranges) n plan.target_group) committed) (λ n. settle plan (greatest_of ranges) n plan.target_group) committed 0 (length plan.multicasts) - (message_at plan plan.target_message).at
unfolding plain_bound
plain_bound_is plan ranges committed is = plain_bound_over_is plan (tables_of plan ranges) committed is
