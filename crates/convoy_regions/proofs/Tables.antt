-- Tables of what comes before what: rows of stages, and what a precedence more changes.
use Rattle.std.proofs.Common.{◌≡◌, ℕ, ◌+◌, ◌*◌, ◌%◌, ◌<◌, ◌≤◌, ◌==◌, Bool, true, false, ◌&&◌, ◌||◌, replicate, refl, ap, sym, ◌∙◌, inl, inr, eq-eqb, ne_eqb, arith}
use Rattle.std.proofs.lemmas.Bool.{cases_eq, cases_lt, false_from_ne_true}
use Rattle.std.proofs.lemmas.Bool.Decides.{nat_tests}
use Rattle.std.proofs.lemmas.List.{get_or-replicate, get_or_past}
use Rattle.convoy_sim.specs.declared.moment.MomentKind.{MomentKind}
use Rattle.convoy_sim.specs.declared.moment.MomentKind.TheVariants.{Arrival, Commit}
use Rattle.convoy_sim.specs.Moments.{is_kind_before, is_same_kind}
use Rattle.convoy_regions.specs.declared.stage.Stage.{Stage}
use Rattle.convoy_regions.specs.declared.known.Row.{Row}
use Rattle.convoy_regions.specs.declared.known.Table.{Table}
use Rattle.convoy_regions.specs.Stages.{Precedence, is_own, is_same, with_precedence}
use Rattle.convoy_regions.specs.Known.{IsLow, IsLowPair, Says, cell, entry, no_row, row_by, row_of}

-- ---- Rows

low_by : (k : MomentKind) (m : ℕ) → m < 16 → row_by k m < 32
low_by Arrival m low = omega (arith, low)
low_by Commit m low = omega (arith, low)

pub low_row : (a : Stage) → IsLow a → row_of a < 32
low_row a low = low_by a.kind a.message low.message

and_true : (x : Bool) → (x && true) ≡ x
and_true true = refl
and_true false = refl

same_row : (j k : MomentKind) (m n : ℕ) → (row_by j m == row_by k n) ≡ (is_same_kind j k && (m == n))
same_row Arrival Arrival m n = grind (arith, nat_tests)
same_row Commit Commit m n = grind (arith, nat_tests)
same_row Arrival Commit m n = grind (arith, nat_tests)
same_row Commit Arrival m n = grind (arith, nat_tests)

-- of two stages of one group, the rows are equal just where the stages are the same
pub rows_tell : (a b : Stage) → a.group ≡ b.group → (row_of a == row_of b) ≡ is_same a b
rows_tell a b at_one =
    same_row a.kind b.kind a.message b.message
    ∙ sym (and_true (is_same_kind a.kind b.kind && (a.message == b.message)))
    ∙ ap (λ t. is_same_kind a.kind b.kind && (a.message == b.message) && t) (sym (eq-eqb a.group b.group at_one))

-- ---- By no precedence

no_cell : (c : ℕ) → cell (record { cells = replicate 32 false }) c ≡ false
no_cell c = elim (cases_lt c 32) [
  | inl below ↦ get_or-replicate 32 c false false below
  | inr above ↦ get_or_past (replicate 32 false) c false above
]

-- a table whose cells are all empty
pub no_entry : (r c : ℕ) → entry (record { rows = replicate 32 (record { cells = replicate 32 false }) }) r c ≡ false
no_entry r c =
    let row : Row = record { cells = replicate 32 false } in
    elim (cases_lt r 32) [
      | inl below ↦ ap (λ x. cell x c) (get_or-replicate 32 r row no_row below) ∙ no_cell c
      | inr above ↦ ap (λ x. cell x c) (get_or_past (replicate 32 row) r no_row above)
    ]

own_by :
    (table : Table) (j k : MomentKind) (m n : ℕ)
    → m < 16
    → n < 16
    → ((m : ℕ) → m < 16 → entry table (2 * m) (2 * m + 1) ≡ true)
    → ((r c : ℕ) → c < 32 → entry table r c ≡ true → (c ≡ r + 1) × (r % 2 ≡ 0))
    → entry table (row_by j m) (row_by k n) ≡ (is_kind_before j k && (m == n))
own_by table Arrival Arrival m n low_m low_n all only = false_from_ne_true _ (λ has. let is = only (2 * m) (2 * n) (omega arith) has in omega (arith, is.0, is.1))
own_by table Commit Arrival m n low_m low_n all only = false_from_ne_true _ (λ has. let is = only (2 * m + 1) (2 * n) (omega arith) has in omega (arith, is.0, is.1))
own_by table Commit Commit m n low_m low_n all only = false_from_ne_true _ (λ has. let is = only (2 * m + 1) (2 * n + 1) (omega arith) has in omega (arith, is.0, is.1))
own_by table Arrival Commit m n low_m low_n all only = elim (cases_eq m n) [
  | inl same ↦ rw (← same, eq-eqb m m refl) (all m low_m)
  | inr apart ↦ rw (ne_eqb m n apart) (false_from_ne_true _ (λ has. let is = only (2 * m) (2 * n + 1) (omega arith) has in apart (omega (arith, is.0))))
]

-- a table that has, of each message, the commit after the arrival, and no more
pub own_said :
    (table : Table)
    → ((m : ℕ) → m < 16 → entry table (2 * m) (2 * m + 1) ≡ true)
    → ((r c : ℕ) → c < 32 → entry table r c ≡ true → (c ≡ r + 1) × (r % 2 ≡ 0))
    → (g : ℕ)
    → Says g is_own table
own_said table all only g a b low_a low_b at_a at_b =
    own_by table a.kind b.kind a.message b.message low_a.message low_b.message all only
    ∙ sym (and_true (is_kind_before a.kind b.kind && (a.message == b.message)))
    ∙ ap (λ t. is_kind_before a.kind b.kind && (a.message == b.message) && t) (sym (eq-eqb a.group b.group (at_a ∙ sym at_b)))

-- ---- A precedence more

joined : (t x y z p s u v w q c : Bool) → t ≡ s → x ≡ u → y ≡ v → z ≡ w → p ≡ q → c ≡ (z || p) → (t || ((x || y) && c)) ≡ (s || ((u || v) && (w || q)))
joined t x y z p s u v w q c a b d e f g = rw (g, a, b, d, e, f) refl

-- a table that has what it had, and in the rows of the first stage of a precedence and of those before it also the second and what comes after that, has a precedence more
pub added :
    (pair : Precedence) (first second : ℕ) (old new : Table) (after : Row) (i : ℕ)
    → first ≡ row_of pair.0
    → second ≡ row_of pair.1
    → IsLowPair pair
    → 32 ≤ i
    → ((r k : ℕ) → r < i → k < 32 → entry new r k ≡ (entry old r k || (((r == first) || entry old r first) && cell after k)))
    → ((k : ℕ) → k < 32 → cell after k ≡ ((second == k) || entry old second k))
    → (known : Stage → Stage → Bool)
    → Says pair.0.group known old
    → Says pair.0.group (with_precedence known pair) new
added pair first second old new after i at_first at_second low over grown rest known said a b low_a low_b at_a at_b =
    let one = low.one_group in
    let row = low_row a low_a in
    grown (row_of a) (row_of b) (omega (arith, row, over)) (low_row b low_b)
    ∙ joined
    (entry old (row_of a) (row_of b)) (row_of a == first) (entry old (row_of a) first) (second == row_of b) (entry old second (row_of b))
    (known a b) (is_same a pair.0) (known a pair.0) (is_same pair.1 b) (known pair.1 b) (cell after (row_of b))
    (said a b low_a low_b at_a at_b)
    (ap (λ r. row_of a == r) at_first ∙ rows_tell a pair.0 at_a)
    (ap (entry old (row_of a)) at_first ∙ said a pair.0 low_a low.first at_a refl)
    (ap (λ r. r == row_of b) at_second ∙ rows_tell pair.1 b (sym one ∙ sym at_b))
    (ap (λ r. entry old r (row_of b)) at_second ∙ said pair.1 b low.second low_b (sym one) at_b)
    (rest (row_of b) (low_row b low_b))
