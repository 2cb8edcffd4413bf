-- Runs: moments in order, read from clocks with no stamp given. How local and final stamps stand to the order of moments.
use Rattle.std.proofs.Common.{◌≡◌, ℕ, ◌<◌, ◌≤◌, Bool, true, false, not, ◌&&◌, ◌==◌, inl, inr, List, [], ◌∷◌, find, Some, None, option_map, unwrap_or, refl, sym, ap, subst, subst₂, ◌∙◌, arith}
use Rattle.std.specs.Option.{option_or}
use Rattle.std.proofs.lemmas.Bool.{cond-true, both_ways, eq-eqb, and_from, and_parts, eqb-true, not-true, false_from_ne_true}
use Rattle.std.proofs.lemmas.List.Folds.{find-append}
use Rattle.std.proofs.lemmas.Grind.{fold-append}
use Rattle.convoy_sim.specs.declared.moment.Moment.{Moment}
use Rattle.convoy_sim.specs.declared.moment.MomentKind.{MomentKind}
use Rattle.convoy_sim.specs.declared.moment.MomentKind.TheVariants.{Arrival, Commit}
use Rattle.convoy_sim.specs.Moments.{is_before}
use Rattle.convoy_sim.specs.Stamps.{GivenStamp, Clocks, is_less, no_stamp, clock_of, local_in, greatest_in, after_kind, after_moment}
use Rattle.convoy_sim.proofs.Membership.{IsIn, IsOnce, in_of_filter, in-filter, in_of_find, find-in, find_none}
use Rattle.convoy_sim.proofs.MomentsOrder.{before_itself, before_trans, time_of_not_less, same_from_not_less}
use Rattle.convoy_sim.proofs.MomentsInOrder.{IsOrdered, before, from_on, cut, filter_ordered}
use Rattle.convoy_sim.proofs.ClocksGrow.{read, IsArrivalOf, IsNew, AreWithin, find_stays, given_cases, given_stays, coming_gives, reached, greatest_over, greatest_is, greatest_grows, greatest_time_grows, commit_raises, length_read, in_of_step, find_step, given_at}

-- moments in order, each of a group that has a clock, and no two that differ for one arrival; from clocks with no stamp given
pub record IsRun (s : Clocks) (ms : List Moment) : Type 0 where
  pub ordered : IsOrdered ms
  pub within : AreWithin s ms
  pub same : (c d : Moment) → IsIn c ms → IsIn d ms → c.kind ≡ d.kind → c.message ≡ d.message → c.group ≡ d.group → c ≡ d
  pub none : (x : GivenStamp) → IsIn x s.given → ⊥

-- ---- the stamp at a key
abbrev pub is_for : ℕ → ℕ → GivenStamp → Bool
is_for m g x = (x.message == m) && (x.stamp.group == g)

pub is_for_from : (m g : ℕ) (x : GivenStamp) → x.message ≡ m → x.stamp.group ≡ g → is_for m g x ≡ true
is_for_from m g x e f = and_from (x.message == m) (x.stamp.group == g) (eq-eqb x.message m e) (eq-eqb x.stamp.group g f)

pub is_for_parts : (m g : ℕ) (x : GivenStamp) → is_for m g x ≡ true → (x.message ≡ m) × (x.stamp.group ≡ g)
is_for_parts m g x h =
    let p = and_parts (x.message == m) (x.stamp.group == g) h in
    (eqb-true x.message m p.0, eqb-true x.stamp.group g p.1)

-- the local stamp of a message that has one stands in the list of stamps
pub local_found : (s : Clocks) (m g : ℕ) (x : GivenStamp) → find (is_for m g) s.given ≡ Some x → local_in s m g ≡ x.stamp
local_found s m g x e = ap (λ o. unwrap_or (option_map (λ y. y.stamp) o) no_stamp) e

pub local_given : (s : Clocks) (m g : ℕ) (x : GivenStamp) → IsIn x s.given → x.message ≡ m → x.stamp.group ≡ g
    → (y : GivenStamp) × IsIn y s.given × (y.message ≡ m) × (y.stamp.group ≡ g) × (find (is_for m g) s.given ≡ Some y)
local_given s m g x i e f =
    let found = find-in (is_for m g) x s.given i (is_for_from m g x e f) in
    let there = in_of_find (is_for m g) found.0 s.given found.1 in
    let parts = is_for_parts m g found.0 there.1 in
    (found.0, there.0, parts.0, parts.1, found.1)

-- ---- the cut at a moment
cut_read : (s : Clocks) (ms : List Moment) (p : Moment) → IsOrdered ms → read (read s (before p ms)) (from_on p ms) ≡ read s ms
cut_read s ms p o = sym (fold-append after_moment s (before p ms) (from_on p ms)) ∙ ap (read s) (cut p ms o)

in-before : (p c : Moment) (ms : List Moment) → IsIn c ms → is_before c p ≡ true → IsIn c (before p ms)
in-before p c ms i h = in-filter (λ x. is_before x p) c ms i h

in_of_before : (p c : Moment) (ms : List Moment) → IsIn c (before p ms) → IsIn c ms × (is_before c p ≡ true)
in_of_before p c ms i = in_of_filter (λ x. is_before x p) c ms i

in-from_on : (p c : Moment) (ms : List Moment) → IsIn c ms → is_before c p ≡ false → IsIn c (from_on p ms)
in-from_on p c ms i h = in-filter (λ x. not (is_before x p)) c ms i (ap not h)

in_of_from_on : (p c : Moment) (ms : List Moment) → IsIn c (from_on p ms) → IsIn c ms × (is_before c p ≡ false)
in_of_from_on p c ms i = let r = in_of_filter (λ x. not (is_before x p)) c ms i in (r.0, not-true (is_before c p) r.1)

-- every stamp of a run is new, and comes from one of its comings
pub given_new : (s : Clocks) (ms : List Moment) → IsRun s ms → (x : GivenStamp) → IsIn x (read s ms).given → IsNew s ms x
given_new s ms run x i = elim (given_cases s ms x i) [ inl old ↦ absurd (run.none x old) | inr n ↦ n ]

-- the local stamp of an arrival
pub local_of_coming : (s : Clocks) (ms : List Moment) (c : Moment) → IsIn c ms → c.kind ≡ Arrival
    → (x : GivenStamp) × IsIn x (read s ms).given × (x.message ≡ c.message) × (x.stamp.group ≡ c.group)
    × (local_in (read s ms) c.message c.group ≡ x.stamp)
local_of_coming s ms c i k =
    let g = coming_gives s ms c i k in
    let l = local_given (read s ms) c.message c.group g.0 g.1 g.2 g.3 in
    (l.0, l.1, l.2, l.3, local_found (read s ms) c.message c.group l.0 l.4)

-- the local stamp of an arrival is past what the clock was just before it
pub past_clock : (s : Clocks) (ms : List Moment) → IsRun s ms → (c : Moment) → IsIn c ms → c.kind ≡ Arrival
    → clock_of (read s (before c ms)) c.group < (local_in (read s ms) c.message c.group).time
past_clock s ms run c i k =
    let early : Clocks = read s (before c ms) in
    let whole = cut_read s ms c run.ordered in
    let l = local_of_coming s ms c i k in
    elim (given_cases early (from_on c ms) l.0 (subst (λ t. IsIn l.0 t.given) (sym whole) l.1)) [
      | inl old ↦ elim (given_cases s (before c ms) l.0 old) [
        | inl older ↦ absurd (run.none l.0 older)
        | inr n ↦ absurd (
            let d : Moment = n.1.0 in
            let there = in_of_before c d ms n.1.1 in
            let same : d ≡ c = run.same d c there.0 i (n.1.2.0 ∙ sym k) (n.1.2.1 ∙ l.2) (n.1.2.2 ∙ l.3) in
            both_ways (is_before c c) (before_itself c) (subst (λ y. is_before y c ≡ true) same there.1))
      ]
      | inr n ↦ subst (λ t. clock_of early c.group < t.time) (sym l.4)
          (subst (λ g. clock_of early g < l.0.stamp.time) l.3 n.0)
    ]

-- of two comings at one group the earlier has the lesser time
pub comings_rise : (s : Clocks) (ms : List Moment) → IsRun s ms → (b c : Moment) → IsIn b ms → IsIn c ms
    → b.kind ≡ Arrival → c.kind ≡ Arrival → b.group ≡ c.group → is_before b c ≡ true
    → (local_in (read s ms) b.message b.group).time < (local_in (read s ms) c.message c.group).time
comings_rise s ms run b c i j k l e h =
    let early : Clocks = read s (before c ms) in
    let g = coming_gives s (before c ms) b (in-before c b ms i h) k in
    let y = local_given early b.message b.group g.0 g.1 g.2 g.3 in
    let low : y.0.stamp.time ≤ clock_of early y.0.stamp.group =
    reached s (before c ms) (λ d t. run.within d (in_of_before c d ms t).0) (λ x t. absurd (run.none x t)) y.0 y.1 in
    let stays : find (is_for b.message b.group) (read s ms).given ≡ Some y.0 =
    subst (λ t. find (is_for b.message b.group) t.given ≡ Some y.0) (cut_read s ms c run.ordered)
    (find_stays early (from_on c ms) (is_for b.message b.group) y.0 y.4) in
    let mine : local_in (read s ms) b.message b.group ≡ y.0.stamp = local_found (read s ms) b.message b.group y.0 stays in
    let past = past_clock s ms run c j l in
    let reaches : y.0.stamp.time ≤ clock_of early c.group = subst (λ n. y.0.stamp.time ≤ clock_of early n) (y.3 ∙ e) low in
    subst (λ t. t.time < (local_in (read s ms) c.message c.group).time) (sym mine) (omega arith)

-- an arrival behind the commit of a message has a greater time than all stamps of that message, if all its comings stand before its commit
pub commit_rises : (s : Clocks) (ms : List Moment) → IsRun s ms → (a c : Moment) → IsIn a ms → IsIn c ms
    → a.kind ≡ Commit → c.kind ≡ Arrival → a.group ≡ c.group → is_before a c ≡ true
    → ((d : Moment) → IsIn d ms → d.kind ≡ Arrival → d.message ≡ a.message → is_before d a ≡ true)
    → (greatest_in (read s ms) a.message).time < (local_in (read s ms) c.message c.group).time
commit_rises s ms run a c i j k l e h all =
    let part : List Moment = before c ms in
    let early : Clocks = read s part in
    let first : Clocks = read s (before a part) in
    let part_ordered = filter_ordered (λ x. is_before x c) ms run.ordered in
    let to_early : read first (from_on a part) ≡ early = cut_read s part a part_ordered in
    let has_all : (greatest_in (read s ms) a.message).time ≤ (greatest_in first a.message).time =
    greatest_time_grows (read s ms) first a.message (λ x t f.
    elim (given_cases early (from_on c ms) x (subst (λ u. IsIn x u.given) (sym (cut_read s ms c run.ordered)) t)) [
      | inl old ↦ elim (given_cases first (from_on a part) x (subst (λ u. IsIn x u.given) (sym to_early) old)) [
        | inl older ↦ older
        | inr n ↦ absurd (
            let there = in_of_from_on a n.1.0 part n.1.1 in
            let of_run = in_of_before c n.1.0 ms there.0 in
            both_ways (is_before n.1.0 a) there.1 (all n.1.0 of_run.0 n.1.2.0 (n.1.2.1 ∙ f)))
      ]
      | inr n ↦ absurd (
          let there = in_of_from_on c n.1.0 ms n.1.1 in
          both_ways (is_before n.1.0 c) there.1
          (before_trans n.1.0 a c (all n.1.0 there.0 n.1.2.0 (n.1.2.1 ∙ f)) h))
    ]) in
    let still_within : AreWithin first (from_on a part) = λ d t.
    let l = run.within d (in_of_before c d ms (in_of_from_on a d part t).0).0 in
    let same = length_read s (before a part) in
    omega arith in
    let raised : (greatest_in first a.message).time ≤ clock_of early a.group =
    subst (λ t. (greatest_in first a.message).time ≤ clock_of t a.group) to_early
    (commit_raises first (from_on a part) a (λ d t. still_within d t) (in-from_on a a part (in-before c a ms i h) (before_itself a)) k) in
    let past = past_clock s ms run c j l in
    let past_same : clock_of early a.group < (local_in (read s ms) c.message c.group).time =
    subst (λ g. clock_of early g < (local_in (read s ms) c.message c.group).time) (sym e) past in
    omega arith

-- ---- one stamp at a key
-- each stamp is the one that is found at its key
abbrev pub AreFound : Clocks → Type 0
AreFound s = (x : GivenStamp) → IsIn x s.given → find (is_for x.message x.stamp.group) s.given ≡ Some x

find_given_at : (k : MomentKind) (s : Clocks) (m h : ℕ) → k ≡ Arrival → find (is_for m h) s.given ≡ None
    → find (is_for m h) (after_kind k s m h).given ≡ Some (given_at s m h)
find_given_at Arrival s m h e none =
    let last : List GivenStamp = given_at s m h ∷ [] in
    find-append (is_for m h) s.given last
    ∙ ap (λ o. option_or o (find (is_for m h) last)) none
    ∙ cond-true (is_for m h (given_at s m h)) (Some (given_at s m h)) None (is_for_from m h (given_at s m h) refl refl)
find_given_at Commit s m h e none = absurd (cc)

found_step : (k : MomentKind) (s : Clocks) (m h : ℕ) → AreFound s
    → (k ≡ Arrival → (x : GivenStamp) → IsIn x s.given → is_for m h x ≡ false) → AreFound (after_kind k s m h)
found_step k s m h found apart x i = elim (in_of_step k s m h x i) [
  | inl old ↦ find_step k s m h (is_for x.message x.stamp.group) x (found x old)
  | inr n ↦ subst (λ y. find (is_for y.message y.stamp.group) (after_kind k s m h).given ≡ Some y) n.1
      (find_given_at k s m h n.0 (find_none (is_for m h) s.given (apart n.0)))
]

pub all_found : (s : Clocks) (ms : List Moment) → IsOnce ms
    → ((c d : Moment) → IsIn c ms → IsIn d ms → c.kind ≡ d.kind → c.message ≡ d.message → c.group ≡ d.group → c ≡ d)
    → ((x : GivenStamp) (c : Moment) → IsIn x s.given → IsIn c ms → IsArrivalOf x c → ⊥)
    → AreFound s → AreFound (read s ms)
all_found s [] once same apart found = found
all_found s (c ∷ cs) once same apart found =
    all_found (after_moment s c) cs once.1 (λ a b i j. same a b (inr i) (inr j)) still_apart
    (found_step c.kind s c.message c.group found (λ k x i. false_from_ne_true _ (λ t.
    let parts = is_for_parts c.message c.group x t in
    apart x c i (inl refl) (k, sym parts.0, sym parts.1)))) where
      still_apart : (x : GivenStamp) (d : Moment) → IsIn x (after_moment s c).given → IsIn d cs → IsArrivalOf x d → ⊥
      still_apart x d i j of = elim (in_of_step c.kind s c.message c.group x i) [
        | inl old ↦ apart x d old (inr j) of
        | inr n ↦
            let same_message : c.message ≡ d.message = ap (λ y. y.message) n.1 ∙ sym of.1 in
            let same_group : c.group ≡ d.group = ap (λ y. y.stamp.group) n.1 ∙ sym of.2 in
            let twice : c ≡ d = same c d (inl refl) (inr j) (n.0 ∙ sym of.0) same_message same_group in
            once.0 (subst (λ y. IsIn y cs) (sym twice) j)
      ]

-- ---- final stamps
-- a stamp of a run is the local stamp of its message at its group
pub local_of_given : (s : Clocks) (ms : List Moment) → IsRun s ms → IsOnce ms → (x : GivenStamp) → IsIn x (read s ms).given
    → local_in (read s ms) x.message x.stamp.group ≡ x.stamp
local_of_given s ms run once x i =
    local_found (read s ms) x.message x.stamp.group x
    (all_found s ms once run.same (λ y c j _ _. run.none y j) (λ y j. absurd (run.none y j)) x i)

-- the greatest stamp of a message that comes somewhere is the local stamp of one of its comings
pub greatest_is_local : (s : Clocks) (ms : List Moment) → IsRun s ms → IsOnce ms
    → (c : Moment) → IsIn c ms → c.kind ≡ Arrival
    → (d : Moment) × IsIn d ms × (d.kind ≡ Arrival) × (d.message ≡ c.message)
    × (local_in (read s ms) c.message d.group ≡ greatest_in (read s ms) c.message)
    × ((greatest_in (read s ms) c.message).group ≡ d.group)
greatest_is_local s ms run once c i k = elim (greatest_is (read s ms) c.message) [
  | inl e ↦ absurd (
      let l = local_of_coming s ms c i k in
      let new = given_new s ms run l.0 l.1 in
      let over = time_of_not_less (greatest_in (read s ms) c.message) l.0.stamp (greatest_over (read s ms) c.message l.0 l.1 l.2) in
      let zero : 0 ≡ (greatest_in (read s ms) c.message).time = ap (λ t. t.time) e in
      omega (arith, new.0))
  | inr p ↦
      let new = given_new s ms run p.0 p.1 in
      let of = new.1.2 in
      let here : local_in (read s ms) p.0.message p.0.stamp.group ≡ p.0.stamp = local_of_given s ms run once p.0 p.1 in (
        new.1.0,
        new.1.1,
        of.0,
        of.1 ∙ p.2,
        subst₂ (λ m g. local_in (read s ms) m g ≡ greatest_in (read s ms) c.message) p.2 (sym of.2) (here ∙ p.3),
        ap (λ t. t.group) (sym p.3) ∙ sym of.2,
      )
]

-- and no local stamp of the message is greater
pub local_not_over : (s : Clocks) (ms : List Moment) (c : Moment) → IsIn c ms → c.kind ≡ Arrival
    → is_less (greatest_in (read s ms) c.message) (local_in (read s ms) c.message c.group) ≡ false
local_not_over s ms c i k =
    let l = local_of_coming s ms c i k in
    subst (λ t. is_less (greatest_in (read s ms) c.message) t ≡ false) (sym l.4)
    (greatest_over (read s ms) c.message l.0 l.1 l.2)

-- at a commit that stands behind all comings of its message, the greatest stamp of the message is the final one already
pub greatest_at_commit : (s : Clocks) (ms : List Moment) → IsRun s ms → (a : Moment)
    → ((d : Moment) → IsIn d ms → d.kind ≡ Arrival → d.message ≡ a.message → is_before d a ≡ true)
    → greatest_in (read s (before a ms)) a.message ≡ greatest_in (read s ms) a.message
greatest_at_commit s ms run a all =
    let early : Clocks = read s (before a ms) in
    let whole : read early (from_on a ms) ≡ read s ms = cut_read s ms a run.ordered in
    let less : is_less (greatest_in early a.message) (greatest_in (read s ms) a.message) ≡ false =
    greatest_grows (read s ms) early a.message (λ x t e.
    elim (given_cases early (from_on a ms) x (subst (λ u. IsIn x u.given) (sym whole) t)) [
      | inl old ↦ old
      | inr n ↦ absurd (
          let there = in_of_from_on a n.1.0 ms n.1.1 in
          both_ways (is_before n.1.0 a) there.1 (all n.1.0 there.0 n.1.2.0 (n.1.2.1 ∙ e)))
    ]) in
    let more : is_less (greatest_in (read s ms) a.message) (greatest_in early a.message) ≡ false =
    greatest_grows early (read s ms) a.message (λ x t e. subst (λ u. IsIn x u.given) whole (given_stays early (from_on a ms) x t)) in
    same_from_not_less _ _ less more
