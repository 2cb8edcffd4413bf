-- What a reading of moments keeps: clocks never fall, stamps stay once given, and each new stamp is past the clock.
use Rattle.std.proofs.Common.{◌≡◌, ℕ, ◌+◌, ◌<◌, ◌≤◌, zero, suc, max, Bool, false, ◌==◌, ◌⊎◌, inl, inr, List, [], ◌∷◌, length, get_or, slice_set, fold, find, Some, refl, ap, subst, ◌∙◌, arith, length-set, get_or-set_same}
use Rattle.std.specs.Option.{option_or}
use Rattle.std.proofs.lemmas.Bool.{eq-eqb, eqb-true}
use Rattle.std.proofs.lemmas.List.Folds.{find-append}
use Rattle.convoy_sim.specs.declared.moment.Moment.{Moment}
use Rattle.convoy_sim.specs.declared.moment.MomentKind.{MomentKind}
use Rattle.convoy_sim.specs.declared.moment.MomentKind.TheVariants.{Arrival, Commit}
use Rattle.convoy_sim.specs.declared.timestamp.Timestamp.{Timestamp}
use Rattle.convoy_sim.specs.Stamps.{GivenStamp, Clocks, is_less, later, no_stamp, clock_of, greatest_in, after_kind, after_moment}
use Rattle.convoy_sim.proofs.Membership.{IsIn, in_append_cases, in-append_left, in-append_right, in_of_filter, in-filter, in-map, in_of_map}
use Rattle.convoy_sim.proofs.MomentsOrder.{less_chain, less_itself, later_left, later_right, later_is, time_of_not_less, no_stamp_least}

-- what stands when some moments more have been read
abbrev pub read : Clocks → List Moment → Clocks
read s ms = fold after_moment s ms

-- ---- clocks
set_raises : (xs : List ℕ) (h g v : ℕ) → get_or xs h 0 ≤ v → get_or xs g 0 ≤ get_or (slice_set xs h v) g 0
set_raises [] h g v l = omega arith
set_raises (x ∷ xs) zero zero v l = l
set_raises (x ∷ xs) zero (suc g) v l = omega arith
set_raises (x ∷ xs) (suc h) zero v l = omega arith
set_raises (x ∷ xs) (suc h) (suc g) v l = set_raises xs h g v l

clock_step : (k : MomentKind) (s : Clocks) (m h g : ℕ) → clock_of s g ≤ clock_of (after_kind k s m h) g
clock_step Arrival s m h g = set_raises s.numbers h g _ (omega arith)
clock_step Commit s m h g = set_raises s.numbers h g _ (omega arith)

pub clock_grows : (s : Clocks) (ms : List Moment) (g : ℕ) → clock_of s g ≤ clock_of (read s ms) g
clock_grows s [] g = omega arith
clock_grows s (c ∷ cs) g =
    let first = clock_step c.kind s c.message c.group g in
    let rest = clock_grows (after_moment s c) cs g in
    omega arith

length_step : (k : MomentKind) (s : Clocks) (m h : ℕ) → length (after_kind k s m h).numbers ≡ length s.numbers
length_step Arrival s m h = length-set s.numbers h _
length_step Commit s m h = length-set s.numbers h _

pub length_read : (s : Clocks) (ms : List Moment) → length (read s ms).numbers ≡ length s.numbers
length_read s [] = refl
length_read s (c ∷ cs) = length_read (after_moment s c) cs ∙ length_step c.kind s c.message c.group

-- each moment is of a group that has a clock
abbrev pub AreWithin : Clocks → List Moment → Type 0
AreWithin s ms = (c : Moment) → IsIn c ms → c.group < length s.numbers

pub within_next : (s : Clocks) (c : Moment) (cs : List Moment) → AreWithin s (c ∷ cs) → AreWithin (after_moment s c) cs
within_next s c cs w d i =
    let e = length_step c.kind s c.message c.group in
    let l = w d (inr i) in
    omega arith

-- ---- stamps given
-- what an arrival gives at this state
abbrev pub given_at : Clocks → ℕ → ℕ → GivenStamp
given_at s m h = record { message = m; stamp = record { time = clock_of s h + 1; group = h } }

in_step : (k : MomentKind) (s : Clocks) (m h : ℕ) (x : GivenStamp) → IsIn x s.given → IsIn x (after_kind k s m h).given
in_step Arrival s m h x i = in-append_left x s.given _ i
in_step Commit s m h x i = i

pub given_stays : (s : Clocks) (ms : List Moment) (x : GivenStamp) → IsIn x s.given → IsIn x (read s ms).given
given_stays s [] x i = i
given_stays s (c ∷ cs) x i = given_stays (after_moment s c) cs x (in_step c.kind s c.message c.group x i)

pub find_step : (k : MomentKind) (s : Clocks) (m h : ℕ) (p : GivenStamp → Bool) (x : GivenStamp)
    → find p s.given ≡ Some x → find p (after_kind k s m h).given ≡ Some x
find_step Arrival s m h p x e =
    let last : List GivenStamp = given_at s m h ∷ [] in
    find-append p s.given last ∙ ap (λ o. option_or o (find p last)) e
find_step Commit s m h p x e = e

pub find_stays : (s : Clocks) (ms : List Moment) (p : GivenStamp → Bool) (x : GivenStamp)
    → find p s.given ≡ Some x → find p (read s ms).given ≡ Some x
find_stays s [] p x e = e
find_stays s (c ∷ cs) p x e = find_stays (after_moment s c) cs p x (find_step c.kind s c.message c.group p x e)

pub in_of_step : (k : MomentKind) (s : Clocks) (m h : ℕ) (x : GivenStamp) → IsIn x (after_kind k s m h).given
    → IsIn x s.given ⊎ ((k ≡ Arrival) × (given_at s m h ≡ x))
in_of_step Arrival s m h x i = elim (in_append_cases x s.given _ i) [
  | inl l ↦ inl l
  | inr r ↦ elim r [ inl e ↦ inr (refl, e) | inr n ↦ absurd n ]
]
in_of_step Commit s m h x i = inl i

in-given_at : (k : MomentKind) (s : Clocks) (m h : ℕ) → k ≡ Arrival → IsIn (given_at s m h) (after_kind k s m h).given
in-given_at Arrival s m h e = in-append_right _ s.given _ (inl refl)
in-given_at Commit s m h e = absurd (cc)

-- a moment at which the stamp is given
abbrev pub IsArrivalOf : GivenStamp → Moment → Type 0
IsArrivalOf x c = (c.kind ≡ Arrival) × (c.message ≡ x.message) × (c.group ≡ x.stamp.group)

-- the stamp is past the clock, and one of these moments gives it
abbrev pub IsNew : Clocks → List Moment → GivenStamp → Type 0
IsNew s ms x = (clock_of s x.stamp.group < x.stamp.time) × ((c : Moment) × IsIn c ms × IsArrivalOf x c)

-- a stamp that stands in the end stood there at the start, or is new
pub given_cases : (s : Clocks) (ms : List Moment) (x : GivenStamp) → IsIn x (read s ms).given → IsIn x s.given ⊎ IsNew s ms x
given_cases s [] x i = inl i
given_cases s (c ∷ cs) x i =
    let up = clock_step c.kind s c.message c.group x.stamp.group in
    elim (given_cases (after_moment s c) cs x i) [
      | inl t ↦ elim (in_of_step c.kind s c.message c.group x t) [
        | inl old ↦ inl old
        | inr n ↦ inr (subst (λ y. IsNew s (c ∷ cs) y) n.1 (omega arith, (c, inl refl, (n.0, refl, refl))))
      ]
      | inr n ↦ inr (omega arith, (n.1.0, inr n.1.1, n.1.2))
    ]

-- each arrival gives a stamp
pub coming_gives : (s : Clocks) (ms : List Moment) (c : Moment) → IsIn c ms → c.kind ≡ Arrival
    → (x : GivenStamp) × IsIn x (read s ms).given × (x.message ≡ c.message) × (x.stamp.group ≡ c.group)
coming_gives s [] c i k = absurd i
coming_gives s (b ∷ bs) c (inl e) k = (
  given_at s b.message b.group,
  given_stays (after_moment s b) bs _ (in-given_at b.kind s b.message b.group (ap (λ y. y.kind) e ∙ k)),
  ap (λ y. y.message) e,
  ap (λ y. y.group) e,
)
coming_gives s (b ∷ bs) c (inr i) k = coming_gives (after_moment s b) bs c i k

-- no stamp is past its group's clock
abbrev pub AreReached : Clocks → Type 0
AreReached s = (x : GivenStamp) → IsIn x s.given → x.stamp.time ≤ clock_of s x.stamp.group

reaches_itself : (k : MomentKind) (s : Clocks) (m h : ℕ) → k ≡ Arrival → h < length s.numbers
    → clock_of s h + 1 ≤ clock_of (after_kind k s m h) h
reaches_itself Arrival s m h e l = let same = get_or-set_same s.numbers h (clock_of s h + 1) 0 l in omega arith
reaches_itself Commit s m h e l = absurd (cc)

reached_step : (k : MomentKind) (s : Clocks) (m h : ℕ) → h < length s.numbers → AreReached s → AreReached (after_kind k s m h)
reached_step k s m h l r x i = elim (in_of_step k s m h x i) [
  | inl old ↦
      let up = clock_step k s m h x.stamp.group in
      let low = r x old in
      omega arith
  | inr n ↦ subst (λ y. y.stamp.time ≤ clock_of (after_kind k s m h) y.stamp.group) n.1 (reaches_itself k s m h n.0 l)
]

pub reached : (s : Clocks) (ms : List Moment) → AreWithin s ms → AreReached s → AreReached (read s ms)
reached s [] w r = r
reached s (c ∷ cs) w r =
    reached (after_moment s c) cs (within_next s c cs w)
    (reached_step c.kind s c.message c.group (w c (inl refl)) r)

-- ---- the greatest stamp of a message
fold_later_start : (a : Timestamp) (xs : List Timestamp) → is_less (fold later a xs) a ≡ false
fold_later_start a [] = less_itself a
fold_later_start a (x ∷ xs) = less_chain (fold later (later a x) xs) (later a x) a (fold_later_start (later a x) xs) (later_left a x)

fold_later_in : (a x : Timestamp) (xs : List Timestamp) → IsIn x xs → is_less (fold later a xs) x ≡ false
fold_later_in a x [] i = absurd i
fold_later_in a x (y ∷ ys) (inl e) =
    less_chain (fold later (later a y) ys) (later a y) x (fold_later_start (later a y) ys)
    (subst (λ z. is_less (later a y) z ≡ false) e (later_right a y))
fold_later_in a x (y ∷ ys) (inr i) = fold_later_in (later a y) x ys i

fold_later_is : (a : Timestamp) (xs : List Timestamp) → (a ≡ fold later a xs) ⊎ IsIn (fold later a xs) xs
fold_later_is a [] = inl refl
fold_later_is a (x ∷ xs) = elim (fold_later_is (later a x) xs) [
  | inl e ↦ elim (later_is a x) [ inl l ↦ inl (l ∙ e) | inr r ↦ inr (inl (r ∙ e)) ]
  | inr i ↦ inr (inr i)
]

-- no stamp of the message is greater
pub greatest_over : (s : Clocks) (m : ℕ) (x : GivenStamp) → IsIn x s.given → x.message ≡ m → is_less (greatest_in s m) x.stamp ≡ false
greatest_over s m x i e =
    fold_later_in no_stamp x.stamp _
    (in-map (λ y. y.stamp) x _ (in-filter (λ y. y.message == m) x s.given i (eq-eqb x.message m e)))

-- it is one of the message's stamps, or there is none
pub greatest_is : (s : Clocks) (m : ℕ) → (no_stamp ≡ greatest_in s m) ⊎ ((x : GivenStamp) × IsIn x s.given × (x.message ≡ m) × (x.stamp ≡ greatest_in s m))
greatest_is s m = elim (fold_later_is no_stamp _) [
  | inl e ↦ inl e
  | inr i ↦
      let p = in_of_map (λ y. y.stamp) _ _ i in
      let q = in_of_filter (λ y. y.message == m) p.0 s.given p.1 in
      inr (p.0, q.0, eqb-true p.0.message m q.1, p.2)
]

-- more stamps, and no lesser a greatest one
pub greatest_grows : (s t : Clocks) (m : ℕ) → ((x : GivenStamp) → IsIn x s.given → x.message ≡ m → IsIn x t.given)
    → is_less (greatest_in t m) (greatest_in s m) ≡ false
greatest_grows s t m h = elim (greatest_is s m) [
  | inl e ↦ subst (λ y. is_less (greatest_in t m) y ≡ false) e (no_stamp_least (greatest_in t m))
  | inr p ↦ subst (λ y. is_less (greatest_in t m) y ≡ false) p.3 (greatest_over t m p.0 (h p.0 p.1 p.2) p.2)
]

pub greatest_time_grows : (s t : Clocks) (m : ℕ) → ((x : GivenStamp) → IsIn x s.given → x.message ≡ m → IsIn x t.given)
    → (greatest_in s m).time ≤ (greatest_in t m).time
greatest_time_grows s t m h = time_of_not_less (greatest_in t m) (greatest_in s m) (greatest_grows s t m h)

commit_step : (k : MomentKind) (s : Clocks) (m h : ℕ) → k ≡ Commit → h < length s.numbers
    → (greatest_in s m).time ≤ clock_of (after_kind k s m h) h
commit_step Arrival s m h e l = absurd (cc)
commit_step Commit s m h e l =
    let same = get_or-set_same s.numbers h (max (clock_of s h) (greatest_in s m).time) 0 l in omega arith

-- a commit raises its group's clock to the time of the message's greatest stamp
pub commit_raises : (s : Clocks) (ms : List Moment) (c : Moment) → AreWithin s ms → IsIn c ms → c.kind ≡ Commit
    → (greatest_in s c.message).time ≤ clock_of (read s ms) c.group
commit_raises s [] c w i k = absurd i
commit_raises s (b ∷ bs) c w (inl e) k =
    let first = commit_step b.kind s b.message b.group (ap (λ y. y.kind) e ∙ k) (w b (inl refl)) in
    let rest = clock_grows (after_moment s b) bs b.group in
    subst (λ y. (greatest_in s y.message).time ≤ clock_of (read (after_moment s b) bs) y.group) e (omega arith)
commit_raises s (b ∷ bs) c w (inr i) k =
    let first = greatest_time_grows s (after_moment s b) c.message (λ x j _. in_step b.kind s b.message b.group x j) in
    let rest = commit_raises (after_moment s b) bs c (within_next s b bs w) i k in
    omega arith
