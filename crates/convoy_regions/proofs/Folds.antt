-- What comes before what, along the precedences.
use Rattle.std.proofs.Common.{◌≡◌, Bool, true, ◌==◌, ◌&&◌, ◌||◌, ◌⊎◌, inl, inr, List, [], ◌∷◌, fold, All, refl, sym, subst}
use Rattle.std.proofs.lemmas.Bool.{and_parts, and_from, or_cases, or_left, or_right, eqb-true, eq-eqb, false≢true}
use Rattle.std.proofs.lemmas.List.Elements.{All-head, All-tail}
use Rattle.convoy_sim.specs.declared.moment.MomentKind.{MomentKind}
use Rattle.convoy_sim.specs.declared.moment.MomentKind.TheVariants.{Arrival, Commit}
use Rattle.convoy_sim.specs.Moments.{is_kind_before, is_same_kind}
use Rattle.convoy_regions.specs.declared.stage.Stage.{Stage}
use Rattle.convoy_regions.specs.Stages.{Precedence, is_own, is_same, with_precedence}

-- what is known of the order of stages
abbrev pub Relation : Type 0
Relation = Stage → Stage → Bool

same_kind : (k l : MomentKind) → is_same_kind k l ≡ true → k ≡ l
same_kind Arrival Arrival e = refl
same_kind Arrival Commit e = absurd (false≢true e)
same_kind Commit Arrival e = absurd (false≢true e)
same_kind Commit Commit e = refl

kind_itself : (k : MomentKind) → is_same_kind k k ≡ true
kind_itself Arrival = refl
kind_itself Commit = refl

-- what is said to be one stage is
pub one_stage : (a b : Stage) → is_same a b ≡ true → a ≡ b
one_stage a b e =
    let groups = and_parts (is_same_kind a.kind b.kind && (a.message == b.message)) (a.group == b.group) e in
    let parts = and_parts (is_same_kind a.kind b.kind) (a.message == b.message) groups.0 in
    let k = same_kind a.kind b.kind parts.0 in
    let m = eqb-true a.message b.message parts.1 in
    let g = eqb-true a.group b.group groups.1 in
    λ i. record { kind = k i; message = m i; group = g i }

pub same_from_parts : (a b : Stage) → a.kind ≡ b.kind → a.message ≡ b.message → a.group ≡ b.group → is_same a b ≡ true
same_from_parts a b k m g =
    and_from (is_same_kind a.kind b.kind && (a.message == b.message)) (a.group == b.group)
    (and_from (is_same_kind a.kind b.kind) (a.message == b.message) (subst (λ l. is_same_kind a.kind l ≡ true) k (kind_itself a.kind)) (eq-eqb a.message b.message m))
    (eq-eqb a.group b.group g)

-- the parts of a message's own precedence
pub own_parts : (a b : Stage) → is_own a b ≡ true → (a.kind ≡ Arrival) × (b.kind ≡ Commit) × (a.message ≡ b.message) × (a.group ≡ b.group)
own_parts a b e =
    let groups = and_parts (is_kind_before a.kind b.kind && (a.message == b.message)) (a.group == b.group) e in
    let parts = and_parts (is_kind_before a.kind b.kind) (a.message == b.message) groups.0 in
    let two = by_kinds a.kind b.kind parts.0 in
    (two.0, two.1, eqb-true a.message b.message parts.1, eqb-true a.group b.group groups.1) where
      by_kinds : (k l : MomentKind) → is_kind_before k l ≡ true → (k ≡ Arrival) × (l ≡ Commit)
      by_kinds Arrival Arrival e = absurd (false≢true e)
      by_kinds Arrival Commit e = (refl, refl)
      by_kinds Commit Arrival e = absurd (false≢true e)
      by_kinds Commit Commit e = absurd (false≢true e)

-- the one is the other, or comes before it
abbrev pub IsUpTo : Relation → Stage → Stage → Type 0
IsUpTo known a b = (a ≡ b) ⊎ (known a b ≡ true)

up_to : (known : Relation) (a b : Stage) → (is_same a b || known a b) ≡ true → IsUpTo known a b
up_to known a b e = elim (or_cases (is_same a b) (known a b) e) [ inl s ↦ inl (one_stage a b s) | inr k ↦ inr k ]

from_up_to : (known : Relation) (a b : Stage) → IsUpTo known a b → (is_same a b || known a b) ≡ true
from_up_to known a b (inl e) = or_left (is_same a b) (known a b) (subst (λ c. is_same a c ≡ true) e (same_from_parts a a refl refl refl))
from_up_to known a b (inr k) = or_right (is_same a b) (known a b) k

-- by one precedence more the one comes before the other: as before, or through it
pub with_cases : (known : Relation) (pair : Precedence) (a b : Stage) → with_precedence known pair a b ≡ true → (known a b ≡ true) ⊎ (IsUpTo known a pair.0 × IsUpTo known pair.1 b)
with_cases known pair a b e =
    elim (or_cases (known a b) ((is_same a pair.0 || known a pair.0) && (is_same pair.1 b || known pair.1 b)) e) [
      | inl k ↦ inl k
      | inr two ↦
          let parts = and_parts (is_same a pair.0 || known a pair.0) (is_same pair.1 b || known pair.1 b) two in
          inr (up_to known a pair.0 parts.0, up_to known pair.1 b parts.1)
    ]

pub with_old : (known : Relation) (pair : Precedence) (a b : Stage) → known a b ≡ true → with_precedence known pair a b ≡ true
with_old known pair a b k = or_left (known a b) _ k

pub with_through : (known : Relation) (pair : Precedence) (a b : Stage) → IsUpTo known a pair.0 → IsUpTo known pair.1 b → with_precedence known pair a b ≡ true
with_through known pair a b p q =
    or_right (known a b) _
    (and_from (is_same a pair.0 || known a pair.0) (is_same pair.1 b || known pair.1 b) (from_up_to known a pair.0 p) (from_up_to known pair.1 b q))

-- ---- what holds along the precedences
pub along : (P : Relation → Type 0) (Q : Precedence → Type 0) → ((known : Relation) (pair : Precedence) → P known → Q pair → P (with_precedence known pair))
    → (known : Relation) (pairs : List Precedence) → P known → All Q pairs → P (fold with_precedence known pairs)
along P Q step known [] p all = p
along P Q step known (pair ∷ pairs) p all =
    along P Q step (with_precedence known pair) pairs (step known pair p (All-head Q pair pairs all)) (All-tail Q pair pairs all)

-- ---- what comes before what comes before a third comes before that
abbrev pub IsChained : Relation → Type 0
IsChained known = (a b c : Stage) → known a b ≡ true → known b c ≡ true → known a c ≡ true

up_to_then : (known : Relation) → IsChained known → (a b c : Stage) → known a b ≡ true → IsUpTo known b c → IsUpTo known a c
up_to_then known chained a b c k (inl e) = inr (subst (λ x. known a x ≡ true) e k)
up_to_then known chained a b c k (inr l) = inr (chained a b c k l)

then_up_to : (known : Relation) → IsChained known → (a b c : Stage) → IsUpTo known a b → known b c ≡ true → IsUpTo known a c
then_up_to known chained a b c (inl e) l = inr (subst (λ x. known x c ≡ true) (sym e) l)
then_up_to known chained a b c (inr k) l = inr (chained a b c k l)

with_chained : (known : Relation) (pair : Precedence) → IsChained known → IsChained (with_precedence known pair)
with_chained known pair chained a b c k l = elim (with_cases known pair a b k) [
  | inl p ↦ elim (with_cases known pair b c l) [
    | inl q ↦ with_old known pair a c (chained a b c p q)
    | inr q ↦ with_through known pair a c (up_to_then known chained a b pair.0 p q.0) q.1
  ]
  | inr p ↦ elim (with_cases known pair b c l) [
    | inl q ↦ with_through known pair a c p.0 (then_up_to known chained pair.1 b c p.1 q)
    | inr q ↦ with_through known pair a c p.0 q.1
  ]
]

own_chained : IsChained is_own
own_chained a b c k l =
    let p = own_parts a b k in
    let q = own_parts b c l in
    absurd (apart b.kind q.0 p.1) where
      apart : (k : MomentKind) → k ≡ Arrival → k ≡ Commit → ⊥
      apart Arrival e f = cc
      apart Commit e f = cc

-- no condition
abbrev Any : Precedence → Type 0
Any pair = Unit {0}

pub chained : (pairs : List Precedence) → IsChained (fold with_precedence is_own pairs)
chained pairs = along IsChained Any (λ known pair p q. with_chained known pair p) is_own pairs own_chained (λ k d l. tt)

-- ---- what is known stays known
pub kept : (known : Relation) (pairs : List Precedence) (a b : Stage) → known a b ≡ true → fold with_precedence known pairs a b ≡ true
kept known [] a b k = k
kept known (pair ∷ pairs) a b k = kept (with_precedence known pair) pairs a b (with_old known pair a b k)
