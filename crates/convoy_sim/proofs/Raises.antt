-- What raised a clock last, in a reading of moments: a commit, or nothing; and the arrivals that it counted since.
use Rattle.std.proofs.Common.{◌≡◌, ℕ, ◌+◌, ◌<◌, ◌≤◌, max, ◌⊎◌, inl, inr, List, [], ◌∷◌, ◌++◌, length, refl, sym, ap, subst, arith, get_or-set_same, get_or-set_other}
use Rattle.std.proofs.lemmas.Bool.{cases_eq, cases_lt}
use Rattle.convoy_sim.specs.declared.moment.Moment.{Moment}
use Rattle.convoy_sim.specs.declared.moment.MomentKind.{MomentKind}
use Rattle.convoy_sim.specs.declared.moment.MomentKind.TheVariants.{Arrival, Commit}
use Rattle.convoy_sim.specs.Stamps.{GivenStamp, Clocks, clock_of, greatest_in, after_kind, after_moment}
use Rattle.convoy_sim.proofs.Membership.{IsIn, in-append_right}
use Rattle.convoy_sim.proofs.ClocksGrow.{read, AreWithin, given_at, given_stays, clock_grows, within_next}

-- what one moment does to a clock
abbrev pub StaysAt : MomentKind → Clocks → ℕ → ℕ → ℕ → Type 0
StaysAt k s m g h = clock_of (after_kind k s m g) h ≡ clock_of s h

pub record CountsAt (k : MomentKind) (s : Clocks) (m g h : ℕ) : Type 0 where
  pub kind : k ≡ Arrival
  pub here : g ≡ h
  pub next : clock_of (after_kind k s m g) h ≡ clock_of s h + 1
  pub given : IsIn (given_at s m h) (after_kind k s m g).given

pub record RaisesAt (k : MomentKind) (s : Clocks) (m g h : ℕ) : Type 0 where
  pub kind : k ≡ Commit
  pub here : g ≡ h
  pub up : clock_of s h < (greatest_in s m).time
  pub next : clock_of (after_kind k s m g) h ≡ (greatest_in s m).time

one_moment : (k : MomentKind) (s : Clocks) (m g h : ℕ) → g < length s.numbers
    → StaysAt k s m g h ⊎ CountsAt k s m g h ⊎ RaisesAt k s m g h
one_moment Arrival s m g h l = elim (cases_eq h g) [
  | inl e ↦ inr (inl (subst (λ x. CountsAt Arrival s m g x) (sym e) (record {
    kind = refl;
    here = refl;
    next = get_or-set_same s.numbers g (clock_of s g + 1) 0 l;
    given = in-append_right _ s.given _ (inl refl);
  })))
  | inr d ↦ inl (get_or-set_other s.numbers g h _ 0 d)
]
one_moment Commit s m g h l = elim (cases_eq h g) [
  | inl e ↦
      let same : clock_of (after_kind Commit s m g) g ≡ max (clock_of s g) (greatest_in s m).time =
      get_or-set_same s.numbers g (max (clock_of s g) (greatest_in s m).time) 0 l in
      elim (cases_lt (clock_of s g) (greatest_in s m).time) [
        | inl up ↦ inr (inr (subst (λ x. RaisesAt Commit s m g x) (sym e) (record {
          kind = refl;
          here = refl;
          up = up;
          next = omega arith;
        })))
        | inr low ↦ inl (subst (λ x. StaysAt Commit s m g x) (sym e) (omega arith))
      ]
  | inr d ↦ inl (get_or-set_other s.numbers g h _ 0 d)
]

-- the stamp of that time, which an arrival of the message at the group is given
abbrev pub stamped : ℕ → ℕ → ℕ → GivenStamp
stamped m h u = record { message = m; stamp = record { time = u; group = h } }

pub record Counts (t : Clocks) (ms : List Moment) (h u : ℕ) (z : Moment) : Type 0 where
  pub there : IsIn z ms
  pub kind : z.kind ≡ Arrival
  pub here : z.group ≡ h
  pub given : IsIn (stamped z.message h u) t.given

-- each time above `low`, up to the clock, is given to an arrival among these moments
abbrev pub AreCounted : Clocks → List Moment → ℕ → ℕ → Type 0
AreCounted t ms h low = (u : ℕ) → low < u → u ≤ clock_of t h → (z : Moment) × Counts t ms h u z

-- a commit among these moments raised the clock last
pub record RaisedLast (s : Clocks) (ms : List Moment) (h : ℕ) (first : List Moment) (c : Moment) (rest : List Moment) : Type 0 where
  pub parts : ms ≡ first ++ c ∷ rest
  pub kind : c.kind ≡ Commit
  pub here : c.group ≡ h
  pub up : clock_of (read s first) h < (greatest_in (read s first) c.message).time
  pub reached : (greatest_in (read s first) c.message).time ≤ clock_of (read s ms) h
  pub counted : AreCounted (read s ms) rest h (greatest_in (read s first) c.message).time

abbrev pub RaisedOrNot : Clocks → List Moment → ℕ → Type 0
RaisedOrNot s ms h =
    AreCounted (read s ms) ms h (clock_of s h)
    ⊎ ((first : List Moment) × (c : Moment) × (rest : List Moment) × RaisedLast s ms h first c rest)

one_more : (t : Clocks) (c : Moment) (cs : List Moment) (h u : ℕ) (z : Moment) → Counts t cs h u z → Counts t (c ∷ cs) h u z
one_more t c cs h u z i = record { there = inr i.there; kind = i.kind; here = i.here; given = i.given }

pub last_raise_in : (s : Clocks) (ms : List Moment) (h : ℕ) → AreWithin s ms → RaisedOrNot s ms h
last_raise_in s [] h w = inl (λ u l m. absurd (omega arith))
last_raise_in s (c ∷ cs) h w =
    let next = after_moment s c in
    let t = read next cs in
    elim (last_raise_in next cs h (within_next s c cs w)) [
      | inr r ↦ inr (
        c ∷ r.0,
        r.1,
        r.2,
        record {
          parts = ap (λ l. c ∷ l) r.3.parts;
          kind = r.3.kind;
          here = r.3.here;
          up = r.3.up;
          reached = r.3.reached;
          counted = r.3.counted;
        },
      )
      | inl quiet ↦ elim (one_moment c.kind s c.message c.group h (w c (inl refl))) [
        | inl same ↦ inl (λ u l m. let r = quiet u (omega (arith, same)) m in (r.0, one_more t c cs h u r.0 r.1))
        | inr (inl counts) ↦ inl (λ u l m. elim (cases_eq (clock_of s h + 1) u) [
          | inl e ↦ (
            c,
            record {
              there = inl refl;
              kind = counts.kind;
              here = counts.here;
              given = subst (λ x. IsIn (stamped c.message h x) t.given) e (given_stays next cs _ counts.given);
            },
          )
          | inr d ↦ let r = quiet u (omega (arith, counts.next)) m in (r.0, one_more t c cs h u r.0 r.1)
        ])
        | inr (inr raises) ↦ inr (
          [],
          c,
          cs,
          record {
            parts = refl;
            kind = raises.kind;
            here = raises.here;
            up = raises.up;
            reached = let up = clock_grows next cs h in omega (arith, raises.next);
            counted = λ u l m. quiet u (omega (arith, raises.next)) m;
          },
        )
      ]
    ]
