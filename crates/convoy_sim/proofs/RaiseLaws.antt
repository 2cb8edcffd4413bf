-- The law of the last raise, in a scenario.
use Rattle.std.proofs.Common.{◌≡◌, ℕ, ◌+◌, ◌<◌, ◌≤◌, zero, suc, true, false, inl, inr, List, [], ◌∷◌, ◌++◌, length, get_or, replicate, refl, sym, ap, subst, subst₂, ◌∙◌, arith, append_assoc}
use Rattle.std.proofs.lemmas.Bool.{cases_Bool}
use Rattle.std.proofs.lemmas.Grind.{fold-append}
use Rattle.convoy_scenario.specs.Scenario.{Scenario, GoesTo}
use Rattle.convoy_scenario.specs.WellFormed.{IsScenario}
use Rattle.convoy_packets.specs.Assignment.{Schedule}
use Rattle.convoy_sim.specs.declared.moment.Moment.{Moment}
use Rattle.convoy_sim.specs.declared.moment.MomentKind.TheVariants.{Arrival}
use Rattle.convoy_sim.specs.Times.{arrive, settle}
use Rattle.convoy_sim.specs.Moments.{is_before, arrival_of, commit_of, next_arrival, moments_of}
use Rattle.convoy_sim.specs.Stamps.{GivenStamp, Clocks, first_clocks, clocks_of, clock_of, greatest_in, local_stamp, final_stamp, after_moment}
use Rattle.convoy_sim.specs.RaiseLaws.{LastRaise, IsLastRaise, IsCounted}
use Rattle.convoy_sim.proofs.Membership.{IsIn, IsOnce, in-append_left, in-append_right, filter_keeps, filter_drops, in-filter}
use Rattle.convoy_sim.proofs.MomentsOrder.{before_itself, before_total}
use Rattle.convoy_sim.proofs.MomentTicks.{tick_past_commit}
use Rattle.convoy_sim.proofs.MomentsInOrder.{IsOrdered, before}
use Rattle.convoy_sim.proofs.ClocksGrow.{read, given_at, given_stays, coming_gives, reached}
use Rattle.convoy_sim.proofs.Runs.{IsRun, local_of_given, greatest_at_commit}
use Rattle.convoy_sim.proofs.Addressed.{number_of_goes}
use Rattle.convoy_sim.proofs.ScenarioMoments.{coming_in, coming_is, commit_is, moments_run, moments_once, traffic_of}
use Rattle.convoy_sim.proofs.StampLaws.{comings_before_commit, final_is_local}
use Rattle.convoy_sim.proofs.Raises.{last_raise_in, RaisedLast, AreCounted, Counts, stamped}

-- ---- a list at an element
pub split_at : {X : Type 0} (x : X) (xs : List X) → IsIn x xs → (first : List X) × (rest : List X) × (xs ≡ first ++ x ∷ rest)
split_at x [] i = absurd i
split_at x (y ∷ ys) (inl e) = ([], ys, ap (λ z. z ∷ ys) e)
split_at x (y ∷ ys) (inr i) = let r = split_at x ys i in (y ∷ r.0, r.1, ap (λ l. y ∷ l) r.2)

behind_in : (first rest : List Moment) (c z : Moment) → IsOrdered (first ++ c ∷ rest) → IsIn z rest → is_before z c ≡ false
behind_in [] rest c z o i = o.0 z i
behind_in (y ∷ ys) rest c z o i = behind_in ys rest c z o.1 i

not_first_in : (first rest : List Moment) (c z : Moment) → IsOrdered (first ++ c ∷ rest) → IsIn z first → is_before c z ≡ false
not_first_in [] rest c z o i = absurd i
not_first_in (y ∷ ys) rest c z o (inl e) = subst (λ w. is_before c w ≡ false) e (o.0 c (in-append_right c ys (c ∷ rest) (inl refl)))
not_first_in (y ∷ ys) rest c z o (inr i) = not_first_in ys rest c z o.1 i

once_in : {X : Type 0} (first rest : List X) (c : X) → IsOnce (first ++ c ∷ rest) → IsIn c first → ⊥
once_in [] rest c o i = i
once_in (y ∷ ys) rest c o (inl e) = o.0 (subst (λ w. IsIn w (ys ++ c ∷ rest)) (sym e) (in-append_right c ys (c ∷ rest) (inl refl)))
once_in (y ∷ ys) rest c o (inr i) = once_in ys rest c o.1 i

-- in a run, what stands in front of a moment is before it
first_in : (s : Clocks) (ms first rest : List Moment) (c z : Moment) → IsRun s ms → IsOnce ms → ms ≡ first ++ c ∷ rest → IsIn z first
    → is_before z c ≡ true
first_in s ms first rest c z run once e i = elim (cases_Bool (is_before z c)) [
  | inl t ↦ t
  | inr f ↦ absurd (
      let back = not_first_in first rest c z (subst IsOrdered e run.ordered) i in
      let parts = before_total z c f back in
      let z_is_in : IsIn z ms = subst (IsIn z) (sym e) (in-append_left z first (c ∷ rest) i) in
      let c_is_in : IsIn c ms = subst (IsIn c) (sym e) (in-append_right c first (c ∷ rest) (inl refl)) in
      let same : z ≡ c = run.same z c z_is_in c_is_in parts.2 parts.3 parts.4 in
      once_in first rest c (subst IsOnce e once) (subst (λ w. IsIn w first) same i))
]

filter_none : (p : Moment) (ms : List Moment) → ((z : Moment) → IsIn z ms → is_before z p ≡ false) → before p ms ≡ []
filter_none p [] h = refl
filter_none p (y ∷ ys) h = filter_drops (λ x. is_before x p) y ys (h y (inl refl)) ∙ filter_none p ys (λ z i. h z (inr i))

filter_first : (p : Moment) (first rest : List Moment) → ((z : Moment) → IsIn z first → is_before z p ≡ true)
    → ((z : Moment) → IsIn z rest → is_before z p ≡ false) → before p (first ++ rest) ≡ first
filter_first p [] rest h k = filter_none p rest k
filter_first p (y ∷ ys) rest h k =
    filter_keeps (λ x. is_before x p) y (ys ++ rest) (h y (inl refl)) ∙ ap (λ l. y ∷ l) (filter_first p ys rest (λ z i. h z (inr i)) k)

-- the moments before one are those in front of it
before_is : (s : Clocks) (ms first rest : List Moment) (c : Moment) → IsRun s ms → IsOnce ms → ms ≡ first ++ c ∷ rest → before c ms ≡ first
before_is s ms first rest c run once e =
    ap (before c) e ∙ filter_first c first (c ∷ rest) (λ z i. first_in s ms first rest c z run once e i) late where
      late : (z : Moment) → IsIn z (c ∷ rest) → is_before z c ≡ false
      late z (inl same) = subst (λ w. is_before w c ≡ false) same (before_itself c)
      late z (inr i) = behind_in first rest c z (subst IsOrdered e run.ordered) i

-- at the commit of a message its greatest stamp is the final one already
final_at_commit : (plan : Scenario) (schedule : Schedule) → IsScenario plan → (m h : ℕ)
    → greatest_in (read (first_clocks plan) (before (commit_of plan schedule m h) (moments_of plan schedule))) m ≡ final_stamp plan schedule m
unfolding final_stamp clocks_of
final_at_commit plan schedule well m h =
    greatest_at_commit (first_clocks plan) (moments_of plan schedule) (moments_run plan (traffic_of plan well) schedule) (commit_of plan schedule m h)
    (comings_before_commit plan schedule m h)

module _ (plan : Scenario) (schedule : Schedule) (well : IsScenario plan) where
  start : Clocks
  start = first_clocks plan

  all : List Moment
  all = moments_of plan schedule

  run : IsRun start all
  unfolding start all
  run = moments_run plan (traffic_of plan well) schedule

  once : IsOnce all
  unfolding all
  once = moments_once plan (traffic_of plan well) schedule

  -- a stamp given before some of the moments is given in the end
  given_in_end : (first rest : List Moment) (x : GivenStamp) → all ≡ first ++ rest → IsIn x (read start first).given → IsIn x (read start all).given
  given_in_end first rest x e i =
      subst (λ l. IsIn x (read start l).given) (sym e)
      (subst (λ t. IsIn x t.given) (sym (fold-append after_moment start first rest)) (given_stays (read start first) rest x i))

  -- and is the local stamp of its message
  local_of : (first rest : List Moment) (x : GivenStamp) → all ≡ first ++ rest → IsIn x (read start first).given
      → local_stamp plan schedule x.message x.stamp.group ≡ x.stamp
  unfolding start all local_stamp clocks_of
  local_of first rest x e i = local_of_given start all run once x (given_in_end first rest x e i)

  module _ (q h : ℕ) (goes : GoesTo plan q h) (first rest : List Moment) (parts : all ≡ first ++ arrival_of plan schedule q h ∷ rest) where
    time_of_coming : (local_stamp plan schedule q h).time ≡ clock_of (read start first) h + 1
    unfolding all
    time_of_coming =
        let p : Moment = arrival_of plan schedule q h in
        let early : Clocks = read start first in
        let more : all ≡ (first ++ p ∷ []) ++ rest = parts ∙ sym (append_assoc first (p ∷ []) rest) in
        let there : IsIn (given_at early q h) (read start (first ++ p ∷ [])).given =
        subst (λ t. IsIn (given_at early q h) t.given) (sym (fold-append after_moment start first (p ∷ [])))
        (in-append_right _ early.given _ (inl refl)) in
        ap (λ t. t.time) (local_of (first ++ p ∷ []) rest (given_at early q h) more there)

    -- an arrival that was counted, as the law says it
    counted_as : (mid more : List Moment) (since u : ℕ) (z : Moment) → first ≡ mid ++ more
        → ((c : Moment) → IsIn c more → c.kind ≡ Arrival → since ≤ c.tick)
        → Counts (read start first) more h u z → IsCounted plan schedule q h since u z.message
    unfolding all
    counted_as mid more since u z e late i =
        let p : Moment = arrival_of plan schedule q h in
        let in_first : IsIn z first = subst (IsIn z) (sym e) (in-append_right z mid more i.there) in
        let in_all : IsIn z all = subst (IsIn z) (sym parts) (in-append_left z first (p ∷ rest) in_first) in
        let is = coming_is plan schedule z in_all i.kind in
        let same : z ≡ arrival_of plan schedule z.message h = is.0 ∙ ap (arrival_of plan schedule z.message) i.here in
        record {
          goes = subst (GoesTo plan z.message) i.here is.1;
          late = subst (λ t. since ≤ t) (ap (λ c. c.tick) same) (late z i.there i.kind);
          first = subst (λ c. is_before c p ≡ true) same (first_in start all first rest p z run once parts in_first);
          stamp = ap (λ t. t.time) (local_of first (p ∷ rest) (stamped z.message h u) parts i.given);
        }

    -- a commit that raised the clock, as the law says it
    raised_as : (mid : List Moment) (c : Moment) (more : List Moment) → RaisedLast start first h mid c more
        → IsLastRaise plan schedule q h (greatest_in (read start mid) c.message).time (next_arrival plan.time (settle plan schedule c.message h))
    unfolding all start
    raised_as mid c more r =
        let p : Moment = arrival_of plan schedule q h in
        let m : ℕ = c.message in
        let time : ℕ = (greatest_in (read start mid) m).time in
        let in_first : IsIn c first = subst (IsIn c) (sym r.parts) (in-append_right c mid (c ∷ more) (inl refl)) in
        let in_all : IsIn c all = subst (IsIn c) (sym parts) (in-append_left c first (p ∷ rest) in_first) in
        let is = commit_is plan schedule c in_all r.kind in
        let same : c ≡ commit_of plan schedule m h = is.0 ∙ ap (commit_of plan schedule m) r.here in
        let to_h : GoesTo plan m h = subst (GoesTo plan m) r.here is.1 in
        let whole : all ≡ mid ++ c ∷ (more ++ p ∷ rest) =
        parts ∙ (ap (λ l. l ++ p ∷ rest) r.parts ∙ append_assoc mid (c ∷ more) (p ∷ rest)) in
        let cut : before (commit_of plan schedule m h) all ≡ mid =
        subst (λ d. before d all ≡ mid) same (before_is start all mid (more ++ p ∷ rest) c run once whole) in
        let final : greatest_in (read start mid) m ≡ final_stamp plan schedule m =
        subst (λ l. greatest_in (read start l) m ≡ final_stamp plan schedule m) cut (final_at_commit plan schedule well m h) in
        let own : Moment = arrival_of plan schedule m h in
        let own_in : IsIn own all = coming_in plan schedule m h to_h in
        let own_first : IsIn own mid =
        subst (IsIn own) cut (in-filter (λ x. is_before x (commit_of plan schedule m h)) own all own_in
        (comings_before_commit plan schedule m h own own_in refl refl)) in
        let g = coming_gives start mid own own_first refl in
        let low = reached start mid (λ d i. run.within d (subst (IsIn d) (sym whole) (in-append_left d mid (c ∷ (more ++ p ∷ rest)) i)))
        (λ x i. absurd i) g.0 g.1 in
        let mine : local_stamp plan schedule m h ≡ g.0.stamp =
        subst₂ (λ a b. local_stamp plan schedule a b ≡ g.0.stamp) g.2 g.3 (local_of mid (c ∷ (more ++ p ∷ rest)) g.0 whole g.1) in
        let low_here : g.0.stamp.time ≤ clock_of (read start mid) h = subst (λ k. g.0.stamp.time ≤ clock_of (read start mid) k) g.3 low in
        let f = final_is_local plan schedule well m (number_of_goes plan m h to_h) in
        let from : (local_stamp plan schedule m f.0).time ≡ time = ap (λ t. t.time) (f.2 ∙ sym final) in
        let up : clock_of (read start mid) h < time = r.up in
        let counts : AreCounted (read start first) more h time = r.counted in
        let high : time ≤ clock_of (read start first) h = r.reached in
        record {
          by = inr (
            m,
            f.0,
            record {
              goes = to_h;
              from = f.1;
              elsewhere = λ e.
                  let twice : (local_stamp plan schedule m h).time ≡ time = subst (λ k. (local_stamp plan schedule m k).time ≡ time) e from in
                  let known : (local_stamp plan schedule m h).time ≡ g.0.stamp.time = ap (λ t. t.time) mine in
                  absurd (omega arith);
              first = subst (λ d. is_before d p ≡ true) same (first_in start all first rest p c run once parts in_first);
              stamp = from;
              final = ap (λ t. t.time) (sym final);
              next = refl;
            },
          );
          below = omega (arith, time_of_coming);
          counted = λ u l k.
              let z = counts u l (omega (arith, time_of_coming)) in (
                z.0.message,
                counted_as (mid ++ c ∷ []) more (next_arrival plan.time (settle plan schedule m h)) u z.0
                    (r.parts ∙ sym (append_assoc mid (c ∷ []) more))
                    (λ d i k. after_commit d (ap (λ b. b.tick) same)
                    (subst (IsIn d) (sym whole) (in-append_right d mid (c ∷ (more ++ p ∷ rest)) (inr (in-append_left d more (p ∷ rest) i))))
                    (behind_in mid (more ++ p ∷ rest) c d (subst IsOrdered whole run.ordered) (in-append_left d more (p ∷ rest) i)) k) z.1,
              );
        } where
          after_commit : (d : Moment) → c.tick ≡ settle plan schedule c.message h → IsIn d all → is_before d c ≡ false → d.kind ≡ Arrival
              → next_arrival plan.time (settle plan schedule c.message h) ≤ d.tick
          after_commit d t i b k =
              let is = coming_is plan schedule d i k in
              subst (λ (e : Moment). next_arrival plan.time (settle plan schedule c.message h) ≤ e.tick) (sym is.0)
              (subst (λ s. next_arrival plan.time s ≤ arrive plan schedule d.message d.group) t
              (tick_past_commit plan schedule d.message d.group c r.kind (subst (λ e. is_before e c ≡ false) is.0 b)))

    -- no commit raised the clock
    never_as : AreCounted (read start first) first h (clock_of start h) → IsLastRaise plan schedule q h 0 0
    unfolding start
    never_as counts =
        let none : clock_of start h ≡ 0 = zero_at (length plan.groups) h 0 in
        record {
          by = inl (refl, refl);
          below = omega (arith, time_of_coming);
          counted = λ u l k.
              let z = counts u (omega arith) (omega (arith, time_of_coming)) in
              (z.0.message, counted_as [] first 0 u z.0 refl (λ d i k. omega arith) z.1);
        } where
          zero_at : (n i z : ℕ) → get_or (replicate n z) i z ≡ z
          zero_at zero i z = refl
          zero_at (suc n) zero z = refl
          zero_at (suc n) (suc i) z = zero_at n i z

pub last_raise : LastRaise
unfolding all start
last_raise plan schedule well q h goes =
    let p : Moment = arrival_of plan schedule q h in
    let cut = split_at p (all plan schedule well) (coming_in plan schedule q h goes) in
    let within = (run plan schedule well).within in
    elim (last_raise_in (start plan schedule well) cut.0 h
    (λ d i. within d (subst (IsIn d) (sym cut.2) (in-append_left d cut.0 (p ∷ cut.1) i)))) [
      | inl never ↦ (0, 0, never_as plan schedule well q h goes cut.0 cut.1 cut.2 never)
      | inr r ↦ (_, _, raised_as plan schedule well q h goes cut.0 cut.1 cut.2 r.0 r.1 r.2 r.3)
    ]
