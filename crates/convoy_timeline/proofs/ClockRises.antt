-- What raised clocks to the time of a stamp.
use Rattle.std.proofs.Common.{◌≡◌, ℕ, zero, suc, ◌+◌, ◌<◌, ◌⊎◌, inl, inr, ◌==◌, Bool, true, false, ◌&&◌, List, [], ◌∷◌, map, Option, Some, None, find, cond, refl, sym, ap, subst, ◌∙◌, arith}
use Rattle.std.specs.Option.{option_map}
use Rattle.std.proofs.lemmas.Bool.{cases_Bool, cases_lt, and_from, and_parts, both_ways, eq-eqb, eqb-true, cond-true, cond-false}
use Rattle.std.proofs.lemmas.Option.{none-some}
use Rattle.convoy_scenario.specs.Scenario.{Scenario, GoesTo}
use Rattle.convoy_scenario.specs.WellFormed.{IsScenario}
use Rattle.convoy_packets.specs.Assignment.{Schedule}
use Rattle.convoy_sim.specs.declared.moment.Moment.{Moment}
use Rattle.convoy_sim.specs.Moments.{is_before, arrival_of, commit_of, moments_of}
use Rattle.convoy_sim.specs.Stamps.{local_stamp, final_stamp}
use Rattle.convoy_sim.specs.ProtocolLaws.{FinalStampIsLocal, LocalStampNamesGroup, StampsRise, StampsRisePastCommit}
use Rattle.convoy_sim.specs.RaiseLaws.{LastRaise}
use Rattle.convoy_sim.proofs.Membership.{IsIn, in_of_find, find-in}
use Rattle.convoy_sim.proofs.MomentsOrder.{before_chain, before_itself, before_trans}
use Rattle.convoy_sim.proofs.MomentsInOrder.{IsOrdered}
use Rattle.convoy_sim.proofs.Addressed.{number_of_goes}
use Rattle.convoy_sim.proofs.ScenarioMoments.{coming_in, commit_in, moment_cases, moments_run, traffic_of}
use Rattle.convoy_timeline.specs.Causes.{is_rise_to, moments_stamped, rise_and, rise_at, rise_to, rises_before, stamped_at}
use Rattle.convoy_timeline.specs.ExplanationLaws.{AreRisesBefore, IsRiseBefore, RisesRaise}
use Rattle.convoy_timeline.proofs.ExplanationTruth.{stamp_goes}

-- ---- lists
-- the first that passes a test among what a function makes of a list's elements
find-map : {X Y : Type 0} (f : X → Y) (p : Y → Bool) (xs : List X) → find p (map f xs) ≡ option_map f (find (λ x. p (f x)) xs)
find-map f p [] = refl
find-map {X} {Y} f p (x ∷ xs) = by_test (p (f x)) (find p (map f xs)) (find (λ z. p (f z)) xs) (find-map f p xs) where
  by_test : (b : Bool) (r : Option Y) (s : Option X) → r ≡ option_map f s → cond b (Some (f x)) r ≡ option_map f (cond b (Some x) s)
  by_test true r s h = refl
  by_test false r s h = h

-- of moments in their order, none that passes a test is before the first that does
first_found : (p : Moment → Bool) (y w : Moment) (ms : List Moment) → IsOrdered ms → find p ms ≡ Some y → IsIn w ms → p w ≡ true
    → is_before w y ≡ false
first_found p y w [] o is i t = absurd i
first_found p y w (x ∷ xs) o is i t = elim (cases_Bool (p x)) [
  | inl e ↦
      let same : Some x ≡ Some y = sym (cond-true (p x) (Some x) (find p xs) e) ∙ is in
      subst (λ z. is_before w z ≡ false) (some_same same) (elim i [
        | inl q ↦ subst (λ z. is_before z x ≡ false) q (before_itself x)
        | inr j ↦ o.0 w j
      ])
  | inr e ↦ elim i [
    | inl q ↦ absurd (both_ways (p w) (subst (λ z. p z ≡ false) q e) t)
    | inr j ↦ first_found p y w xs o.1 (sym (cond-false (p x) (Some x) (find p xs) e) ∙ is) j t
  ]
] where
  some_same : {X : Type 0} {a b : X} → Some a ≡ Some b → a ≡ b
  some_same e = cc

-- ---- a scenario
module _ (plan : Scenario) (schedule : Schedule) (well : IsScenario plan)
    (last : LastRaise) (rise : StampsRise) (past : StampsRisePastCommit) (is_local : FinalStampIsLocal) (names : LocalStampNamesGroup) where
  -- the time of the stamp of a moment
  abbrev time_at : Moment → ℕ
  time_at c = (stamped_at plan schedule c.kind c.message c.group).stamp.time

  -- a moment at that group whose stamp has that time
  abbrev is_at : ℕ → ℕ → Moment → Bool
  is_at time g c = (c.group == g) && (time_at c == time)

  ordered : IsOrdered (moments_of plan schedule)
  ordered = (moments_run plan (traffic_of plan well) schedule).ordered

  -- the time of a local stamp is 1, or that before it is that of the stamp of a moment there which is before it
  raiser : (n k t : ℕ) → GoesTo plan n k → (local_stamp plan schedule n k).time ≡ t + 1
      → (t ≡ 0) ⊎ ((c : Moment) × IsIn c (moments_of plan schedule) × (is_at t k c ≡ true) × (is_before c (arrival_of plan schedule n k) ≡ true))
  raiser n k t goes e =
      let r = last plan schedule well n k goes in
      let below = r.2.below in
      elim (cases_lt r.0 t) [
        | inl l ↦
            let z = r.2.counted t l (omega arith) in
            inr (arrival_of plan schedule z.0 k, coming_in plan schedule z.0 k z.1.goes, and_from _ _ (eq-eqb k k refl) (eq-eqb _ _ z.1.stamp), z.1.first)
        | inr l ↦ elim r.2.by [
          | inl none ↦ let start = none.0 in inl (omega arith)
          | inr c ↦
              let same : r.0 ≡ t = omega arith in
              inr (commit_of plan schedule c.0 k, commit_in plan schedule c.0 k c.2.goes, and_from _ _ (eq-eqb k k refl) (eq-eqb _ _ (c.2.final ∙ same)), c.2.first)
        ]
      ]

  -- each local stamp has a time above 0
  above_zero : (n k : ℕ) → GoesTo plan n k → 0 < (local_stamp plan schedule n k).time
  above_zero n k goes = let below = (last plan schedule well n k goes).2.below in omega arith

  -- the final stamp of a message is its local one at the group that it names
  final_there : (m g : ℕ) → GoesTo plan m g
      → local_stamp plan schedule m (final_stamp plan schedule m).group ≡ final_stamp plan schedule m
  final_there m g goes =
      let one = is_local plan schedule well m (number_of_goes plan m g goes) in
      let group : one.0 ≡ (final_stamp plan schedule m).group = sym (names plan schedule well m one.0 one.1) ∙ ap (λ s. s.group) one.2 in
      subst (λ h. local_stamp plan schedule m h ≡ final_stamp plan schedule m) group one.2

  -- the stamp of a moment was given to its message by the group that it names
  pub record IsGiven (c : Moment) (g : ℕ) : Type 0 where
    pub goes : GoesTo plan c.message g
    pub kinds : (c ≡ arrival_of plan schedule c.message g) ⊎ (c ≡ commit_of plan schedule c.message g)
    pub from : GoesTo plan c.message (stamped_at plan schedule c.kind c.message g).stamp.group
    pub time : (local_stamp plan schedule c.message (stamped_at plan schedule c.kind c.message g).stamp.group).time
        ≡ (stamped_at plan schedule c.kind c.message g).stamp.time

  given : (c : Moment) → IsIn c (moments_of plan schedule) → IsGiven c c.group
  given c i =
      let r = moment_cases plan schedule c i in
      elim r.3 [
        | inl e ↦ subst (λ d. IsGiven d d.group) e (record {
          goes = r.2;
          kinds = inl refl;
          from = subst (GoesTo plan r.0) (sym (names plan schedule well r.0 r.1 r.2)) r.2;
          time = ap (λ g. (local_stamp plan schedule r.0 g).time) (names plan schedule well r.0 r.1 r.2);
        })
        | inr e ↦ subst (λ d. IsGiven d d.group) e (record {
          goes = r.2;
          kinds = inr refl;
          from = stamp_goes plan schedule is_local names well r.0 r.1 r.2;
          time = ap (λ s. s.time) (final_there r.0 r.1 r.2);
        })
      ]

  -- a moment before that at which a message comes, and before the first whose stamp has the time before that of the message's, has a stamp of less time
  below : (t k time : ℕ) (c d : Moment) → find (is_at t k) (moments_of plan schedule) ≡ Some c → IsIn d (moments_of plan schedule)
      → d.group ≡ k → time_at d ≡ time → time < t + 1 → is_before d c ≡ true → time < t
  below t k time c d found i here is less before = elim (cases_lt time t) [
    | inl l ↦ l
    | inr l ↦
        let same : time_at d ≡ t = omega (arith, is) in
        absurd (both_ways (is_before d c)
        (first_found (is_at t k) c d (moments_of plan schedule) ordered found i (and_from _ _ (eq-eqb _ _ here) (eq-eqb _ _ same))) before)
  ]

  -- the first moment there whose stamp has the time before that of a message which comes is the last rise before it
  is_rise : (n k t : ℕ) (c w : Moment) → GoesTo plan n k → (local_stamp plan schedule n k).time ≡ t + 1
      → find (is_at t k) (moments_of plan schedule) ≡ Some c
      → IsIn w (moments_of plan schedule) → is_at t k w ≡ true → is_before w (arrival_of plan schedule n k) ≡ true
      → IsRiseBefore plan schedule n k (rise_at plan schedule c)
  is_rise n k t c w goes e found i there before =
      let r = in_of_find (is_at t k) c (moments_of plan schedule) found in
      let parts = and_parts (c.group == k) (time_at c == t) r.1 in
      let here : c.group ≡ k = eqb-true _ _ parts.0 in
      let time : (rise_at plan schedule c).stamped.stamp.time ≡ t = eqb-true _ _ parts.1 in
      let is = subst (IsGiven c) here (given c r.0) in
      let first : is_before c (arrival_of plan schedule n k) ≡ true = first_before in
      record {
        goes = is.goes;
        moment = is.kinds;
        stamped = ap (stamped_at plan schedule c.kind c.message) here;
        before = first;
        next = omega (arith, e, time);
        arrivals_below = λ m to b.
            subst (λ u. (local_stamp plan schedule m k).time < u) (sym time)
            (below t k (local_stamp plan schedule m k).time c (arrival_of plan schedule m k) found (coming_in plan schedule m k to) refl refl
            (subst (λ u. (local_stamp plan schedule m k).time < u) e (rise plan schedule well m n k to goes (before_trans (arrival_of plan schedule m k) c (arrival_of plan schedule n k) b first))) b);
        commits_below = λ m to b.
            subst (λ u. (final_stamp plan schedule m).time < u) (sym time)
            (below t k (final_stamp plan schedule m).time c (commit_of plan schedule m k) found (commit_in plan schedule m k to) refl refl
            (subst (λ u. (final_stamp plan schedule m).time < u) e (past plan schedule well m n k to goes (before_trans (commit_of plan schedule m k) c (arrival_of plan schedule n k) b first))) b);
      }
    where
      first_before : is_before c (arrival_of plan schedule n k) ≡ true
      first_before = elim (cases_Bool (is_before c (arrival_of plan schedule n k))) [
        | inl f ↦ f
        | inr f ↦ absurd (both_ways (is_before w (arrival_of plan schedule n k))
            (before_chain w c (arrival_of plan schedule n k)
            (first_found (is_at t k) c w (moments_of plan schedule) ordered found i there) f) before)
      ]

  -- no moment has a stamp of time 0
  none_at_zero : (c : Moment) → IsIn c (moments_of plan schedule) → time_at c ≡ 0 → ⊥
  none_at_zero c i time = let g = given c i in let above = above_zero c.message _ g.from in omega (arith, g.time, time)

  -- what is told of a moment is what the definitions find
  rise_to-find : (t k : ℕ) → rise_to (moments_stamped plan schedule) t k ≡ option_map (rise_at plan schedule) (find (is_at t k) (moments_of plan schedule))
  unfolding moments_stamped
  rise_to-find t k = find-map (rise_at plan schedule) (is_rise_to t k) (moments_of plan schedule)

  -- the group that gave the stamp of a moment
  abbrev giver : Moment → ℕ
  giver c = (stamped_at plan schedule c.kind c.message c.group).stamp.group

  time_of : (t k : ℕ) (c : Moment) → is_at t k c ≡ true → time_at c ≡ t
  time_of t k c there = eqb-true _ _ (and_parts (c.group == k) (time_at c == t) there).1

  -- what is told before a stamp is so, if what is told before the stamp of its first rise is
  one_rise : (t n k : ℕ) → GoesTo plan n k → (local_stamp plan schedule n k).time ≡ t + 1
      → ((c : Moment) → IsIn c (moments_of plan schedule) → time_at c ≡ t
      → AreRisesBefore plan schedule c.message (giver c) (rises_before (moments_stamped plan schedule) t (giver c)))
      → AreRisesBefore plan schedule n k (rises_before (moments_stamped plan schedule) (suc t) k)
  one_rise t n k goes e rest =
      subst (λ found. AreRisesBefore plan schedule n k (rise_and (rises_before (moments_stamped plan schedule) t) found)) (sym (rise_to-find t k))
      (by_found (find (is_at t k) (moments_of plan schedule)) refl)
    where
      by_found : (found : Option Moment) → find (is_at t k) (moments_of plan schedule) ≡ found
          → AreRisesBefore plan schedule n k (rise_and (rises_before (moments_stamped plan schedule) t) (option_map (rise_at plan schedule) found))
      by_found None none = elim (raiser n k t goes e) [
        | inl start ↦ omega (arith, e)
        | inr one ↦ absurd (none-some _ (sym none ∙ (find-in (is_at t k) one.0 (moments_of plan schedule) one.1 one.2).1))
      ]
      by_found (Some c) is =
          let r = in_of_find (is_at t k) c (moments_of plan schedule) is in
          let time : time_at c ≡ t = time_of t k c r.1 in
          elim (raiser n k t goes e) [
            | inl start ↦ absurd (none_at_zero c r.0 (time ∙ start))
            | inr w ↦ (is_rise n k t c w.0 goes e is w.1 w.2 w.3, rest c r.0 time)
          ]

  chain : (t n k : ℕ) → GoesTo plan n k → (local_stamp plan schedule n k).time ≡ t + 1
      → AreRisesBefore plan schedule n k (rises_before (moments_stamped plan schedule) (suc t) k)
  chain zero n k goes e = one_rise zero n k goes e (λ c i time. absurd (none_at_zero c i time))
  chain (suc t) n k goes e =
      one_rise (suc t) n k goes e (λ c i time. let g = given c i in
      chain t c.message (giver c) g.from (omega (arith, g.time, time)))

pub rises_raise : LastRaise → StampsRise → StampsRisePastCommit → FinalStampIsLocal → LocalStampNamesGroup → RisesRaise
rises_raise last rise past is_local names plan schedule well m known =
    let one = is_local plan schedule well m known in
    let there = stamp_goes plan schedule is_local names well m one.0 one.1 in
    let same = final_there plan schedule well last rise past is_local names m one.0 one.1 in
    by_time (final_stamp plan schedule m).time refl (final_stamp plan schedule m).group there (ap (λ s. s.time) same)
  where
    by_time : (time : ℕ) → (final_stamp plan schedule m).time ≡ time → (g : ℕ) → GoesTo plan m g → (local_stamp plan schedule m g).time ≡ (final_stamp plan schedule m).time
        → AreRisesBefore plan schedule m g (rises_before (moments_stamped plan schedule) time g)
    by_time zero is g goes same = absurd (let above = above_zero plan schedule well last rise past is_local names m g goes in omega (arith, same, is))
    by_time (suc t) is g goes same = chain plan schedule well last rise past is_local names t m g goes (omega (arith, same, is))
