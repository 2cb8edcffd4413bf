-- What tables of stamps tell when the moments before a given one have been read.
use Rattle.std.proofs.Common.{All, zero, suc, ◌≡◌, ◌≢◌, ℕ, ◌+◌, ◌<◌, max, true, false, nat_lt, ◌==◌, ◌&&◌, ◌⊎◌, inl, inr, List, [], ◌∷◌, ◌++◌, length, get_or, slice_set, replicate, refl, sym, ap, ap₂, subst, subst₂, ◌∙◌, append_assoc, arith, length-set, get_or-set_same}
use Rattle.std.proofs.lemmas.Bool.{cases_Bool, cases_eq, cases_lt, cond-true, cond-false, eq-eqb, eqb-true, lt-ltb}
use Rattle.std.proofs.lemmas.List.{get_or-set_other, get_or-replicate, get_or_past, length-replicate}
use Rattle.convoy_scenario.specs.Scenario.{Scenario, message_at, is_addressed}
use Rattle.convoy_scenario.specs.WellFormed.{IsScenario}
use Rattle.convoy_packets.specs.Assignment.{Schedule}
use Rattle.convoy_sim.specs.declared.moment.Moment.{Moment}
use Rattle.convoy_sim.specs.declared.moment.MomentKind.TheVariants.{Arrival, Commit}
use Rattle.convoy_sim.specs.declared.timestamp.Timestamp.{Timestamp}
use Rattle.convoy_sim.specs.Moments.{is_before, moments_of}
use Rattle.convoy_sim.specs.Stamps.{Clocks, is_less, later, no_stamp, clock_of, greatest_in, first_clocks, after_arrival, clocks_of, local_stamp, final_stamp}
use Rattle.convoy_scenario.specs.Scenario.{GoesTo}
use Rattle.convoy_sim.specs.Moments.{arrival_of}
use Rattle.convoy_sim.specs.Moments.{commit_of}
use Rattle.convoy_packets.specs.Order.{place}
use Rattle.convoy_sim.specs.Agenda.{before}
use Rattle.convoy_sim.specs.StampTables.{StampTable, no_stamps, with_arrival, with_commit, with_moment, with_moments, IsSized}
use Rattle.convoy_sim.specs.Deliveries.{TellsAhead}
use Rattle.convoy_sim.proofs.Membership.{IsIn, in-append_left, in-append_right, in_append_cases, in-filter, in_of_filter}
use Rattle.convoy_sim.proofs.MomentsOrder.{before_total, not_less_by_time}
use Rattle.convoy_sim.proofs.MomentsInOrder.{cut, from_on}
use Rattle.convoy_sim.proofs.ClocksGrow.{length_read}
use Rattle.convoy_sim.proofs.Runs.{greatest_at_commit, past_clock}
use Rattle.convoy_sim.proofs.Addressed.{number_of_goes}
use Rattle.convoy_sim.proofs.ScenarioMoments.{moment_cases, coming_in, coming_is, moments_run, traffic_of}
use Rattle.convoy_sim.proofs.StampLaws.{comings_before_commit, rises_past, local_names}
use Rattle.convoy_sim.proofs.Cuts.{IsCut, known, known_more, cut_next, local_at_coming, greatest_more}
use Rattle.convoy_sim.proofs.Agendas.{append_nothing}
use Rattle.convoy_sim.proofs.Destinations.{group_known, group_below}

coming_not_commit : Arrival ≡ Commit → ⊥
coming_not_commit e = cc

eqb-not : (a b : ℕ) → a ≢ b → (a == b) ≡ false
eqb-not a b d = elim (cases_Bool (a == b)) [ inl e ↦ absurd (d (eqb-true a b e)) | inr e ↦ e ]

place_parts : (m g n h : ℕ) → g < 8 → h < 8 → place m g ≡ place n h → (m ≡ n) × (g ≡ h)
place_parts m g n h l k e = (omega arith, omega arith)

place_below : (m g : ℕ) → m < 16 → g < 8 → place m g < 128
place_below m g l k = omega arith

-- one write to each of two lists that agree
set_both : (xs ys : List ℕ) (g v w h : ℕ) → g < length xs → g < length ys → v ≡ w → ((k : ℕ) → get_or xs k 0 ≡ get_or ys k 0)
    → get_or (slice_set xs g v) h 0 ≡ get_or (slice_set ys g w) h 0
set_both xs ys g v w h l k e agree = elim (cases_eq h g) [
  | inl s ↦ subst (λ i. get_or (slice_set xs g v) i 0 ≡ get_or (slice_set ys g w) i 0) (sym s)
      (get_or-set_same xs g v 0 l ∙ e ∙ sym (get_or-set_same ys g w 0 k))
  | inr d ↦ get_or-set_other xs g h v 0 d ∙ agree h ∙ sym (get_or-set_other ys g h w 0 d)
]

replicated : {X : Type 0} (n i : ℕ) (x : X) → get_or (replicate n x) i x ≡ x
replicated {X = X} n i x = elim (cases_lt i n) [
  | inl l ↦ get_or-replicate n i x x l
  | inr l ↦ get_or_past (replicate n x) i x (omega (arith, length-replicate {A = X} n x))
]

module _ (plan : Scenario) (well : IsScenario plan) (schedule : Schedule) where
  -- the time of the stamp of message m at group g if it has come, else 0
  abbrev pub TellsTime : List Moment → ℕ → ℕ → ℕ → Type 0
  TellsTime done time m g =
      (IsIn (arrival_of plan schedule m g) done × (time ≡ (local_stamp plan schedule m g).time))
      ⊎ ((IsIn (arrival_of plan schedule m g) done → ⊥) × (time ≡ 0))

  pub record AreTrue (done : List Moment) (table : StampTable) : Type 0 where
    pub clocks : (g : ℕ) → get_or table.clocks g 0 ≡ clock_of (known plan well schedule done) g
    pub finals : (m : ℕ) → m < 16 → get_or table.finals m no_stamp ≡ greatest_in (known plan well schedule done) m
    pub times : (m g : ℕ) → m < 16 → g < 8 → TellsTime done (get_or table.times (place m g) 0) m g
    pub sized : IsSized table

  group_in : (done : List Moment) (g : ℕ) → g < length plan.groups → g < length (known plan well schedule done).numbers
  group_in done g l =
      let read = length_read (first_clocks plan) done in
      let first : length (first_clocks plan).numbers ≡ length plan.groups = length-replicate (length plan.groups) 0 in
      omega arith

  message_below : (m g : ℕ) → GoesTo plan m g → m < 16
  message_below m g h =
      let l = number_of_goes plan m g h in
      let most = well.multicasts_high in
      omega arith

  of_more : (done : List Moment) (c x : Moment) → IsIn x (done ++ c ∷ []) → IsIn x done ⊎ (c ≡ x)
  of_more done c x i = elim (in_append_cases x done (c ∷ []) i) [
    | inl j ↦ inl j
    | inr j ↦ elim j [ inl e ↦ inr e | inr n ↦ absurd n ]
  ]

  -- a moment that is not its arrival changes nothing of what is told of a message
  time_stays : (done : List Moment) (c : Moment) (time more m g : ℕ) → c ≢ arrival_of plan schedule m g → more ≡ time
      → TellsTime done time m g → TellsTime (done ++ c ∷ []) more m g
  time_stays done c time more m g d e t = elim t [
    | inl h ↦ inl (in-append_left _ done (c ∷ []) h.0, e ∙ h.1)
    | inr h ↦ inr ((λ i. elim (of_more done c _ i) [ inl j ↦ h.0 j | inr s ↦ d s ]), e ∙ h.1)
  ]

  -- ---- before any moment
  true_at_start : AreTrue [] no_stamps
  unfolding no_stamps
  true_at_start = record {
    clocks = λ g. replicated 8 g 0 ∙ sym (replicated (length plan.groups) g 0);
    finals = λ m l. replicated 16 m no_stamp;
    times = λ m g l k. inr ((λ i. i), replicated 128 (place m g) 0);
    sized = record {
      clocks = length-replicate {A = ℕ} 8 0;
      finals = length-replicate {A = Timestamp} 16 no_stamp;
      times = length-replicate {A = ℕ} 128 0;
    };
  }

  -- ---- a message comes
  true_coming : (done : List Moment) (m g : ℕ) (rest : List Moment) (table : StampTable)
      → IsCut plan well schedule done (arrival_of plan schedule m g) rest → GoesTo plan m g
      → AreTrue done table → AreTrue (done ++ arrival_of plan schedule m g ∷ []) (with_arrival table m g)
  true_coming done m g rest table cuts goes told =
      let c : Moment = arrival_of plan schedule m g in
      let s : Clocks = known plan well schedule done in
      let next = known_more plan well schedule done c in
      let below = group_below plan well m g goes in
      let few = message_below m g goes in
      let sized = told.sized in
      let time : get_or table.clocks g 0 + 1 ≡ clock_of s g + 1 = ap (λ t. t + 1) (told.clocks g) in
      let stamp : ℕ → Timestamp = λ t. record { time = t; group = g } in
      record {
        clocks = λ h. subst (λ (t : Clocks). get_or (with_arrival table m g).clocks h 0 ≡ clock_of t h) (sym next)
            (set_both table.clocks s.numbers g _ _ h (omega (arith, sized.clocks)) (group_in done g (group_known plan well m g goes)) time told.clocks);
        finals = λ n l. subst (λ (t : Clocks). get_or (with_arrival table m g).finals n no_stamp ≡ greatest_in t n) (sym next)
            (elim (cases_eq m n) [
              | inl e ↦ subst (λ k. get_or (with_arrival table m g).finals k no_stamp ≡ greatest_in (after_arrival s m g) k) e
                  (get_or-set_same table.finals m _ no_stamp (omega (arith, sized.finals))
                  ∙ ap₂ (λ f t. later f (stamp t)) (told.finals m few) time
                  ∙ sym (greatest_more s m g m ∙ cond-true (m == m) _ _ (eq-eqb m m refl)))
              | inr d ↦ get_or-set_other table.finals m n _ no_stamp (λ e. d (sym e))
                  ∙ told.finals n l
                  ∙ sym (greatest_more s m g n ∙ cond-false (m == n) _ _ (eqb-not m n d))
            ]);
        times = λ n h l k. elim (cases_eq (place m g) (place n h)) [
          | inl e ↦
              let p = place_parts m g n h below k e in
              subst₂ (λ a b. TellsTime (done ++ c ∷ []) (get_or (with_arrival table m g).times (place a b) 0) a b) p.0 p.1
              (inl (
                in-append_right c done (c ∷ []) (inl refl),
                get_or-set_same table.times (place m g) _ 0 (omega (arith, sized.times, place_below m g few below))
                    ∙ time
                    ∙ sym (ap (λ (t : Timestamp). t.time) (local_at_coming plan well schedule done m g rest cuts)),
              ))
          | inr d ↦ time_stays done c _ _ n h
              (λ e. d (ap₂ place (ap (λ (x : Moment). x.message) e) (ap (λ (x : Moment). x.group) e)))
              (get_or-set_other table.times (place m g) (place n h) _ 0 (λ e. d (sym e)))
              (told.times n h l k)
        ];
        sized = record {
          clocks = length-set table.clocks g _ ∙ sized.clocks;
          finals = length-set table.finals m _ ∙ sized.finals;
          times = length-set table.times (place m g) _ ∙ sized.times;
        };
      }

  -- ---- a message is committed
  true_commit : (done : List Moment) (m g : ℕ) (table : StampTable) → GoesTo plan m g
      → AreTrue done table → AreTrue (done ++ commit_of plan schedule m g ∷ []) (with_commit table m g)
  true_commit done m g table goes told =
      let c : Moment = commit_of plan schedule m g in
      let s : Clocks = known plan well schedule done in
      let next = known_more plan well schedule done c in
      let below = group_below plan well m g goes in
      let sized = told.sized in
      record {
        clocks = λ h. subst (λ (t : Clocks). get_or (with_commit table m g).clocks h 0 ≡ clock_of t h) (sym next)
            (set_both table.clocks s.numbers g _ _ h (omega (arith, sized.clocks)) (group_in done g (group_known plan well m g goes))
            (ap₂ (λ t (f : Timestamp). max t f.time) (told.clocks g) (told.finals m (message_below m g goes))) told.clocks);
        finals = λ n l. subst (λ (t : Clocks). get_or table.finals n no_stamp ≡ greatest_in t n) (sym next) (told.finals n l);
        times = λ n h l k. time_stays done c _ _ n h (λ e. coming_not_commit (sym (ap (λ (x : Moment). x.kind) e))) refl (told.times n h l k);
        sized = record { clocks = length-set table.clocks g _ ∙ sized.clocks; finals = sized.finals; times = sized.times };
      }

  -- ---- one moment after the other
  true_next : (done : List Moment) (c : Moment) (rest : List Moment) (table : StampTable) → IsCut plan well schedule done c rest
      → AreTrue done table → AreTrue (done ++ c ∷ []) (with_moment table c)
  true_next done c rest table cuts told =
      let r = moment_cases plan schedule c (subst (IsIn c) cuts.whole (in-append_right c done (c ∷ rest) (inl refl))) in
      elim r.3 [
        | inl e ↦ subst (λ d. AreTrue (done ++ d ∷ []) (with_moment table d)) e
            (true_coming done r.0 r.1 rest table (subst (λ d. IsCut plan well schedule done d rest) (sym e) cuts) r.2 told)
        | inr e ↦ subst (λ d. AreTrue (done ++ d ∷ []) (with_moment table d)) e (true_commit done r.0 r.1 table r.2 told)
      ]

  true_up_to : (done mid rest : List Moment) (table : StampTable) → done ++ (mid ++ rest) ≡ moments_of plan schedule
      → AreTrue done table → AreTrue (done ++ mid) (with_moments table mid)
  true_up_to done [] rest table e told = subst (λ l. AreTrue l table) (sym (append_nothing done)) told
  true_up_to done (c ∷ mid) rest table e told =
      let cuts : IsCut plan well schedule done c (mid ++ rest) = record { whole = e } in
      subst (λ l. AreTrue l (with_moments table (c ∷ mid))) (append_assoc done (c ∷ []) mid)
      (true_up_to (done ++ c ∷ []) mid rest (with_moment table c) (cut_next plan well schedule done c (mid ++ rest) cuts)
      (true_next done c (mid ++ rest) table cuts told))

  -- the tables when the moments before a given one have been read
  abbrev pub stamps_before : Moment → StampTable
  stamps_before last = with_moments no_stamps (before last (moments_of plan schedule))

  pub true_before : (last : Moment) → AreTrue (before last (moments_of plan schedule)) (stamps_before last)
  true_before last =
      true_up_to [] (before last (moments_of plan schedule)) (from_on last (moments_of plan schedule)) no_stamps
      (cut last (moments_of plan schedule) (moments_run plan (traffic_of plan well) schedule).ordered) true_at_start

  -- ---- what is ahead
  pub some_time : (n g : ℕ) → GoesTo plan n g → 0 < (local_stamp plan schedule n g).time
  unfolding local_stamp clocks_of
  some_time n g goes =
      let past = past_clock (first_clocks plan) (moments_of plan schedule) (moments_run plan (traffic_of plan well) schedule) (arrival_of plan schedule n g)
      (coming_in plan schedule n g goes) refl in
      omega arith

  -- message m has its final stamp by then, and what has not come is past its commit
  pub record IsEnough (last : Moment) (m g : ℕ) : Type 0 where
    pub final : greatest_in (known plan well schedule (before last (moments_of plan schedule))) m ≡ final_stamp plan schedule m
    pub others : (n : ℕ) → GoesTo plan n g
        → IsIn (arrival_of plan schedule n g) (before last (moments_of plan schedule))
        ⊎ (is_before (commit_of plan schedule m g) (arrival_of plan schedule n g) ≡ true)

  pub told_enough : (last : Moment) (m g : ℕ) → GoesTo plan m g → IsEnough last m g → TellsAhead plan schedule m g (stamps_before last)
  told_enough last m g goes enough = record {
    final = (true_before last).finals m (message_below m g goes) ∙ enough.final;
    ahead = λ n l.
        let final : Timestamp = final_stamp plan schedule m in
        let time : ℕ = get_or (stamps_before last).times (place n g) 0 in
        let stamp : Timestamp = record { time = time; group = g } in
        let local : Timestamp = local_stamp plan schedule n g in
        let most = well.multicasts_high in
        elim ((true_before last).times n g (omega arith) (group_below plan well m g goes)) [
          | inl h ↦
              let there = in_of_filter (λ x. is_before x last) (arrival_of plan schedule n g) (moments_of plan schedule) h.0 in
              let comes : GoesTo plan n g = (coming_is plan schedule (arrival_of plan schedule n g) there.0 refl).1 in
              let some = some_time n g comes in
              let group = sym (local_names plan schedule well n g comes) in
              let same : stamp ≡ local = λ i. record { time = h.1 i; group = group i } in
              let positive : nat_lt 0 time ≡ true = lt-ltb 0 time (omega (arith, h.1)) in
              ap₂ (λ a (s : Timestamp). a && is_less s final) positive same ∙ ap (λ a. a && is_less local final) (sym comes)
          | inr h ↦
              ap (λ t. nat_lt 0 t && is_less (record { time = t; group = g }) final) h.1
              ∙ sym (elim (cases_Bool (is_addressed (message_at plan n) g)) [
                | inr e ↦ ap (λ a. a && is_less local final) e
                | inl e ↦ elim (enough.others n e) [
                  | inl i ↦ absurd (h.0 i)
                  | inr b ↦ ap₂ (λ a d. a && d) e (not_less_by_time local final (rises_past plan schedule well m n g goes e b))
                ]
              ])
        ];
  }

  -- ---- up to the commit of the message
  pub enough_by_commit : (m g : ℕ) → GoesTo plan m g → IsEnough (commit_of plan schedule m g) m g
  unfolding final_stamp clocks_of
  enough_by_commit m g goes = record {
    final = greatest_at_commit (first_clocks plan) (moments_of plan schedule) (moments_run plan (traffic_of plan well) schedule) (commit_of plan schedule m g)
        (comings_before_commit plan schedule m g);
    others = λ n comes.
        let coming : Moment = arrival_of plan schedule n g in
        let commit : Moment = commit_of plan schedule m g in
        elim (cases_Bool (is_before coming commit)) [
          | inl e ↦ inl (in-filter (λ x. is_before x commit) coming (moments_of plan schedule) (coming_in plan schedule n g comes) e)
          | inr e ↦ elim (cases_Bool (is_before commit coming)) [
            | inl f ↦ inr f
            | inr f ↦ absurd (coming_not_commit (before_total coming commit e f).2)
          ]
        ];
  }

  -- ---- the moments that are read
  in_get_or : {X : Type 0} (xs : List X) (k : ℕ) (d : X) → k < length xs → IsIn (get_or xs k d) xs
  in_get_or [] k d l = absurd (omega arith)
  in_get_or (x ∷ xs) zero d l = inl refl
  in_get_or (x ∷ xs) (suc k) d l = inr (in_get_or xs k d (omega arith))

  -- each is of a message and a group within the limits
  pub all_within : (last : Moment) → All (λ x. x.message < 16 × x.group < 8) (before last (moments_of plan schedule))
  all_within last k d l =
      let i = in_get_or (before last (moments_of plan schedule)) k d l in
      let r = moment_cases plan schedule _ (in_of_filter (λ x. is_before x last) _ (moments_of plan schedule) i).0 in
      let few = message_below r.0 r.1 r.2 in
      let below = group_below plan well r.0 r.1 r.2 in
      elim r.3 [
        | inl e ↦ subst (λ (x : Moment). (x.message < 16) × (x.group < 8)) e (few, below)
        | inr e ↦ subst (λ (x : Moment). (x.message < 16) × (x.group < 8)) e (few, below)
      ]
