-- Starts by tables that allow less are served by those of the others, so that leads which show a message to be behind still do.
use Rattle.std.proofs.Common.{◌≡◌, ℕ, zero, suc, ◌+◌, ◌-◌, ◌≤◌, Bool, true, false, cond, not, ◌==◌, ◌&&◌, ◌||◌, nat_le, inl, inr, List, [], ◌∷◌, length, map, fold, get_or, refl, sym, ap, subst, ◌∙◌, arith}
use Rattle.std.specs.List.{list_all}
use Rattle.std.proofs.lemmas.List.{length-map}
use Rattle.std.proofs.lemmas.Bool.{and_from, and_parts, or_cases, or_left, or_right, le-leb, leb-true, eqb-true, false≢true}
use Rattle.convoy_scenario.specs.Scenario.{Scenario, message_at, message_numbers}
use Rattle.convoy_scenario.specs.WellFormed.{IsScenario}
use Rattle.convoy_sim.specs.Times.{Tick}
use Rattle.convoy_sim.proofs.Membership.{IsIn, in_greatest, greatest_most}
use Rattle.convoy_stamps.specs.declared.pair.Pair.{Pair}
use Rattle.convoy_stamps.specs.Reach.{pairs_of}
use Rattle.convoy_sure.specs.Windows.{LeadTables}
use Rattle.convoy_sure.specs.SureLeads.{Sure, sure_of, is_earlier}
use Rattle.convoy_starts.specs.Starts.{Start, barred_at, raise_high, may_commit, start_of, covers_all, covers, add_start, starts_before, first_past, starts_by, last_arrival, stamp_high, is_surely_less}
use Rattle.convoy_starts.proofs.Times.{first_past_rises}
use Rattle.convoy_starts.proofs.AddedStarts.{add_stays, in_of_add, add_has, all_stay}
use Rattle.convoy_leads.specs.Leads.{is_led}
use Rattle.convoy_laws.proofs.Among.{all_too}
use Rattle.convoy_laws.proofs.Firsts.{earlier_too, less_too}
use Rattle.convoy_laws.proofs.TighterWindows.{IsTighter, IsOpen}
use Rattle.convoy_laws.proofs.TighterSure.{leads_rise, time_rises}
use Rattle.convoy_laws.proofs.TighterStamps.{HaveRisen, IsServed, AreServed, raise_grows, stamp_grows}

-- ---- values of messages
mapped_grows : (f g : ℕ → ℕ) (grown a b : ℕ) (ns : List ℕ) → ((n : ℕ) → g n ≤ f n + grown) → b ≤ a + grown
    → (x : ℕ) → get_or (map g ns) x b ≤ get_or (map f ns) x a + grown
mapped_grows f g grown a b [] each base x = base
mapped_grows f g grown a b (n ∷ ns) each base zero = each n
mapped_grows f g grown a b (n ∷ ns) each base (suc x) = mapped_grows f g grown a b ns each base x

covered_at : (olds news : List ℕ) (x a b : ℕ) → length olds ≡ length news → covers_all olds news ≡ true → b ≤ a → get_or news x b ≤ get_or olds x a
covered_at [] [] x a b long all base = base
covered_at [] (n ∷ news) x a b long all base = absurd (omega (arith, long))
covered_at (o ∷ olds) [] x a b long all base = absurd (false≢true all)
covered_at (o ∷ olds) (n ∷ news) zero a b long all base = leb-true n o (and_parts (nat_le n o) (covers_all olds news) all).0
covered_at (o ∷ olds) (n ∷ news) (suc x) a b long all base =
    covered_at olds news x a b (omega (arith, long)) (and_parts (nat_le n o) (covers_all olds news) all).1 base

-- ---- starts by one kind of tables
module _ (scenario : Scenario) (tables : LeadTables) (sure : Sure) (barring : Bool) where
  -- how many values a start has
  abbrev pub bars : ℕ
  bars = cond barring (length (message_numbers scenario)) 0

  start_bars : (starts : List Start) (tick : Tick) (pair : Pair) → length (start_of scenario tables sure barring starts tick pair).barred ≡ bars
  start_bars starts tick pair =
      either barring (map (λ x. raise_high scenario tables sure starts tick x pair.message pair.group) (message_numbers scenario))
      (length-map (message_numbers scenario) (λ x. raise_high scenario tables sure starts tick x pair.message pair.group)) where
        either : (b : Bool) (values : List ℕ) → length values ≡ length (message_numbers scenario) → length (cond b values []) ≡ cond b (length (message_numbers scenario)) 0
        either true values long = long
        either false values long = refl

  module _ (tick : Tick) where
    abbrev pub add : List Start → Pair → List Start
    add = add_start scenario tables sure barring tick

    -- each start is of that tick or an earlier one, and has as many values as any
    abbrev pub AreBy : List Start → Type 0
    AreBy starts = (s : Start) → IsIn s starts → (s.at ≤ tick) × (length s.barred ≡ bars)

    pub add_by : (starts : List Start) (pair : Pair) → AreBy starts → AreBy (add starts pair)
    add_by starts pair by s i = elim (in_of_add scenario tables sure barring tick starts pair s i) [
      | inl j ↦ by s j
      | inr new ↦
          let at : tick ≡ s.at = ap (λ (k : Start). k.at) new.1 in
          (omega (arith, at), ap (λ (k : Start). length k.barred) (sym new.1) ∙ start_bars starts tick pair)
    ]

    pub all_by : (starts : List Start) (pairs : List Pair) → AreBy starts → AreBy (fold add starts pairs)
    all_by starts [] by = by
    all_by starts (p ∷ ps) by = all_by (add starts p) ps (add_by starts p by)

  pub before_by : (tick : Tick) → AreBy tick (starts_before scenario tables sure barring tick)
  before_by zero s i = absurd i
  before_by (suc tick) s i =
      let r = all_by tick (starts_before scenario tables sure barring tick) (pairs_of scenario) (before_by tick) s i in
      (omega (arith, r.0), r.1)

  -- starts before a tick are before each later one
  pub before_stays : (tick more : ℕ) (s : Start) → IsIn s (starts_before scenario tables sure barring tick) → IsIn s (starts_before scenario tables sure barring (more + tick))
  before_stays tick zero s i = subst (λ k. IsIn s (starts_before scenario tables sure barring k)) (omega arith) i
  before_stays tick (suc more) s i =
      let next : suc (more + tick) ≡ suc more + tick = omega arith in
      subst (λ k. IsIn s (starts_before scenario tables sure barring k)) next
      (all_stay scenario tables sure barring (more + tick) (starts_before scenario tables sure barring (more + tick)) (pairs_of scenario) s (before_stays tick more s i))

-- ---- by tables and by those that allow less
module _ (scenario : Scenario) (outer inner : LeadTables) (tight : IsTighter outer inner) (wide close : Sure) (risen : HaveRisen wide close) (barring : Bool) where
  abbrev pub growth : ℕ
  growth = close.time - wide.time

  module _ (tick : Tick) where
    commits_too : (pair : Pair) → may_commit scenario inner.times tick pair ≡ true → may_commit scenario outer.times tick pair ≡ true
    commits_too pair t =
        let m : ℕ = pair.message in
        let g : ℕ = pair.group in
        let low = tight.settling_low m g in
        let high = tight.settling_high m g in
        let one = and_parts (not (m == scenario.target_message) && nat_le (inner.times.least_settling m g) tick) (nat_le tick (inner.times.greatest_settling m g)) t in
        let two = and_parts (not (m == scenario.target_message)) (nat_le (inner.times.least_settling m g) tick) one.0 in
        let first = leb-true (inner.times.least_settling m g) tick two.1 in
        let last = leb-true tick (inner.times.greatest_settling m g) one.1 in
        and_from (not (m == scenario.target_message) && nat_le (outer.times.least_settling m g) tick) (nat_le tick (outer.times.greatest_settling m g))
        (and_from (not (m == scenario.target_message)) (nat_le (outer.times.least_settling m g) tick) two.0 (le-leb (outer.times.least_settling m g) tick (omega arith)))
        (le-leb tick (outer.times.greatest_settling m g) (omega arith))

    -- the start of a commit serves for that of the same commit
    start_serves : (olds news : List Start) → AreServed growth olds news → (pair : Pair)
        → IsServed growth (start_of scenario outer wide barring olds tick pair) (start_of scenario inner close barring news tick pair)
    start_serves olds news served pair =
        let one : (x : ℕ) → raise_high scenario inner close news tick x pair.message pair.group ≤ raise_high scenario outer wide olds tick x pair.message pair.group + growth =
        λ x. raise_grows scenario outer inner tight wide close risen olds news served tick x pair.message pair.group in
        record {
          at = omega arith;
          message = refl;
          group = refl;
          base = one scenario.target_message;
          barred = either barring one;
        } where
          either : (b : Bool)
              → ((x : ℕ) → raise_high scenario inner close news tick x pair.message pair.group ≤ raise_high scenario outer wide olds tick x pair.message pair.group + growth)
              → (x : ℕ) → barred_at (start_of scenario inner close b news tick pair) x ≤ barred_at (start_of scenario outer wide b olds tick pair) x + growth
          either true one x =
              mapped_grows (λ y. raise_high scenario outer wide olds tick y pair.message pair.group) (λ y. raise_high scenario inner close news tick y pair.message pair.group) growth
              (raise_high scenario outer wide olds tick scenario.target_message pair.message pair.group)
              (raise_high scenario inner close news tick scenario.target_message pair.message pair.group) (message_numbers scenario) one (one scenario.target_message) x
          either false one x = one scenario.target_message

    -- a start serves for all that one does which it covers
    covering_serves : (old other new : Start) → covers old other ≡ true → length old.barred ≡ length other.barred → old.at ≤ new.at → IsServed growth other new → IsServed growth old new
    covering_serves old other new t long at served =
        let one = and_parts ((old.message == other.message) && (old.group == other.group) && nat_le other.base old.base) (covers_all old.barred other.barred) t in
        let two = and_parts ((old.message == other.message) && (old.group == other.group)) (nat_le other.base old.base) one.0 in
        let three = and_parts (old.message == other.message) (old.group == other.group) two.0 in
        let high = leb-true other.base old.base two.1 in
        record {
          at = at;
          message = eqb-true old.message other.message three.0 ∙ served.message;
          group = eqb-true old.group other.group three.1 ∙ served.group;
          base = let own = served.base in omega arith;
          barred = λ x.
              let own = served.barred x in
              let more = covered_at old.barred other.barred x old.base other.base long one.1 high in
              omega arith;
        }

    add_served : (olds news : List Start) (pair : Pair) → AreBy scenario outer wide barring tick olds → AreServed growth olds news
        → AreServed growth (add_start scenario outer wide barring tick olds pair) (add_start scenario inner close barring tick news pair)
    add_served olds news pair by served new i = elim (in_of_add scenario inner close barring tick news pair new i) [
      | inl j ↦
          let r = served new j in
          (r.0, add_stays scenario outer wide barring tick olds pair r.0 r.1, r.2)
      | inr own ↦
          let other : Start = start_of scenario outer wide barring olds tick pair in
          let serves : IsServed growth other new = subst (λ (k : Start). IsServed growth other k) own.1 (start_serves olds news served pair) in
          let r = add_has scenario outer wide barring tick olds pair (commits_too pair own.0) in (
            r.0,
            r.1,
            elim r.2 [
              | inr same ↦ subst (λ (k : Start). IsServed growth k new) same serves
              | inl old ↦
                  let here = by r.0 old.0 in
                  let at : tick ≤ new.at = serves.at in
                  covering_serves r.0 other new old.1 (here.1 ∙ sym (start_bars scenario outer wide barring olds tick pair)) (omega (arith, here.0)) serves
            ],
          )
    ]

    all_served : (olds news : List Start) (pairs : List Pair) → AreBy scenario outer wide barring tick olds → AreServed growth olds news
        → AreServed growth (fold (add_start scenario outer wide barring tick) olds pairs) (fold (add_start scenario inner close barring tick) news pairs)
    all_served olds news [] by served = served
    all_served olds news (p ∷ ps) by served =
        all_served (add_start scenario outer wide barring tick olds p) (add_start scenario inner close barring tick news p) ps
        (add_by scenario outer wide barring tick olds p by) (add_served olds news p by served)

  before_served : (tick : Tick) → AreServed growth (starts_before scenario outer wide barring tick) (starts_before scenario inner close barring tick)
  before_served zero new i = absurd i
  before_served (suc tick) new i =
      all_served tick (starts_before scenario outer wide barring tick) (starts_before scenario inner close barring tick) (pairs_of scenario)
      (before_by scenario outer wide barring tick) (before_served tick) new i

  pub by_served : (tick sooner : Tick) → sooner ≤ tick → AreServed growth (starts_by scenario outer wide barring tick) (starts_by scenario inner close barring sooner)
  by_served tick sooner soon new i =
      let early : ℕ = first_past scenario.time sooner in
      let late : ℕ = first_past scenario.time tick in
      let rise = first_past_rises scenario.time sooner tick soon in
      let r = before_served early new i in
      let same : (late - early) + early ≡ late = omega arith in (
        r.0,
        subst (λ k. IsIn r.0 (starts_before scenario outer wide barring k)) same (before_stays scenario outer wide barring early (late - early) r.0 r.1),
        r.2,
      )

-- ---- what leads show
pub led_too : (scenario : Scenario) (outer inner : LeadTables) → IsScenario scenario → IsTighter outer inner → IsOpen scenario inner.times
    → (barring : Bool) (n : ℕ) → is_led scenario outer barring n ≡ true → is_led scenario inner barring n ≡ true
unfolding is_led
led_too scenario outer inner well tight can barring n led =
    let t : ℕ = scenario.target_message in
    let g : ℕ = scenario.target_group in
    let to : List ℕ = (message_at scenario t).destinations in
    let wide : Sure = sure_of scenario outer.times n in
    let close : Sure = sure_of scenario inner.times n in
    let risen : HaveRisen wide close = record {
      leads = leads_rise scenario outer inner tight well can n;
      time = time_rises scenario outer inner tight well can n;
    } in
    let last : last_arrival scenario inner.times ≤ last_arrival scenario outer.times =
    greatest_most (inner.times.greatest_arrival t) (last_arrival scenario outer.times) to (λ h i.
    let one = tight.arrival_high t h in
    let most : outer.times.greatest_arrival t h ≤ last_arrival scenario outer.times = in_greatest (outer.times.greatest_arrival t) h to i in
    omega arith) in
    let olds : List Start = starts_by scenario outer wide barring (last_arrival scenario outer.times) in
    let news : List Start = starts_by scenario inner close barring (last_arrival scenario inner.times) in
    let served = by_served scenario outer inner tight wide close risen barring (last_arrival scenario outer.times) (last_arrival scenario inner.times) last in
    let old_test : ℕ → Bool = λ h. (h == g) || is_surely_less scenario outer.times wide olds h in
    let new_test : ℕ → Bool = λ h. (h == g) || is_surely_less scenario inner.times close news h in
    let parts = and_parts (is_earlier scenario.time (outer.times.greatest_arrival t g) t (outer.times.least_arrival n g) n) (list_all old_test to) led in
    and_from (is_earlier scenario.time (inner.times.greatest_arrival t g) t (inner.times.least_arrival n g) n) (list_all new_test to)
    (earlier_too scenario.time (outer.times.greatest_arrival t g) (inner.times.greatest_arrival t g) (outer.times.least_arrival n g) (inner.times.least_arrival n g) t n
    (tight.arrival_high t g) (tight.arrival_low n g) parts.0)
    (all_too old_test new_test to (λ h i test. elim (or_cases (h == g) (is_surely_less scenario outer.times wide olds h) test) [
      | inl e ↦ or_left (h == g) (is_surely_less scenario inner.times close news h) e
      | inr e ↦ or_right (h == g) (is_surely_less scenario inner.times close news h)
          (less_too (stamp_high scenario outer.times wide olds t t h (outer.times.greatest_arrival t h))
          (stamp_high scenario inner.times close news t t h (inner.times.greatest_arrival t h)) wide.time close.time h g risen.time
          (stamp_grows scenario outer inner tight wide close risen olds news served t t h (outer.times.greatest_arrival t h) (inner.times.greatest_arrival t h) (tight.arrival_high t h)) e)
    ]) parts.1)
