-- What leads close stays closed in a box inside, and for a greater latency: each cut there is as late or later.
use Rattle.std.proofs.Common.{◌≡◌, ℕ, ◌+◌, ◌-◌, ◌≤◌, suc, Bool, true, false, ◌||◌, nat_lt, inl, inr, List, [], ◌∷◌, map, refl, arith}
use Rattle.std.specs.List.{list_all}
use Rattle.std.proofs.lemmas.Bool.{cases_lt, and_from, and_parts, or_cases, or_left, or_right, lt-ltb, ltb-true}
use Rattle.convoy_scenario.specs.Scenario.{Scenario, message_at, GoesTo}
use Rattle.convoy_scenario.specs.WellFormed.{IsScenario}
use Rattle.convoy_sim.specs.Times.{greatest}
use Rattle.convoy_sim.proofs.Membership.{IsIn, in_greatest}
use Rattle.convoy_sim.proofs.Addressed.{goes_from_in}
use Rattle.convoy_intervals.specs.Boxes.{Box, AreRanges}
use Rattle.convoy_intervals.specs.Bounds.{Tables, rivals, tables_of, plain_bound}
use Rattle.convoy_intervals.specs.BoxLaws.{MembersAreEnclosed}
use Rattle.convoy_sure.specs.Windows.{LeadTables, Windows, tables_by, windows_of, with_arrival}
use Rattle.convoy_sure.specs.SureLaws.{WindowsAreTables}
use Rattle.convoy_leads.specs.Leads.{is_led}
use Rattle.convoy_leads.specs.Closing.{is_behind, is_behind_by, is_behind_target, is_behind_after, is_behind_late, closes_over, closes_by_leads}
use Rattle.convoy_leads.proofs.LedLaw.{list_all_in}
use Rattle.convoy_laws.specs.Narrower.{IsInsideBox, AreNarrower}
use Rattle.convoy_laws.specs.Monotone.{InnerTablesAreNarrower, LeadsCloseInside, LeadsCloseForMore, LeadsCloseFromPlain}
use Rattle.convoy_laws.proofs.Among.{all_from, all_too}
use Rattle.convoy_laws.proofs.NarrowTables.{lt_apart, rival_too}
use Rattle.convoy_laws.proofs.TighterWindows.{AreTighter, AreOpen, IsTighter, IsOpen, tighter_tables, open_tables, tighter_cut, open_cut, tighter_windows, open_windows}
use Rattle.convoy_laws.proofs.TighterStarts.{led_too}

module _ (scenario : Scenario) (well : IsScenario scenario) where
  behind_too : (outer inner : LeadTables) → IsTighter outer inner → IsOpen scenario inner.times → (n : ℕ)
      → is_behind scenario outer n ≡ true → is_behind scenario inner n ≡ true
  behind_too outer inner tight can n behind =
      let t : ℕ = scenario.target_message in
      let g : ℕ = scenario.target_group in
      let past : Bool = nat_lt (inner.times.greatest_settling t g) (inner.times.least_arrival n g) in
      elim (or_cases (nat_lt (outer.times.greatest_settling t g) (outer.times.least_arrival n g)) (is_led scenario outer false n || is_led scenario outer true n) behind) [
        | inl e ↦ or_left past (is_led scenario inner false n || is_led scenario inner true n)
            (lt_apart (outer.times.greatest_settling t g) (outer.times.least_arrival n g) (inner.times.greatest_settling t g) (inner.times.least_arrival n g)
            (tight.settling_high t g) (tight.arrival_low n g) e)
        | inr o ↦ or_right past (is_led scenario inner false n || is_led scenario inner true n) (elim (or_cases (is_led scenario outer false n) (is_led scenario outer true n) o) [
          | inl e ↦ or_left (is_led scenario inner false n) (is_led scenario inner true n) (led_too scenario outer inner well tight can false n e)
          | inr e ↦ or_right (is_led scenario inner false n) (is_led scenario inner true n) (led_too scenario outer inner well tight can true n e)
        ])
      ]

  by_too : (outer inner : Windows) → AreTighter outer inner → AreOpen scenario inner → (n m k tick later : ℕ) → GoesTo scenario m k → tick ≤ later
      → is_behind_by scenario outer n m k tick ≡ true → is_behind_by scenario inner n m k later ≡ true
  by_too outer inner tight can n m k tick later goes late behind =
      let old_last : ℕ = (tables_by outer).times.greatest_arrival m k in
      let new_last : ℕ = (tables_by inner).times.greatest_arrival m k in
      let high = (tighter_tables outer inner tight).arrival_high m k in
      let old_cut : Windows = with_arrival scenario outer m k tick in
      let new_cut : Windows = with_arrival scenario inner m k later in
      elim (cases_lt new_last later) [
        | inl l ↦ or_left (nat_lt new_last later) (is_behind scenario (tables_by new_cut) n) (lt-ltb new_last later l)
        | inr l ↦ elim (or_cases (nat_lt old_last tick) (is_behind scenario (tables_by old_cut) n) behind) [
          | inl e ↦ let less = ltb-true old_last tick e in absurd (omega arith)
          | inr e ↦ or_right (nat_lt new_last later) (is_behind scenario (tables_by new_cut) n)
              (behind_too (tables_by old_cut) (tables_by new_cut) (tighter_tables old_cut new_cut (tighter_cut scenario outer inner m k tick later tight late))
              (open_tables scenario new_cut (open_cut scenario inner m k later can goes l)) n e)
        ]
      ]

  after_too : (outer inner : Windows) → AreTighter outer inner → AreOpen scenario inner → (n k tick later : ℕ) → GoesTo scenario n k → tick ≤ later
      → is_behind_after scenario outer n k tick ≡ true → is_behind_after scenario inner n k later ≡ true
  after_too outer inner tight can n k tick later goes late behind =
      let t : ℕ = scenario.target_message in
      let g : ℕ = scenario.target_group in
      let to : List ℕ = (message_at scenario t).destinations in
      let old_cut : Windows = with_arrival scenario outer n k tick in
      let new_cut : Windows = with_arrival scenario inner n k later in
      let new_last : ℕ = (tables_by inner).times.greatest_arrival n k in
      let at_once : Bool = is_behind_by scenario inner n n k later in
      let by_way : Bool = list_all (is_behind_target scenario new_cut n) to in
      elim (or_cases (is_behind_by scenario outer n n k tick) (list_all (is_behind_target scenario old_cut n) to) behind) [
        | inl e ↦ or_left at_once by_way (by_too outer inner tight can n n k tick later goes late e)
        | inr all ↦ elim (cases_lt new_last later) [
          | inl l ↦ or_left at_once by_way (or_left (nat_lt new_last later) (is_behind scenario (tables_by new_cut) n) (lt-ltb new_last later l))
          | inr l ↦
              let tight_cut : AreTighter old_cut new_cut = tighter_cut scenario outer inner n k tick later tight late in
              let both : IsTighter (tables_by old_cut) (tables_by new_cut) = tighter_tables old_cut new_cut tight_cut in
              or_right at_once by_way (all_too (is_behind_target scenario old_cut n) (is_behind_target scenario new_cut n) to (λ f i e.
              let low = both.arrival_low n g in
              let high = both.proposal_high t f g in
              by_too old_cut new_cut tight_cut (open_cut scenario inner n k later can goes l) n t f
              ((tables_by old_cut).times.least_arrival n g - (tables_by old_cut).greatest_proposal t f g)
              ((tables_by new_cut).times.least_arrival n g - (tables_by new_cut).greatest_proposal t f g) (goes_from_in scenario t f i) (omega arith) e) all)
        ]
      ]

  late_too : (outer inner : Windows) → AreTighter outer inner → AreOpen scenario inner → (tick later n : ℕ) → tick ≤ later
      → is_behind_late scenario outer tick n ≡ true → is_behind_late scenario inner later n ≡ true
  late_too outer inner tight can tick later n late behind =
      let g : ℕ = scenario.target_group in
      let to : List ℕ = (message_at scenario n).destinations in
      let both : IsTighter (tables_by outer) (tables_by inner) = tighter_tables outer inner tight in
      let old_test : ℕ → Bool = λ k. is_behind_after scenario outer n k (tick - (tables_by outer).greatest_proposal n k g) in
      let new_test : ℕ → Bool = λ k. is_behind_after scenario inner n k (later - (tables_by inner).greatest_proposal n k g) in
      let old_last : ℕ = (tables_by outer).times.greatest_settling n g in
      let new_last : ℕ = (tables_by inner).times.greatest_settling n g in
      elim (or_cases (nat_lt old_last tick) (list_all old_test to) behind) [
        | inl e ↦ or_left (nat_lt new_last later) (list_all new_test to) (lt_apart old_last tick new_last later (both.settling_high n g) late e)
        | inr all ↦ or_right (nat_lt new_last later) (list_all new_test to) (all_too old_test new_test to (λ k i e.
            let high = both.proposal_high n k g in
            after_too outer inner tight can n k (tick - (tables_by outer).greatest_proposal n k g) (later - (tables_by inner).greatest_proposal n k g) (goes_from_in scenario n k i) (omega arith) e) all)
      ]

  narrower_of : (outer inner : LeadTables) → IsTighter outer inner → AreNarrower scenario outer.times inner.times
  narrower_of outer inner tight = record {
    arrival_low = λ m g goes. tight.arrival_low m g;
    arrival_high = λ m g goes. tight.arrival_high m g;
    settling_low = λ m g goes. tight.settling_low m g;
    settling_high = λ m g goes. tight.settling_high m g;
  }

  closes_too : (outer inner : Windows) → AreTighter outer inner → AreOpen scenario inner → (latency greater : ℕ) → latency ≤ greater
      → closes_over scenario outer latency ≡ true → closes_over scenario inner greater ≡ true
  closes_too outer inner tight can latency greater more closed =
      let t : ℕ = scenario.target_message in
      let g : ℕ = scenario.target_group in
      let at : ℕ = (message_at scenario t).at in
      let old : Tables = (tables_by outer).times in
      let new : Tables = (tables_by inner).times in
      let both : IsTighter (tables_by outer) (tables_by inner) = tighter_tables outer inner tight in
      let narrow : AreNarrower scenario old new = narrower_of (tables_by outer) (tables_by inner) both in
      let parts = and_parts (nat_lt (old.greatest_settling t g) (at + latency + 1)) (list_all (is_behind_late scenario outer (at + latency + 1)) (rivals scenario old)) closed in
      and_from (nat_lt (new.greatest_settling t g) (at + greater + 1)) (list_all (is_behind_late scenario inner (at + greater + 1)) (rivals scenario new))
      (lt_apart (old.greatest_settling t g) (at + latency + 1) (new.greatest_settling t g) (at + greater + 1) (both.settling_high t g) (omega arith) parts.0)
      (all_from (is_behind_late scenario inner (at + greater + 1)) (rivals scenario new) (λ n i.
      late_too outer inner tight can (at + latency + 1) (at + greater + 1) n (omega arith)
      (list_all_in (is_behind_late scenario outer (at + latency + 1)) n (rivals scenario old) parts.1 (rival_too scenario old new well narrow n i).1)))

pub closed_inside : MembersAreEnclosed → InnerTablesAreNarrower → WindowsAreTables → LeadsCloseInside
unfolding closes_by_leads
closed_inside enclosed narrower same scenario outer inner latency well inside closed =
    closes_too scenario well (windows_of scenario outer) (windows_of scenario inner) (tighter_windows narrower scenario outer inner inside)
    (open_windows enclosed same scenario outer inner well inside) latency latency (omega arith) closed

-- a box whose ranges each hold a delay is inside itself
inside_itself : (ranges : Box) → AreRanges ranges → IsInsideBox ranges ranges
inside_itself [] are = tt
inside_itself (r ∷ rs) are = ((omega arith, are 0 r (omega arith), omega arith), inside_itself rs (λ k d l. are (suc k) d (omega arith)))

pub closed_for_more : MembersAreEnclosed → InnerTablesAreNarrower → WindowsAreTables → LeadsCloseForMore
unfolding closes_by_leads
closed_for_more enclosed narrower same scenario ranges latency more well are high closed =
    let inside : IsInsideBox ranges ranges = inside_itself ranges are in
    closes_too scenario well (windows_of scenario ranges) (windows_of scenario ranges) (tighter_windows narrower scenario ranges ranges inside)
    (open_windows enclosed same scenario ranges ranges well inside) latency more high closed

-- ---- the plain bound
pub closed_from_plain : WindowsAreTables → LeadsCloseFromPlain
unfolding closes_by_leads plain_bound
closed_from_plain same scenario ranges latency well bound =
    let t : ℕ = scenario.target_message in
    let g : ℕ = scenario.target_group in
    let windows : Windows = windows_of scenario ranges in
    let times : Tables = (tables_by windows).times in
    let box : Tables = tables_of scenario ranges in
    let high : ℕ → ℕ = λ n. box.greatest_settling n g in
    let all : List ℕ = t ∷ rivals scenario box in
    let tick : ℕ = (message_at scenario t).at + latency + 1 in
    let narrow : AreNarrower scenario box times = record {
      arrival_low = λ m h goes. let e = (same scenario ranges well m h goes).least_arrival in omega (arith, e);
      arrival_high = λ m h goes. let e = (same scenario ranges well m h goes).greatest_arrival in omega (arith, e);
      settling_low = λ m h goes. let e = (same scenario ranges well m h goes).least_settling in omega (arith, e);
      settling_high = λ m h goes. let e = (same scenario ranges well m h goes).greatest_settling in omega (arith, e);
    } in
    let less : (n : ℕ) → GoesTo scenario n g → IsIn n all → nat_lt (times.greatest_settling n g) tick ≡ true = λ n goes i.
    let last = narrow.settling_high n g goes in
    let most : high n ≤ greatest (map high all) = in_greatest high n all i in
    lt-ltb (times.greatest_settling n g) tick (omega arith) in
    and_from (nat_lt (times.greatest_settling t g) tick) (list_all (is_behind_late scenario windows tick) (rivals scenario times))
    (less t well.addressed (inl refl))
    (all_from (is_behind_late scenario windows tick) (rivals scenario times) (λ n i.
    let r = rival_too scenario box times well narrow n i in
    or_left (nat_lt (times.greatest_settling n g) tick) _ (less n r.0 (inr r.1))))
