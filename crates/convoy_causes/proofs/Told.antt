-- What the program tells of windows.
use Rattle.std.proofs.Common.{◌≡◌, ◌⊎◌, ℕ, ◌+◌, ◌-◌, ◌<◌, Bool, true, false, ◌&&◌, nat_lt, inl, inr, List, [], ◌∷◌, IsTrue, Option, Some, None, IfSome, refl, sym, ap, subst, ◌∙◌, arith}
use Rattle.std.specs.List.{list_all}
use Rattle.std.specs.Option.{is_some}
use Rattle.std.proofs.lemmas.Bool.{and_from, lt-ltb, or_left}
use Rattle.convoy_scenario.specs.Scenario.{Scenario, message_at}
use Rattle.convoy_sim.proofs.Membership.{IsIn, in_greatest}
use Rattle.convoy_intervals.specs.Bounds.{rivals}
use Rattle.convoy_sure.specs.Windows.{Windows, tables_by}
use Rattle.convoy_leads.specs.Closing.{is_behind_after, is_behind_late}
use Rattle.convoy_causes.specs.declared.cause.Cause.{Cause}
use Rattle.convoy_causes.specs.CauseWindows.{closes_by, has_room_from, is_before, last_settling, narrowed, scenario_from, tick_within}

-- what is tested of windows of a scenario is what is asked
pub asked_told : (tested asked : Scenario) (kept windows : Windows) (m within : ℕ) → tested ≡ asked → kept ≡ windows
    → is_before tested kept ((message_at tested m).at + within + 1) ≡ is_before asked windows (tick_within asked m within + 1)
asked_told tested asked kept windows m within tested_is kept_is =
    ap (λ (s : Scenario). is_before s kept ((message_at s m).at + within + 1)) tested_is ∙ ap (λ (w : Windows). is_before asked w (tick_within asked m within + 1)) kept_is

-- ---- past the last commit all are committed
all_from : {X : Type 0} (p : X → Bool) (xs : List X) → ((x : X) → IsIn x xs → p x ≡ true) → list_all p xs ≡ true
all_from p [] each = refl
all_from p (x ∷ xs) each = and_from (p x) (list_all p xs) (each x (inl refl)) (all_from p xs (λ y i. each y (inr i)))

module _ (scenario : Scenario) (windows : Windows) (past : ℕ) (late : last_settling scenario windows < past) where
  abbrev last : ℕ → ℕ
  last n = (tables_by windows).times.greatest_settling n scenario.target_group

  abbrev others : List ℕ
  others = rivals scenario (tables_by windows).times

  committed : (n : ℕ) → IsIn n (scenario.target_message ∷ others) → nat_lt (last n) past ≡ true
  committed n i = let most = in_greatest last n (scenario.target_message ∷ others) i in lt-ltb (last n) past (omega arith)

  before_past : is_before scenario windows past ≡ true
  before_past =
      and_from (nat_lt (last scenario.target_message) past) (list_all (is_behind_late scenario windows past) others)
      (committed scenario.target_message (inl refl))
      (all_from (is_behind_late scenario windows past) others
      (λ n i. or_left (nat_lt (last n) past)
      (list_all (λ k. is_behind_after scenario windows n k (past - (tables_by windows).greatest_proposal n k scenario.target_group)) (message_at scenario n).destinations)
      (committed n (inr i))))

-- the number that is found by halves is one by which the target is delivered
pub before_found : (scenario : Scenario) (windows : Windows) (x time most : ℕ)
    → (time ≡ most) ⊎ IsTrue (is_before scenario windows ((message_at scenario x).at + time + 1))
    → most ≡ last_settling scenario windows - (message_at scenario x).at
    → is_before scenario windows ((message_at scenario x).at + time + 1) ≡ true
before_found scenario windows x time most (inl e) plain =
    let late : last_settling scenario windows < (message_at scenario x).at + time + 1 = omega arith in
    before_past scenario windows ((message_at scenario x).at + time + 1) late
before_found scenario windows x time most (inr before) plain = before

-- what is tested of the narrowed windows of the scenario that is asked, where there is room for it, is whether the scenario is closed
pub closing_told : (plan : Scenario) (causes : List Cause) (x : ℕ) (within : List ℕ) (most : ℕ) (asked : Scenario) (windows : Windows) → has_room_from plan x ≡ true
    → asked ≡ scenario_from plan x → windows ≡ narrowed asked causes within → is_before asked windows (tick_within asked x most + 1) ≡ closes_by plan causes x within most
unfolding closes_by
closing_told plan causes x within most asked windows room asked_is windows_is =
    let there : Scenario = scenario_from plan x in
    ap (λ (w : Windows). is_before asked w (tick_within asked x most + 1)) windows_is
    ∙ ap (λ (s : Scenario). is_before s (narrowed s causes within) (tick_within s x most + 1)) asked_is
    ∙ ap (λ (b : Bool). b && is_before there (narrowed there causes within) (tick_within there x most + 1)) (sym room)

-- where there is none it is not
pub never_closed : (plan : Scenario) (causes : List Cause) (x : ℕ) (within : List ℕ) (most : ℕ) → has_room_from plan x ≡ false → false ≡ closes_by plan causes x within most
unfolding closes_by
never_closed plan causes x within most none =
    let there : Scenario = scenario_from plan x in
    ap (λ (b : Bool). b && is_before there (narrowed there causes within) (tick_within there x most + 1)) (sym none)

-- ---- what the program keeps where it finds the scenario in which the issue is known
abbrev IsFrom : Scenario → ℕ → Option Scenario → Type 0
IsFrom plan x found = IfSome found (λ known. known ≡ scenario_from plan x)

pub from_some : (plan : Scenario) (x : ℕ) (found : Option Scenario) (known : Scenario) → IsFrom plan x found → found ≡ Some known → known ≡ scenario_from plan x
from_some plan x found known is same = subst (IsFrom plan x) same is

pub room_some : (plan : Scenario) (x : ℕ) (found : Option Scenario) (known : Scenario) → is_some found ≡ has_room_from plan x → found ≡ Some known → has_room_from plan x ≡ true
room_some plan x found known is same = sym is ∙ ap is_some same

pub room_none : (plan : Scenario) (x : ℕ) (found : Option Scenario) → is_some found ≡ has_room_from plan x → found ≡ None → has_room_from plan x ≡ false
room_none plan x found is same = sym is ∙ ap is_some same
