-- Where starts cover that of each pair at a tick, none is added.
use Rattle.std.proofs.Common.{◌≡◌, ℕ, ◌+◌, ◌-◌, ◌<◌, ◌≤◌, zero, suc, inl, inr, Bool, List, [], ◌∷◌, ◌++◌, length, get_or, set, fold, All, refl, sym, ap, subst, ◌∙◌, arith}
use Rattle.std.proofs.lemmas.Bool.{cases_eq}
use Rattle.std.proofs.lemmas.Grind.{get_or-set_at}
use Rattle.std.proofs.lemmas.List.{get_or-set_other}
use Rattle.convoy_scenario.specs.Scenario.{Scenario}
use Rattle.convoy_sim.specs.Times.{Tick}
use Rattle.convoy_stamps.specs.declared.pair.Pair.{Pair}
use Rattle.convoy_stamps.specs.Reach.{pairs_of}
use Rattle.convoy_sure.specs.Windows.{LeadTables}
use Rattle.convoy_sure.specs.SureLeads.{Sure}
use Rattle.convoy_starts.specs.Starts.{Start, add_start, starts_before}
use Rattle.convoy_starts.specs.Changes.{AreCovered, IsCovered, IsUnread}
use Rattle.convoy_starts.proofs.SteadyStarts.{add_same, covered_with, raise_with}

-- ---- pairs by their places
abbrev pub no_pair : Pair
no_pair = record { message = 0; group = 0 }

pub pair_there : (pairs : List Pair) (k : ℕ) (d : Pair) → k < length pairs → get_or pairs k d ≡ get_or pairs k no_pair
pair_there [] k d l = absurd (omega arith)
pair_there (p ∷ ps) zero d l = refl
pair_there (p ∷ ps) (suc k) d l = pair_there ps k d (omega arith)

-- ---- ticks at which none is added
module _ (scenario : Scenario) (tables : LeadTables) (sure : Sure) (barring : Bool) where
  none_added : (tick : Tick) (pairs : List Pair) (starts : List Start) → All (IsCovered scenario tables sure barring starts tick) pairs
      → fold (add_start scenario tables sure barring tick) starts pairs ≡ starts
  none_added tick [] starts covered = refl
  none_added tick (p ∷ ps) starts covered =
      ap (λ (ss : List Start). fold (add_start scenario tables sure barring tick) ss ps) (add_same scenario tables sure p barring starts tick (covered 0 p (omega arith)))
      ∙ none_added tick ps starts (λ k d l. covered (suc k) d (omega arith))

  -- so the starts before a tick are those before any from which none is added until then
  starts_same : (gap from : ℕ)
      → ((tick : ℕ) → from ≤ tick → tick < from + gap → All (IsCovered scenario tables sure barring (starts_before scenario tables sure barring from) tick) (pairs_of scenario))
      → starts_before scenario tables sure barring (from + gap) ≡ starts_before scenario tables sure barring from
  starts_same zero from covered = let none : from + 0 ≡ from = omega arith in ap (starts_before scenario tables sure barring) none
  starts_same (suc gap) from covered =
      let next : from + suc gap ≡ suc (from + gap) = omega arith in
      let rest : starts_before scenario tables sure barring (from + gap) ≡ starts_before scenario tables sure barring from =
      starts_same gap from (λ tick l m. covered tick l (omega arith)) in
      ap (starts_before scenario tables sure barring) next
      ∙ ap (λ (ss : List Start). fold (add_start scenario tables sure barring (from + gap)) ss (pairs_of scenario)) rest
      ∙ none_added (from + gap) (pairs_of scenario) (starts_before scenario tables sure barring from) (covered (from + gap) (omega arith) (omega arith))

  pub starts_until : (from next : ℕ) → from ≤ next
      → ((tick : ℕ) → from ≤ tick → tick < next → All (IsCovered scenario tables sure barring (starts_before scenario tables sure barring from) tick) (pairs_of scenario))
      → starts_before scenario tables sure barring next ≡ starts_before scenario tables sure barring from
  starts_until from next l covered =
      let reached : from + (next - from) ≡ next = omega arith in
      ap (starts_before scenario tables sure barring) (sym reached) ∙ starts_same (next - from) from (λ tick m n. covered tick m (omega arith))

  -- ---- the next ticks of pairs
  -- with a start more, and next ticks before which none reads it, each pair is covered as before
  pub more_covered : (starts : List Start) (new : Start) (tick h : ℕ) (olds nexts : List ℕ) (pairs : List Pair) → new.at ≡ tick → new.group ≡ h
      → AreCovered scenario tables sure barring starts tick olds pairs
      → ((k : ℕ) → k < length pairs → get_or nexts k 0 ≤ get_or olds k 0)
      → ((k : ℕ) (pair : Pair) (later : ℕ) → k < length pairs → later < get_or nexts k 0 → IsUnread scenario tables h tick later (get_or pairs k pair))
      → AreCovered scenario tables sure barring (starts ++ new ∷ []) tick nexts pairs
  more_covered starts new tick h olds nexts pairs at group covered sooner unread k pair later l m n may =
      let there : Pair = get_or pairs k pair in
      let late : IsUnread scenario tables new.group new.at later there =
      subst (λ (g : ℕ). IsUnread scenario tables g new.at later there) (sym group)
      (subst (λ (t : ℕ). IsUnread scenario tables h t later there) (sym at) (unread k pair later l n)) in
      let sooner_here = sooner k l in
      covered_with scenario tables sure there barring starts new later
      (raise_with scenario tables sure there starts new later (λ away some. late away some may))
      (covered k pair later l m (omega (arith, n, sooner_here))) may

  -- and with another next tick of one pair
  pub set_covered : (starts : List Start) (tick i next : ℕ) (nexts : List ℕ) (pairs : List Pair) → i < length nexts → i < length pairs
      → AreCovered scenario tables sure barring starts tick nexts pairs
      → ((later : ℕ) → tick ≤ later → later < next → IsCovered scenario tables sure barring starts later (get_or pairs i no_pair))
      → AreCovered scenario tables sure barring starts tick (set nexts i next) pairs
  set_covered starts tick i next nexts pairs within known covered here k pair later l m n = elim (cases_eq k i) [
    | inl same ↦
        let is : get_or (set nexts i next) k 0 ≡ next = get_or-set_at nexts i k next 0 same within in
        let first : get_or pairs k pair ≡ get_or pairs i no_pair = pair_there pairs k pair l ∙ ap (λ (j : ℕ). get_or pairs j no_pair) same in
        subst (IsCovered scenario tables sure barring starts later) (sym first) (here later m (omega (arith, n, is)))
    | inr other ↦
        let is : get_or (set nexts i next) k 0 ≡ get_or nexts k 0 = get_or-set_other nexts i k next 0 other in
        covered k pair later l m (omega (arith, n, is))
  ]
