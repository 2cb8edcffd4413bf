-- The ceiling of a kind beside another, and the greatest of these.
use Rattle.std.proofs.Common.{◌≡◌, ℕ, ◌+◌, ◌-◌, ◌≤◌, ◌==◌, max, Bool, true, false, cond, inl, inr, List, [], ◌∷◌, map, fold, find, unwrap_or, sym, ap, ap₂, subst, ◌∙◌, arith}
use Rattle.std.proofs.lemmas.Bool.{cases_Bool, eq-eqb, eqb-true}
use Rattle.std.specs.List.{list_any}
use Rattle.convoy_scenario.specs.Scenario.{Message, Scenario, GoesTo}
use Rattle.convoy_sim.specs.Delivery.{latency_at}
use Rattle.convoy_sim.specs.Times.{greatest}
use Rattle.convoy_sim.proofs.Membership.{IsIn, find-in, greatest_is_one, greatest_most, in_greatest, in_of_find}
use Rattle.convoy_sim.proofs.Addressed.{goes_of_addressed, in-addressed}
use Rattle.convoy_ceiling.specs.Ceiling.{CeilingHoldsForAnyKinds, ceiling_at, ceiling_of, delays_between, longest_after, longest_by, longest_from_arrival, longest_to_commit}
use Rattle.convoy_ceiling.proofs.SameKinds.{goes_too}
use Rattle.convoy_kinds.specs.Kinds.{Kinds, all_kinds, kind_at, kind_name, named}
use Rattle.convoy_kinds.specs.Pairs.{pair_of, second_name}
use Rattle.convoy_kinds.specs.Ceilings.{ceiling_of_kind, rival_at, kinds_to}
use Rattle.convoy_kinds.specs.KindLaws.{RivalsDecide, IsDecidedBy, KindsMayBeAskedInPairs}
use Rattle.convoy_kinds.proofs.AllKinds.{are_traffic, kind_goes, message_is}

-- the greatest of what one number gives that passes, and of what two give that do
one : (f : ℕ → ℕ) (a : Bool) → a ≡ true → fold max 0 (map f (cond a (0 ∷ []) [])) ≡ f 0
one f true e = omega arith
one f false e = cc

two : (f : ℕ → ℕ) (a b : Bool) → a ≡ true → b ≡ true → fold max 0 (map f (cond a (0 ∷ cond b (1 ∷ []) []) (cond b (1 ∷ []) []))) ≡ max (f 0) (f 1)
two f true true e d = omega arith
two f true false e d = cc
two f false b e d = cc

-- the greatest of what the elements of a list give is what one gives
most_is_one : (f : ℕ → ℕ) (x : ℕ) (xs : List ℕ) → IsIn x xs → (y : ℕ) × IsIn y xs × (f y ≡ fold max 0 (map f xs))
most_is_one f x [] i = absurd i
most_is_one f x (y ∷ ys) i = greatest_is_one f y ys

module _ (kinds : Kinds) where
  -- a scenario of these messages in the setting of the kinds
  abbrev with_messages : List Message → ℕ → Scenario
  with_messages messages g = record kinds.setting { multicasts = messages; target_message = 0; target_group = g }

  -- how long a message takes at most from its issue, and from its arrival, to its commit
  abbrev commit_of : ℕ → Message → ℕ
  commit_of g message = greatest (map (longest_by (all_kinds kinds) message.sender g) message.destinations)

  abbrev after_of : ℕ → Message → ℕ
  after_of g message = commit_of g message - (delays_between (all_kinds kinds) message.sender g).0

  from_is : (k g : ℕ) → after_of g (named [] (kind_at kinds k)) ≡ longest_from_arrival (all_kinds kinds) g k
  from_is k g = ap (after_of g) (sym (message_is kinds k))

  after_one : (name : List ℕ) (k g : ℕ) → GoesTo (all_kinds kinds) k g
      → longest_after (with_messages (named name (kind_at kinds k) ∷ []) g) g ≡ longest_from_arrival (all_kinds kinds) g k
  after_one name k g goes =
      one (longest_from_arrival (with_messages (named name (kind_at kinds k) ∷ []) g) g) (list_any (λ h. h == g) (kind_at kinds k).destinations) (kind_goes kinds k g goes)
      ∙ from_is k g

  after_two : (name other : List ℕ) (k l g : ℕ) → GoesTo (all_kinds kinds) k g → GoesTo (all_kinds kinds) l g
      → longest_after (with_messages (named name (kind_at kinds k) ∷ named other (kind_at kinds l) ∷ []) g) g
      ≡ max (longest_from_arrival (all_kinds kinds) g k) (longest_from_arrival (all_kinds kinds) g l)
  after_two name other k l g goes comes =
      two (longest_from_arrival (with_messages (named name (kind_at kinds k) ∷ named other (kind_at kinds l) ∷ []) g) g)
      (list_any (λ h. h == g) (kind_at kinds k).destinations) (list_any (λ h. h == g) (kind_at kinds l).destinations)
      (kind_goes kinds k g goes) (kind_goes kinds l g comes)
      ∙ ap₂ max (from_is k g) (from_is l g)

  after_pair : (k l g : ℕ) → GoesTo (all_kinds kinds) k g → GoesTo (all_kinds kinds) l g
      → longest_after (pair_of kinds k l g) g ≡ max (longest_from_arrival (all_kinds kinds) g k) (longest_from_arrival (all_kinds kinds) g l)
  after_pair k l g goes comes =
      let first : Message = named (kind_name kinds k) (kind_at kinds k) in
      let second : Message = named (second_name (kind_name kinds k) (kind_name kinds l)) (kind_at kinds l) in
      let with_other : Bool → ℕ = λ b. longest_after (with_messages (first ∷ cond b [] (second ∷ [])) g) g in
      elim (cases_Bool (k == l)) [
        | inl same ↦
            let is = ap (longest_from_arrival (all_kinds kinds) g) (eqb-true k l same) in
            ap with_other same ∙ after_one (kind_name kinds k) k g goes ∙ omega arith
        | inr differ ↦ ap with_other differ ∙ after_two _ _ k l g goes comes
      ]

  commit_pair : (k l g : ℕ) → longest_to_commit (pair_of kinds k l g) 0 g ≡ longest_to_commit (all_kinds kinds) k g
  commit_pair k l g = ap (commit_of g) (sym (message_is kinds k))

  beside : (k l g : ℕ) → GoesTo (all_kinds kinds) k g → GoesTo (all_kinds kinds) l g
      → ceiling_of (pair_of kinds k l g)
      ≡ longest_to_commit (all_kinds kinds) k g + max (longest_from_arrival (all_kinds kinds) g k) (longest_from_arrival (all_kinds kinds) g l)
  unfolding ceiling_of ceiling_at
  beside k l g goes comes = ap₂ ◌+◌ (commit_pair k l g) (after_pair k l g goes comes)

  -- the rival goes to the group, and no other kind takes longer there
  decides : (k g : ℕ) → GoesTo (all_kinds kinds) k g
      → IsIn (rival_at kinds g) (kinds_to kinds g) × (longest_from_arrival (all_kinds kinds) g (rival_at kinds g) ≡ longest_after (all_kinds kinds) g)
  unfolding rival_at
  decides k g goes =
      let f : ℕ → ℕ = longest_from_arrival (all_kinds kinds) g in
      let p : ℕ → Bool = λ l. f l == longest_after (all_kinds kinds) g in
      let top = most_is_one f k (kinds_to kinds g) (in-addressed (all_kinds kinds) k g goes) in
      let found = find-in p top.0 (kinds_to kinds g) top.1 (eq-eqb _ _ top.2) in
      let is = in_of_find p found.0 (kinds_to kinds g) found.1 in
      let here : found.0 ≡ unwrap_or (find p (kinds_to kinds g)) 0 = sym (ap (λ o. unwrap_or o 0) found.1) in
      subst (λ (l : ℕ). IsIn l (kinds_to kinds g) × (f l ≡ longest_after (all_kinds kinds) g)) here (is.0, eqb-true _ _ is.1)

  -- beside it a kind has the ceiling that it has among all of them
  beside_rival : (k g : ℕ) → GoesTo (all_kinds kinds) k g → ceiling_of (pair_of kinds k (rival_at kinds g) g) ≡ ceiling_at (all_kinds kinds) k g
  unfolding ceiling_at
  beside_rival k g goes =
      let d = decides k g goes in
      let is = beside k (rival_at kinds g) g goes (goes_of_addressed (all_kinds kinds) _ g d.0) in
      let own = in_greatest (longest_from_arrival (all_kinds kinds) g) k (kinds_to kinds g) (in-addressed (all_kinds kinds) k g goes) in
      is ∙ ap (λ n. longest_to_commit (all_kinds kinds) k g + n) (let e = d.1 in omega arith)

  -- and that is its greatest beside any
  pub among_all : (k g : ℕ) → GoesTo (all_kinds kinds) k g → ceiling_of_kind kinds k g ≡ ceiling_at (all_kinds kinds) k g
  unfolding ceiling_of_kind ceiling_at
  among_all k g goes =
      let f : ℕ → ℕ = longest_from_arrival (all_kinds kinds) g in
      let own = in_greatest f k (kinds_to kinds g) (in-addressed (all_kinds kinds) k g goes) in
      let d = decides k g goes in
      let is = beside_rival k g goes in
      let low = in_greatest (λ l. ceiling_of (pair_of kinds k l g)) (rival_at kinds g) (kinds_to kinds g) d.0 in
      let high = greatest_most (λ l. ceiling_of (pair_of kinds k l g)) (longest_to_commit (all_kinds kinds) k g + longest_after (all_kinds kinds) g) (kinds_to kinds g)
      (λ l i.
      let here = beside k l g goes (goes_of_addressed (all_kinds kinds) l g i) in
      let most = in_greatest f l (kinds_to kinds g) i in
      omega arith) in
      omega arith

  pub decided : (k g : ℕ) → GoesTo (all_kinds kinds) k g → IsDecidedBy kinds k (rival_at kinds g) g
  decided k g goes = record {
    goes = goes_of_addressed (all_kinds kinds) _ g (decides k g goes).0;
    ceiling = beside_rival k g goes ∙ sym (among_all k g goes);
  }

pub all_decided : RivalsDecide
all_decided = decided

pub in_pairs : CeilingHoldsForAnyKinds → KindsMayBeAskedInPairs
in_pairs holds kinds well k g traffic schedule is within m kind goes =
    subst (λ (n : ℕ). latency_at traffic schedule m g ≤ n) (sym (among_all kinds k g (goes_too (all_kinds kinds) traffic k m g kind goes)))
    (holds (all_kinds kinds) (are_traffic kinds well) k g traffic schedule is within m kind goes)
