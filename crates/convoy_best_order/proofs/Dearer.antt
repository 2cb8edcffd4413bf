-- The dearest target at a group, with one target more.
use Rattle.std.proofs.Common.{◌≡◌, ◌⊎◌, ℕ, ◌+◌, ◌<◌, Bool, true, false, cond, List, length, take, get_or, Option, Some, None, IfSome, inl, inr, refl, sym, subst}
use Rattle.std.specs.List.{Contains}
use Rattle.std.proofs.lemmas.List.Elements.{All-more}
use Rattle.convoy_scenario.specs.Scenario.{Scenario}
use Rattle.convoy_branch.specs.Options.{Settings}
use Rattle.convoy_best_order.specs.declared.costs.Dearest.{Dearest}
use Rattle.convoy_best_order.specs.declared.excess.Excess.{Excess}
use Rattle.convoy_best_order.specs.declared.spread.Spread.{Spread}
use Rattle.convoy_best_order.specs.declared.target.Target.{Target}
use Rattle.convoy_best_order.specs.Choices.{AreKept, AreKeptBy, IsDearest, dearer}
use Rattle.convoy_best_order.specs.Excesses.{IsAtMost, greater, is_less}
use Rattle.convoy_best_order.specs.OrderLaws.{IsKeptIn}
use Rattle.convoy_best_order.specs.Orders.{IsOrder}
use Rattle.convoy_best_order.specs.Spreads.{IsSpreadIn, MayStayOpen, least_excess, most_excess}
use Rattle.convoy_best_order.proofs.Kept.{exact_or_open, kept_more}
use Rattle.convoy_best_order.proofs.Measures.{at_most_after, at_most_less, at_most_of, at_most_self, greater_has, less_of}

-- of which target it is, and how late that is
dearer_has : (P : Target → Spread → Type 0) (dearest : Option Dearest) (target : Target) (spread : Spread) → IfSome dearest (λ d. P d.target d.spread) → P target spread
    → P (dearer dearest target spread).target (dearer dearest target spread).spread
dearer_has P None target spread so_far new = new
dearer_has P (Some dearest) target spread so_far new = by_test (is_less (least_excess dearest.target dearest.spread) (least_excess target spread)) where
  most : Excess
  most = greater dearest.most (most_excess target spread)

  one : Dearest
  one = record { target = target; spread = spread; most = most }

  other : Dearest
  other = record { target = dearest.target; spread = dearest.spread; most = most }

  by_test : (b : Bool) → P (cond {A = Dearest} b one other).target (cond {A = Dearest} b one other).spread
  by_test true = new
  by_test false = so_far

greater_high : (a b : Excess) → IsAtMost a (greater a b) × IsAtMost b (greater a b)
greater_high a b =
    greater_has (λ (x : Excess). IsAtMost a x × IsAtMost b x) a b (λ is. (at_most_less a b (less_of a b is), at_most_self b))
    (λ is. (at_most_self a, at_most_of a b is))

-- it exceeds its limit by as much as is told, or another thing holds
abbrev IsExact : Type 0 → Dearest → Type 0
IsExact other d = IsAtMost d.most (least_excess d.target d.spread) ⊎ other

module _ (open_search : Type 0) (target : Target) (spread : Spread) where
  dearer_exact : (dearest : Option Dearest) → IfSome dearest (IsExact open_search) → IsAtMost (most_excess target spread) (least_excess target spread) ⊎ open_search
      → IsExact open_search (dearer dearest target spread)
  dearer_exact None so_far new = new
  dearer_exact (Some d) so_far new =
      elim so_far [
        | inl old ↦ elim new [ inl new ↦ inl (by_test (is_less (least_excess d.target d.spread) (least_excess target spread)) refl old new) | inr q ↦ inr q ]
        | inr q ↦ inr q
      ] where
        most : Excess
        most = greater d.most (most_excess target spread)

        one : Dearest
        one = record { target = target; spread = spread; most = most }

        other : Dearest
        other = record { target = d.target; spread = d.spread; most = most }

        by_test : (b : Bool) → is_less (least_excess d.target d.spread) (least_excess target spread) ≡ b
            → IsAtMost d.most (least_excess d.target d.spread) → IsAtMost (most_excess target spread) (least_excess target spread)
            → IsAtMost (cond {A = Dearest} b one other).most (least_excess (cond {A = Dearest} b one other).target (cond {A = Dearest} b one other).spread)
        by_test true is old new =
            greater_has (λ (x : Excess). IsAtMost x (least_excess target spread)) d.most (most_excess target spread) (λ _. new)
            (λ _. at_most_after d.most (least_excess d.target d.spread) (least_excess target spread) old
            (at_most_less (least_excess d.target d.spread) (least_excess target spread) (less_of (least_excess d.target d.spread) (least_excess target spread) is)))
        by_test false is old new =
            greater_has (λ (x : Excess). IsAtMost x (least_excess d.target d.spread)) d.most (most_excess target spread)
            (λ _. at_most_after (most_excess target spread) (least_excess target spread) (least_excess d.target d.spread) new
            (at_most_of (least_excess d.target d.spread) (least_excess target spread) is))
            (λ _. old)

pub dearer_is : (settings : Settings) (span : Option ℕ) (scenario : Scenario) (targets : List Target) (order : List ℕ) (g : ℕ) (dearest : Option Dearest) (target : Target) (spread : Spread)
    → IsOrder scenario order → IfSome dearest (IsDearest settings span scenario targets order g) → Contains targets target → target.group ≡ g
    → IsSpreadIn settings span scenario order target spread → IsDearest settings span scenario targets order g (dearer dearest target spread)
dearer_is settings span scenario targets order g dearest target spread is so_far among at found =
    let all = dearer_has (λ t s. Contains targets t × (t.group ≡ g) × IsSpreadIn settings span scenario order t s) dearest target spread
    (known dearest so_far) (among, at, found) in
    record {
      of_target = all.0;
      at = all.1;
      found = all.2;
      exact = dearer_exact (MayStayOpen settings span scenario targets) target spread dearest (exact dearest so_far)
          (exact_or_open settings span scenario targets order target spread among is found);
    } where
      known : (dearest : Option Dearest) → IfSome dearest (IsDearest settings span scenario targets order g)
          → IfSome dearest (λ d. Contains targets d.target × (d.target.group ≡ g) × IsSpreadIn settings span scenario order d.target d.spread)
      known None is = tt
      known (Some d) is = (is.of_target, is.at, is.found)

      exact : (dearest : Option Dearest) → IfSome dearest (IsDearest settings span scenario targets order g)
          → IfSome dearest (IsExact (MayStayOpen settings span scenario targets))
      exact None is = tt
      exact (Some d) is = is.exact

-- the most of it is the greater of the most so far and the new one
dearer_most : (d : Dearest) (target : Target) (spread : Spread) → (dearer (Some d) target spread).most ≡ greater d.most (most_excess target spread)
dearer_most d target spread = by_test (is_less (least_excess d.target d.spread) (least_excess target spread)) where
  most : Excess
  most = greater d.most (most_excess target spread)

  by_test : (b : Bool) → (cond {A = Dearest} b (record { target = target; spread = spread; most = most }) (record { target = d.target; spread = d.spread; most = most })).most ≡ most
  by_test true = refl
  by_test false = refl

module _ (span : Option ℕ) (scenario : Scenario) (order : List ℕ) (g : ℕ) (targets : List Target) (i : ℕ) (d : Target) (within : i < length targets) where
  abbrev next : Target
  next = get_or targets i d

  -- one more target at the group
  pub dearer_kept : (dearest : Option Dearest) (spread : Spread) → AreKeptBy span scenario order g dearest (take i targets)
      → IsKeptIn span scenario order (most_excess next spread) next → AreKept span scenario order g (dearer dearest next spread).most (take (i + 1) targets)
  dearer_kept None spread none new =
      All-more (λ (t : Target). t.group ≡ g → IsKeptIn span scenario order (most_excess next spread) t) targets i d within
      (λ k e l at. absurd (none k e l at)) (λ at. new)
  dearer_kept (Some dearest) spread kept new =
      let most : Excess = greater dearest.most (most_excess next spread) in
      let high = greater_high dearest.most (most_excess next spread) in
      subst (λ (m : Excess). AreKept span scenario order g m (take (i + 1) targets)) (sym (dearer_most dearest next spread))
      (All-more (λ (t : Target). t.group ≡ g → IsKeptIn span scenario order most t) targets i d within
      (λ k e l at. kept_more span scenario order dearest.most most (get_or (take i targets) k e) high.0 (kept k e l at))
      (λ at. kept_more span scenario order (most_excess next spread) most next high.1 new))

  -- and one more that is at another group
  pub still_kept : (dearest : Option Dearest) → (next.group ≡ g → ⊥) → AreKeptBy span scenario order g dearest (take i targets)
      → AreKeptBy span scenario order g dearest (take (i + 1) targets)
  still_kept None apart none = All-more (λ (t : Target). t.group ≡ g → ⊥) targets i d within none apart
  still_kept (Some dearest) apart kept =
      All-more (λ (t : Target). t.group ≡ g → IsKeptIn span scenario order dearest.most t) targets i d within kept (λ at. absurd (apart at))
