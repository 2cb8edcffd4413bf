-- The best order of the groups, and why no order is better.
use Rattle.std.specs.Prelude.{◌≡◌, ◌⊎◌, ℕ, ◌<◌, List, ◌∷◌, ◌++◌, length, map, Option, Contains, All}
use Rattle.convoy_scenario.specs.Scenario.{Scenario}
use Rattle.convoy_branch.specs.Options.{Settings}
use Rattle.convoy_best_order.specs.declared.excess.Excess.{Excess}
use Rattle.convoy_best_order.specs.declared.best.Best.{Best}
use Rattle.convoy_best_order.specs.declared.best.Reason.{Reason}
use Rattle.convoy_best_order.specs.declared.best.Row.{Row}
use Rattle.convoy_best_order.specs.declared.target.Target.{Target}
use Rattle.convoy_best_order.specs.Excesses.{IsAtMost, IsGreatestOf, IsLeastOf}
use Rattle.convoy_best_order.specs.Orders.{IsOrder}
use Rattle.convoy_best_order.specs.Spreads.{IsSpread, IsSpreadIn, MayStayOpen, least_excess, most_excess}
use Rattle.convoy_best_order.specs.Targets.{asked_at}

-- REASONS
-- at which group the target of a reason is
abbrev pub group_of : Reason → ℕ
group_of reason = reason.target.group

abbrev pub groups_of : List Reason → List ℕ
groups_of reasons = map group_of reasons

-- by how much its latency exceeds its limit at least
abbrev pub excess_of_reason : Reason → Excess
excess_of_reason reason = least_excess reason.target reason.spread

-- The target of the reason is one of these. In its order of the groups all that stand behind the target's group are among these groups, and the target is so late in it.
pub record IsReason (settings : Settings) (span : Option ℕ) (scenario : Scenario) (targets : List Target) (groups : List ℕ) (reason : Reason) : Type 0 where
  pub of_target : Contains targets reason.target
  pub ahead : List ℕ
  pub behind : List ℕ
  pub split : reason.order.items ≡ ahead ++ group_of reason ∷ behind
  pub among : All (Contains groups) behind
  pub is : IsOrder scenario reason.order.items
  pub found : IsSpreadIn settings span scenario reason.order.items reason.target reason.spread

-- There is a reason, and they are reasons for their own groups: so in each order that one of these groups which stands before the others has a target that is so late, or later.
pub record AreReasons (settings : Settings) (span : Option ℕ) (scenario : Scenario) (targets : List Target) (reasons : List Reason) : Type 0 where
  pub some : 0 < length reasons
  pub all : All (IsReason settings span scenario targets (groups_of reasons)) reasons

-- ROWS
abbrev pub target_of : Row → Target
target_of row = row.target

-- by how much the latency of a row exceeds its limit at most
abbrev pub excess_of_row : Row → Excess
excess_of_row row = most_excess row.target row.after

-- The row tells how late its target is with the groups as they are, and with the groups in that order.
pub record IsRow (settings : Settings) (span : Option ℕ) (scenario : Scenario) (order : List ℕ) (row : Row) : Type 0 where
  pub before : IsSpread settings (asked_at span scenario row.target) row.before
  pub after : IsSpreadIn settings span scenario order row.target row.after

-- There is a row for each of these targets.
pub record AreRows (settings : Settings) (span : Option ℕ) (scenario : Scenario) (targets : List Target) (order : List ℕ) (rows : List Row) : Type 0 where
  pub of_targets : map target_of rows ≡ targets
  pub all : All (IsRow settings span scenario order) rows

-- THE BEST ORDER
-- It is an order of the groups, with a row for each of these targets, of which `most` tells the greatest excess; and there are reasons why no order has a lesser excess than `least`, the least of theirs: so says the law `NoOrderIsBetter`. The two are one excess, unless some search may stay open: so says the law `BestOrderIsExact`.
pub record IsBest (settings : Settings) (span : Option ℕ) (scenario : Scenario) (targets : List Target) (best : Best) : Type 0 where
  pub order : IsOrder scenario best.order.items
  pub rows : AreRows settings span scenario targets best.order.items best.rows.items
  pub most : IsGreatestOf (map excess_of_row best.rows.items) best.most
  pub reasons : AreReasons settings span scenario targets best.reasons.items
  pub least : IsLeastOf (map excess_of_reason best.reasons.items) best.least
  pub exact : IsAtMost best.most best.least ⊎ MayStayOpen settings span scenario targets
