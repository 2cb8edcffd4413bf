-- What is known of the numbers of groups and messages, and of tables of leads.
use Rattle.std.proofs.Common.{ℕ, ◌+◌, ◌<◌, ◌≤◌, List, length, All, inl, inr, arith}
use Rattle.std.proofs.lemmas.Bool.{cases_lt}
use Rattle.std.proofs.lemmas.List.{get_or_past}
use Rattle.convoy_draft.specs.declared.limits.TheConstants.{MOST_GROUPS}
use Rattle.convoy_scenario.specs.Scenario.{Scenario, message_at, no_message}
use Rattle.convoy_scenario.specs.WellFormed.{IsScenario}
use Rattle.convoy_packets.specs.Order.{place}
use Rattle.convoy_sure.specs.SureLeads.{lead_at, top_of}
use Rattle.convoy_sure.proofs.SureLaws.{group_is_low}
use Rattle.convoy_sure.proofs.Tops.{top_small}

-- groups that messages go to are within the limit
pub destinations_low : (scenario : Scenario) → IsScenario scenario → (m : ℕ) → m < length scenario.multicasts → All (λ g. g < MOST_GROUPS) (message_at scenario m).destinations
destinations_low scenario well m l i d k =
    let known = (well.messages m no_message l).known i d k in
    let few = well.groups_high in
    omega arith

pub target_low : (scenario : Scenario) → IsScenario scenario → scenario.target_group < 8
target_low scenario well = group_is_low scenario well scenario.target_message scenario.target_group well.addressed

-- where no entry of a table exceeds a number, no lead does
lead_small : (leads : List ℕ) (most m g : ℕ) → All (λ l. l ≤ most) leads → lead_at leads m g ≤ most
lead_small leads most m g small = elim (cases_lt (place m g) (length leads)) [
  | inl l ↦ small (place m g) 0 l
  | inr l ↦ omega (arith, get_or_past leads (place m g) 0 l)
]

pub top_low : (leads zs : List ℕ) (most few g : ℕ) → All (λ l. l ≤ most) leads → length zs ≤ few → top_of (λ z. lead_at leads z g) zs ≤ most + few
top_low leads zs most few g small short =
    let top = top_small (λ z. lead_at leads z g) zs most (λ z. lead_small leads most z g small) in
    omega arith
