-- The two tests of whether a message is led, where it surely arrives behind the target and where it may not.
use Rattle.std.proofs.Common.{◌≡◌, ℕ, Bool, true, false, ◌&&◌, ◌||◌, ap, ap₂, refl, ◌∙◌}
use Rattle.convoy_scenario.specs.Scenario.{Scenario}
use Rattle.convoy_sure.specs.Windows.{LeadTables}
use Rattle.convoy_sure.specs.SureLeads.{is_earlier, sure_of}
use Rattle.convoy_leads.specs.Leads.{is_led}
use Rattle.convoy_starts.specs.Tests.{is_less_elsewhere}

module _ (scenario : Scenario) (tables : LeadTables) (n : ℕ) where
  abbrev pub arrives_behind : Bool
  arrives_behind =
      is_earlier scenario.time (tables.times.greatest_arrival scenario.target_message scenario.target_group) scenario.target_message (tables.times.least_arrival n scenario.target_group) n

  abbrev pub less : Bool → Bool
  less = is_less_elsewhere scenario tables (sure_of scenario tables.times n)

  led_is : (barring : Bool) → is_led scenario tables barring n ≡ (arrives_behind && less barring)
  unfolding is_led
  led_is barring = refl

  pub led_if_behind : arrives_behind ≡ true
      → (is_led scenario tables false n || is_led scenario tables true n) ≡ (less false || less true)
  led_if_behind behind =
      let one = λ (barring : Bool). led_is barring ∙ ap (λ b. b && less barring) behind in
      ap₂ (λ a b. a || b) (one false) (one true)

  pub not_led : arrives_behind ≡ false → (is_led scenario tables false n || is_led scenario tables true n) ≡ false
  not_led behind =
      let one = λ (barring : Bool). led_is barring ∙ ap (λ b. b && less barring) behind in
      ap₂ (λ a b. a || b) (one false) (one true)
