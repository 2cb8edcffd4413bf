-- What a search for a scenario with compressed outages says of runs through outages.
use Rattle.std.proofs.Common.{◌≡◌, ◌⊎◌, inl, inr, ◌+◌, ◌<◌, ◌≤◌, ℕ, min, Bool, true, false, Option, Some, None, IfSome, if◌then◌else◌, subst, sym, arith}
use Rattle.std.proofs.Math.Nat.{min-eq_left, min-eq_right}
use Rattle.std.proofs.lemmas.Bool.{cases_lt}
use Rattle.convoy_draft.specs.declared.time.Time.TheVariants.{Real}
use Rattle.convoy_scenario.specs.Scenario.{Scenario}
use Rattle.convoy_scenario.specs.WellFormed.{IsScenario}
use Rattle.convoy_sim.specs.Greatest.{IsUpper}
use Rattle.convoy_outage_runs.specs.Compressed.{compressed, compressed_within, is_within_limits, saved_ticks, shortest_travel}
use Rattle.convoy_outage_runs.specs.OutageRunLaws.{CompressedRunsAreAsLate}
use Rattle.convoy_outage_runs.specs.OutageRuns.{IsUpperOfRuns}
use Rattle.convoy_branch.specs.Options.{Settings}
use Rattle.convoy_survey.specs.declared.finding.Finding.{Finding}
use Rattle.convoy_survey.specs.Findings.{IsFinding, most_of}
use Rattle.convoy_survey.proofs.Numbers.{finding_encloses}

-- what no latency exceeds is the lesser of two such numbers, too
upper_of_both : (span : ℕ) (scenario : Scenario) (a b : ℕ) → IsUpperOfRuns span scenario a → IsUpperOfRuns span scenario b → IsUpperOfRuns span scenario (min a b)
upper_of_both span scenario a b one other = by_order (cases_lt a b) where
  by_order : (a < b) ⊎ (b ≤ a) → IsUpperOfRuns span scenario (min a b)
  by_order (inl less) = subst (IsUpperOfRuns span scenario) (sym (min-eq_left (omega (arith, less)))) one
  by_order (inr less) = subst (IsUpperOfRuns span scenario) (sym (min-eq_right less)) other

-- a compressed scenario that is within the limits is the one that was made
made_within : (within : Bool) (made other : Scenario) → ◌≡◌ {A = Option Scenario} (Some other) (if within then Some made else None) → other ≡ made
made_within true made other is = cc
made_within false made other is = absurd cc

pub narrowed : CompressedRunsAreAsLate → (span factor : ℕ) (scenario other : Scenario) (settings : Settings) (finding : Finding) (known most : ℕ) →
    IsScenario scenario → scenario.time ≡ Real → 1 ≤ factor → factor ≤ shortest_travel scenario →
    ◌≡◌ {A = Option Scenario} (Some other) (compressed_within factor span scenario) → IsScenario other →
    IsFinding settings other finding → most_of finding ≡ Some most →
    IsUpperOfRuns span scenario known → IsUpperOfRuns span scenario (min known (most + saved_ticks factor span))
narrowed late span factor scenario other settings finding known most lawful real some few is formed found has safe =
    let made : other ≡ compressed factor span scenario =
    made_within (is_within_limits (compressed factor span scenario)) (compressed factor span scenario) other is in
    let upper : IsUpper other most = subst (λ (number : Option ℕ). IfSome number (IsUpper other)) has (finding_encloses settings other finding found).upper in
    upper_of_both span scenario known (most + saved_ticks factor span) safe
    (late factor span most scenario lawful real some few (subst IsScenario made formed) (subst (λ (s : Scenario). IsUpper s most) made upper))
