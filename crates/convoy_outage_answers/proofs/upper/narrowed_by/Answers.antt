use Rattle.std.proofs.Common.{◌≡◌, ◌+◌, ◌≤◌, ℕ, min, Option, Some, ap, refl, subst, sym, ◌∙◌, arith}
use Rattle.std.proofs.lemmas.Bool.Decides.{nat_tests}
use Rattle.convoy_scenario.specs.Scenario.{Scenario}
use Rattle.convoy_outage_runs.specs.Compressed.{compressed_within, saved_ticks}
use Rattle.convoy_outage_runs.specs.OutageRuns.{IsUpperOfRuns}
use Rattle.convoy_outage_answers.proofs.Narrowing.{narrowed}
use Rattle.convoy_outage_answers.proofs.upper.narrowed_by.Goals as goal

pub returns-in-Some-most-clause-safe : goal.returns-in-Some-most-clause-safe
returns-in-Some-most-clause-safe g c =
    let span : ℕ = c.args.span in
    let factor : ℕ = c.args.factor in
    let number : c.lesser.result ≡ min c.args.known (c.in-Some-most.most + saved_ticks factor span) =
    rw (c.lesser.ensures, c.saved_ticks.ensures) refl in
    let some : 1 ≤ factor = grind (arith, nat_tests, c.if-factor-lt1.false) in
    let few : factor ≤ c.args.greatest = grind (arith, nat_tests, c.if-factor-greatest.false) in
    let within : ◌≡◌ {A = Option Scenario} (Some c.in_ok-other-2.other) (compressed_within factor span c.args.instance.now) =
    ap (λ (s : Scenario). Some s) c.in_ok-other-2.ensures ∙ sym c.in-Some.is ∙ rw c.scenario.ensures.value at c.in_ok-other.ensures in
    subst (IsUpperOfRuns span c.args.instance.now) (sym number)
    (narrowed c.compressed_runs_are_as_late.ensures span factor c.args.instance.now c.in_ok-other-2.other c.args.options.now c.in_ok-finding.finding
    c.args.known c.in-Some-most.most
    c.scenario.ensures.lawful c.requires.real some (rw c.requires.greatest at few) within c.time-time.ensures.lawful
    c.in_ok-finding.ensures (sym c.most.ensures ∙ c.in-Some-most.is) c.requires.safe)
