use Rattle.std.proofs.Common.{ℕ, List, Bool, Option, option_map, sym, subst}
use Rattle.std.specs.List.{All}
use Rattle.std.proofs.lemmas.List.Elements.{All-filter, All-take}
use Rattle.convoy_survey.specs.Ceilings.{is_asked}
use Rattle.convoy_survey.specs.Surveys.{IsTargetPair}
use Rattle.convoy_survey.proofs.ceilings.targets_asked.Goals as goal

pub returns-clause-lawful : goal.returns-clause-lawful
returns-clause-lawful c =
    let lawful : ℕ × ℕ → Type 0 = IsTargetPair c.args.scenario.now in
    let test : ℕ × ℕ → Bool = λ target. is_asked c.args.scenario.now (option_map (λ name. name.now) c.args.asked) target.1 in
    let items : List (ℕ × ℕ) = c.deref-target-items.result.now in
    let all : All lawful items = subst (λ (targets : List (ℕ × ℕ)). All lawful targets) (sym c.deref-target-items.ensures.value) c.in_ok-targets.ensures.lawful in
    subst (λ (targets : List (ℕ × ℕ)). All lawful targets) (sym c.loop-target.invariant)
    (All-filter test lawful _ (All-take lawful c.loop-target.target-index items all))
