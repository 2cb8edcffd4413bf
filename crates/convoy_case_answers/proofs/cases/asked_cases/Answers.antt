use Rattle.std.proofs.Common.{ℕ, List, ◌++◌, map, sym, ap, ◌∙◌}
use Rattle.convoy_stamps.proofs.Loops.{flat_map_range_more}
use Rattle.convoy_toml.specs.declared.asked.Asked.{Asked}
use Rattle.convoy_case_answers.specs.Cases.{asked_in}
use Rattle.convoy_case_answers.proofs.cases.asked_cases.Goals as goal

pub loop-case-preserved : goal.loop-case-preserved
loop-case-preserved c =
    let of : ℕ → List Asked = λ case. map (asked_in c.args.late.now c.args.asked.now case) c.args.targets.now in
    let n : ℕ = c.loop-case.case in
    c.in_ok-push_case.ensures ∙ ap (λ (cases : List Asked). cases ++ of n) c.loop-case.invariant ∙ sym (flat_map_range_more of n)
