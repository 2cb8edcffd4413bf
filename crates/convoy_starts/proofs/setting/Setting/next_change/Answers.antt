use Rattle.std.proofs.Common.{◌≡◌, ℕ, ◌<◌, ◌≤◌, inl, inr, List, length, get_or, subst, arith}
use Rattle.std.proofs.lemmas.Bool.{cases_lt}
use Rattle.convoy_sure.specs.Windows.{tables_by}
use Rattle.convoy_starts.specs.Starts.{stamp_for}
use Rattle.convoy_starts.proofs.SteadyStarts.{steady}
use Rattle.convoy_starts.proofs.setting.Setting.next_change.Goals as goal

pub loop-from-preserved : goal.loop-from-preserved
loop-from-preserved c =
    let i : ℕ = c.loop-from.from-index in
    let groups = c.destinations-from-items.result.now in
    let now : ℕ = c.loop-from.next in
    let new : ℕ = c.min-next.result in
    let least : new ≤ now = omega (arith, c.min-next.ensures) in
    let stamp : ℕ → ℕ → ℕ → ℕ = λ at x from. stamp_for c.args.self.now.scenario.now (tables_by c.args.self.now.windows.now) c.args.self.now.sure.now c.args.starts.now at x c.args.pair.message c.args.pair.group from in
    record {
      past = omega (arith, c.min-next.ensures, c.next_change_by.ensures.past, c.loop-from.invariant.past);
      later = λ k d l m. let old = c.loop-from.invariant.later k d l m in omega (arith, old, least);
      same = λ some k at x l late soon. elim (cases_lt k i) [
        | inl before ↦ c.loop-from.invariant.same some k at x before late (omega (arith, soon, least))
        | inr after ↦
            let is : i ≡ k = omega arith in
            subst (λ (j : ℕ). stamp at x (get_or groups j 0) ≡ stamp c.args.tick x (get_or groups j 0)) is
            (c.next_change_by.ensures.same some at x late (omega (arith, soon, c.min-next.ensures)))
      ];
    }

pub returns-clause-same : goal.returns-clause-same
returns-clause-same c some later late soon =
    steady c.args.self.now.scenario.now (tables_by c.args.self.now.windows.now) c.args.self.now.sure.now c.args.pair c.args.starts.now c.args.tick later late
    (λ k d l m. let old = c.loop-from.invariant.later k d l m in omega (arith, old, soon))
    (subst (λ (groups : List ℕ). (x k : ℕ) → k < length groups → stamp later x (get_or groups k 0) ≡ stamp c.args.tick x (get_or groups k 0)) c.destinations-from-items.ensures.value
    (λ x k l. c.loop-from.invariant.same some k later x (omega (arith, l, c.loop-from-test.false)) late soon)) where
      stamp : ℕ → ℕ → ℕ → ℕ
      stamp at x from = stamp_for c.args.self.now.scenario.now (tables_by c.args.self.now.windows.now) c.args.self.now.sure.now c.args.starts.now at x c.args.pair.message c.args.pair.group from
