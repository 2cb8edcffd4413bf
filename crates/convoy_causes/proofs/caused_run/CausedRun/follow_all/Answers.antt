use Rattle.std.proofs.Common.{◌≡◌, ℕ, ◌+◌, ◌<◌, inl, inr, List, length, get_or, ap, subst, sym, ◌∙◌, arith}
use Rattle.std.proofs.lemmas.Bool.{cases_lt}
use Rattle.std.proofs.lemmas.List.{get_or_default}
use Rattle.convoy_causes.specs.declared.cause.Cause.{Cause}
use Rattle.convoy_causes.specs.Causes.{IsFollowing}
use Rattle.convoy_causes.proofs.caused_run.CausedRun.follow_all.Goals as goal

one_more : (P : Cause → Type 0) (xs : List Cause) (i : ℕ) (e : Cause) → i < length xs → ((k : ℕ) (d : Cause) → k < i → P (get_or xs k d)) → P (get_or xs i e)
    → (k : ℕ) (d : Cause) → k < i + 1 → P (get_or xs k d)
one_more P xs i e l below here k d m = elim (cases_lt k i) [
  | inl less ↦ below k d less
  | inr past ↦
      let same : k ≡ i = omega arith in
      subst P (sym (ap (λ n. get_or xs n d) same ∙ get_or_default xs i d e l)) here
]

pub loop-cause-preserved : goal.loop-cause-preserved
loop-cause-preserved c =
    one_more (IsFollowing c.args.self.now.scenario c.args.self.now.schedule) c.args.causes.now c.loop-cause.cause-index _ c.loop-cause-test.true c.loop-cause.invariant
    (c.follows.ensures.0 c.if-not-follows.false)
