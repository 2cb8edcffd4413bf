use Rattle.std.proofs.Common.{◌≡◌, ℕ, ◌<◌, inl, inr, List, [], ◌∷◌, get_or, take, fold, sym, ap, subst, ◌∙◌, arith}
use Rattle.std.proofs.lemmas.Bool.{cases_lt}
use Rattle.std.proofs.lemmas.List.{take_more}
use Rattle.std.proofs.lemmas.Grind.{fold-append}
use Rattle.convoy_stamps.specs.declared.pair.Pair.{Pair}
use Rattle.convoy_sure.specs.Windows.{tables_by}
use Rattle.convoy_starts.specs.Starts.{Start, add_start}
use Rattle.convoy_starts.proofs.CoveredTicks.{no_pair}
use Rattle.convoy_starts.proofs.Loops.{there}
use Rattle.convoy_starts.proofs.setting.Setting.add_starts.Goals as goal

pub loop-k-preserved : goal.loop-k-preserved
loop-k-preserved c =
    let add : List Start → Pair → List Start = add_start c.args.self.now.scenario.now (tables_by c.args.self.now.windows.now) c.args.self.now.sure.now c.args.self.now.barring c.args.tick in
    let first : List Start = c.args.starts.now.items in
    let pairs : List Pair = c.args.pairs.now in
    let i : ℕ = c.loop-k.k in
    let new : List ℕ = c.visit.new.nexts in
    record {
      current = c.in_ok-visit.ensures.current;
      covered = c.in_ok-visit.ensures.covered;
      past = λ j l. elim (cases_lt j i) [
        | inl before ↦ c.in_ok-visit.ensures.others j (c.loop-k.invariant.past j before)
        | inr after ↦ let same : i ≡ j = omega arith in subst (λ (k : ℕ). c.args.tick < get_or new k 0) same c.in_ok-visit.ensures.past
      ];
      so_far = c.in_ok-visit.ensures.value no_pair
          ∙ ap (λ (l : List Start). add l (get_or pairs i no_pair)) c.loop-k.invariant.so_far
          ∙ sym (ap (fold add first) (take_more pairs i no_pair c.loop-k-test.true) ∙ fold-append add first (take i pairs) (get_or pairs i no_pair ∷ []));
    }

pub returns-clause-past : goal.returns-clause-past
returns-clause-past c k d l =
    subst (λ (n : ℕ). c.args.tick < n) (sym (there c.loop-k.nexts k d 0 l))
    (c.loop-k.invariant.past k (omega (arith, l, c.loop-k-test.false, c.loop-k.auto.nexts, c.requires.long)))
