use Rattle.std.proofs.Common.{◌≡◌, ℕ, ◌<◌, ◌≤◌, inl, inr, List, [], ◌∷◌, ◌++◌, length, get_or, sym, ap, subst, ◌∙◌, arith, length-append}
use Rattle.convoy_stamps.specs.declared.pair.Pair.{Pair}
use Rattle.convoy_sure.specs.Windows.{tables_by}
use Rattle.convoy_starts.specs.Starts.{Start, add_start}
use Rattle.convoy_starts.specs.Changes.{AreCovered, IsCovered}
use Rattle.convoy_starts.proofs.CoveredTicks.{more_covered, no_pair, pair_there, set_covered}
use Rattle.convoy_starts.proofs.SteadyStarts.{add_same, was_added}
use Rattle.convoy_starts.proofs.setting.Setting.visit.Goals as goal
use Rattle.convoy_starts.proofs.setting.Setting.visit.Goals.{then-count-len, else-count-len}

pub returns-clause-covered : goal.returns-clause-covered
returns-clause-covered c =
    let scenario = c.args.self.now.scenario.now in
    let tables = tables_by c.args.self.now.windows.now in
    let sure = c.args.self.now.sure.now in
    let barring = c.args.self.now.barring in
    let pairs : List Pair = c.args.pairs.now in
    let pair : Pair = get_or pairs c.args.k no_pair in
    let old : List Start = c.args.starts.now.items in
    let new : List Start = c.add_start.new.starts.items in
    let nexts : List ℕ = c.if-count-len.nexts in
    let holds : List Start → Type 0 = λ ss. IsCovered scenario tables sure barring ss c.args.tick pair in
    let all : List Start → List ℕ → Type 0 = λ ss ns. AreCovered scenario tables sure barring ss c.args.tick ns pairs in
    let value : new ≡ add_start scenario tables sure barring c.args.tick old pair = c.in_ok-add_start.ensures.value in
    let both : (all new nexts) × (holds new) =
    elim (was_added scenario tables sure pair barring old c.args.tick) [
      | inl r ↦
          let same : new ≡ old = value ∙ r.0 in
          elim c.if-count-len.branch [
            | then-count-len w ↦ absurd (omega (arith, w.if-count-len.true, c.len-count.ensures, c.len.ensures, ap length same))
            | else-count-len w ↦ (subst (λ (ns : List ℕ). all new ns) (sym w.nexts-is) (subst (λ (ss : List Start). all ss c.args.nexts.now) (sym same) c.requires.covered), subst holds (sym same) r.1)
          ]
      | inr r ↦
          let more : new ≡ old ++ r.0 ∷ [] = value ∙ r.1 in
          elim c.if-count-len.branch [
            | then-count-len w ↦ (
              subst (λ (ns : List ℕ). all new ns) (sym w.nexts-is) (subst (λ (ss : List Start). all ss w.hasten.new.nexts) (sym more)
                  (more_covered scenario tables sure barring old r.0 c.args.tick pair.group c.args.nexts.now w.hasten.new.nexts pairs r.2 r.3 c.requires.covered
                  w.hasten.ensures.sooner w.hasten.ensures.unread)),
              subst holds (sym more) r.4,
            )
            | else-count-len w ↦ absurd (omega (arith, w.if-count-len.false, c.len-count.ensures, c.len.ensures, ap length more, length-append old (r.0 ∷ [])))
          ]
    ] in
    let is : c.deref.result.now ≡ new = c.deref.ensures.value in
    set_covered scenario tables sure barring new c.args.tick c.args.k c.next_uncovered.result nexts pairs
    (omega (arith, c.requires.within, c.requires.long, c.if-count-len.auto.nexts)) c.requires.within both.0
    (subst (λ (ss : List Start). (later : ℕ) → c.args.tick ≤ later → later < c.next_uncovered.result → IsCovered scenario tables sure barring ss later pair) is
    (c.next_uncovered.ensures.covered (subst holds (sym is) both.1)))

pub returns-clause-value : goal.returns-clause-value
returns-clause-value c pair =
    c.in_ok-add_start.ensures.value
    ∙ ap (add_start c.args.self.now.scenario.now (tables_by c.args.self.now.windows.now) c.args.self.now.sure.now c.args.self.now.barring c.args.tick c.args.starts.now.items)
    (sym (pair_there c.args.pairs.now c.args.k pair c.requires.within))

pub returns-then-tick-nexts-clause-value : goal.returns-then-tick-nexts-clause-value
returns-then-tick-nexts-clause-value c pair =
    sym (add_same c.args.self.now.scenario.now (tables_by c.args.self.now.windows.now) c.args.self.now.sure.now (get_or c.args.pairs.now c.args.k pair) c.args.self.now.barring c.args.starts.now.items c.args.tick
    (c.requires.covered c.args.k pair c.args.tick c.requires.within (omega arith) c.if-tick-nexts.true))
