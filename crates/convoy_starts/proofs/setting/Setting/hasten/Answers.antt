use Rattle.std.proofs.Common.{◌≡◌, ℕ, ◌<◌, ◌≤◌, inl, inr, List, length, get_or, set, sym, ap, subst, ◌∙◌, arith}
use Rattle.std.proofs.lemmas.Bool.{cases_eq}
use Rattle.std.proofs.lemmas.Grind.{get_or-set_at}
use Rattle.std.proofs.lemmas.List.{get_or-set_other}
use Rattle.convoy_stamps.specs.declared.pair.Pair.{Pair}
use Rattle.convoy_sure.specs.Windows.{tables_by}
use Rattle.convoy_starts.specs.Changes.{IsUnread}
use Rattle.convoy_starts.proofs.CoveredTicks.{no_pair, pair_there}
use Rattle.convoy_starts.proofs.setting.Setting.hasten.Goals as goal

pub next_reading-requires-clause-known : goal.next_reading-requires-clause-known
next_reading-requires-clause-known c = omega (arith, c.requires.messages c.loop-k.k no_pair c.loop-k-test.true, c.requires.few)

pub loop-k-preserved : goal.loop-k-preserved
loop-k-preserved c =
    let i : ℕ = c.loop-k.k in
    let now : List ℕ = c.loop-k.nexts in
    let next : ℕ = c.min.result in
    let new : List ℕ = set now i next in
    let within : i < length now = omega (arith, c.loop-k-test.true, c.requires.long, c.loop-k.auto.nexts) in
    let less : next ≤ get_or now i 0 = omega (arith, c.min.ensures) in
    let holds : (later : ℕ) → Pair → Type 0 = λ later pair. IsUnread c.args.self.now.scenario.now (tables_by c.args.self.now.windows.now) c.args.group c.args.tick later pair in
    record {
      sooner = λ j. elim (cases_eq j i) [
        | inl same ↦
            let is : get_or new j 0 ≡ next = get_or-set_at now i j next 0 same within in
            let old : get_or now i 0 ≤ get_or c.args.nexts.now i 0 = c.loop-k.invariant.sooner i in
            let there : get_or c.args.nexts.now j 0 ≡ get_or c.args.nexts.now i 0 = ap (λ (k : ℕ). get_or c.args.nexts.now k 0) same in
            omega arith
        | inr other ↦
            let is : get_or new j 0 ≡ get_or now j 0 = get_or-set_other now i j next 0 other in
            let old : get_or now j 0 ≤ get_or c.args.nexts.now j 0 = c.loop-k.invariant.sooner j in
            omega arith
      ];
      past = λ j l. elim (cases_eq j i) [
        | inl same ↦
            let is : get_or new j 0 ≡ next = get_or-set_at now i j next 0 same within in
            let there : get_or now j 0 ≡ get_or now i 0 = ap (λ (k : ℕ). get_or now k 0) same in
            let old : c.args.tick < get_or now j 0 = c.loop-k.invariant.past j l in
            omega (arith, is, there, old, c.min.ensures, c.next_reading.ensures.past)
        | inr other ↦
            let is : get_or new j 0 ≡ get_or now j 0 = get_or-set_other now i j next 0 other in
            let old : c.args.tick < get_or now j 0 = c.loop-k.invariant.past j l in
            omega arith
      ];
      unread = λ j pair later l m. elim (cases_eq j i) [
        | inl same ↦
            let is : get_or new j 0 ≡ next = get_or-set_at now i j next 0 same within in
            let here = c.next_reading.ensures.unread later (omega (arith, is, m, c.min.ensures)) in
            let first : get_or c.args.pairs.now j pair ≡ get_or c.args.pairs.now i no_pair =
            pair_there c.args.pairs.now j pair (omega (arith, same, c.loop-k-test.true)) ∙ ap (λ (k : ℕ). get_or c.args.pairs.now k no_pair) same in
            subst (holds later) (sym first) here
        | inr other ↦
            let is : get_or new j 0 ≡ get_or now j 0 = get_or-set_other now i j next 0 other in
            c.loop-k.invariant.unread j pair later (omega (arith, l, other)) (omega (arith, m, is))
      ];
    }
