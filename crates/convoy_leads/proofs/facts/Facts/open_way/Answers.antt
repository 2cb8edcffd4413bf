use Rattle.std.proofs.Common.{◌≡◌, ℕ, ◌+◌, ◌-◌, ◌<◌, Bool, false, ◌&&◌, List, length, get_or, drop, is_none, ap, sym, subst, ◌∙◌}
use Rattle.std.specs.List.{list_all}
use Rattle.std.proofs.lemmas.List.{drop_more}
use Rattle.convoy_sure.specs.Windows.{tables_by}
use Rattle.convoy_leads.specs.Closing.{is_behind_after}
use Rattle.convoy_leads.proofs.facts.Facts.open_way.Goals as goal

-- one that fails a test is among those that are left, so not all pass
one_fails : (p : ℕ → Bool) (xs : List ℕ) (k : ℕ) → k < length xs → list_all p (drop k xs) ≡ list_all p xs → p (get_or xs k 0) ≡ false
    → false ≡ list_all p xs
one_fails p xs k below same fails =
    sym (sym same ∙ ap (list_all p) (drop_more xs k 0 below) ∙ ap (λ (b : Bool). b && list_all p (drop (k + 1) xs)) fails)

pub returns-in-Some-clause-none : goal.returns-in-Some-clause-none
returns-in-Some-clause-none c =
    let scenario = c.args.self.now.scenario.now in
    let windows = c.args.windows.now in
    let n = c.args.n in
    let items = c.destinations-k-items.result.now in
    let way = get_or items c.loop-k.k-index 0 in
    let test = λ (k : ℕ). is_behind_after scenario windows n k (c.args.tick - (tables_by windows).greatest_proposal n k scenario.target_group) in
    let from : c.saturating_sub-from.result ≡ c.args.tick - (tables_by windows).greatest_proposal n way scenario.target_group = cc in
    let some : false ≡ is_behind_after scenario windows n way c.saturating_sub-from.result = sym (ap is_none c.in-Some.is) ∙ c.in_ok-case.ensures.none in
    let fails : test way ≡ false = sym (some ∙ ap (λ (tick : ℕ). is_behind_after scenario windows n way tick) from) in
    subst (λ (xs : List ℕ). false ≡ list_all test xs) c.destinations-k-items.ensures.value
    (one_fails test items c.loop-k.k-index c.loop-k-test.true c.loop-k.invariant fails)
