use Rattle.std.proofs.Common.{◌≡◌, ◌≤◌, ℕ, List, All, length, sym, subst, ◌∙◌, arith}
use Rattle.convoy_sim.proofs.Ranges.{refilled}
use Rattle.convoy_sure.proofs.windows.Windows.with_arrival.Goals as goal

-- none of the raised entries is past the last, and the others are those of the windows before
pub invariant_of-result : goal.invariant_of-result
invariant_of-result c =
    let arrivals = c.in_ok-arrivals.arrivals.least in
    let arrived : List ℕ = c.raise_arrivals.new.arrivals in
    let arrivals_long : length arrived ≡ arrivals.len = omega (arith, c.raise_arrivals.auto.arrivals, c.as_mut_slice-least.ensures.len) in
    let settlings = c.in_ok-settlings.settlings.least in
    let settled : List ℕ = c.raise_row.new.entries in
    let settlings_long : length settled ≡ settlings.len = omega (arith, c.raise_row.auto.entries, c.as_mut_slice-least-2.ensures.len) in
    let before : All (λ e. e ≤ 1196605) c.as_mut_slice-least-2.result.now =
    subst (λ (es : List ℕ). All (λ e. e ≤ 1196605) es) (sym (c.as_mut_slice-least-2.ensures.value ∙ c.in_ok-settlings.ensures.least)) c.self.invariant.least_settlings in
    record {
      least_arrivals = subst (λ (es : List ℕ). All (λ e. e ≤ 1131070) es) (sym (refilled arrivals.len arrivals.items arrived arrivals_long)) c.raise_arrivals.ensures.limit;
      greatest_arrivals = subst (λ (es : List ℕ). All (λ e. e ≤ 1131070) es) (sym c.in_ok-arrivals.ensures.greatest) c.self.invariant.greatest_arrivals;
      least_settlings = subst (λ (es : List ℕ). All (λ e. e ≤ 1196605) es) (sym (refilled settlings.len settlings.items settled settlings_long)) (c.raise_row.ensures.limit 1196605 (omega (arith, c.requires.tick)) before);
      greatest_settlings = subst (λ (es : List ℕ). All (λ e. e ≤ 1196605) es) (sym c.in_ok-settlings.ensures.greatest) c.self.invariant.greatest_settlings;
      least_multicasts = subst (λ (es : List ℕ). All (λ e. e ≤ 65535) es) (sym c.in_ok-multicasts.ensures.least) c.self.invariant.least_multicasts;
      greatest_multicasts = subst (λ (es : List ℕ). All (λ e. e ≤ 65535) es) (sym c.in_ok-multicasts.ensures.greatest) c.self.invariant.greatest_multicasts;
      least_proposals = subst (λ (es : List ℕ). All (λ e. e ≤ 65535) es) (sym c.in_ok-proposals.ensures.least) c.self.invariant.least_proposals;
      greatest_proposals = subst (λ (es : List ℕ). All (λ e. e ≤ 65535) es) (sym c.in_ok-proposals.ensures.greatest) c.self.invariant.greatest_proposals;
    }
