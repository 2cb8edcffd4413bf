use Rattle.std.proofs.Common.{◌≡◌, ◌≤◌, ℕ, List, All, length, sym, subst, ◌∙◌, arith}
use Rattle.convoy_sim.proofs.Ranges.{refilled}
use Rattle.convoy_sure.proofs.windows.Windows.with_arrival_by.Goals as goal

-- none of the changed entries is past the last, and the others are those of the windows before
pub invariant_of-result : goal.invariant_of-result
invariant_of-result c =
    let arrivals_vec = c.in_ok-arrivals.arrivals.greatest in
    let arrivals_now : List ℕ = c.lower_arrivals.new.arrivals in
    let arrivals_long : length arrivals_now ≡ arrivals_vec.len = omega (arith, c.lower_arrivals.auto.arrivals, c.as_mut_slice-greatest.ensures.len) in
    let arrivals_before : All (λ e. e ≤ 1131070) c.as_mut_slice-greatest.result.now =
    subst (λ (es : List ℕ). All (λ e. e ≤ 1131070) es) (sym (c.as_mut_slice-greatest.ensures.value ∙ c.in_ok-arrivals.ensures.greatest)) c.self.invariant.greatest_arrivals in
    record {
      least_arrivals = subst (λ (es : List ℕ). All (λ e. e ≤ 1131070) es) (sym c.in_ok-arrivals.ensures.least) c.self.invariant.least_arrivals;
      greatest_arrivals = subst (λ (es : List ℕ). All (λ e. e ≤ 1131070) es) (sym (refilled arrivals_vec.len arrivals_vec.items arrivals_now arrivals_long)) (c.lower_arrivals.ensures.limit 1131070 arrivals_before);
      least_settlings = subst (λ (es : List ℕ). All (λ e. e ≤ 1196605) es) (sym c.in_ok-settlings.ensures.least) c.self.invariant.least_settlings;
      greatest_settlings = subst (λ (es : List ℕ). All (λ e. e ≤ 1196605) es) (sym c.in_ok-settlings.ensures.greatest) c.self.invariant.greatest_settlings;
      least_multicasts = subst (λ (es : List ℕ). All (λ e. e ≤ 65535) es) (sym c.in_ok-multicasts.ensures.least) c.self.invariant.least_multicasts;
      greatest_multicasts = subst (λ (es : List ℕ). All (λ e. e ≤ 65535) es) (sym c.in_ok-multicasts.ensures.greatest) c.self.invariant.greatest_multicasts;
      least_proposals = subst (λ (es : List ℕ). All (λ e. e ≤ 65535) es) (sym c.in_ok-proposals.ensures.least) c.self.invariant.least_proposals;
      greatest_proposals = subst (λ (es : List ℕ). All (λ e. e ≤ 65535) es) (sym c.in_ok-proposals.ensures.greatest) c.self.invariant.greatest_proposals;
    }
