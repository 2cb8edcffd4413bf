-- Lists of spans: what a write of one span changes, and what it keeps.
use Rattle.std.specs.Prelude.{◌≡◌, ◌≢◌, ℕ, ◌+◌, ◌<◌, List, length}
use Rattle.std.proofs.Common.{sym, ap, ◌∙◌, arith, set, inl, inr}
use Rattle.std.proofs.lemmas.Bool.{cases_eq}
use Rattle.std.proofs.lemmas.List.{get_or-set_same, get_or-set_other, length-set}
use Rattle.std.proofs.lemmas.Nat.{mul-add-lt, same_from_place}
use Rattle.convoy_scenario.specs.Scenario.{Scenario}
use Rattle.convoy_intervals.specs.declared.spans.Span.{Span}
use Rattle.convoy_intervals.specs.Spans.{AreAllSpans, AreArrivals, AreSettlings, AreOthersKept, no_span, span_at, span_place, arrival_span, settling_span}

module _ (plan : Scenario) (spans : List Span) (all : AreAllSpans plan spans) (m g : ℕ) (known : m < length plan.multicasts) (group : g < length plan.groups) where
  pub within : span_place plan m g < length spans
  within = omega (arith, all, mul-add-lt m (length plan.groups) g (length plan.multicasts) known group)

  -- the span that is written
  pub written : (span : Span) → span_at plan (set spans (span_place plan m g) span) m g ≡ span
  written span = get_or-set_same spans (span_place plan m g) span no_span within

  -- and the others
  pub kept_message : (n k : ℕ) (span : Span) → n ≢ m → k < length plan.groups → span_at plan (set spans (span_place plan m g) span) n k ≡ span_at plan spans n k
  kept_message n k span differs there =
      get_or-set_other spans (span_place plan m g) (span_place plan n k) span no_span (λ same. differs (same_from_place n k m g (length plan.groups) there group same).0)

  pub kept_group : (n k : ℕ) (span : Span) → k ≢ g → k < length plan.groups → span_at plan (set spans (span_place plan m g) span) n k ≡ span_at plan spans n k
  kept_group n k span differs there =
      get_or-set_other spans (span_place plan m g) (span_place plan n k) span no_span (λ same. differs (same_from_place n k m g (length plan.groups) there group same).1)

  pub all_set : (span : Span) → AreAllSpans plan (set spans (span_place plan m g) span)
  all_set span = length-set spans (span_place plan m g) span ∙ all

  -- one group more
  module _ (ranges : List (ℕ × ℕ)) (span : Span) where
    pub arrivals_more : AreArrivals plan ranges spans m g → span.arrival ≡ arrival_span plan ranges m g → AreArrivals plan ranges (set spans (span_place plan m g) span) m (g + 1)
    arrivals_more before here k below = elim (cases_eq k g) [
      | inl e ↦ ap (λ n. (span_at plan (set spans (span_place plan m g) span) m n).arrival) e ∙ ap (λ (s : Span). s.arrival) (written span) ∙ here ∙ ap (λ n. arrival_span plan ranges m n) (sym e)
      | inr differs ↦ ap (λ (s : Span). s.arrival) (kept_group m k span differs (omega arith)) ∙ before k (omega arith)
    ]

    pub settlings_more : AreSettlings plan ranges spans m g → span.settling ≡ settling_span plan ranges m g → AreSettlings plan ranges (set spans (span_place plan m g) span) m (g + 1)
    settlings_more before here k below = elim (cases_eq k g) [
      | inl e ↦ ap (λ n. (span_at plan (set spans (span_place plan m g) span) m n).settling) e ∙ ap (λ (s : Span). s.settling) (written span) ∙ here ∙ ap (λ n. settling_span plan ranges m n) (sym e)
      | inr differs ↦ ap (λ (s : Span). s.settling) (kept_group m k span differs (omega arith)) ∙ before k (omega arith)
    ]

    -- a write of a settling keeps the arrivals
    pub arrivals_kept : AreArrivals plan ranges spans m (length plan.groups) → span.arrival ≡ (span_at plan spans m g).arrival → AreArrivals plan ranges (set spans (span_place plan m g) span) m (length plan.groups)
    arrivals_kept before same k below = elim (cases_eq k g) [
      | inl e ↦ ap (λ n. (span_at plan (set spans (span_place plan m g) span) m n).arrival) e ∙ ap (λ (s : Span). s.arrival) (written span) ∙ same ∙ before g group ∙ ap (λ n. arrival_span plan ranges m n) (sym e)
      | inr differs ↦ ap (λ (s : Span). s.arrival) (kept_group m k span differs below) ∙ before k below
    ]

  pub others_more : (first : List Span) (span : Span) → AreOthersKept plan m first spans → AreOthersKept plan m first (set spans (span_place plan m g) span)
  others_more first span others n k differs there = kept_message n k span differs there ∙ others n k differs there
