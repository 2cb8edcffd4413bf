use Rattle.std.proofs.Common.{◌≡◌, ◌<◌, ℕ, List, [], ◌∷◌, ◌++◌, length, get_or, sym, ap, ap₂, ◌∙◌, arith}
use Rattle.std.specs.List.{range_with_len, remove}
use Rattle.std.proofs.lemmas.List.{get_or_default}
use Rattle.std.proofs.lemmas.List.FromFn.{length-range_with_len}
use Rattle.convoy_best_plan.proofs.LastListed.{one_more_number}
use Rattle.convoy_best_plan.proofs.last.with_last.Goals as goal

pub loop-other-preserved : goal.loop-other-preserved
loop-other-preserved c =
    c.in_ok-push.ensures.items ∙ ap (λ (xs : List ℕ). xs ++ c.loop-other.other ∷ []) c.loop-other.invariant ∙ sym (one_more_number c.loop-other.other)

pub remove-last-requires : goal.remove-last-requires
remove-last-requires c =
    omega (
      arith,
      c.requires,
      c.loop-other-test.false,
      ap length c.loop-other.invariant,
      length-range_with_len 0 c.loop-other.other,
    )

pub returns : goal.returns
returns c =
    let group : ℕ = c.args.group in
    let over : c.loop-other.other ≡ c.args.count = omega (arith, c.loop-other-test.false, c.loop-other.auto.other-end) in
    let all : c.loop-other.order.items ≡ range_with_len 0 c.args.count = c.loop-other.invariant ∙ ap (range_with_len 0) over in
    let within : group < length c.loop-other.order.items = omega (arith, ap length all, length-range_with_len 0 c.args.count, c.requires) in
    c.in_ok-push-2.ensures.items
    ∙ ap₂ (λ (xs : List ℕ) (n : ℕ). xs ++ n ∷ []) (c.remove-last.ensures.items ∙ ap (λ (xs : List ℕ). remove xs group) all)
    (c.remove-last.ensures.value ∙ get_or_default c.loop-other.order.items group c.remove-last.result 0 within ∙ ap (λ (xs : List ℕ). get_or xs group 0) all)
