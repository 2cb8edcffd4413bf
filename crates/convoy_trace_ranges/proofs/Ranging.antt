-- The least of a range is no greater than its most.
use Rattle.std.proofs.Common.{◌≡◌, ℕ, ◌+◌, ◌-◌, ◌*◌, ◌/◌, ◌%◌, ◌<◌, ◌≤◌, arith}
use Rattle.std.specs.Prelude.{max}
use Rattle.std.proofs.lemmas.Nat.{le-div}
use Rattle.convoy_ranges.specs.Ranges.{round_trip_of}
use Rattle.convoy_ranges.specs.Rules.{AreRules}
use Rattle.convoy_ranges.specs.declared.asked.RangeRules.{RangeRules}
use Rattle.convoy_trace_ranges.specs.Ranges.{least_of, most_of}

products : (a b m n : ℕ) → a ≤ b → m ≤ n → a * m ≤ b * n
products a b m n fewer less = grind arith

parts : (a n : ℕ) → 0 < n → a / n * n ≤ a
parts a n some = grind arith

parts_fewer : (a b n : ℕ) → 0 < n → a ≤ b → a / n ≤ b / n
parts_fewer a b n some fewer = let few : a / n * n ≤ a = parts a n some in le-div (a / n) b n some (omega (arith, few))

pub least_within : (rules : RangeRules) (least greatest : ℕ) → AreRules rules → least ≤ greatest → least_of rules least ≤ most_of rules greatest
least_within rules least greatest are ordered =
    let margins : 100 - rules.margin ≤ 100 + rules.margin = omega arith in
    let product : least * (100 - rules.margin) ≤ greatest * (100 + rules.margin) = products least greatest (100 - rules.margin) (100 + rules.margin) ordered margins in
    let some : 0 < 100 * rules.tick = omega (arith, are.some) in
    let fewer : least * (100 - rules.margin) / (100 * rules.tick) ≤ (greatest * (100 + rules.margin) + (100 * rules.tick - 1)) / (100 * rules.tick) =
    parts_fewer (least * (100 - rules.margin)) (greatest * (100 + rules.margin) + (100 * rules.tick - 1)) (100 * rules.tick) some (omega (arith, product)) in
    omega (arith, fewer)
