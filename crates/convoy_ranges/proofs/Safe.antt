-- The range of a pair is safe.
use Rattle.std.proofs.Common.{◌≡◌, ℕ, ◌+◌, ◌-◌, ◌*◌, ◌/◌, ◌%◌, ◌<◌, ◌≤◌, ◌==◌, List, [], ◌∷◌, Option, Some, None, Result, Ok, Err, ap, inl, inr, arith, IfSome}
use Rattle.std.specs.Prelude.{nat_lt}
use Rattle.std.specs.List.{All, AllByRecursion}
use Rattle.std.proofs.Math.Nat.{div-mul-le_self}
use Rattle.std.proofs.lemmas.Bool.{cases_Bool}
use Rattle.std.proofs.lemmas.Bool.Decides.{nat_tests}
use Rattle.std.proofs.lemmas.List.Elements.{All-from_recursion}
use Rattle.convoy_draft.specs.declared.limits.TheConstants.{GREATEST_DELAY}
use Rattle.convoy_ranges.specs.declared.asked.RangeRules.{RangeRules}
use Rattle.convoy_ranges.specs.declared.fault.Cause.{Cause}
use Rattle.convoy_ranges.specs.Rules.{AreRules, kilometres_in}
use Rattle.convoy_ranges.specs.Tables.{Sighting, with_front}
use Rattle.convoy_ranges.specs.Ranges.{Range, in_its_line, least_of, range_at, range_between, range_of, round_trip_of}
use Rattle.convoy_ranges.specs.Texts.{link_text}
use Rattle.convoy_ranges.specs.Answers.{links_text}
use Rattle.convoy_ranges.specs.RangeLaws.{HasSafeRange, IsSafe}
use Rattle.convoy_ranges.proofs.Chains.{bind_ok, front_ok}

-- what a range says of the least and of the round trip of which it is made
record IsBetween (least round_trip : ℕ) (range : Range) : Type 0 where
  is_least : range.least ≡ least
  some : 1 ≤ least
  whole : range.least + range.most ≡ round_trip
  ordered : range.least ≤ range.most
  within : range.most ≤ GREATEST_DELAY

between : (least round_trip : ℕ) (range : Range) → range_between least round_trip ≡ Ok range → IsBetween least round_trip range
between least round_trip range is =
    elim (cases_Bool (least == 0)) [
      | inl none ↦ absurd (let h = rw none at is in cc h)
      | inr some ↦ elim (cases_Bool (nat_lt round_trip (2 * least))) [
        | inl short ↦ absurd (let h = rw (some, short) at is in cc h)
        | inr long ↦ elim (cases_Bool (nat_lt GREATEST_DELAY (round_trip - least))) [
          | inl wide ↦ absurd (let h = rw (some, long, wide) at is in cc h)
          | inr narrow ↦
              let h = rw (some, long, narrow) at is in
              let made : range ≡ record { least = least; most = round_trip - least } = cc h in
              let least_some : 1 ≤ least = grind (arith, nat_tests, some) in
              let twice : 2 * least ≤ round_trip = grind (arith, nat_tests, long) in
              let few : round_trip - least ≤ GREATEST_DELAY = grind (arith, nat_tests, narrow) in
              let l : range.least ≡ least = ap (λ (r : Range). r.least) made in
              let m : range.most ≡ round_trip - least = ap (λ (r : Range). r.most) made in
              record { is_least = l; some = least_some; whole = omega arith; ordered = omega arith; within = omega arith }
        ]
      ]
    ]

-- a number of parts, rounded up, is no less than the whole
rounded_up : (n part : ℕ) → 1 ≤ part → n ≤ (n + (part - 1)) / part * part
rounded_up n part some =
    let split : part * ((n + (part - 1)) / part) + (n + (part - 1)) % part ≡ n + (part - 1) = omega arith in
    let less : (n + (part - 1)) % part < part = omega arith in
    let turned : part * ((n + (part - 1)) / part) ≡ (n + (part - 1)) / part * part = grind arith in
    omega arith

-- what the rest of a round trip leaves for one way
one_way : (there back least most tick whole : ℕ) → least + most ≡ whole → (there + back) * 100 ≤ whole * (100 * tick) → least * tick ≤ back → there ≤ most * tick
one_way there back least most tick whole sum within long =
    let spread : whole * (100 * tick) ≡ (least * tick + most * tick) * 100 = rw (← sum) (grind arith) in
    omega arith

no_slower : (rules : RangeRules) (pair : Sighting) (range : Range) → AreRules rules → range.least + range.most ≡ round_trip_of rules pair.round_trip
    → (there back : ℕ) → (there + back) * 100 ≤ pair.round_trip * (100 + rules.margin) → range.least * rules.tick ≤ back → there ≤ range.most * rules.tick
no_slower rules pair range lawful sum there back within long =
    let some : 1 ≤ 100 * rules.tick = omega (arith, lawful.some) in
    let up = rounded_up (pair.round_trip * (100 + rules.margin)) (100 * rules.tick) some in
    one_way there back range.least range.most rules.tick (round_trip_of rules pair.round_trip) sum (omega (arith, up, within)) long

no_faster : (rules : RangeRules) (kilometres : Option ℕ) → IfSome kilometres (λ distance. least_of rules kilometres * rules.tick * kilometres_in rules.speed ≤ distance * 1000000)
no_faster rules None = tt
no_faster rules (Some distance) =
    let down = div-mul-le_self (distance * 1000000) (kilometres_in rules.speed * rules.tick) in
    let turned : least_of rules (Some distance) * rules.tick * kilometres_in rules.speed ≡ least_of rules (Some distance) * (kilometres_in rules.speed * rules.tick) = grind arith in
    rw turned down

pub range_safe : (rules : RangeRules) (pair : Sighting) (range : Range) → AreRules rules → range_of rules pair ≡ Ok range → IsSafe rules pair range
range_safe rules pair range lawful is =
    let b = between (least_of rules pair.kilometres) (round_trip_of rules pair.round_trip) range is in
    record {
      some = omega (arith, b.is_least, b.some);
      ordered = b.ordered;
      within = b.within;
      no_faster = rw b.is_least (no_faster rules pair.kilometres);
      no_slower = no_slower rules pair range lawful b.whole;
    }

-- a range is told of a line where there is one
told_range : (line : ℕ) (r : Result Range Cause) (range : Range) → in_its_line line r ≡ Ok range → r ≡ Ok range
told_range line (Ok other) range is = cc
told_range line (Err cause) range is = absurd cc

tables_safe : (rules : RangeRules) (pairs : List Sighting) (links : List ℕ) → AreRules rules → links_text rules pairs ≡ Ok links → AllByRecursion (HasSafeRange rules) pairs
unfolding links_text
tables_safe rules [] links lawful is = tt
tables_safe rules (pair ∷ pairs) links lawful is =
    let first = bind_ok (range_at rules pair) (λ range. with_front (link_text rules pair range) (links_text rules pairs)) links is in
    let rest = front_ok (link_text rules pair first.0) (links_text rules pairs) links first.2 in
    let given = told_range pair.line (range_of rules pair) first.0 first.1 in
    (record { range = first.0; given = given; safe = range_safe rules pair first.0 lawful given }, tables_safe rules pairs rest.0 lawful rest.1)

pub links_safe : (rules : RangeRules) (pairs : List Sighting) (links : List ℕ) → AreRules rules → links_text rules pairs ≡ Ok links → All (HasSafeRange rules) pairs
links_safe rules pairs links lawful is = All-from_recursion (HasSafeRange rules) pairs (tables_safe rules pairs links lawful is)
