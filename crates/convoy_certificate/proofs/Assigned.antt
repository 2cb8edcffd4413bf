-- Delays that pass the test are in their ranges.
use Rattle.std.proofs.Common.{◌≡◌, ℕ, Bool, true, refl, sym, ◌∙◌, List, [], ◌∷◌, leb, leb-true}
use Rattle.std.specs.Cmp.Lexicographic.{pointwise}
use Rattle.std.proofs.lemmas.Bool.{and_parts, and_from, le-leb, false≢true}
use Rattle.convoy_scenario.specs.Scenario.{Scenario}
use Rattle.convoy_packets.specs.Assignment.{AreWithin, IsAssignment, ranges_of}
use Rattle.convoy_packets.specs.Order.{IsOrder, Order}
use Rattle.convoy_certificate.specs.Reading.{is_within}

pub within : (ranges : List (ℕ × ℕ)) (delays : List ℕ) → pointwise is_within ranges delays ≡ true → AreWithin ranges delays
within [] [] e = tt
within [] (d ∷ ds) e = absurd (false≢true e)
within (r ∷ rs) [] e = absurd (false≢true e)
within (r ∷ rs) (d ∷ ds) e =
    let both = and_parts (is_within r d) (pointwise is_within rs ds) e in
    let ends = and_parts (leb r.0 d) (leb d r.1) both.0 in
    ((leb-true r.0 d ends.0, leb-true d r.1 ends.1), within rs ds both.1)

-- what the test says of a table and of delays that are those, with an order of the scenario's ties
pub assigned : (plan : Scenario) (delays : List ℕ) (order : Order) (ranges : List (ℕ × ℕ)) (seen : List ℕ) (b : Bool) → ranges ≡ ranges_of plan → seen ≡ delays → b ≡ pointwise is_within ranges seen → b ≡ true → IsOrder plan order
    → IsAssignment plan (record { delays = delays; order = order })
assigned plan delays order ranges seen b r s e holds is =
    record { delays = within (ranges_of plan) delays (sym (rw (← r, ← s) e) ∙ holds); order = is }

-- delays in their ranges pass the test
pub passes : (ranges : List (ℕ × ℕ)) (delays : List ℕ) → AreWithin ranges delays → pointwise is_within ranges delays ≡ true
passes [] [] a = refl
passes [] (d ∷ ds) a = absurd a
passes (r ∷ rs) [] a = absurd a
passes (r ∷ rs) (d ∷ ds) a = and_from _ _ (and_from _ _ (le-leb r.0 d a.0.0) (le-leb d r.1 a.0.1)) (passes rs ds a.1)
