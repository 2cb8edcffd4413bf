-- A message from whose issue time may be counted.
use Rattle.std.proofs.Common.{◌≡◌, ◌↔◌, ℕ, ◌<◌, nat_lt, Bool, length, Result, Ok, Err, IfOk, IsTrue, sym, ◌∙◌}
use Rattle.std.proofs.lemmas.Bool.{and_from, and_parts, lt-ltb, ltb-true}
use Rattle.convoy_scenario.specs.Scenario.{Scenario}
use Rattle.convoy_causes.specs.CauseWindows.{has_room_from, may_be_origin}

-- the test answers yes just where there is such a message, and room to know its issue
pub known_told : {E : Type 0} (scenario : Scenario) (x : ℕ) (result : Result Bool E) → IfOk result (λ may. may ≡ may_be_origin scenario x)
    → IfOk result (λ known. IsTrue known ↔ ((x < length scenario.multicasts) × IsTrue (has_room_from scenario x)))
known_told scenario x (Err fault) is = tt
known_told scenario x (Ok known) is =
    let count : ℕ = length scenario.multicasts in
    let room : Bool = has_room_from scenario x in (
      λ yes. let parts = and_parts (nat_lt x count) room (sym is ∙ yes) in (ltb-true x count parts.0, parts.1),
      λ both. is ∙ and_from (nat_lt x count) room (lt-ltb x count both.0) both.1,
    )
