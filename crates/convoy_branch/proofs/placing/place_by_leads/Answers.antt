use Rattle.std.proofs.Common.{ℕ, ◌<◌, length, Option, IfSome, arith, subst, sym}
use Rattle.std.proofs.lemmas.List.Elements.{length_all_zip}
use Rattle.convoy_scenario.specs.Scenario.{Scenario}
use Rattle.convoy_packets.specs.Assignment.{ranges_of}
use Rattle.convoy_packets.specs.Packets.{packets_of}
use Rattle.convoy_intervals.specs.Boxes.{CanSplit, IsInside}
use Rattle.convoy_scenario.specs.Widened.{widened}
use Rattle.convoy_branch.proofs.placing.place_by_leads.Goals as goal

pub place_told_back-requires : goal.place_told_back-requires
place_told_back-requires c =
    let plan = widened c.args.origin.now in
    let wide = c.in_ok-wide.wide in
    let packet = c.in-Some-place.place.0 in
    let part = subst (λ (found : Option (ℕ × ℕ)). IfSome found (λ place. CanSplit wide place.0 place.1)) c.in-Some-place.is c.in_ok-place.ensures.part in
    let long = length_all_zip IsInside (ranges_of plan) wide c.in_ok-wide.ensures.inside in
    let there : packet < length (packets_of plan) = omega (arith, long, c.ranges_are_one_each.ensures plan, part.place) in
    record { packet = subst (λ (s : Scenario). packet < length (packets_of s)) (sym c.in-Some.ensures.some) there }
