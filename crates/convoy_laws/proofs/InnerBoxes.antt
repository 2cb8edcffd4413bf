-- The least and the greatest delays of a box inside another one are members of the other one, so its tables are narrower.
use Rattle.std.proofs.Common.{[], ◌∷◌, arith}
use Rattle.convoy_packets.specs.Assignment.{AreWithin}
use Rattle.convoy_packets.specs.Table.{least_of, least_delays, greatest_delays}
use Rattle.convoy_intervals.specs.Boxes.{Box, greatest_of}
use Rattle.convoy_intervals.specs.BoxLaws.{MembersAreEnclosed}
use Rattle.convoy_laws.specs.Narrower.{IsInsideBox}
use Rattle.convoy_laws.specs.Monotone.{InnerTablesAreNarrower}

pub least_within : (outer inner : Box) → IsInsideBox outer inner → AreWithin outer (least_delays inner)
least_within [] [] inside = tt
least_within [] (r ∷ rs) inside = absurd inside
least_within (o ∷ os) [] inside = absurd inside
least_within (o ∷ os) (r ∷ rs) inside = ((inside.0.0, omega (arith, inside.0.1, inside.0.2)), least_within os rs inside.1)

pub greatest_within : (outer inner : Box) → IsInsideBox outer inner → AreWithin outer (greatest_delays inner)
greatest_within [] [] inside = tt
greatest_within [] (r ∷ rs) inside = absurd inside
greatest_within (o ∷ os) [] inside = absurd inside
greatest_within (o ∷ os) (r ∷ rs) inside = ((omega (arith, inside.0.0, inside.0.1), inside.0.2), greatest_within os rs inside.1)

pub inner_narrower : MembersAreEnclosed → InnerTablesAreNarrower
inner_narrower enclosed scenario outer inner inside =
    let low = enclosed scenario outer (least_of inner) (least_within outer inner inside) in
    let high = enclosed scenario outer (greatest_of inner) (greatest_within outer inner inside) in
    record { arrival_low = low.arrival_low; arrival_high = high.arrival_high; settling_low = low.settling_low; settling_high = high.settling_high }
