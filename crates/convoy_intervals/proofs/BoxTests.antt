-- The tests of a box say what the relations say.
use Rattle.std.specs.Prelude.{◌≡◌, ℕ, ◌<◌, ◌≤◌, ◌==◌, nat_le, nat_lt, ◌&&◌, length}
use Rattle.std.specs.Bool.{Decides}
use Rattle.std.proofs.Common.{refl}
use Rattle.std.proofs.lemmas.Bool.{leb-true, le-leb}
use Rattle.std.proofs.lemmas.Bool.Decides.{Decides-like, Decides-and, Decides-by_and, Decides-eqb, Decides-ltb}
use Rattle.convoy_intervals.specs.Boxes.{Box, CanSplit, IsPoint, can_split, is_point, range_at}

pub Decides-can_split : (box : Box) (packet at : ℕ) → Decides (can_split box packet at) (CanSplit box packet at)
Decides-can_split box packet at =
    let range = range_at box packet in
    let place = nat_lt packet (length box) in
    let low = nat_le range.0 at in
    let high = nat_lt at range.1 in
    Decides-like (can_split box packet at)
    (λ (all : ((packet < length box) × (range.0 ≤ at)) × (at < range.1)). record { place = all.0.0; low = all.0.1; high = all.1 })
    (λ part. ((part.place, part.low), part.high))
    (Decides-and (place && low) high (Decides-and place low (Decides-ltb packet (length box)) (leb-true range.0 at, le-leb range.0 at)) (Decides-ltb at range.1))

pub Decides-is_point : (box : Box) → Decides (is_point box) (IsPoint box)
Decides-is_point box =
    Decides-by_and (λ range. range.0 == range.1) (λ range. range.0 ≡ range.1) is_point (λ range. Decides-eqb range.0 range.1) refl (λ _ _. refl) box
