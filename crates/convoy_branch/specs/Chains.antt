-- Packets that may be split.
use Rattle.std.specs.Prelude.{ℕ, ◌<◌, length}
use Rattle.convoy_intervals.specs.Boxes.{Box, range_at}

-- there is such a packet in the box, and it may take several delays there
pub record IsWide (ranges : Box) (packet : ℕ) : Type 0 where
  pub place : packet < length ranges
  pub wide : (range_at ranges packet).0 < (range_at ranges packet).1
