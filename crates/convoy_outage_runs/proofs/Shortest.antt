-- The least delay of packets that travel, found packet by packet.
use Rattle.std.proofs.Common.{◌≡◌, ℕ, ◌+◌, ◌≤◌, min, true, false, not, List, ◌∷◌, Some, length, map, filter, fold, drop, sym, ap, ◌∙◌}
use Rattle.std.specs.List.{slice_get}
use Rattle.std.proofs.lemmas.List.{drop_all, drop_more, get_or-map}
use Rattle.std.proofs.lemmas.Option.{get_or_from_slice_get, slice_get_within}
use Rattle.convoy_packets.specs.declared.packet.Packet.{Packet}
use Rattle.convoy_packets.specs.Packets.{is_wait}

-- the least of `so_far` and of the least delays of the packets that travel
abbrev pub shortest_of : (Packet → ℕ × ℕ) → ℕ → List Packet → ℕ
shortest_of range so_far packets = fold min so_far (map (λ packet. (range packet).0) (filter (λ packet. not (is_wait packet)) packets))

module _ (range : Packet → ℕ × ℕ) (packets : List Packet) (so_far total i : ℕ) (all : shortest_of range so_far (drop i packets) ≡ total) where
  module _ (packet : Packet) (at : slice_get packets i ≡ Some packet) where
    opened : shortest_of range so_far (packet ∷ drop (i + 1) packets) ≡ total
    opened =
        ap (shortest_of range so_far)
        (sym (rw (get_or_from_slice_get packets i packet packet at) at (drop_more packets i packet (slice_get_within packets i packet at))))
        ∙ all

    -- a packet that travels
    pub travels_next : is_wait packet ≡ false → shortest_of range (min so_far (range packet).0) (drop (i + 1) packets) ≡ total
    travels_next isnt = rw isnt at opened

    -- a wait
    pub waits_next : is_wait packet ≡ true → shortest_of range so_far (drop (i + 1) packets) ≡ total
    waits_next is = rw is at opened

  -- no packet left
  pub none_left : length packets ≤ i → so_far ≡ total
  none_left past = sym (ap (shortest_of range so_far) (drop_all i packets past)) ∙ all

-- what stands at the place of a packet among the ranges is the packet's
pub range_at : (range : Packet → ℕ × ℕ) (packets : List Packet) (i : ℕ) (packet : Packet) (found : ℕ × ℕ)
    → slice_get packets i ≡ Some packet → slice_get (map range packets) i ≡ Some found → found ≡ range packet
range_at range packets i packet found at is =
    sym (get_or_from_slice_get (map range packets) i found found is)
    ∙ get_or-map range packets i packet found (slice_get_within packets i packet at)
    ∙ ap range (get_or_from_slice_get packets i packet packet at)
