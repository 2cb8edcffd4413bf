-- The slots of a packet table: each packet that a scenario may have, has a slot of its own.
use Rattle.std.specs.Prelude.{◌≡◌, ℕ, ◌+◌, ◌*◌, nat_lt, Bool, true, ◌&&◌, List, length, Option, Some, None, if◌then◌else◌, slice_index_or, slice_set}
use Rattle.std.specs.List.{All}
use Rattle.std.specs.Option.{option_and_then, is_none}
use Rattle.convoy_draft.specs.declared.limits.TheConstants.{MOST_GROUPS, MOST_MULTICASTS}
use Rattle.convoy_packets.specs.declared.packet.Packet.{Packet}
use Rattle.convoy_packets.specs.declared.packet.Packet.TheVariants.{Wait, Multicast, Propose}
use Rattle.convoy_packets.specs.declared.slots.TheConstants.{SLOTS_PER_MESSAGE, SLOT_COUNT}
use Rattle.convoy_packets.specs.Packets.{place_of}

-- the message and the groups of the packet are within the limits of scenarios
abbrev pub is_within_limits : Packet → Bool
is_within_limits (Wait m) = nat_lt m MOST_MULTICASTS
is_within_limits (Multicast m g) = nat_lt m MOST_MULTICASTS && nat_lt g MOST_GROUPS
is_within_limits (Propose m h g) = nat_lt m MOST_MULTICASTS && nat_lt h MOST_GROUPS && nat_lt g MOST_GROUPS

-- the number of a packet's slot: those of a message stand together, its wait first, and the message's own before the stamps by (from, to)
abbrev pub slot_number : Packet → ℕ
slot_number (Wait m) = m * SLOTS_PER_MESSAGE
slot_number (Multicast m g) = m * SLOTS_PER_MESSAGE + 1 + g
slot_number (Propose m h g) = m * SLOTS_PER_MESSAGE + 1 + MOST_GROUPS + h * MOST_GROUPS + g

-- the slot of a packet, if it has one
abbrev pub slot_of : Packet → Option ℕ
slot_of packet = if is_within_limits packet then Some (slot_number packet) else None

-- what stands in the packet's slot
abbrev pub entry_of : List (Option ℕ) → Packet → Option ℕ
entry_of slots packet = option_and_then (λ slot. slice_index_or slots slot None) (slot_of packet)

-- each slot holds the place of its packet in the list
pub record HoldPlaces (slots : List (Option ℕ)) (packets : List Packet) : Type 0 where
  pub all : length slots ≡ SLOT_COUNT
  pub places : (packet : Packet) → is_within_limits packet ≡ true → slice_index_or slots (slot_number packet) None ≡ place_of packet packets

-- every packet of the list has a slot
abbrev pub HaveSlots : List Packet → Type 0
HaveSlots packets = All (λ packet. is_within_limits packet ≡ true) packets

-- the slots once the place is written into an empty slot of the packet
abbrev pub with_place : List (Option ℕ) → Packet → ℕ → List (Option ℕ)
with_place slots packet place =
    if is_within_limits packet && is_none (slice_index_or slots (slot_number packet) None)
    then slice_set slots (slot_number packet) (Some place)
    else slots
