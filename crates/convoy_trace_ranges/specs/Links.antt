-- The links of a trace: all packets from one place to one group.
use Rattle.std.specs.Prelude.{ℕ, ◌≤◌, ◌==◌, nat_le, nat_lt, Bool, ◌&&◌, if◌then◌else◌, List, [], ◌∷◌, ◌++◌, length, All, Option, Some, None, Result, Ok, Err}
use Rattle.std.specs.Str.{bytes_eq}
use Rattle.convoy_lines.specs.Results.{◌>>=◌}
use Rattle.convoy_draft.specs.declared.duration.TheConstants.{LONGEST_DURATION}
use Rattle.convoy_draft.specs.declared.duration.TimeUnit.{TimeUnit}
use Rattle.convoy_traces.specs.declared.fault.Cause.TheVariants as causes
use Rattle.convoy_traces.specs.declared.fault.TraceFault.{TraceFault}
use Rattle.convoy_traces.specs.declared.fault.TraceFault.TheVariants.{Line, NoPacket}
use Rattle.convoy_ranges.specs.declared.fault.TheConstants.{MOST_PAIRS}
use Rattle.convoy_trace_ranges.specs.Events.{Entry}
use Rattle.convoy_trace_ranges.specs.Packets.{Packet, packet_of}
use Rattle.convoy_trace_ranges.specs.Reading.{entries_of}

-- a link: from where, no text where clients send, to which group, how many nanoseconds its packets took at least and at most, the line of the first that took the most, and how many each took, in the order of the trace
pub record Link : Type 0 where
  pub from : List ℕ
  pub to : List ℕ
  pub least : ℕ
  pub greatest : ℕ
  pub line : ℕ
  pub delays : List ℕ

-- a link has a packet, and of what its packets took the greatest is a duration
pub record IsLink (least greatest : ℕ) (delays : List ℕ) : Type 0 where
  pub some : 1 ≤ length delays
  pub ordered : least ≤ greatest
  pub within : greatest ≤ LONGEST_DURATION
  pub each : All (λ delay. delay ≤ greatest) delays

-- the packet goes by the link
abbrev pub goes_by : Packet → Link → Bool
goes_by packet link = bytes_eq link.from packet.from && bytes_eq link.to packet.to

-- the link of one packet
abbrev pub link_of : Packet → Link
link_of packet = record {
  from = packet.from;
  to = packet.to;
  least = packet.delay;
  greatest = packet.delay;
  line = packet.line;
  delays = packet.delay ∷ [];
}

-- a link with one more packet
abbrev pub joined : Link → Packet → Link
joined link packet = record {
  from = link.from;
  to = link.to;
  least = if nat_lt packet.delay link.least then packet.delay else link.least;
  greatest = if nat_lt link.greatest packet.delay then packet.delay else link.greatest;
  line = if nat_lt link.greatest packet.delay then packet.line else link.line;
  delays = link.delays ++ packet.delay ∷ [];
}

-- links with one more packet: with those of its link, or as a link at their end
abbrev pub with_packet : List Link → Packet → List Link
with_packet [] packet = link_of packet ∷ []
with_packet (link ∷ links) packet = if goes_by packet link then joined link packet ∷ links else link ∷ with_packet links packet

-- links with a packet, where there is one; they are not too many
abbrev pub with_came : List Link → Option Packet → Result (List Link) TraceFault
with_came links None = Ok links
with_came links (Some packet) =
    if nat_le (length (with_packet links packet)) MOST_PAIRS then Ok (with_packet links packet) else Err (Line packet.line causes.TooMany)

-- links with the packet that came with an entry, where there is one
abbrev pub with_packet_of : List Entry → List Link → Entry → Result (List Link) TraceFault
with_packet_of entries links one = packet_of entries one >>= with_came links

-- the links of the packets that came with entries, in the order in which these first tell of them
unfoldable pub links_from : List Entry → List Link → List Entry → Result (List Link) TraceFault
links_from entries links [] = Ok links
links_from entries links (one ∷ rest) =
    with_packet_of entries links one >>= (λ more. links_from entries more rest)

-- there is a link at least
abbrev pub some_of : List Link → Result (List Link) TraceFault
some_of links = if length links == 0 then Err NoPacket else Ok links

-- THE HEADLINE. The links of a trace.
unfoldable pub links_of_text : Option TimeUnit → List ℕ → Result (List Link) TraceFault
links_of_text unit text = entries_of unit text >>= (λ entries. links_from entries [] entries >>= some_of)
