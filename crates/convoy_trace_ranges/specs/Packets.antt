-- The packets of which a trace tells when they were sent and when they came.
use Rattle.std.specs.Prelude.{ℕ, ◌-◌, nat_lt, if◌then◌else◌, List, [], Option, Some, None, option_and_then, Result, Ok, Err}
use Rattle.std.specs.Str.{bytes_eq}
use Rattle.convoy_traces.specs.declared.fault.Cause.TheVariants as causes
use Rattle.convoy_traces.specs.declared.fault.TraceFault.{TraceFault}
use Rattle.convoy_traces.specs.declared.fault.TraceFault.TheVariants.{Line}
use Rattle.convoy_trace_ranges.specs.declared.entry.Kind.{Kind}
use Rattle.convoy_trace_ranges.specs.declared.entry.Kind.TheVariants.{Issue, Arrival, Proposal}
use Rattle.convoy_trace_ranges.specs.Events.{Entry}
use Rattle.convoy_trace_ranges.specs.Marks.{mark_by, told_as}

-- a packet: the line that tells that it came, from where, no text where a client sent it, to which group, and how many nanoseconds it took
pub record Packet : Type 0 where
  pub line : ℕ
  pub from : List ℕ
  pub to : List ℕ
  pub delay : ℕ

-- the mark of the event with which a packet was sent that comes with an event of that kind: a message arrives from where it was issued, a proposal comes from a group at which the message arrived, and with an issue nothing comes
abbrev pub sending_of : Kind → List ℕ → List ℕ → Option (List ℕ)
sending_of Issue from message = None
sending_of Arrival from message = Some (mark_by Issue [] [] message)
sending_of Proposal from message = Some (mark_by Arrival from [] message)

-- the entry that tells that the packet was sent which came with this one
abbrev pub sent_of : List Entry → Entry → Option Entry
sent_of entries one = option_and_then (told_as entries) (sending_of one.kind one.from one.message)

-- the packet that was sent with the one and came with the other: what a group sends to itself, a message or a stamp, does not count, by a link or by none
abbrev pub packet_between : Entry → Entry → Result (Option Packet) TraceFault
packet_between sent one =
    if bytes_eq sent.group one.group then Ok None
    else if nat_lt one.time sent.time then Err (Line one.line causes.Early)
    else Ok (Some (record { line = one.line; from = sent.group; to = one.group; delay = one.time - sent.time }))

-- the packet that came with an entry, where it is told that it was sent
abbrev pub packet_by : Entry → Option Entry → Result (Option Packet) TraceFault
packet_by one None = Ok None
packet_by one (Some sent) = packet_between sent one

-- the packet that came with an entry, where some entry tells that it was sent
abbrev pub packet_of : List Entry → Entry → Result (Option Packet) TraceFault
packet_of entries one = packet_by one (sent_of entries one)
