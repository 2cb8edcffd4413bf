use Rattle.std.proofs.Common.{◌≡◌, ◌++◌, Some, drop}
use Rattle.std.specs.Prelude.{slice_index}
use Rattle.std.specs.List.{enumerate_from, flat_map}
use Rattle.convoy_timeline.specs.PacketLists.{packet_line, scheduled_packets_text}
use Rattle.convoy_timeline.proofs.packet_list.scheduled_text.Given as goal

-- the lines so far and those of the packets that are left are the lines of all packets
abbrev pub invariant-loop-i : goal.invariant-loop-i
invariant-loop-i l =
    l.text.items ++ flat_map (λ p. packet_line l.instance p.0 p.1 (Some (slice_index l.schedule.delays p.0))) (enumerate_from l.i (drop l.i l.table.packets))
    ≡ scheduled_packets_text l.instance l.schedule
