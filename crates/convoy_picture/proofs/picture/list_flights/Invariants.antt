use Rattle.std.proofs.Common.{◌≡◌, ◌++◌, drop, map, not}
use Rattle.std.specs.List.{enumerate_from, filter}
use Rattle.convoy_packets.specs.Packets.{is_wait}
use Rattle.convoy_picture.specs.Pictures.{flight_of, flights_of}
use Rattle.convoy_picture.proofs.picture.list_flights.Given as goal

-- the flights so far and those of the packets that are left are the flights of all packets
abbrev pub invariant-loop-number : goal.invariant-loop-number
invariant-loop-number l =
    l.flights.items ++ map (λ p. flight_of l.instance l.schedule p.0 p.1) (filter (λ p. not (is_wait p.1)) (enumerate_from l.number (drop l.number l.table.packets)))
    ≡ flights_of l.instance l.schedule
