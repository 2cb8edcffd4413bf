-- The text of a certificate: the one text of each.
use Rattle.std.specs.Prelude.{ℕ, ◌==◌, Bool, true, false, ◌&&◌, not, if◌then◌else◌, List, [], ◌∷◌, ◌++◌, length, map, codes, decimal}
use Rattle.std.specs.List.{list_any}
use Rattle.convoy_lines.specs.Texts.{line_of, number_line, text_of}
use Rattle.convoy_draft.specs.declared.time.Time.{Time}
use Rattle.convoy_draft.specs.declared.time.Time.TheVariants.{Ticks, Real}
use Rattle.convoy_scenario.specs.Scenario.{Scenario, is_timed, may_wait, message_at}
use Rattle.convoy_packets.specs.Assignment.{Schedule}
use Rattle.convoy_packets.specs.Order.{Order}
use Rattle.convoy_packets.specs.OrderLists.{is_no_order, ranks_of}
use Rattle.convoy_scenario_lines.specs.declared.version.Version.{Version as LinesVersion}
use Rattle.convoy_scenario_lines.specs.declared.version.Version.TheVariants as lines
use Rattle.convoy_scenario_lines.specs.ScenarioLines.{scenario_lines}
use Rattle.convoy_certificate.specs.declared.node.Node.{Node}
use Rattle.convoy_certificate.specs.declared.node.Node.TheVariants.{Split, Bound, Point, Stamp, Lead, Order as OrderSplit}
use Rattle.convoy_certificate.specs.declared.version.Version.{Version}
use Rattle.convoy_certificate.specs.declared.version.Version.TheVariants.{One, Two, Three, Four, Five}
use Rattle.convoy_certificate.specs.Certificate.{Certificate}

abbrev pub is_stamp : Node → Bool
is_stamp Stamp = true
is_stamp node = false

abbrev pub is_lead : Node → Bool
is_lead (Lead latency) = true
is_lead node = false

-- a split by order or a point leaf
abbrev pub decides_ties : Node → Bool
decides_ties (OrderSplit first second) = true
decides_ties Point = true
decides_ties node = false

-- the target may wait
abbrev pub target_waits : Scenario → Bool
target_waits scenario = may_wait (message_at scenario scenario.target_message)

-- the version for nodes where the text says how time goes, and the target may wait or not: 5 where it may, or in real time where a node decides ties, else 4
abbrev pub timed_version : Time → Bool → List Node → Version
timed_version time true nodes = Five
timed_version Real false nodes = if list_any decides_ties nodes then Five else Four
timed_version Ticks false nodes = Four

-- the version for so many links and for nodes, where time goes so: 4 or 5 where the text says so, by whether the target may wait; else 3 where the tree has a lead leaf, and else 1 where there is no link and the tree has no stamp leaf, and 2 where one of them is there
abbrev pub version_for : Time → Bool → Bool → ℕ → List Node → Version
version_for time true waits links nodes = timed_version time waits nodes
version_for time false waits links nodes =
    if list_any is_lead nodes then Three else if links == 0 && not (list_any is_stamp nodes) then One else Two

-- the version in which a certificate is written
abbrev pub version_of : Certificate → Version
version_of certificate =
    version_for certificate.scenario.time (is_timed certificate.scenario) (target_waits certificate.scenario) (length certificate.scenario.links) certificate.nodes

-- the lines of that version say how time goes
abbrev pub says_time : Version → Bool
says_time One = false
says_time Two = false
says_time Three = false
says_time Four = true
says_time Five = true

-- the version of the lines of the scenario
abbrev pub lines_version : Version → LinesVersion
lines_version One = lines.One
lines_version Two = lines.Two
lines_version Three = lines.Two
lines_version Four = lines.Three
lines_version Five = lines.Three

-- the first line
abbrev pub version_line : Version → List ℕ
version_line One = codes "convoy 1"
version_line Two = codes "convoy 2"
version_line Three = codes "convoy 3"
version_line Four = codes "convoy 4"
version_line Five = codes "convoy 5"

abbrev pub latency_line : ℕ → List ℕ
latency_line latency = number_line (codes "latency") latency

-- the delays in the order of the packets; the word alone where there are no packets
abbrev pub schedule_line : List ℕ → List ℕ
schedule_line delays = line_of (codes "schedule") (map decimal delays)

-- the ranks of the moments, of each message at each of its destinations that of the arrival before that of the commit; the word alone where there are none
abbrev pub order_line : List ℕ → List ℕ
order_line ranks = line_of (codes "order") (map decimal ranks)

-- the ranks of an order that are written: none for the order in which all are 0
abbrev pub ranks_written : Scenario → Order → List ℕ
ranks_written scenario order = if is_no_order order then [] else ranks_of scenario order

-- the lines of an order where time goes so: in whole ticks ties fall in the fixed order, and nothing is said of it
abbrev pub order_lines : Time → List ℕ → List (List ℕ)
order_lines Ticks ranks = []
order_lines Real ranks = order_line ranks ∷ []

-- the lines of a schedule: the line of its delays, and in real time that of the order of its ties
abbrev pub schedule_lines : Scenario → Schedule → List (List ℕ)
schedule_lines scenario schedule =
    schedule_line schedule.delays ∷ order_lines scenario.time (ranks_written scenario schedule.order)

abbrev pub node_line : Node → List ℕ
node_line (Split packet at) = line_of (codes "s") (decimal packet ∷ decimal at ∷ [])
node_line (OrderSplit first second) = line_of (codes "o") (decimal first ∷ decimal second ∷ [])
node_line Bound = codes "b"
node_line Point = codes "p"
node_line Stamp = codes "t"
node_line (Lead latency) = line_of (codes "c") (decimal latency ∷ [])

abbrev pub end_line : List ℕ
end_line = codes "end"

-- the lines of a certificate
abbrev pub certificate_lines : Certificate → List (List ℕ)
certificate_lines certificate =
    version_line (version_of certificate) ∷ (scenario_lines (lines_version (version_of certificate)) certificate.scenario
    ++ (latency_line certificate.latency ∷ (schedule_lines certificate.scenario certificate.schedule
    ++ (map node_line certificate.nodes ++ end_line ∷ []))))

-- the text of a certificate
abbrev pub certificate_text : Certificate → List ℕ
certificate_text certificate = text_of (certificate_lines certificate)
