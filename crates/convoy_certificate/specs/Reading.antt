-- What reading a text answers: the certificate, or the first fault in the order of the lines.
use Rattle.std.specs.Prelude.{◌≡◌, ℕ, ◌+◌, ◌≤◌, ◌==◌, nat_le, nat_lt, Bool, true, false, ◌&&◌, ◌||◌, not, if◌then◌else◌, List, [], ◌∷◌, length, codes, Option, Some, None, ok_or, Result, Ok, Err}
use Rattle.std.specs.Cmp.Lexicographic.{pointwise}
use Rattle.std.specs.List.{count_by, list_all}
use Rattle.convoy_scenario_lines.specs.declared.line_fault.Expected.TheVariants as expected
use Rattle.convoy_scenario_lines.specs.declared.line_fault.LineFault.{LineFault}
use Rattle.convoy_scenario_lines.specs.declared.line_fault.LineFault.TheVariants as lines
use Rattle.convoy_lines.specs.Labels.{number_in}
use Rattle.convoy_lines.specs.Places.{Place, place_before, is_at_end}
use Rattle.convoy_scenario_lines.specs.LineReading.{form_at, scenario_at}
use Rattle.convoy_lines.specs.Results.{◌>>=◌}
use Rattle.convoy_draft.specs.declared.time.Time.{Time}
use Rattle.convoy_draft.specs.declared.time.Time.TheVariants.{Ticks, Real}
use Rattle.convoy_scenario.specs.Scenario.{Scenario, is_timed}
use Rattle.convoy_packets.specs.declared.order.TheConstants.{GREATEST_RANK}
use Rattle.convoy_packets.specs.Assignment.{Schedule, ranges_of}
use Rattle.convoy_packets.specs.Order.{Order, no_order}
use Rattle.convoy_packets.specs.OrderLists.{is_no_order, order_of, rank_count}
use Rattle.convoy_certificate.specs.declared.certificate.TheConstants.{MOST_LEADS, MOST_NODES}
use Rattle.convoy_certificate.specs.declared.node.Node.{Node}
use Rattle.convoy_certificate.specs.declared.text_fault.TextFault.{TextFault}
use Rattle.convoy_certificate.specs.declared.text_fault.TextFault.TheVariants as faults
use Rattle.convoy_certificate.specs.declared.version.Version.{Version}
use Rattle.convoy_certificate.specs.declared.version.Version.TheVariants.{One, Two, Three, Four, Five}
use Rattle.convoy_certificate.specs.Certificate.{Certificate}
use Rattle.convoy_certificate.specs.Text.{is_lead, lines_version, target_waits, version_for, certificate_text}
use Rattle.convoy_certificate.specs.Forms.{version_in, schedule_in, order_in, node_or_end}

-- the fault of a line, told of a text
abbrev pub text_fault : LineFault → TextFault
text_fault (lines.Line number expected) = faults.Line number expected
text_fault (lines.Scenario fault) = faults.Scenario fault
text_fault lines.Memory = faults.Memory

abbrev pub in_text : {A : Type 0} → Result A LineFault → Result A TextFault
in_text (Ok x) = Ok x
in_text (Err fault) = Err (text_fault fault)

-- the delay is in the range
abbrev pub is_within : ℕ × ℕ → ℕ → Bool
is_within range delay = nat_le range.0 delay && nat_le delay range.1

-- there is one delay for each packet, and each is in its packet's range
abbrev pub is_assignment : Scenario → List ℕ → Bool
is_assignment scenario delays = pointwise is_within (ranges_of scenario) delays

-- the list is that of an order of the scenario's ties: none of its ranks is too great, and there is one for each moment and one of them is not 0, or there is none
abbrev pub is_order_list : Scenario → List ℕ → Bool
is_order_list scenario ranks =
    (length ranks == 0)
    || ((length ranks == rank_count scenario) && list_all (λ rank. nat_le rank GREATEST_RANK) ranks && not (is_no_order (order_of scenario ranks)))

-- the order of ties of the next line, where time goes so; in whole ticks there is no such line, and ties fall in the fixed order
abbrev pub order_in_time : Time → Scenario → Place → Result (Order × Place) TextFault
order_in_time Ticks scenario place = Ok (no_order, place)
order_in_time Real scenario place = do
  ranks ← in_text (form_at expected.Order order_in place)
  if is_order_list scenario ranks.0 then Ok (order_of scenario ranks.0, ranks.1) else Err faults.Schedule

-- the order of ties of the scenario
abbrev pub order_at : Scenario → Place → Result (Order × Place) TextFault
order_at scenario place = order_in_time scenario.time scenario place

-- how many lead leaves there are with that node, after so many of them
abbrev pub leads_with : ℕ → Node → ℕ
leads_with leads node = if is_lead node then leads + 1 else leads

-- a node after so many, with so many lead leaves by then, is one too many
abbrev pub are_too_many : ℕ → ℕ → Bool
are_too_many count leads = count == MOST_NODES || nat_lt MOST_LEADS leads

-- a node and those after it; at the line `end` there are none, and the reading stands past it
abbrev pub from_node : Option Node → Place → (Node → Result (List Node × Place) TextFault) → Result (List Node × Place) TextFault
from_node None past more = Ok ([], past)
from_node (Some node) past more = more node >>= λ others. Ok (node ∷ others.0, others.1)

-- the nodes up to the line `end`, after so many, of which so many are lead leaves
unfoldable pub nodes_in : Version → Time → ℕ → ℕ → ℕ → List ℕ → List (List ℕ) → Result (List Node × Place) TextFault
nodes_in version time count leads number rest [] = Err (faults.Line number expected.Node)
nodes_in version time count leads number rest (line ∷ lines) = do
  next ← ok_or (node_or_end version time line) (faults.Line number expected.Node)
  from_node next (record { ended = lines; rest = rest; number = number + 1 })
      (λ node. if are_too_many count (leads_with leads node) then Err faults.TreeCount
      else nodes_in version time (count + 1) (leads_with leads node) (number + 1) rest lines)

abbrev pub nodes_at : Version → Time → ℕ → ℕ → Place → Result (List Node × Place) TextFault
nodes_at version time count leads place = nodes_in version time count leads place.number place.rest place.ended

-- the two are one version
abbrev pub is_same_version : Version → Version → Bool
is_same_version One One = true
is_same_version Two Two = true
is_same_version Three Three = true
is_same_version Four Four = true
is_same_version Five Five = true
is_same_version version other = false

-- the schedule of the next lines: one delay for each packet, each in its packet's range, and the order of ties
abbrev pub schedule_at : Scenario → Place → Result (Schedule × Place) TextFault
schedule_at scenario place = do
  delays ← in_text (form_at expected.Schedule schedule_in place)
  order ← if is_assignment scenario delays.0 then order_at scenario delays.1 else Err faults.Schedule
  Ok (record { delays = delays.0; order = order.0 }, order.1)

-- the nodes that were read up to a place, if a certificate of the scenario with them is written in that version, and nothing follows
abbrev pub whole : Version → Scenario → List Node × Place → Result (List Node) TextFault
whole version scenario nodes =
    if is_same_version version (version_for scenario.time (is_timed scenario) (target_waits scenario) (length scenario.links) nodes.0) then (if is_at_end nodes.1 then Ok nodes.0 else Err faults.AfterEnd)
    else Err (faults.Line 1 expected.Convoy)

-- the nodes of the next lines, which are the last
abbrev pub tree_at : Version → Scenario → Place → Result (List Node) TextFault
tree_at version scenario place = nodes_at version scenario.time 0 0 place >>= whole version scenario

-- the certificate of these parts
abbrev pub certificate_with : Scenario → ℕ → Schedule → List Node → Certificate
certificate_with scenario latency schedule nodes = record { scenario = scenario; latency = latency; schedule = schedule; nodes = nodes }

-- the certificate that a text is; else the first fault
unfoldable pub certificate_of : List ℕ → Result Certificate TextFault
certificate_of text = do
  version ← in_text (form_at expected.Convoy version_in (place_before text 1))
  scenario ← in_text (scenario_at (lines_version version.0) version.1)
  latency ← in_text (form_at expected.Latency (number_in (codes "latency")) scenario.1)
  schedule ← schedule_at scenario.0 latency.1
  nodes ← tree_at version.0 scenario.0 schedule.1
  Ok (certificate_with scenario.0 latency.0 schedule.0 nodes)

-- there are no more nodes, and no more lead leaves among them, than may be read
pub record AreReadable (nodes : List Node) : Type 0 where
  pub few : length nodes ≤ MOST_NODES
  pub few_leads : count_by is_lead nodes ≤ MOST_LEADS

-- the text is that of the certificate, which has no more nodes than may be read
abbrev pub IsTextOf : Certificate → List ℕ → Type 0
IsTextOf certificate text = (text ≡ certificate_text certificate) × AreReadable certificate.nodes
