-- scenarios, and how they are read and built
pub use Rattle.convoy_scenario.specs.Memory
pub use Rattle.convoy_scenario.specs.Scenario
pub use Rattle.convoy_scenario.specs.WellFormed
pub use Rattle.convoy_draft.specs.Names
pub use Rattle.convoy_draft.specs.Limits
pub use Rattle.convoy_draft.specs.Draft
pub use Rattle.convoy_scenario.specs.Numbering
pub use Rattle.convoy_toml.specs.Reading
pub use Rattle.convoy_toml.specs.Deadlines
pub use Rattle.convoy_toml_writer.specs.Text as ScenarioText
pub use Rattle.convoy_draft.specs.declared.fault.ScenarioFault
pub use Rattle.convoy_draft.specs.declared.time.Time
-- how times are told
pub use Rattle.convoy_times.specs.Measures
-- the lines of a scenario in a certificate
pub use Rattle.convoy_scenario_lines.specs.ScenarioLines
pub use Rattle.convoy_scenario_lines.specs.LineReading
pub use Rattle.convoy_scenario_lines.specs.declared.line_fault.LineFault
-- packets, schedules and orders of ties
pub use Rattle.convoy_packets.specs.Packets
pub use Rattle.convoy_packets.specs.Assignment
pub use Rattle.convoy_packets.specs.Table
pub use Rattle.convoy_packets.specs.Given
pub use Rattle.convoy_packets.specs.Order
pub use Rattle.convoy_packets.specs.OrderLists
pub use Rattle.convoy_packets.specs.declared.fault.ListFault
-- runs, latency, and what it is to be the greatest
pub use Rattle.convoy_sim.specs.Times
pub use Rattle.convoy_sim.specs.Stamps
pub use Rattle.convoy_sim.specs.Delivery
pub use Rattle.convoy_sim.specs.Run
pub use Rattle.convoy_sim.specs.Record
pub use Rattle.convoy_sim.specs.Greatest
-- one scenario in ticks and in finer ones
pub use Rattle.convoy_laws.specs.FinerTicks
pub use Rattle.convoy_laws.specs.FinerTexts
-- one scenario with two choices of when its messages may be issued
pub use Rattle.convoy_laws.specs.IssueWindows
-- the ceiling, in traffic of a scenario's kinds of messages
pub use Rattle.convoy_ceiling.specs.Ceiling
pub use Rattle.convoy_ceiling.specs.Targets
pub use Rattle.convoy_ceiling.specs.Finding
-- certificates: their text, and when they are valid
pub use Rattle.convoy_certificate.specs.Certificate
pub use Rattle.convoy_certificate.specs.Text
pub use Rattle.convoy_certificate.specs.Reading as CertificateReading
pub use Rattle.convoy_certificate.specs.declared.text_fault.TextFault
pub use Rattle.convoy_checker.specs.Validity
pub use Rattle.convoy_checker.specs.Checks
pub use Rattle.convoy_checker.specs.declared.refused.Refused
-- why a run is as late as it is
pub use Rattle.convoy_timeline.specs.Causes
pub use Rattle.convoy_timeline.specs.Explanations
pub use Rattle.convoy_timeline.specs.PacketLists
-- boxes, and what closes them
pub use Rattle.convoy_intervals.specs.Boxes
pub use Rattle.convoy_intervals.specs.Bounds as PlainBounds
pub use Rattle.convoy_stamps.specs.StampBounds
pub use Rattle.convoy_laws.specs.Narrower
pub use Rattle.convoy_leads.specs.Closing
pub use Rattle.convoy_scenario.specs.Widened
pub use Rattle.convoy_origin.specs.FromOrigin
-- what seeking and a search answer
pub use Rattle.convoy_seek.specs.Finds
pub use Rattle.convoy_branch.specs.declared.bounds.Bounds
pub use Rattle.convoy_branch.specs.Fronts
pub use Rattle.convoy_branch.specs.Outcomes
pub use Rattle.convoy_branch.specs.declared.limit.Limit
pub use Rattle.convoy_branch.specs.Limits as SearchLimits
pub use Rattle.convoy_branch.specs.BothWays
-- the search of many workers as a machine
pub use Rattle.convoy_machine.specs.Machine
pub use Rattle.convoy_machine.specs.Replays
-- what threads share: ledgers of tickets, and boards of records
pub use Rattle.convoy_shares.specs.Shares
pub use Rattle.convoy_ledger.specs.Tickets
pub use Rattle.convoy_incumbent.specs.Boards
