-- The number and the text of each fault, and its line.
use Rattle.std.specs.Prelude.{ℕ, ◌≤◌, List, [], ◌∷◌, ◌++◌, length, codes, decimal}
use Rattle.convoy_streams.specs.declared.reading.ReadFault.{ReadFault}
use Rattle.convoy_streams.specs.declared.reading.ReadFault.TheVariants as reading
use Rattle.convoy_packets.specs.declared.fault.ListFault.{ListFault}
use Rattle.convoy_packets.specs.declared.fault.ListFault.TheVariants as lists
use Rattle.convoy_draft.specs.Keys.{key_word}
use Rattle.convoy_draft.specs.declared.fault.Limit.{Limit}
use Rattle.convoy_draft.specs.declared.fault.Limit.TheVariants as limits
use Rattle.convoy_draft.specs.declared.fault.ScenarioFault.{ScenarioFault}
use Rattle.convoy_draft.specs.declared.fault.ScenarioFault.TheVariants as scenario
use Rattle.convoy_plans.specs.declared.fault.PlanFault.{PlanFault}
use Rattle.convoy_plans.specs.declared.fault.PlanFault.TheVariants as plans
use Rattle.convoy_plans.specs.declared.fault.PlanLimit.{PlanLimit}
use Rattle.convoy_plans.specs.declared.fault.PlanLimit.TheVariants as plan_limits
use Rattle.convoy_plans.specs.Shape.{plan_word}
use Rattle.convoy_kinds.specs.declared.fault.KindsFault.{KindsFault}
use Rattle.convoy_kinds.specs.declared.fault.KindsFault.TheVariants as kinds
use Rattle.convoy_kinds.specs.declared.fault.KindsLimit.{KindsLimit}
use Rattle.convoy_kinds.specs.declared.fault.KindsLimit.TheVariants as kinds_limits
use Rattle.convoy_kinds.specs.Shape.{kinds_word}
use Rattle.convoy_ranges.specs.declared.fault.Cause.{Cause}
use Rattle.convoy_ranges.specs.declared.fault.Cause.TheVariants as lines
use Rattle.convoy_ranges.specs.declared.fault.RangesFault.{RangesFault}
use Rattle.convoy_ranges.specs.declared.fault.RangesFault.TheVariants as ranges
use Rattle.convoy_traces.specs.declared.fault.Cause.{Cause as Trace-cause}
use Rattle.convoy_traces.specs.declared.fault.Cause.TheVariants as trace_lines
use Rattle.convoy_traces.specs.declared.fault.TraceFault.{TraceFault}
use Rattle.convoy_traces.specs.declared.fault.TraceFault.TheVariants as traces
use Rattle.convoy_outages.specs.declared.outage.OutageFault.TheVariants as outages
use Rattle.convoy_replicas.specs.declared.replicas.ReplicaFault.TheVariants as replicas
use Rattle.convoy_workflow_words.specs.Words.{workflow_word}
use Rattle.convoy_workflow_words.specs.declared.fault.WorkflowFault.{WorkflowFault}
use Rattle.convoy_workflow_words.specs.declared.fault.WorkflowFault.TheVariants as workflows
use Rattle.convoy_commands.specs.declared.fault.FaultEnding.{FaultEnding}
use Rattle.convoy_commands.specs.declared.fault.FaultEnding.TheVariants as endings
use Rattle.convoy_commands.specs.declared.fault.OrderFault.TheVariants as orders
use Rattle.convoy_commands.specs.declared.fault.Fault.{Fault}
use Rattle.convoy_commands.specs.declared.fault.Fault.TheVariants.{Scenario, Schedule, Order, Reading, Write, TooManyJobs, Sweep, Ranges, Plan, Kinds, Trace, Outage, Replicas, Workflow, Memory}
use Rattle.convoy_commands.specs.declared.fault.SweepCause.{SweepCause}
use Rattle.convoy_commands.specs.declared.fault.SweepCause.TheVariants as sweeps

-- a limit's word
abbrev pub limit_word : Limit → List ℕ
limit_word limits.Delay = codes "delay"
limit_word limits.Least = codes "least"
limit_word limits.Groups = codes "groups"
limit_word limits.Places = codes "places"
limit_word limits.Multicasts = codes "multicasts"
limit_word limits.At = codes "at"
limit_word limits.Until = codes "until"
limit_word limits.Link = codes "link"
limit_word limits.Agree = codes "agree"
limit_word limits.Tick = codes "tick"

-- the number and the text of memory that ran out, wherever it did
abbrev pub memory_row : ℕ × List ℕ
memory_row = (11, codes "out of memory")

-- the number and the text of a fault of the scenario, in a text of its own or in a certificate
abbrev pub row_of_scenario : ScenarioFault → ℕ × List ℕ
row_of_scenario scenario.NotToml = (1, codes "not TOML")
row_of_scenario (scenario.Shape key) = (2, codes "shape of " ++ key_word key)
row_of_scenario (scenario.NotWhole key) = (18, codes "not whole " ++ key_word key)
row_of_scenario (scenario.OverLimit limit) = (3, codes "over limit " ++ limit_word limit)
row_of_scenario scenario.BadName = (4, codes "bad name")
row_of_scenario scenario.DoubleName = (5, codes "double name")
row_of_scenario scenario.UnknownGroup = (6, codes "unknown group")
row_of_scenario scenario.NoDestination = (7, codes "no destination")
row_of_scenario scenario.DoubleDestination = (8, codes "double destination")
row_of_scenario scenario.UnknownTarget = (9, codes "unknown target")
row_of_scenario scenario.TargetNotAddressed = (10, codes "target not addressed")
row_of_scenario scenario.NoRange = (20, codes "no range")
row_of_scenario scenario.Memory = memory_row

-- the words for why the keys of a text can't be given values; none for a value that has a row of its own
abbrev pub sweep_word : SweepCause → List ℕ
sweep_word sweeps.UnknownKey = codes "unknown key"
sweep_word sweeps.SeveralTables = codes "several tables"
sweep_word sweeps.NoIssue = codes "no time of issue"
sweep_word sweeps.MixedTimes = codes "mixed times"
sweep_word sweeps.NotWhole = codes "not whole"
sweep_word sweeps.BeyondLimits = codes "beyond limits"
sweep_word sweeps.NoStep = codes "no step"
sweep_word sweeps.Backwards = codes "backwards"
sweep_word sweeps.TooManyValues = codes "too many values"
sweep_word sweeps.OneValue = codes "one value"
sweep_word sweeps.KeyTwice = codes "key twice"
sweep_word (sweeps.NoScenario value) = []

-- the number and the text of such a fault
abbrev pub row_of_sweep : SweepCause → ℕ × List ℕ
row_of_sweep (sweeps.NoScenario value) = (46, codes "no scenario with " ++ decimal value)
row_of_sweep cause = (45, codes "no sweep " ++ sweep_word cause)

-- the number of what is wrong with a line of a table of round trips, and the words before the line's number
abbrev pub row_of_line : Cause → ℕ × List ℕ
row_of_line lines.Header = (55, codes "unknown header in line ")
row_of_line lines.Cells = (55, codes "wrong number of cells in line ")
row_of_line lines.TooMany = (55, codes "too many pairs in line ")
row_of_line lines.Name = (56, codes "bad name in line ")
row_of_line lines.Time = (57, codes "no time in line ")
row_of_line lines.Distance = (58, codes "no distance in line ")
row_of_line lines.Near = (59, codes "range below a tick in line ")
row_of_line lines.Crossed = (59, codes "round trip too short in line ")
row_of_line lines.Wide = (59, codes "range over limit in line ")

-- the number and the text of why such a table gives no ranges
abbrev pub row_of_ranges : RangesFault → ℕ × List ℕ
row_of_ranges ranges.TooLong = (55, codes "table too long")
row_of_ranges ranges.Empty = (55, codes "no round trip")
row_of_ranges (ranges.Line line cause) = ((row_of_line cause).0, (row_of_line cause).1 ++ decimal line)
row_of_ranges ranges.Memory = memory_row

-- the word of a limit of plans
abbrev pub plan_limit_word : PlanLimit → List ℕ
plan_limit_word plan_limits.Sites = codes "sites"
plan_limit_word plan_limits.Placements = codes "placements"

-- the number and the text of why a text is that of no plan: what scenarios have too has the number that it has there
abbrev pub row_of_plan : PlanFault → ℕ × List ℕ
row_of_plan (plans.Scenario cause) = row_of_scenario cause
row_of_plan (plans.Shape key) = (2, codes "shape of " ++ plan_word key)
row_of_plan (plans.OverLimit limit) = (3, codes "over limit " ++ plan_limit_word limit)
row_of_plan plans.NoRange = (20, codes "no range")
row_of_plan plans.UnknownSite = (47, codes "unknown site")
row_of_plan plans.NoSites = (48, codes "group without sites")
row_of_plan plans.NoPlace = (49, codes "message without from")
row_of_plan plans.NoPlacement = (50, codes "no placement")

-- the word of a limit of kinds
abbrev pub kinds_limit_word : KindsLimit → List ℕ
kinds_limit_word kinds_limits.Tables = codes "tables"
kinds_limit_word kinds_limits.Sizes = codes "to_any"
kinds_limit_word kinds_limits.Kinds = codes "kinds"

-- the number and the text of why a text is that of no kinds of messages: what scenarios have too has the number that it has there
abbrev pub row_of_kinds : KindsFault → ℕ × List ℕ
row_of_kinds (kinds.Scenario cause) = row_of_scenario cause
row_of_kinds (kinds.Shape key) = (2, codes "shape of " ++ kinds_word key)
row_of_kinds (kinds.OverLimit limit) = (3, codes "over limit " ++ kinds_limit_word limit)
row_of_kinds kinds.NotOneTo = (51, codes "not one of to and to_any")
row_of_kinds kinds.DoubleSender = (52, codes "double sender")

-- the number of what is wrong with a line of a trace, and the words before the line's number
abbrev pub row_of_trace_line : Trace-cause → ℕ × List ℕ
row_of_trace_line trace_lines.Header = (60, codes "unknown header in line ")
row_of_trace_line trace_lines.Cells = (60, codes "wrong number of cells in line ")
row_of_trace_line trace_lines.Text = (60, codes "not UTF-8 in line ")
row_of_trace_line trace_lines.Object = (60, codes "no object in line ")
row_of_trace_line trace_lines.Event = (61, codes "unknown event in line ")
row_of_trace_line trace_lines.Message = (61, codes "unknown message in line ")
row_of_trace_line trace_lines.Group = (61, codes "unknown group in line ")
row_of_trace_line trace_lines.Elsewhere = (61, codes "group not addressed in line ")
row_of_trace_line trace_lines.From = (61, codes "no proposer in line ")
row_of_trace_line trace_lines.Time = (62, codes "no time in line ")
row_of_trace_line trace_lines.Stamp = (62, codes "no stamp in line ")
row_of_trace_line trace_lines.Twice = (62, codes "event told twice in line ")
row_of_trace_line trace_lines.Late = (63, codes "time over limit in line ")
row_of_trace_line trace_lines.Name = (64, codes "no name in line ")
row_of_trace_line trace_lines.Early = (65, codes "came before it was sent in line ")
row_of_trace_line trace_lines.TooMany = (66, codes "too many links in line ")
row_of_trace_line trace_lines.Wide = (66, codes "range over limit in line ")

-- the number and the text of why a text is no trace
abbrev pub row_of_trace : TraceFault → ℕ × List ℕ
row_of_trace traces.Empty = (60, codes "empty trace")
row_of_trace (traces.Line line cause) = ((row_of_trace_line cause).0, (row_of_trace_line cause).1 ++ decimal line)
row_of_trace (traces.TooFine parts) = (63, codes "times finer than 1/" ++ decimal parts)
row_of_trace traces.NoPacket = (65, codes "no packet")
row_of_trace traces.Memory = memory_row

-- the number and the text of why a text is that of no workflow: what scenarios have too has the number that it has there
abbrev pub row_of_workflow : WorkflowFault → ℕ × List ℕ
row_of_workflow (workflows.Scenario cause) = row_of_scenario cause
row_of_workflow (workflows.Shape key) = (2, codes "shape of " ++ workflow_word key)
row_of_workflow workflows.OverLimit = (3, codes "over limit after")
row_of_workflow workflows.UnknownCause = (71, codes "unknown cause")
row_of_workflow workflows.NotAtSender = (72, codes "cause not at sender")
row_of_workflow workflows.UnknownOrigin = (73, codes "unknown origin")
row_of_workflow workflows.OriginWaits = (74, codes "origin waits too long")

-- a fault's number and its text
abbrev pub row_of : Fault → ℕ × List ℕ
row_of (Scenario cause) = row_of_scenario cause
row_of (Schedule lists.Length) = (12, codes "schedule length")
row_of (Schedule (lists.Range packet)) = (13, codes "delay out of range " ++ decimal packet)
row_of (Schedule lists.Memory) = memory_row
row_of (Order orders.InTicks) = (15, codes "order in ticks")
row_of (Order orders.Length) = (16, codes "order length")
row_of (Order (orders.Rank place)) = (17, codes "rank out of range " ++ decimal place)
row_of (Reading reading.Read) = (40, codes "read failed")
row_of Write = (41, codes "write failed")
row_of (Reading (reading.TooLong limit)) = (42, codes "job too long")
row_of TooManyJobs = (43, codes "too many jobs")
row_of (Reading reading.TooManyReads) = (44, codes "too many reads")
row_of (Sweep cause) = row_of_sweep cause
row_of (Ranges cause) = row_of_ranges cause
row_of (Plan cause) = row_of_plan cause
row_of (Kinds cause) = row_of_kinds cause
row_of (Trace cause) = row_of_trace cause
row_of (Outage outages.Unmeasured) = (67, codes "outage without a length of ticks")
row_of (Outage outages.TooLong) = (68, codes "outage over limit")
row_of (Replicas replicas.Unmeasured) = (69, codes "accept without a length of ticks")
row_of (Replicas replicas.TooLong) = (70, codes "accept over limit")
row_of (Workflow cause) = row_of_workflow cause
row_of (Reading reading.Memory) = memory_row
row_of Memory = memory_row

-- what ends a fault's text
abbrev pub ending_text : FaultEnding → List ℕ
ending_text (endings.Word word) = word.now
ending_text (endings.Number value) = decimal value

-- the word at the end is a short one
abbrev pub IsShortEnding : FaultEnding → Type 0
IsShortEnding (endings.Word word) = length word.now ≤ 64
IsShortEnding (endings.Number value) = Unit {0}

-- the line that tells a fault
unfoldable pub fault_line_of : Fault → List ℕ
fault_line_of fault = codes "fault " ++ (decimal (row_of fault).0 ++ 32 ∷ ((row_of fault).1 ++ 10 ∷ []))

-- why a text was not read to its end, as a command tells it: memory is one fault, whichever crate found none
abbrev pub told_of_reading : ReadFault → Fault
told_of_reading reading.Memory = Memory
told_of_reading cause = Reading cause

-- a fault of the scenario, as a command tells it
abbrev pub told_of : ScenarioFault → Fault
told_of scenario.Memory = Memory
told_of cause = Scenario cause

-- why a table of round trips gives no ranges, as a command tells it
abbrev pub told_of_ranges : RangesFault → Fault
told_of_ranges ranges.Memory = Memory
told_of_ranges cause = Ranges cause

-- why a text is that of no plan, as a command tells it
abbrev pub told_of_plan : PlanFault → Fault
told_of_plan (plans.Scenario cause) = told_of cause
told_of_plan cause = Plan cause

-- why a text is that of no kinds of messages, as a command tells it
abbrev pub told_of_kinds : KindsFault → Fault
told_of_kinds (kinds.Scenario cause) = told_of cause
told_of_kinds cause = Kinds cause

-- why a text is that of no workflow, as a command tells it
abbrev pub told_of_workflow : WorkflowFault → Fault
told_of_workflow (workflows.Scenario cause) = told_of cause
told_of_workflow cause = Workflow cause

-- why a text is no trace, as a command tells it
abbrev pub told_of_trace : TraceFault → Fault
told_of_trace traces.Memory = Memory
told_of_trace cause = Trace cause

-- a fault of a schedule that was given as a list, as a command tells it
abbrev pub told_of_list : ListFault → Fault
told_of_list lists.Memory = Memory
told_of_list cause = Schedule cause

-- a fault of an order of ties that was given as a list, as a command tells it
abbrev pub told_of_order : ListFault → Fault
told_of_order lists.Length = Order orders.Length
told_of_order (lists.Range place) = Order (orders.Rank place)
told_of_order lists.Memory = Memory
