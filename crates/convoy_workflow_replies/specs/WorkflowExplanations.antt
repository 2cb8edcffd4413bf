-- The text that explains a certificate of a workflow: how long it takes at most, and how in its run each message follows its cause.
use Rattle.std.specs.Prelude.{ℕ, ◌-◌, List, [], ◌∷◌, ◌++◌, Option, codes, decimal}
use Rattle.std.specs.List.{flat_map}
use Rattle.convoy_draft.specs.declared.duration.TimeUnit.{TimeUnit}
use Rattle.convoy_scenario.specs.Scenario.{Scenario, group_name_at, message_at}
use Rattle.convoy_times.specs.declared.measure.Measure.{Measure}
use Rattle.convoy_packets.specs.Assignment.{Schedule}
use Rattle.convoy_sim.specs.Times.{Tick, issue}
use Rattle.convoy_sim.specs.Delivery.{deliver}
use Rattle.convoy_causes.specs.declared.cause.Cause.{Cause}
use Rattle.convoy_causes.specs.declared.event.Event.{Event}
use Rattle.convoy_causes.specs.declared.event.Event.TheVariants.{Issue, Arrival, Commit, Delivery}
use Rattle.convoy_causes.specs.Causes.{tick_of_cause}
use Rattle.convoy_timeline.specs.Explanations.{message_name_at, sender_text, ticks_text}
use Rattle.convoy_commands.specs.Measured.{measure_of}
use Rattle.convoy_workflow_certificate.specs.declared.workflow_certificate.WorkflowCertificate.{WorkflowCertificate}

-- how long it takes at worst
abbrev pub worst_text : Option Measure → Scenario → ℕ → List ℕ
worst_text measure scenario time =
    message_name_at scenario scenario.target_message
    ++ (codes " at " ++ (group_name_at scenario scenario.target_group ++ (codes ": at worst " ++ ticks_text measure time)))

-- from where to where that time goes in a run: from the issue of the origin to the delivery of the target
abbrev pub span_text : Scenario → Schedule → ℕ → List ℕ
span_text scenario schedule origin =
    codes ", from the issue of " ++ (message_name_at scenario origin
    ++ (codes " at tick " ++ (decimal (issue scenario schedule origin)
    ++ (codes " to the delivery at tick " ++ (decimal (deliver scenario schedule scenario.target_message scenario.target_group) ++ 10 ∷ [])))))

-- both
abbrev pub time_line : Option Measure → Scenario → Schedule → ℕ → ℕ → List ℕ
time_line measure scenario schedule origin time = worst_text measure scenario time ++ span_text scenario schedule origin

-- what message m does at an event, and by whom or where
abbrev pub doing_text : Scenario → Event → ℕ → ℕ → List ℕ
doing_text scenario Issue m g = codes " is issued by " ++ sender_text scenario (message_at scenario m).sender
doing_text scenario Arrival m g = codes " comes to " ++ group_name_at scenario g
doing_text scenario Commit m g = codes " is committed at " ++ group_name_at scenario g
doing_text scenario Delivery m g = codes " is delivered at " ++ group_name_at scenario g

-- an event of message m at group g, which is at that tick
abbrev pub event_text : Scenario → Event → ℕ → ℕ → Tick → List ℕ
event_text scenario event m g tick =
    codes "  " ++ (message_name_at scenario m ++ (doing_text scenario event m g ++ (codes " at tick " ++ decimal tick)))

-- the event that a message follows
abbrev pub cause_line : Scenario → Schedule → Cause → List ℕ
cause_line scenario schedule cause =
    event_text scenario cause.event cause.message cause.group (tick_of_cause scenario schedule cause) ++ 10 ∷ []

-- the issue of the message that follows it, and how long after it that is
abbrev pub effect_line : Option Measure → Scenario → Schedule → Cause → List ℕ
effect_line measure scenario schedule cause =
    event_text scenario Issue cause.effect cause.group (issue scenario schedule cause.effect)
    ++ (codes ", " ++ (ticks_text measure (issue scenario schedule cause.effect - tick_of_cause scenario schedule cause)
    ++ (codes " after that" ++ 10 ∷ [])))

-- both
abbrev pub following_text : Option Measure → Scenario → Schedule → Cause → List ℕ
following_text measure scenario schedule cause = cause_line scenario schedule cause ++ effect_line measure scenario schedule cause

-- that no run takes longer
abbrev pub worst_line : List ℕ
worst_line = codes "no run is worse: checked" ++ 10 ∷ []

-- the text, where times are told so: from where to where the time goes, how each message follows its cause, in the order of the causes, and that no run takes longer
abbrev pub explained_by : Option Measure → Scenario → Schedule → List Cause → ℕ → ℕ → List ℕ
explained_by measure scenario schedule causes origin time =
    time_line measure scenario schedule origin time ++ (flat_map (following_text measure scenario schedule) causes ++ worst_line)

-- that of a certificate, with times in the unit that is asked for
abbrev pub workflow_explained : Option TimeUnit → WorkflowCertificate → List ℕ
workflow_explained asked certificate =
    explained_by (measure_of asked certificate.run.scenario) certificate.run.scenario certificate.run.schedule certificate.causes.items certificate.origin certificate.run.latency
