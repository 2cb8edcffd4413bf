-- The text of an explanation: why a schedule has its latency, of which a certificate shows that it is the greatest.
use Rattle.std.specs.Prelude.{ℕ, ◌-◌, ◌==◌, ◌&&◌, not, nat_lt, List, [], ◌∷◌, ◌++◌, Option, Some, None, codes, decimal, if◌then◌else◌}
use Rattle.std.specs.List.{flat_map}
use Rattle.convoy_scenario.specs.declared.sender.Sender.{Sender}
use Rattle.convoy_scenario.specs.declared.sender.Sender.TheVariants.{Client, Group}
use Rattle.convoy_scenario.specs.Scenario.{Scenario, message_at, may_wait, window_of, group_name_at, place_name_at}
use Rattle.convoy_draft.specs.Durations.{unit_word}
use Rattle.convoy_times.specs.Measures.{told_ticks}
use Rattle.convoy_times.specs.declared.measure.Measure.{Measure}
use Rattle.convoy_sim.specs.declared.timestamp.Timestamp.{Timestamp}
use Rattle.convoy_sim.specs.declared.moment.MomentKind.{MomentKind}
use Rattle.convoy_sim.specs.declared.moment.MomentKind.TheVariants.{Arrival, Commit}
use Rattle.convoy_sim.specs.declared.run.Proposal.{Proposal}
use Rattle.convoy_timeline.specs.Causes.{is_real}
use Rattle.convoy_timeline.specs.declared.explanation.Explanation.{Explanation}
use Rattle.convoy_timeline.specs.declared.explanation.Flight.{Flight}
use Rattle.convoy_timeline.specs.declared.explanation.Holder.{Holder}
use Rattle.convoy_timeline.specs.declared.explanation.LastProposal.{LastProposal}
use Rattle.convoy_timeline.specs.declared.explanation.Rise.{Rise}

-- one tick, and several of them
abbrev pub tick_word : ℕ → List ℕ
tick_word n = if n == 1 then codes "tick" else codes "ticks"

-- one node, and several of them
abbrev pub node_word : ℕ → List ℕ
node_word n = if n == 1 then codes "node" else codes "nodes"

-- what follows a tick at the head of a line, so that the lines of ticks below 1,000 are aligned
abbrev pub gap_after : ℕ → List ℕ
gap_after tick = if nat_lt tick 10 then codes "   " else if nat_lt tick 100 then codes "  " else codes " "

-- a stamp, with the name of the group that gave it
unfoldable pub stamp_text : Scenario → Timestamp → List ℕ
stamp_text scenario stamp = decimal stamp.time ++ 46 ∷ group_name_at scenario stamp.group

-- the name of a message
abbrev pub message_name_at : Scenario → ℕ → List ℕ
message_name_at scenario m = (message_at scenario m).name

-- who sends a message: a client, with its place where that has a name, or a group
abbrev pub sender_text : Scenario → Sender → List ℕ
sender_text scenario (Client p) = if p == 0 then codes "a client" else (codes "a client at " ++ place_name_at scenario p)
sender_text scenario (Group g) = group_name_at scenario g

-- from when to when message m may be issued
unfoldable pub window_text : Scenario → ℕ → List ℕ
window_text scenario m =
    let window = window_of (message_at scenario m) in
    message_name_at scenario m ++ (codes " may be issued from tick " ++ (decimal window.0 ++ (codes " to " ++ decimal window.1)))

-- a packet on its way
unfoldable pub flight_text : Flight → List ℕ
flight_text flight = codes ", packet " ++ (decimal flight.packet ++ (codes ", " ++ (decimal flight.delay ++ 32 ∷ tick_word flight.delay)))

-- what follows a number of ticks, where the length of a tick is known: the same in the unit in which that is told
unfoldable pub in_unit_text : Option Measure → ℕ → List ℕ
in_unit_text None ticks = []
in_unit_text (Some measure) ticks =
    codes " (" ++ (told_ticks measure ticks ++ 32 ∷ (unit_word measure.unit ++ codes ")"))

-- a number of ticks, and the same in their unit where that is known: `12 ticks (600 us)`
unfoldable pub ticks_text : Option Measure → ℕ → List ℕ
ticks_text measure ticks = decimal ticks ++ 32 ∷ (tick_word ticks ++ in_unit_text measure ticks)

-- how late the target is, and when: its issue is so many ticks before its delivery
unfoldable pub latency_text : Option Measure → Scenario → Explanation → List ℕ
latency_text measure scenario why =
    message_name_at scenario scenario.target_message
    ++ (codes " at " ++ (group_name_at scenario scenario.target_group
    ++ (codes ": at worst " ++ (ticks_text measure why.latency
    ++ (codes ", from its issue at tick " ++ (decimal (why.delivered - why.latency)
    ++ (codes " to its delivery at tick " ++ (decimal why.delivered ++ 10 ∷ []))))))))

-- from when to when the target may be issued, if it may wait; where it is the awaited message that is told there
abbrev pub target_window_text : Scenario → LastProposal → List ℕ
target_window_text scenario last =
    if may_wait (message_at scenario scenario.target_message) && not (last.message == scenario.target_message)
    then window_text scenario scenario.target_message ++ 10 ∷ [] else []

-- that the order of a tie gave the target its stamp: another message came to the group of that stamp in the same tick, and before it
abbrev pub tied_text : Scenario → Option ℕ → List ℕ
tied_text scenario None = []
tied_text scenario (Some m) = codes ", after " ++ (message_name_at scenario m ++ codes " in a tie")

-- when the target is committed at its group, and with which stamp
unfoldable pub commit_text : Scenario → Explanation → List ℕ
commit_text scenario why =
    codes "committed at " ++ (group_name_at scenario scenario.target_group
    ++ (codes " at tick " ++ (decimal why.committed
    ++ (codes " with stamp " ++ (stamp_text scenario why.stamped.stamp
    ++ (codes ", given by " ++ (group_name_at scenario why.stamped.stamp.group
    ++ (codes " at tick " ++ (decimal why.stamped.tick
    ++ (tied_text scenario why.tied ++ 10 ∷ []))))))))))

-- what a message does at a group as the clock there rises
abbrev pub doing_word : MomentKind → List ℕ
doing_word Arrival = codes "comes to"
doing_word Commit = codes "is committed at"

-- the stamp to whose time a clock rises: that of a message that comes to the group is of that time and that group
unfoldable pub with_stamp_text : Scenario → MomentKind → Proposal → List ℕ
with_stamp_text scenario Arrival stamped = []
with_stamp_text scenario Commit stamped =
    codes ", with stamp " ++ (stamp_text scenario stamped.stamp
    ++ (codes ", given by " ++ (group_name_at scenario stamped.stamp.group ++ (codes " at tick " ++ decimal stamped.tick))))

-- what raised a clock, and to which time
unfoldable pub rise_line : Scenario → Rise → List ℕ
rise_line scenario rise =
    codes "  tick " ++ (decimal rise.moment.tick ++ (gap_after rise.moment.tick
    ++ (message_name_at scenario rise.moment.message ++ 32 ∷ (doing_word rise.moment.kind
    ++ 32 ∷ (group_name_at scenario rise.moment.group
    ++ (codes ", whose clock rises to " ++ (decimal rise.stamped.stamp.time
    ++ (with_stamp_text scenario rise.moment.kind rise.stamped ++ 10 ∷ []))))))))

-- what raised clocks to the time of the target's final stamp, latest first
abbrev pub rises_text : Scenario → List Rise → List ℕ
rises_text scenario rises = flat_map (rise_line scenario) rises

-- that the order of a tie lets a message hold the target back: it came to the target's group in the tick in which the target is committed there, and before that
abbrev pub tie_won_text : Scenario → Explanation → Holder → List ℕ
tie_won_text scenario why holder =
    if is_real scenario.time && (holder.proposal.tick == why.committed) then codes ", and before that commit in a tie" else []

-- what holds the target back
unfoldable pub holder_text : Scenario → Explanation → Option Holder → List ℕ
holder_text scenario why None = codes "no message holds it back: it is delivered as it is committed" ++ 10 ∷ []
holder_text scenario why (Some holder) =
    codes "held back by " ++ (message_name_at scenario holder.message
    ++ (codes ", which came to " ++ (group_name_at scenario scenario.target_group
    ++ (codes " at tick " ++ (decimal holder.proposal.tick
    ++ (codes " with stamp " ++ (stamp_text scenario holder.proposal.stamp
    ++ (codes ", before " ++ (stamp_text scenario why.stamped.stamp
    ++ (tie_won_text scenario why holder ++ 10 ∷ []))))))))))

-- who issues the awaited message, and when, of the ticks at which it may be
unfoldable pub issue_text : Scenario → LastProposal → List ℕ
issue_text scenario last =
    window_text scenario last.message
    ++ (codes ": here " ++ (sender_text scenario (message_at scenario last.message).sender
    ++ (codes " issues it at tick " ++ (decimal last.issued ++ 10 ∷ []))))

-- the same where the awaited message may wait; else it has one tick to be issued
abbrev pub wait_text : Scenario → LastProposal → List ℕ
wait_text scenario last = if may_wait (message_at scenario last.message) then issue_text scenario last else []

-- when the awaited message is committed
unfoldable pub awaited_text : Scenario → LastProposal → List ℕ
awaited_text scenario last =
    message_name_at scenario last.message
    ++ (codes " is committed at " ++ (group_name_at scenario scenario.target_group
    ++ (codes " at tick " ++ (decimal last.committed
    ++ (codes ", when the last proposal comes:" ++ 10 ∷ [])))))

-- the awaited message goes to the group of the last proposal, or is there as it is issued
unfoldable pub sent_text : Scenario → LastProposal → Option Flight → List ℕ
sent_text scenario last None =
    codes "  tick " ++ (decimal last.issued ++ (gap_after last.issued
    ++ (group_name_at scenario last.from ++ (codes " issues " ++ (message_name_at scenario last.message ++ 10 ∷ [])))))
sent_text scenario last (Some flight) =
    let message = message_at scenario last.message in
    codes "  tick " ++ (decimal last.issued ++ (gap_after last.issued
    ++ (sender_text scenario message.sender ++ (codes " sends " ++ (message.name
    ++ (codes " to " ++ (group_name_at scenario last.from ++ (flight_text flight ++ 10 ∷ []))))))))

-- the way of a proposal: to the target's group, or none where it is that group's own
unfoldable pub way_text : Scenario → Option Flight → List ℕ
way_text scenario None = codes " itself"
way_text scenario (Some flight) = codes " to " ++ (group_name_at scenario scenario.target_group ++ flight_text flight)

-- that group proposes its stamp to the target's group, or is that group
unfoldable pub answered_text : Scenario → LastProposal → Option Flight → List ℕ
answered_text scenario last answered =
    codes "  tick " ++ (decimal last.proposal.tick ++ (gap_after last.proposal.tick
    ++ (group_name_at scenario last.from
    ++ (codes " proposes " ++ (stamp_text scenario last.proposal.stamp ++ (way_text scenario answered ++ 10 ∷ []))))))

-- that so many nodes show the latency to be the greatest
unfoldable pub worst_text : ℕ → List ℕ
worst_text nodes =
    codes "no schedule is worse: " ++ (decimal nodes ++ 32 ∷ (node_word nodes ++ (codes ", checked" ++ 10 ∷ [])))

-- how the last proposal for the awaited message comes
unfoldable pub last_text : Scenario → LastProposal → List ℕ
last_text scenario last =
    wait_text scenario last
    ++ (awaited_text scenario last
    ++ (sent_text scenario last last.sent ++ answered_text scenario last last.answered))

-- the text of an explanation, and of that of the target's stamp, of a certificate with so many nodes
unfoldable pub text_of : Option Measure → Scenario → Explanation → List Rise → ℕ → List ℕ
text_of measure scenario why rises nodes =
    latency_text measure scenario why
    ++ (target_window_text scenario why.last
    ++ (commit_text scenario why
    ++ (rises_text scenario rises
    ++ (holder_text scenario why why.holder
    ++ (last_text scenario why.last ++ worst_text nodes)))))
