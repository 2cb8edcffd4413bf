-- What a row tells of packets: when a message was issued and where, when it arrived at a group, and when the proposal of one group came to another.
use Rattle.std.specs.Prelude.{ℕ, ◌≤◌, ◌==◌, Bool, ◌&&◌, ◌||◌, not, if◌then◌else◌, List, [], ◌∷◌, ◌++◌, length, codes, Option, Some, None, Result, Ok, Err}
use Rattle.std.specs.Str.{bytes_eq, is_utf8}
use Rattle.convoy_lines.specs.Results.{◌>>=◌}
use Rattle.convoy_draft.specs.declared.duration.TimeUnit.{TimeUnit}
use Rattle.convoy_ranges.specs.Tables.{named}
use Rattle.convoy_traces.specs.Entries.{found, time_of}
use Rattle.convoy_traces.specs.Rows.{Row}
use Rattle.convoy_traces.specs.Traces.{in_line}
use Rattle.convoy_traces.specs.declared.fault.Cause.{Cause}
use Rattle.convoy_traces.specs.declared.fault.Cause.TheVariants as causes
use Rattle.convoy_traces.specs.declared.fault.TraceFault.{TraceFault}
use Rattle.convoy_trace_ranges.specs.declared.entry.Kind.{Kind}
use Rattle.convoy_trace_ranges.specs.declared.entry.Kind.TheVariants.{Issue, Arrival, Proposal}

-- what a line tells: the kind of its event, the message, the group at which it happens, which is no text where a client issues the message, the group from which a proposal came, and when, in nanoseconds
pub record Entry : Type 0 where
  pub line : ℕ
  pub kind : Kind
  pub message : List ℕ
  pub group : List ℕ
  pub from : List ℕ
  pub time : ℕ

-- the kind of an event with which packets are sent, or come; a commit and a delivery are passed over
abbrev pub kind_of : List ℕ → Result (Option Kind) Cause
kind_of word =
    if bytes_eq word (codes "issue") then Ok (Some Issue)
    else if bytes_eq word (codes "arrival") then Ok (Some Arrival)
    else if bytes_eq word (codes "proposal") then Ok (Some Proposal)
    else if bytes_eq word (codes "commit") || bytes_eq word (codes "delivery") then Ok None
    else Err causes.Event

-- the name of a message is any text that is not empty
abbrev pub message_in : List ℕ → Option (List ℕ)
message_in cell = if not (length cell == 0) && is_utf8 cell then Some cell else None

-- the group at which an event happens; a message may be issued at none
abbrev pub group_in : Kind → List ℕ → Option (List ℕ)
group_in Issue cell = if length cell == 0 then Some [] else named cell
group_in Arrival cell = named cell
group_in Proposal cell = named cell

-- the group from which a proposal came, and of other events nothing
abbrev pub from_in : Kind → List ℕ → Option (List ℕ)
from_in Issue cell = Some []
from_in Arrival cell = Some []
from_in Proposal cell = named cell

-- what is found, or that fault of the line
abbrev pub wanted : {X : Type 0} → ℕ → Cause → Option X → Result X TraceFault
wanted line cause o = in_line line (found cause o)

-- what a row tells whose event is of that kind: nothing where it is passed over
abbrev pub entry_by : Option TimeUnit → ℕ → Row → Option Kind → Result (Option Entry) TraceFault
entry_by unit line row None = Ok None
entry_by unit line row (Some kind) =
    wanted line causes.Name (message_in row.message) >>= (λ message.
    wanted line causes.Name (group_in kind row.group) >>= (λ group.
    wanted line causes.From (from_in kind row.from) >>= (λ from.
    wanted line causes.Time (time_of unit row.time) >>= (λ time.
    Ok (Some (record { line = line; kind = kind; message = message; group = group; from = from; time = time }))))))

-- what a row tells
abbrev pub entry_of : Option TimeUnit → ℕ → Row → Result (Option Entry) TraceFault
entry_of unit line row = in_line line (kind_of row.event) >>= entry_by unit line row
