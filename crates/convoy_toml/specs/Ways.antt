-- The ways that packets go, and which of them have no link.
use Rattle.std.specs.Prelude.{ℕ, ℤ, pos, int_le, if◌then◌else◌, Bool, true, false, ◌&&◌, ◌||◌, not, List, ◌++◌, map, flat_map, filter, take, Option, Some, None, length, ◌==◌}
use Rattle.std.specs.List.{list_any}
use Rattle.std.specs.Str.{bytes_eq}
use Rattle.convoy_draft.specs.declared.limits.TheConstants.{MOST_GROUPS, MOST_PLACES}
use Rattle.convoy_draft.specs.declared.time.Time.{Time}
use Rattle.convoy_draft.specs.declared.time.Time.TheVariants.{Ticks, Real}
use Rattle.convoy_draft.specs.Checks.{is_among, is_named_alike}
use Rattle.convoy_draft.specs.Draft.{Draft, DraftLink, DraftMessage}

-- a way from a sender to a group: the group that sends or the place of the clients that do, or none for clients of no named place, and the group that receives
pub record Way : Type 0 where
  pub sender : Option (List ℕ)
  pub to : List ℕ

-- the ways from one sender to each of the groups
abbrev pub ways_from : List (List ℕ) → Option (List ℕ) → List Way
ways_from groups sender = map (λ to. record { sender = sender; to = to }) groups

-- the ways from each of these to each of the groups, sender by sender
abbrev pub ways_from_all : List (List ℕ) → List (List ℕ) → List Way
ways_from_all groups senders = flat_map (λ sender. ways_from groups (Some sender)) senders

-- the ways to each of the groups: from clients of no named place, from those at each place, and from each group
abbrev pub ways_between : List (List ℕ) → List (List ℕ) → List Way
ways_between groups places = ways_from groups None ++ ways_from_all groups places ++ ways_from_all groups groups

-- the sender is one of these groups
abbrev pub is_one_of : Option (List ℕ) → List (List ℕ) → Bool
is_one_of None groups = false
is_one_of (Some name) groups = is_among name groups

-- something of the message goes that way, from its sender to another: the message itself, or the stamp that one of its groups sends another
abbrev pub carries : Way → DraftMessage → Bool
carries way message =
    not (is_named_alike way.sender (Some way.to))
    && is_among way.to message.to
    && (is_named_alike way.sender message.sender || is_one_of way.sender message.to)

-- the link leads that way
abbrev pub leads_along : Way → DraftLink → Bool
leads_along way link = is_named_alike way.sender link.sender && bytes_eq way.to link.to

-- something goes that way, and no link leads there
abbrev pub lacks_link : List DraftMessage → List DraftLink → Way → Bool
lacks_link messages links way = list_any (carries way) messages && not (list_any (leads_along way) links)

-- the ways on which something goes without a link, among as many groups and places as a scenario may have
abbrev pub ways_without_link : Draft → List Way
ways_without_link draft = filter (lacks_link draft.messages draft.links) (ways_between (take MOST_GROUPS draft.groups) (take MOST_PLACES draft.places))

-- a link along that way with the range from that least delay to D
abbrev pub link_along : ℤ → ℤ → Way → DraftLink
link_along least delay way = record { sender = way.sender; to = way.to; least = least; most = delay; stamps = false }

-- the draft, with a link for each way on which something goes without one, where their least delay is written and is not the 1 that it is without a link
abbrev pub with_least : Option ℤ → Draft → Draft
with_least None draft = draft
with_least (Some least) draft =
    if int_le least (pos 1)
    then draft
    else record draft { links = draft.links ++ map (link_along least draft.delay) (ways_without_link draft) }

-- each packet that travels has a range that is written, be it a link's or by the least delay of what goes by none; in whole ticks it is 1 to D where nothing is written
abbrev pub has_ranges : Bool → Draft → Bool
has_ranges has_least draft = by_time draft.time where
  by_time : Time → Bool
  by_time Ticks = true
  by_time Real = has_least || (length (ways_without_link draft) == 0)
