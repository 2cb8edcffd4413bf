-- The keys of a scenario text, and the words for how time goes.
use Rattle.std.specs.Prelude.{ℕ, if◌then◌else◌, List, Option, Some, None, codes}
use Rattle.std.specs.Str.{bytes_eq}
use Rattle.convoy_draft.specs.declared.fault.Key.{Key}
use Rattle.convoy_draft.specs.declared.fault.Key.TheVariants.{Time, Tick, Delay, Groups, Places, Multicast, Name, From, To, At, Until, Within, Target, Message, Group, Link, Least, Most, Both, Stamps, Agree, Steps, Replicas, Reply, Outage, Schedule, Order, Unknown}
use Rattle.convoy_draft.specs.declared.time.Time.{Time as AnyTime}
use Rattle.convoy_draft.specs.declared.time.Time.TheVariants.{Ticks, Real}

-- the word for a key
abbrev pub key_word : Key → List ℕ
key_word Time = codes "time"
key_word Tick = codes "tick"
key_word Delay = codes "delay"
key_word Groups = codes "groups"
key_word Places = codes "places"
key_word Multicast = codes "multicast"
key_word Name = codes "name"
key_word From = codes "from"
key_word To = codes "to"
key_word At = codes "at"
key_word Until = codes "until"
key_word Within = codes "within"
key_word Target = codes "target"
key_word Message = codes "message"
key_word Group = codes "group"
key_word Link = codes "link"
key_word Least = codes "least"
key_word Most = codes "most"
key_word Both = codes "both"
key_word Stamps = codes "stamps"
key_word Agree = codes "agree"
key_word Steps = codes "steps"
key_word Replicas = codes "replicas"
key_word Reply = codes "reply"
key_word Outage = codes "outage"
key_word Schedule = codes "schedule"
key_word Order = codes "order"
key_word Unknown = codes "unknown"

-- the word for how time goes
abbrev pub time_word : AnyTime → List ℕ
time_word Ticks = codes "ticks"
time_word Real = codes "real"

-- how time goes by that word
abbrev pub time_named : List ℕ → Option AnyTime
time_named word =
    if bytes_eq word (time_word Ticks) then Some Ticks
    else if bytes_eq word (time_word Real) then Some Real
    else None
