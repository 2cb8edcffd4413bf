-- A scenario as it is written, with names in place of numbers: what stands in it before any rule is asked.
use Rattle.std.specs.Prelude.{ℕ, ℤ, Bool, List, Option}
use Rattle.convoy_draft.specs.declared.time.Time.{Time}

-- a message as it is written: its name, the group that sends it or the place of the client that does (none for a client of no named place), the groups that it goes to, and the first and the last tick at which it may be issued
pub record DraftMessage : Type 0 where
  pub name : List ℕ
  pub sender : Option (List ℕ)
  pub to : List (List ℕ)
  pub at : ℤ
  pub until : ℤ

-- a link as it is written: the group or the place that sends (none for a client of no named place), the group that it leads to, the least and the greatest delay, and whether the group's own stamps go by it, too, where it leads from a group to itself
pub record DraftLink : Type 0 where
  pub sender : Option (List ℕ)
  pub to : List ℕ
  pub least : ℤ
  pub most : ℤ
  pub stamps : Bool

-- a scenario as it is written
pub record Draft : Type 0 where
  pub time : Time
  pub tick : Option ℕ
  pub delay : ℤ
  pub groups : List (List ℕ)
  pub places : List (List ℕ)
  pub links : List DraftLink
  pub messages : List DraftMessage
  pub target_message : List ℕ
  pub target_group : List ℕ
