-- How wide a range may get before a deadline is missed, where it is told of each breadth whether it is kept.
use Rattle.std.specs.Prelude.{ℕ, ◌+◌, Ok, Err, Result}
use Rattle.convoy_draft.specs.declared.fault.ScenarioFault.{ScenarioFault}
use Rattle.convoy_commands.specs.declared.verdict.Verdict.{Verdict}
use Rattle.convoy_commands.specs.declared.verdict.Verdict.TheVariants.{Within, Beyond, Undecided}
use Rattle.convoy_budget.specs.declared.kinds.Room.{Room}
use Rattle.convoy_budget.specs.declared.kinds.Room.TheVariants.{Any, Until, AtLeast, Never, Unknown, OutOfMemory}

-- The deadline is kept with that breadth, and with one tick more that is the verdict.
pub record IsEdge (may_answer : ℕ → Result Verdict ScenarioFault → Type 0) (breadth : ℕ) (verdict : Verdict) : Type 0 where
  pub kept : may_answer breadth (Ok Within)
  pub next : may_answer (breadth + 1) (Ok verdict)

-- the room that there is up to the widest range, where such verdicts may be given on each breadth: that memory ran out is no room
abbrev pub IsRoomBy : (ℕ → Result Verdict ScenarioFault → Type 0) → ℕ → Room → Type 0
IsRoomBy may_answer widest Any = may_answer widest (Ok Within)
IsRoomBy may_answer widest (Until breadth) = IsEdge may_answer breadth Beyond
IsRoomBy may_answer widest (AtLeast breadth) = IsEdge may_answer breadth Undecided
IsRoomBy may_answer widest Never = may_answer 0 (Ok Beyond)
IsRoomBy may_answer widest Unknown = may_answer 0 (Ok Undecided)
IsRoomBy may_answer widest OutOfMemory = ⊥

-- of some breadth the fault may be told
abbrev pub HasFailed : (ℕ → Result Verdict ScenarioFault → Type 0) → ScenarioFault → Type 0
HasFailed may_answer fault = (breadth : ℕ) × may_answer breadth (Err fault)
