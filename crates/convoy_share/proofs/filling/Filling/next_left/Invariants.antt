use Rattle.std.specs.List.{sum_by}
use Rattle.std.proofs.Common.{ℕ, List, ◌≡◌, ◌≤◌, ◌+◌, reverse, length}
use Rattle.convoy_scenario.specs.Scenario.{Scenario}
use Rattle.convoy_regions.specs.Regions.{Region}
use Rattle.convoy_branch.specs.declared.bounds.Bounds.{Bounds}
use Rattle.convoy_branch.specs.Fronts.{left_in}
use Rattle.convoy_share.specs.Filling.{IsFilling}
use Rattle.convoy_share.specs.Pieces.{front}
use Rattle.convoy_share.proofs.filling.Filling.next_left.Given as goal

abbrev pub invariant-loop-piece : goal.invariant-loop-piece
invariant-loop-piece l =
    ((bounds : Bounds) (scenario : Scenario) (seen tickets : ℕ) (put : List Region) → IsFilling bounds scenario seen tickets put l.initial.self.done.items (reverse l.initial.self.rest.items) l.initial.self.slots.items → IsFilling bounds scenario seen tickets put l.self.done.items (reverse l.self.rest.items) l.self.slots.items)
    × ((put : List Region) → left_in (front put l.self.done.items) ≡ left_in (front put l.initial.self.done.items))
    × (length l.self.rest.items + sum_by length l.self.slots.items ≤ length l.initial.self.rest.items + sum_by length l.initial.self.slots.items)

abbrev pub decreases-loop-piece : goal.decreases-loop-piece
decreases-loop-piece l = length l.self.rest.items + sum_by length l.self.slots.items
