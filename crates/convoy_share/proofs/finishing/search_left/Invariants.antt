use Rattle.std.specs.List.{sum_by}
use Rattle.std.proofs.Common.{◌≤◌, ◌+◌, List, reverse, length}
use Rattle.convoy_regions.specs.Regions.{Region}
use Rattle.convoy_share.specs.Common.{common_of}
use Rattle.convoy_share.specs.Finishing.{IsFinishing}
use Rattle.convoy_share.specs.Means.{IsLater, drawn}
use Rattle.convoy_share.proofs.finishing.search_left.Given as goal

abbrev pub invariant-loop-branch : goal.invariant-loop-branch
invariant-loop-branch g l =
    ((put : List Region) → IsFinishing (common_of l.shared) put l.fn.means l.initial.filling.done.items (reverse l.initial.filling.rest.items) l.initial.filling.slots.items → IsFinishing (common_of l.shared) put l.means l.filling.done.items (reverse l.filling.rest.items) l.filling.slots.items)
    × IsLater l.fn.means l.means
    × (drawn l.fn.means ≤ drawn l.means)

abbrev pub decreases-loop-branch : goal.decreases-loop-branch
decreases-loop-branch g l = length l.filling.rest.items + sum_by length l.filling.slots.items
