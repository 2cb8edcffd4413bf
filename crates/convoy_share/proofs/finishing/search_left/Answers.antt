use Rattle.std.proofs.Common.{arith, [], reverse}
use Rattle.convoy_share.specs.Common.{common_of}
use Rattle.convoy_share.specs.Means.{drawn}
use Rattle.convoy_share.proofs.Finishings.{IsFinishing-next, IsFinishing-searched, filling_todo}
use Rattle.convoy_share.proofs.Grown.{IsLater-then}
use Rattle.convoy_share.proofs.finishing.search_left.Goals as goal

pub next_left-requires : goal.next_left-requires
next_left-requires g c =
    let shared = c.args.shared.now in
    let here = c.loop-branch in
    let r = c.requires.filling in
    (shared.bounds, shared.instance.now, here.means.hand.seen, drawn here.means, r.0, (here.invariant.0 r.0 r.1).filling)

pub search_branch-requires-clause-of_scenario : goal.search_branch-requires-clause-of_scenario
search_branch-requires-clause-of_scenario g c =
    let shared = c.args.shared.now in
    let bounds = shared.bounds in
    let plan = shared.instance.now in
    let here = c.loop-branch in
    let seen = here.means.hand.seen in
    let tickets = drawn here.means in
    let r = c.requires.filling in
    let after = c.next_left.new.self in
    let some = rw c.in-Some.is at (c.in_ok-branch.ensures.some bounds plan seen tickets r.0 (here.invariant.0 r.0 r.1).filling) in
    (filling_todo bounds plan seen tickets r.0 after.done.items (reverse after.rest.items) after.slots.items c.in-Some.branch c.in-Some.tried some).0

pub search_branch-requires-clause-known : goal.search_branch-requires-clause-known
search_branch-requires-clause-known g c =
    let shared = c.args.shared.now in
    let bounds = shared.bounds in
    let plan = shared.instance.now in
    let here = c.loop-branch in
    let seen = here.means.hand.seen in
    let tickets = drawn here.means in
    let r = c.requires.filling in
    let after = c.next_left.new.self in
    let some = rw c.in-Some.is at (c.in_ok-branch.ensures.some bounds plan seen tickets r.0 (here.invariant.0 r.0 r.1).filling) in
    (filling_todo bounds plan seen tickets r.0 after.done.items (reverse after.rest.items) after.slots.items c.in-Some.branch c.in-Some.tried some).1

pub loop-branch-preserved : goal.loop-branch-preserved
loop-branch-preserved g c =
    let shared = common_of c.args.shared.now in
    let here = c.loop-branch in
    let old = here.filling in
    let after = c.next_left.new.self in
    let means = c.search_branch.new.means in
    let told = c.in_ok-pieces.ensures in
    let settled = c.in_ok-settle.ensures in
    let grown = told.grown 0 (omega arith) in (
      (λ put finishing.
          let is = here.invariant.0 put finishing in
          let some = rw c.in-Some.is at (c.in_ok-branch.ensures.some shared.bounds shared.scenario here.means.hand.seen (drawn here.means) put is.filling) in
          let next = IsFinishing-next shared put here.means old.done.items after.done.items (reverse old.rest.items) _ old.slots.items after.slots.items (c.in_ok-branch.ensures.left put) some is in
          rw (settled.done, settled.rest, settled.slots) (IsFinishing-searched c.fronts_better.ensures shared put here.means means after.done.items (reverse after.rest.items) after.slots.items c.in-Some.branch c.in-Some.tried (reverse c.in_ok-pieces.pieces.items) grown told.left next)),
      IsLater-then c.args.means.now here.means means here.invariant.1 grown.later,
      omega (arith, here.invariant.2, grown.spent),
    )

pub returns-clause-finished : goal.returns-clause-finished
returns-clause-finished g c put finishing =
    let shared = c.args.shared.now in
    let here = c.loop-branch in
    let old = here.filling in
    let after = c.next_left.new.self in
    let is = here.invariant.0 put finishing in
    let none = rw c.in_default.is at (c.in_ok-branch.ensures.none shared.bounds shared.instance.now here.means.hand.seen (drawn here.means) put is.filling) in
    IsFinishing-next (common_of shared) put here.means old.done.items after.done.items (reverse old.rest.items) [] old.slots.items after.slots.items (c.in_ok-branch.ensures.left put) none is
