-- What a lawful event tells of the state in which it is lawful.
use Rattle.std.specs.Prelude.{◌≡◌, ℕ, ◌<◌, nat_lt, true, ◌&&◌, List, length}
use Rattle.std.proofs.lemmas.Bool.{and_parts, ltb-true}
use Rattle.convoy_scenario.specs.Scenario.{Scenario}
use Rattle.convoy_intervals.specs.Boxes.{CanSplit, can_split}
use Rattle.convoy_intervals.proofs.BoxTests.{Decides-can_split}
use Rattle.convoy_machine.specs.declared.parts.TheConstants.{WORKERS}
use Rattle.convoy_machine.specs.declared.parts.Branch.{Branch}
use Rattle.convoy_machine.specs.declared.event.Event.{Event}
use Rattle.convoy_machine.specs.declared.event.Event.TheVariants.{Look, Publish, Draw, Put, Take, Split, Close}
use Rattle.convoy_machine.specs.Machine.{Core, HasBranch, allows, branch_at, closes, has_ticket, is_free, is_lawful, is_left, is_with, stands, worker_at, worker_of}
use Rattle.convoy_machine.proofs.BranchLists.{left_since_free, left_since_with, stands_told}

-- the branch is there, and is left
pub record IsOpen (branches : List Branch) (number : ℕ) : Type 0 where
  pub within : number < length branches
  pub left : is_left (branch_at branches number).state ≡ true

pub free_is_open : (branches : List Branch) (number : ℕ) → stands is_free branches number ≡ true → IsOpen branches number
free_is_open branches number passes =
    let told = stands_told is_free branches number passes in
    record { within = told.0; left = left_since_free (branch_at branches number).state told.1 }

pub held_is_open : (worker : ℕ) (branches : List Branch) (number : ℕ) → stands (is_with worker) branches number ≡ true → IsOpen branches number
held_is_open worker branches number passes =
    let told = stands_told (is_with worker) branches number passes in
    record { within = told.0; left = left_since_with worker (branch_at branches number).state told.1 }

-- a split
pub record SplitsBranch (core : Core) (worker branch packet at : ℕ) : Type 0 where
  pub is_open : IsOpen core.branches branch
  pub ticket : (worker_at core.workers worker).spent < (worker_at core.workers worker).drawn
  pub part : CanSplit (branch_at core.branches branch).delay_box packet at

pub split_told : (plan : Scenario) (core : Core) (worker branch packet at : ℕ) → allows plan core (Split worker branch packet at) ≡ true → SplitsBranch core worker branch packet at
split_told plan core worker branch packet at allowed =
    let doer = worker_at core.workers worker in
    let box = (branch_at core.branches branch).delay_box in
    let has = stands (is_with worker) core.branches branch in
    let outer = and_parts (has && has_ticket doer) (can_split box packet at) allowed in
    let inner = and_parts has (has_ticket doer) outer.0 in
    record {
      is_open = held_is_open worker core.branches branch inner.0;
      ticket = ltb-true doer.spent doer.drawn inner.1;
      part = (Decides-can_split box packet at).0 outer.1;
    }

-- a close
pub record ClosesBranch (plan : Scenario) (core : Core) (worker branch : ℕ) : Type 0 where
  pub is_open : IsOpen core.branches branch
  pub ticket : (worker_at core.workers worker).spent < (worker_at core.workers worker).drawn
  pub closed : closes plan (worker_at core.workers worker).seen (branch_at core.branches branch).delay_box ≡ true

pub close_told : (plan : Scenario) (core : Core) (worker branch : ℕ) → allows plan core (Close worker branch) ≡ true → ClosesBranch plan core worker branch
close_told plan core worker branch allowed =
    let doer = worker_at core.workers worker in
    let box = (branch_at core.branches branch).delay_box in
    let has = stands (is_with worker) core.branches branch in
    let outer = and_parts (has && has_ticket doer) (closes plan doer.seen box) allowed in
    let inner = and_parts has (has_ticket doer) outer.0 in
    record {
      is_open = held_is_open worker core.branches branch inner.0;
      ticket = ltb-true doer.spent doer.drawn inner.1;
      closed = outer.1;
    }

-- the branch of an event that is allowed
pub allowed_has_branch : (plan : Scenario) (core : Core) (event : Event) → allows plan core event ≡ true → HasBranch core.branches event
allowed_has_branch plan core (Look worker) allowed = tt
allowed_has_branch plan core (Publish worker found) allowed = tt
allowed_has_branch plan core (Draw worker) allowed = tt
allowed_has_branch plan core (Put worker branch) allowed = (held_is_open worker core.branches branch allowed).within
allowed_has_branch plan core (Take worker branch) allowed = (free_is_open core.branches branch allowed).within
allowed_has_branch plan core (Split worker branch packet at) allowed =
    let told = split_told plan core worker branch packet at allowed in (told.is_open.within, told.part)
allowed_has_branch plan core (Close worker branch) allowed =
    (close_told plan core worker branch allowed).is_open.within

-- the two parts of a lawful event
pub lawful_parts : (plan : Scenario) (core : Core) (event : Event) → is_lawful plan core event ≡ true → (worker_of event < WORKERS) × (allows plan core event ≡ true)
lawful_parts plan core event lawful =
    let both = and_parts (nat_lt (worker_of event) WORKERS) (allows plan core event) lawful in
    (ltb-true (worker_of event) WORKERS both.0, both.1)
