-- Each branch is split or closed once at most.
use Rattle.std.specs.Prelude.{◌≡◌, ℕ, ◌+◌, ◌==◌, Bool, true, false, if◌then◌else◌, List}
use Rattle.std.proofs.Common.{arith, refl, sym, ap, subst, ◌∙◌, inl, inr, zero, suc}
use Rattle.std.proofs.lemmas.Bool.{cases_eq, eq-eqb, ne_eqb, not_from_true}
use Rattle.convoy_scenario.specs.Scenario.{Scenario}
use Rattle.convoy_intervals.specs.Boxes.{Box}
use Rattle.convoy_machine.specs.declared.parts.Branch.{Branch}
use Rattle.convoy_machine.specs.declared.parts.BranchState.{BranchState}
use Rattle.convoy_machine.specs.declared.parts.BranchState.TheVariants as states
use Rattle.convoy_machine.specs.declared.event.Event.{Event}
use Rattle.convoy_machine.specs.declared.event.Event.TheVariants.{Look, Publish, Draw, Put, Take, Split, Close}
use Rattle.convoy_machine.specs.Machine.{Core, allows, branch_at, branches_after, halves_taken, is_left, stands, turned}
use Rattle.convoy_machine.specs.Replays.{ends, is_done}
use Rattle.convoy_machine.proofs.BranchLists.{stands-append, stands-at, stands-set_other, stands-set_same}
use Rattle.convoy_machine.proofs.LawfulEvents.{IsOpen, close_told, free_is_open, held_is_open, split_told}

-- 1 for a branch that is done, or for an event that ends it, and else 0
abbrev pub flag : Bool → ℕ
flag test = if test then 1 else 0

-- a branch that is left is not done
left_not_done : (branches : List Branch) (number : ℕ) → IsOpen branches number → stands is_done branches number ≡ false
left_not_done branches number is =
    stands-at is_done branches number is.within ∙ not_from_true (is_left (branch_at branches number).state) is.left

-- a branch that is given or taken is as little done as before
kept : (branches : List Branch) (number : ℕ) (state : BranchState) (branch : ℕ) → IsOpen branches number → is_done state ≡ false → stands is_done (turned branches number state) branch ≡ stands is_done branches branch
kept branches number state branch is left =
    let next : Branch = record (branch_at branches number) { state = state } in
    elim (cases_eq branch number) [
      | inl same ↦ (
          let at = λ (k : ℕ). stands is_done (turned branches number state) k ≡ stands is_done branches k in
          subst at (sym same) (stands-set_same is_done branches number next is.within ∙ left ∙ sym (left_not_done branches number is))
          )
      | inr other ↦ stands-set_other is_done branches number branch next other
    ]

-- of a branch that is ended, and of no other, there is one ending more
ended : (branches : List Branch) (number : ℕ) (state : BranchState) (branch : ℕ) → IsOpen branches number → is_done state ≡ true → flag (stands is_done (turned branches number state) branch) ≡ flag (stands is_done branches branch) + flag (number == branch)
ended branches number state branch is done =
    let next : Branch = record (branch_at branches number) { state = state } in
    elim (cases_eq branch number) [
      | inl same ↦ (
          let at = λ (k : ℕ). flag (stands is_done (turned branches number state) k) ≡ flag (stands is_done branches k) + flag (number == k) in
          let before = ap flag (left_not_done branches number is) in
          let now = ap flag (stands-set_same is_done branches number next is.within ∙ done) in
          let this = ap flag (eq-eqb number number refl) in
          subst at (sym same) (omega (arith, before, now, this))
          )
      | inr other ↦ (
          let now = ap flag (stands-set_other is_done branches number branch next other) in
          let this = ap flag (ne_eqb number branch (λ e. other (sym e))) in omega (arith, now, this)
          )
    ]

-- the halves of a split are not done
halves_not_done : (worker : ℕ) (box : Box) (packet at : ℕ) (number : ℕ) → stands is_done (halves_taken worker box packet at) number ≡ false
halves_not_done worker box packet at zero = refl
halves_not_done worker box packet at (suc zero) = refl
halves_not_done worker box packet at (suc (suc number)) = refl

-- an event that is allowed ends a branch that was not done, and it is done then
pub done-after : (plan : Scenario) (core : Core) (event : Event) (branch : ℕ) → allows plan core event ≡ true → flag (stands is_done (branches_after core.branches event) branch) ≡ flag (stands is_done core.branches branch) + flag (ends branch event)
done-after plan core (Look worker) branch allowed = omega arith
done-after plan core (Publish worker found) branch allowed = omega arith
done-after plan core (Draw worker) branch allowed = omega arith
done-after plan core (Put worker number) branch allowed =
    omega (arith, ap flag (kept core.branches number states.Free branch (held_is_open worker core.branches number allowed) refl))
done-after plan core (Take worker number) branch allowed =
    omega (arith, ap flag (kept core.branches number (states.Taken worker) branch (free_is_open core.branches number allowed) refl))
done-after plan core (Split worker number packet at) branch allowed =
    let told = split_told plan core worker number packet at allowed in
    let box = (branch_at core.branches number).delay_box in
    ap flag (stands-append is_done (turned core.branches number states.Split) (halves_taken worker box packet at) branch (halves_not_done worker box packet at))
    ∙ ended core.branches number states.Split branch told.is_open refl
done-after plan core (Close worker number) branch allowed =
    ended core.branches number states.Closed branch (close_told plan core worker number allowed).is_open refl
