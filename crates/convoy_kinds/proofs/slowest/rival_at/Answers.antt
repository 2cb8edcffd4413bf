use Rattle.std.proofs.Common.{◌≡◌, ℕ, ◌-◌, ◌==◌, ◌&&◌, Bool, true, false, [], length, map, sym, ap, ◌∙◌, refl, arith}
use Rattle.std.proofs.lemmas.Bool.{eq-eqb, ne_eqb}
use Rattle.std.proofs.lemmas.List.{length-map}
use Rattle.convoy_scenario.specs.Scenario.{message_at, is_addressed}
use Rattle.convoy_ceiling.specs.Ceiling.{longest_after, longest_from_arrival}
use Rattle.convoy_kinds.specs.Ceilings.{rival_at}
use Rattle.convoy_kinds.specs.Kinds.{Kinds, all_kinds, named}
use Rattle.convoy_kinds.proofs.FirstPassing.{passing_all, passing_found, passing_next, passing_none}
use Rattle.convoy_kinds.proofs.slowest.rival_at.Goals as goal
use Rattle.convoy_kinds.proofs.slowest.rival_at.Goals.{else-goes_to-via-then-goes_to+else-longest_from_arrival-longest, else-goes_to-via-else-goes_to}

-- the kind goes to the group, and may take longest there
abbrev comes : Kinds → ℕ → ℕ → Bool
comes kinds g n = is_addressed (message_at (all_kinds kinds) n) g

abbrev is_slowest : Kinds → ℕ → ℕ → Bool
is_slowest kinds g n = longest_from_arrival (all_kinds kinds) g n == longest_after (all_kinds kinds) g

no_first : (a b : Bool) → a ≡ false → (a && b) ≡ false
no_first a b e = ap (λ v. v && b) e

no_second : (a b : Bool) → b ≡ false → (a && b) ≡ false
no_second true b e = e
no_second false b e = refl

pub loop-kind-init : goal.loop-kind-init
unfolding rival_at
loop-kind-init c =
    let same = length-map c.args.kinds.now.kinds (named []) in
    let all : c.kind_count-kind-end.result - 0 ≡ length (map (named []) c.args.kinds.now.kinds) = omega arith in
    passing_all (comes c.args.kinds.now c.args.group) (is_slowest c.args.kinds.now c.args.group) _ _ all

pub returns-then-longest_from_arrival-longest : goal.returns-then-longest_from_arrival-longest
returns-then-longest_from_arrival-longest c =
    passing_found (comes c.args.kinds.now c.args.group) (is_slowest c.args.kinds.now c.args.group) _ c.loop-kind.kind _ c.loop-kind-test.true
    (sym c.goes_to.ensures ∙ c.if-goes_to.true)
    (eq-eqb _ _ (sym c.longest_from_arrival.ensures.value ∙ c.if-longest_from_arrival-longest.true ∙ c.requires))
    c.loop-kind.invariant

pub loop-kind-preserved : goal.loop-kind-preserved
loop-kind-preserved c =
    passing_next (comes c.args.kinds.now c.args.group) (is_slowest c.args.kinds.now c.args.group) _ c.loop-kind.kind _ c.loop-kind-test.true
    (elim c.else-goes_to.branch [
      | else-goes_to-via-then-goes_to+else-longest_from_arrival-longest w ↦
          no_second (comes c.args.kinds.now c.args.group c.loop-kind.kind) _
          (ne_eqb _ _ (λ e. w.if-longest_from_arrival-longest.false (w.longest_from_arrival.ensures.value ∙ e ∙ sym c.requires)))
      | else-goes_to-via-else-goes_to w ↦ no_first _ (is_slowest c.args.kinds.now c.args.group c.loop-kind.kind) (sym c.goes_to.ensures ∙ w.if-goes_to.false)
    ])
    c.loop-kind.invariant

pub returns : goal.returns
returns c =
    passing_none (comes c.args.kinds.now c.args.group) (is_slowest c.args.kinds.now c.args.group) _ c.loop-kind.kind _ c.loop-kind-test.false c.loop-kind.invariant
