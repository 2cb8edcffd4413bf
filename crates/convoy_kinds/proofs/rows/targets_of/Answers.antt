use Rattle.std.proofs.Common.{◌≡◌, ℕ, List, [], ◌++◌, length, map, flat_map, sym, ap, ◌∙◌, arith}
use Rattle.std.specs.List.{range_with_len}
use Rattle.std.proofs.lemmas.List.{length-map}
use Rattle.convoy_kinds.proofs.Loops.{targets_more}
use Rattle.convoy_kinds.specs.Ceilings.{targets_of_kind}
use Rattle.convoy_kinds.specs.Kinds.{named}
use Rattle.convoy_kinds.proofs.rows.targets_of.Goals as goal

pub loop-kind-preserved : goal.loop-kind-preserved
loop-kind-preserved c =
    let of : ℕ → List (ℕ × ℕ) = targets_of_kind c.args.kinds.now in
    let k : ℕ = c.loop-kind.kind in
    record {
      targets = c.in_ok-push_targets.ensures.targets
          ∙ ap (λ (rows : List (ℕ × ℕ)). rows ++ of k) c.loop-kind.invariant.targets ∙ sym (targets_more of k);
      lawful = c.in_ok-push_targets.ensures.lawful;
    }

pub returns-clause-targets : goal.returns-clause-targets
returns-clause-targets c =
    let of : ℕ → List (ℕ × ℕ) = targets_of_kind c.args.kinds.now in
    let same = length-map c.args.kinds.now.kinds (named []) in
    let all : c.loop-kind.kind ≡ length (map (named []) c.args.kinds.now.kinds) = omega arith in
    c.loop-kind.invariant.targets ∙ ap (λ (n : ℕ). flat_map of (range_with_len 0 n)) all
