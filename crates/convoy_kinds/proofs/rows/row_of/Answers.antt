use Rattle.std.proofs.Common.{◌≡◌, ◌+◌, ◌<◌, ℕ, [], length, arith, refl, sym, ap, ap₂, subst, ◌∙◌}
use Rattle.std.proofs.lemmas.List.{length-map}
use Rattle.convoy_scenario.specs.Scenario.{GoesTo}
use Rattle.convoy_sim.proofs.Addressed.{number_of_goes}
use Rattle.convoy_ceiling.specs.Ceiling.{IsUpperInTraffic, ceiling_at, ceiling_of, longest_after, longest_to_commit}
use Rattle.convoy_kinds.specs.Ceilings.{ceiling_of_kind}
use Rattle.convoy_kinds.specs.Kinds.{Kinds, all_kinds, named}
use Rattle.convoy_kinds.specs.Pairs.{pair_of}
use Rattle.convoy_kinds.proofs.Paired.{among_all}
use Rattle.convoy_kinds.proofs.rows.row_of.Goals as goal

-- what is computed is the ceiling
computed : (kinds : Kinds) (k g : ℕ) → GoesTo (all_kinds kinds) k g → longest_to_commit (all_kinds kinds) k g + longest_after (all_kinds kinds) g ≡ ceiling_of_kind kinds k g
unfolding ceiling_at
computed kinds k g goes = sym (among_all kinds k g goes)

-- what goes to a group is a kind
known_kind : (kinds : Kinds) (k g : ℕ) → GoesTo (all_kinds kinds) k g → k < length kinds.kinds
known_kind kinds k g goes =
    let same = length-map kinds.kinds (named []) in
    let below = number_of_goes (all_kinds kinds) k g goes in
    omega arith

pub returns : goal.returns
returns c =
    let kinds : Kinds = c.args.kinds.now in
    let k : ℕ = c.args.target.0 in
    let g : ℕ = c.args.target.1 in
    let goes = c.requires.target.goes in
    let slowest = c.slowest_among-slowest.ensures in
    let decided = c.rivals_decide.ensures kinds k g goes in
    let comes = subst (λ (l : ℕ). GoesTo (all_kinds kinds) l g) (sym slowest.kind) decided.goes in
    let is : c.longest_to_commit.result + c.slowest_among-slowest.result.after ≡ ceiling_of_kind kinds k g =
    ap₂ ◌+◌ c.longest_to_commit.ensures.value slowest.after ∙ computed kinds k g goes in
    record {
      of_target = refl;
      told = record {
        kind = c.requires.target.known;
        goes = goes;
        ceiling = is;
        safe = subst (IsUpperInTraffic (all_kinds kinds) k g) (sym is) (c.kinds_may_be_asked_in_pairs.ensures kinds c.kind_count-count.ensures.lawful k g);
        rival = slowest.kind;
        known = known_kind kinds c.slowest_among-slowest.result.kind g comes;
        comes = comes;
        beside = ap (λ (l : ℕ). ceiling_of (pair_of kinds k l g)) slowest.kind ∙ decided.ceiling ∙ sym is;
      };
    }
