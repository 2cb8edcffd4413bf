use Rattle.std.proofs.Common.{◌≡◌, ℕ, ◌+◌, suc, List, length, filter, All, sym, ap, subst, ◌∙◌, arith}
use Rattle.convoy_scenario.specs.Scenario.{Scenario}
use Rattle.convoy_stamps.specs.declared.pair.Pair.{Pair}
use Rattle.convoy_stamps.specs.Closures.{is_follower, reached_after}
use Rattle.convoy_stamps.specs.Reach.{pair_of, IsPair}
use Rattle.convoy_stamps.specs.Spans.{tables_in, target_follows}
use Rattle.convoy_stamps.proofs.Pairs.{All-pairs}
use Rattle.convoy_stamps.proofs.ReachRounds.{stops, ends}
use Rattle.convoy_stamps.proofs.reach.reach_size.Goals as goal

pub write_followers-requires-clause-pairs : goal.write_followers-requires-clause-pairs
write_followers-requires-clause-pairs c =
    subst (All (IsPair c.args.spans.now.scenario)) (sym c.requires.pairs) (All-pairs c.args.spans.now.scenario)

pub loop-round-init : goal.loop-round-init
loop-round-init c = record { so_far = c.in_ok-write_followers.ensures.value; pairs = c.in_ok-write_followers.ensures.pairs }

pub write_followers-requires-in-loop-round-clause-pairs : goal.write_followers-requires-in-loop-round-clause-pairs
write_followers-requires-in-loop-round-clause-pairs c =
    subst (All (IsPair c.args.spans.now.scenario)) (sym c.requires.pairs) (All-pairs c.args.spans.now.scenario)

pub write_followers-requires-in-loop-round-clause-reached : goal.write_followers-requires-in-loop-round-clause-reached
write_followers-requires-in-loop-round-clause-reached c =
    subst (All (IsPair c.args.spans.now.scenario)) (sym c.deref.ensures.value) c.loop-round.invariant.pairs

pub returns-then-len : goal.returns-then-len
returns-then-len c =
    let scenario : Scenario = c.args.spans.now.scenario in
    let reached : List Pair = c.loop-round.reached.items in
    let next : List Pair = c.write_followers-in-loop-round.new.next.items in
    let message = c.target_message-message.ensures.value ∙ ap (λ (s : Scenario). s.target_message) c.scenario.ensures.value in
    let follow = λ (some : List Pair). filter (is_follower (target_follows c.args.spans.now) some) c.args.pairs.now in
    let sizes : length next ≡ length reached = omega (arith, c.if-len.true, c.len.ensures, c.len-in-loop-round.ensures, c.loop-round.reached.ok.0, c.write_followers-in-loop-round.new.next.ok.0) in
    let whole = stops scenario (tables_in c.args.spans.now) scenario.target_message c.args.group c.requires.goes c.args.pairs.now reached c.loop-round._round c.requires.pairs
    (c.loop-round.invariant.so_far
    ∙ ap (λ (m : ℕ). reached_after (target_follows c.args.spans.now) c.args.pairs.now (pair_of m c.args.group) (suc c.loop-round._round)) message)
    next (c.in_ok-write_followers-2.ensures.value ∙ ap follow c.deref.ensures.value) sizes c.loop-round-test.true in
    omega (arith, whole, c.len-then-len.ensures, c.loop-round.reached.ok.0)

pub loop-round-preserved : goal.loop-round-preserved
loop-round-preserved c =
    let follow = λ (some : List Pair). filter (is_follower (target_follows c.args.spans.now) some) c.args.pairs.now in
    let start : Pair = pair_of c.target_message-message.result c.args.group in
    let next : suc c.loop-round._round ≡ c.loop-round._round + 1 = omega arith in
    record {
      so_far =
          ap (λ v. v.items) c.swap.ensures.x_after
          ∙ c.in_ok-write_followers-2.ensures.value
          ∙ ap follow (c.deref.ensures.value ∙ c.loop-round.invariant.so_far)
          ∙ ap (λ (k : ℕ). follow (reached_after (target_follows c.args.spans.now) c.args.pairs.now start k)) next;
      pairs = subst (λ v. All (IsPair c.args.spans.now.scenario) v.items) (sym c.swap.ensures.x_after) c.in_ok-write_followers-2.ensures.pairs;
    }

pub returns : goal.returns
returns c =
    let scenario : Scenario = c.args.spans.now.scenario in
    let message = c.target_message-message.ensures.value ∙ ap (λ (s : Scenario). s.target_message) c.scenario.ensures.value in
    let last : length c.args.pairs.now ≡ c.loop-round._round = omega (arith, c.loop-round-test.false, c.loop-round.auto._round-end) in
    let whole = ends scenario (tables_in c.args.spans.now) scenario.target_message c.args.group c.requires.goes c.args.pairs.now c.loop-round.reached.items c.loop-round._round c.requires.pairs
    (c.loop-round.invariant.so_far
    ∙ ap (λ (m : ℕ). reached_after (target_follows c.args.spans.now) c.args.pairs.now (pair_of m c.args.group) (suc c.loop-round._round)) message)
    last in
    omega (arith, whole, c.len-2.ensures, c.loop-round.reached.ok.0)
