use Rattle.std.proofs.Common.{◌∙◌, ap, sym, eq-eqb, arith}
use Rattle.std.proofs.lemmas.Bool.{ne_eqb}
use Rattle.std.proofs.lemmas.Result.{err_from_is_err_and}
use Rattle.convoy_scenario_lines.specs.LineReading.{messages_at}
use Rattle.convoy_scenario_lines.proofs.Messages.{with_front, faulty, too_many, goes_on, done}
use Rattle.convoy_scenario_lines.proofs.scenario_lines.read_multicasts.Goals as goal

pub returns-in_err-multicast : goal.returns-in_err-multicast
returns-in_err-multicast c =
    let due = sym c.is_multicast_due.ensures ∙ c.loop-alloc-test.true in
    let so_far = ap (λ n. with_front c.args.groups.now c.loop-alloc.multicasts.items (messages_at c.args.version n c.loop-alloc.reader)) c.len.ensures ∙ c.loop-alloc.invariant in
    let p = err_from_is_err_and c.from_residual.result c.from_residual.ensures.1 in
    rw (p.1, p.2) (faulty c.args.version c.args.groups.now c.loop-alloc.multicasts.items c.len.result c.loop-alloc.reader _ _ due c.in_err-multicast.ensures so_far)

pub returns-then-len-eq-MOST_MULTICASTS : goal.returns-then-len-eq-MOST_MULTICASTS
returns-then-len-eq-MOST_MULTICASTS c =
    let due = sym c.is_multicast_due.ensures ∙ c.loop-alloc-test.true in
    let so_far = ap (λ n. with_front c.args.groups.now c.loop-alloc.multicasts.items (messages_at c.args.version n c.loop-alloc.reader)) c.len.ensures ∙ c.loop-alloc.invariant in
    too_many c.args.version c.args.groups.now c.loop-alloc.multicasts.items c.len.result c.loop-alloc.reader _ _ due c.in_ok-multicast.ensures (eq-eqb c.len.result 16 (omega arith)) so_far

pub loop-alloc-preserved : goal.loop-alloc-preserved
loop-alloc-preserved c =
    let due = sym c.is_multicast_due.ensures ∙ c.loop-alloc-test.true in
    let so_far = ap (λ n. with_front c.args.groups.now c.loop-alloc.multicasts.items (messages_at c.args.version n c.loop-alloc.reader)) c.len.ensures ∙ c.loop-alloc.invariant in
    let next = goes_on c.args.version c.args.groups.now c.loop-alloc.multicasts.items c.len.result c.loop-alloc.reader _ _ due c.in_ok-multicast.ensures (ne_eqb c.len.result 16 (λ e. c.if-len-eq-MOST_MULTICASTS.false (omega arith))) so_far in
    rw (c.push.ensures.items, c.push.ensures.len, ← c.in_ok-map_err.ensures.variant, ← c.len.ensures) next

pub returns : goal.returns
returns c =
    let due = sym c.is_multicast_due.ensures ∙ c.loop-alloc-test.false in
    let so_far = ap (λ n. with_front c.args.groups.now c.loop-alloc.multicasts.items (messages_at c.args.version n c.loop-alloc.reader)) c.len.ensures ∙ c.loop-alloc.invariant in
    done c.args.version c.args.groups.now c.loop-alloc.multicasts.items c.len.result c.loop-alloc.reader _ due so_far
