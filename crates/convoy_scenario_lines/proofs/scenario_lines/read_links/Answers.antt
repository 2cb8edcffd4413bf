use Rattle.std.proofs.Common.{◌∙◌, ap, sym, vec_len, eq-eqb, arith}
use Rattle.std.proofs.lemmas.Bool.{ne_eqb}
use Rattle.std.proofs.lemmas.Result.{err_from_is_err_and}
use Rattle.convoy_draft.specs.declared.limits.TheConstants.{MOST_LINKS}
use Rattle.convoy_scenario_lines.specs.LineReading.{links_at}
use Rattle.convoy_scenario_lines.proofs.Links.{with_front, faulty, too_many, goes_on, done}
use Rattle.convoy_scenario_lines.proofs.scenario_lines.read_links.Goals as goal

pub returns-in_err-link : goal.returns-in_err-link
returns-in_err-link c =
    let due = sym c.is_link_due.ensures ∙ c.loop-alloc-test.true in
    let p = err_from_is_err_and c.from_residual.result c.from_residual.ensures.1 in
    rw (p.1, p.2) (faulty c.loop-alloc.links.items c.args.version (vec_len c.loop-alloc.links) c.loop-alloc.reader _ _ due c.in_err-link.ensures c.loop-alloc.invariant)

pub returns-then-len-eq-MOST_LINKS : goal.returns-then-len-eq-MOST_LINKS
returns-then-len-eq-MOST_LINKS c =
    let due = sym c.is_link_due.ensures ∙ c.loop-alloc-test.true in
    let so_far = ap (λ n. with_front c.loop-alloc.links.items (links_at c.args.version n c.loop-alloc.reader)) c.len.ensures ∙ c.loop-alloc.invariant in
    too_many c.loop-alloc.links.items c.args.version c.len.result c.loop-alloc.reader _ _ due c.in_ok-link.ensures (eq-eqb c.len.result MOST_LINKS (omega arith)) so_far

pub loop-alloc-preserved : goal.loop-alloc-preserved
loop-alloc-preserved c =
    let due = sym c.is_link_due.ensures ∙ c.loop-alloc-test.true in
    let so_far = ap (λ n. with_front c.loop-alloc.links.items (links_at c.args.version n c.loop-alloc.reader)) c.len.ensures ∙ c.loop-alloc.invariant in
    let next = goes_on c.loop-alloc.links.items c.args.version c.len.result c.loop-alloc.reader _ _ due c.in_ok-link.ensures (ne_eqb c.len.result MOST_LINKS (λ e. c.if-len-eq-MOST_LINKS.false (omega arith))) so_far in
    rw (c.push.ensures.items, c.push.ensures.len, ← c.in_ok-map_err.ensures.variant, ← c.len.ensures) next

pub returns : goal.returns
returns c =
    let due = sym c.is_link_due.ensures ∙ c.loop-alloc-test.false in
    done c.loop-alloc.links.items c.args.version (vec_len c.loop-alloc.links) c.loop-alloc.reader _ due c.loop-alloc.invariant
