use Rattle.std.proofs.Common.{◌≡◌, ◌∙◌, ◌==◌, Option, Some, None, Ok, subst, ap, ap₂, sym, inl, vec_len}
use Rattle.std.specs.Prelude.{IfSome}
use Rattle.std.proofs.lemmas.Bool.{ltb-false}
use Rattle.std.proofs.lemmas.List.Elements.{All-push}
use Rattle.std.proofs.lemmas.Result.{err_from_is_err_and}
use Rattle.convoy_certificate.specs.declared.certificate.TheConstants.{MOST_LEADS, MOST_NODES}
use Rattle.convoy_certificate.specs.declared.node.Node.{Node}
use Rattle.convoy_certificate.specs.Reading.{are_too_many, leads_with}
use Rattle.convoy_certificate.proofs.NodeLaws.{neither}
use Rattle.convoy_certificate.specs.Text.{says_time}
use Rattle.convoy_certificate.specs.Certificate.{IsNodeWhere}
use Rattle.convoy_certificate.proofs.Nodes.{node_at, faulty, too_many, goes_on, done, falls, no_node}
use Rattle.convoy_certificate.proofs.reading.read_nodes.Goals as goal

pub returns-in_err-node-clause-value : goal.returns-in_err-node-clause-value
returns-in_err-node-clause-value c =
    let p = err_from_is_err_and c.from_residual.result c.from_residual.ensures.1 in
    rw (p.1, p.2) (inl (faulty c.args.version c.args.time c.loop-nodes.nodes.items _ c.loop-nodes.leads c.loop-nodes.reader _ c.in_err-node.field-0.0 c.in_err-node.ensures.value c.loop-nodes.invariant.so_far))

pub returns-then-are_too_many-clause-value : goal.returns-then-are_too_many-clause-value
returns-then-are_too_many-clause-value c =
    let read : Ok (Some c.in-Some.node, c.read_node.new.reader) ≡ node_at c.args.version c.args.time c.loop-nodes.reader = ap (λ n. Ok (n, c.read_node.new.reader)) (sym c.in-Some.is) ∙ c.in_ok-node.ensures.value in
    let many = ap₂ are_too_many (sym c.len.ensures) (sym c.leads_with-leads.ensures) ∙ sym c.are_too_many.ensures ∙ c.if-are_too_many.true in
    inl (too_many c.args.version c.args.time c.loop-nodes.nodes.items _ c.loop-nodes.leads c.loop-nodes.reader _ c.in-Some.node c.read_node.new.reader read many c.loop-nodes.invariant.so_far)

pub loop-nodes-smaller : goal.loop-nodes-smaller
loop-nodes-smaller c = falls c.args.version c.args.time c.loop-nodes.reader c.read_node.new.reader c.in_ok-node.field-0 c.in_ok-node.ensures.value

pub loop-nodes-preserved : goal.loop-nodes-preserved
loop-nodes-preserved c =
    let read : Ok (Some c.in-Some.node, c.read_node.new.reader) ≡ node_at c.args.version c.args.time c.loop-nodes.reader = ap (λ n. Ok (n, c.read_node.new.reader)) (sym c.in-Some.is) ∙ c.in_ok-node.ensures.value in
    let within = ap₂ are_too_many (sym c.len.ensures) (sym c.leads_with-leads.ensures) ∙ sym c.are_too_many.ensures ∙ c.if-are_too_many.false in
    let next = goes_on c.args.version c.args.time c.loop-nodes.nodes.items _ c.loop-nodes.leads c.loop-nodes.reader _ c.in-Some.node c.read_node.new.reader read within c.loop-nodes.invariant.so_far in
    record {
      so_far = rw (c.push.ensures.items, c.push.ensures.len, ← c.in_ok-map_err.ensures.variant, c.leads_with-leads.ensures) next;
      few = rw c.leads_with-leads.ensures (ltb-false MOST_LEADS (leads_with c.loop-nodes.leads c.in-Some.node) (neither (vec_len c.loop-nodes.nodes == MOST_NODES) _ within).1);
      lawful = rw (c.push.ensures.items, ← c.in_ok-map_err.ensures.variant) (All-push (IsNodeWhere (says_time c.args.version) c.args.time) c.loop-nodes.nodes.items c.in-Some.node c.loop-nodes.invariant.lawful (subst (λ (o : Option Node). IfSome o (IsNodeWhere (says_time c.args.version) c.args.time)) c.in-Some.is c.in_ok-node.ensures.lawful));
    }

pub returns-clause-value : goal.returns-clause-value
returns-clause-value c =
    let read : Ok (None, c.read_node.new.reader) ≡ node_at c.args.version c.args.time c.loop-nodes.reader = ap (λ n. Ok (n, c.read_node.new.reader)) (sym (no_node c.in_ok-node.field-0 c.in_default.not-Some)) ∙ c.in_ok-node.ensures.value in
    inl (done c.args.version c.args.time c.loop-nodes.nodes.items _ c.loop-nodes.leads c.loop-nodes.reader _ c.read_node.new.reader read c.loop-nodes.invariant.so_far)
