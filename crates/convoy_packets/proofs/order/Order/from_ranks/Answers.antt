use Rattle.std.proofs.Common.{◌≡◌, ◌≤◌, ◌<◌, rules, length, drop, inl, inr, sym, ◌∙◌, ap, refl}
use Rattle.std.proofs.lemmas.List.Elements.{All-drop}
use Rattle.convoy_packets.specs.declared.order.TheConstants.{GREATEST_RANK}
use Rattle.convoy_packets.proofs.OrderLists.{past_two, unwritten, written_after, unwritten_after, placed_two, placed_skipped, placed_over, list_is_order}
use Rattle.convoy_packets.proofs.order.Order.from_ranks.Goals.{then-has_moments+in-len2-up, else-has_moments, else-has_moments-via-else-has_moments, else-has_moments-via-then-has_moments+then-rest-lt2}
use Rattle.convoy_packets.proofs.order.Order.from_ranks.Goals as goal

pub loop-place-init : goal.loop-place-init
loop-place-init c = record { so_far = refl; arrivals = unwritten; commits = unwritten; small = c.requires }

pub loop-place-preserved : goal.loop-place-preserved
loop-place-preserved c =
    let plan = c.args.scenario.now in
    let l = c.loop-place in
    let before = l.invariant in
    elim c.if-has_moments.branch [
      | then-has_moments+in-len2-up w ↦
          let more : c.if-has_moments.rest.now ≡ drop 2 l.rest.now = ap (λ b. b.now) w.rest-is ∙ past_two l.rest.now in
          let marked = sym (w.if-has_moments.ensures) in
          rw (w.arrivals-is, w.commits-is, more)
          (record {
            so_far = placed_two plan l.place l.arrivals l.commits l.rest.now before.arrivals before.commits c.loop-place-test.true marked w.in-len2-up.len_at_least ∙ before.so_far;
            arrivals = written_after l.place l.arrivals _ before.arrivals;
            commits = written_after l.place l.commits _ before.commits;
            small = All-drop (λ rank. rank ≤ GREATEST_RANK) 2 l.rest.now before.small;
          })
      | else-has_moments w ↦
          let same : c.if-has_moments.rest.now ≡ l.rest.now = ap (λ b. b.now) w.rest-is in
          elim w.else-has_moments.branch [
            | else-has_moments-via-else-has_moments v ↦
                let unmarked = sym (v.if-has_moments.ensures) in
                rw (w.arrivals-is, w.commits-is, same)
                (record {
                  so_far = placed_skipped plan l.place l.arrivals l.commits l.rest.now before.arrivals before.commits c.loop-place-test.true (inl unmarked) ∙ before.so_far;
                  arrivals = unwritten_after l.place l.arrivals before.arrivals;
                  commits = unwritten_after l.place l.commits before.commits;
                  small = before.small;
                })
            | else-has_moments-via-then-has_moments+then-rest-lt2 v ↦
                rw (w.arrivals-is, w.commits-is, same)
                (record {
                  so_far = placed_skipped plan l.place l.arrivals l.commits l.rest.now before.arrivals before.commits c.loop-place-test.true (let short : length l.rest.now < 2 = search rules in inr short) ∙ before.so_far;
                  arrivals = unwritten_after l.place l.arrivals before.arrivals;
                  commits = unwritten_after l.place l.commits before.commits;
                  small = before.small;
                })
          ]
    ]

pub returns-clause-value : goal.returns-clause-value
returns-clause-value c =
    let l = c.loop-place in
    c.of_tables.ensures ∙ placed_over c.args.scenario.now l.place l.arrivals l.commits l.rest.now l.invariant.arrivals l.invariant.commits c.loop-place-test.false ∙ l.invariant.so_far

pub returns-clause-lawful : goal.returns-clause-lawful
returns-clause-lawful c real =
    let l = c.loop-place in
    let value = c.of_tables.ensures ∙ placed_over c.args.scenario.now l.place l.arrivals l.commits l.rest.now l.invariant.arrivals l.invariant.commits c.loop-place-test.false ∙ l.invariant.so_far in
    rw value (list_is_order c.args.scenario.now c.args.ranks.now real c.requires)
