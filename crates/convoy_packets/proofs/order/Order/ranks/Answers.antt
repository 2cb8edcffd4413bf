use Rattle.std.proofs.Common.{◌≡◌, ◌+◌, List, ◌++◌, [], ◌∷◌, drop, sym, ap, ap₂, ◌∙◌, append_assoc}
use Rattle.std.proofs.lemmas.List.{append-nil}
use Rattle.convoy_packets.specs.OrderLists.{marks_of, ranks_at}
use Rattle.convoy_packets.proofs.OrderLists.{listed_more, listed_skipped, marks_over}
use Rattle.convoy_packets.proofs.order.Order.ranks.Goals.{then-has_moments+in_ok-push+in_ok-push-2, else-has_moments}
use Rattle.convoy_packets.proofs.order.Order.ranks.Goals as goal

pushed_two : {X : Type 0} (old once twice : List X) (x y : X) (rest all : List X) → once ≡ old ++ x ∷ [] → twice ≡ once ++ y ∷ [] → old ++ (x ∷ y ∷ rest) ≡ all → twice ++ rest ≡ all
pushed_two old once twice x y rest all e f whole = rw (f, e) (simp append_assoc whole)

pub loop-place-preserved : goal.loop-place-preserved
loop-place-preserved c =
    let plan = c.args.scenario.now in
    let l = c.loop-place in
    let arrivals = c.arrivals-arrivals in
    let commits = c.commits-commits in
    let left = ranks_at (drop (l.place + 1) (marks_of plan)) (drop (l.place + 1) arrivals.result.now) (drop (l.place + 1) commits.result.now) in
    let all = ranks_at (marks_of plan) arrivals.result.now commits.result.now in
    elim c.if-has_moments.branch [
      | then-has_moments+in_ok-push+in_ok-push-2 w ↦
          let more = listed_more plan arrivals.result.now commits.result.now l.place arrivals.ensures.long commits.ensures.long c.loop-place-test.true (sym (w.if-has_moments.ensures)) in
          let here : l.ranks.items ++ (w.from.result ∷ w.from-then-has_moments.result ∷ left) ≡ all = rw (w.from.ensures, w.from-then-has_moments.ensures, ← more) l.invariant in
          rw w.ranks-is (pushed_two l.ranks.items _ _ _ _ left all w.in_ok-push.ensures.items w.in_ok-push-2.ensures.items here)
      | else-has_moments w ↦
          let same = listed_skipped plan arrivals.result.now commits.result.now l.place arrivals.ensures.long commits.ensures.long c.loop-place-test.true (sym (w.if-has_moments.ensures)) in
          rw (w.ranks-is, ← same) l.invariant
    ]

pub returns : goal.returns
returns c =
    let l = c.loop-place in
    let over = marks_over c.args.scenario.now l.place c.loop-place-test.false in
    sym (append-nil l.ranks.items) ∙ sym (ap (λ marks. l.ranks.items ++ ranks_at marks (drop l.place c.arrivals-arrivals.result.now) (drop l.place c.commits-commits.result.now)) over)
    ∙ l.invariant ∙ ap₂ (ranks_at (marks_of c.args.scenario.now)) c.arrivals-arrivals.ensures.value c.commits-commits.ensures.value
