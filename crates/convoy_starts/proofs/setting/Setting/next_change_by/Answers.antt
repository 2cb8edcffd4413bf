use Rattle.std.proofs.Common.{◌≡◌, inl, inr, arith}
use Rattle.convoy_sure.specs.Windows.{tables_by}
use Rattle.convoy_starts.specs.Starts.{arrives_by}
use Rattle.convoy_starts.proofs.SteadyStarts.{stamp_for_last, stamp_for_same}
use Rattle.convoy_starts.proofs.setting.Setting.next_change_by.Goals as goal

pub returns-then-last-next-clause-same : goal.returns-then-last-next-clause-same
returns-then-last-next-clause-same c some later x late soon =
    let by : c.arrives_by-by.result ≡ arrives_by (tables_by c.args.self.now.windows.now) c.args.tick c.args.pair.message c.args.pair.group c.args.from = c.arrives_by-by.ensures in
    let firsts = rw c.args.self.now.kind at c.next_start.ensures.first in
    let seconds = rw c.args.self.now.kind at c.next_start.ensures.second in
    stamp_for_same c.args.self.now.scenario.now (tables_by c.args.self.now.windows.now) c.args.self.now.sure.now c.args.pair c.args.starts.now c.args.tick later x c.args.from
    c.min-next.result some late
    (omega (arith, by, c.next_follower.ensures.past, c.next_start.ensures.past, c.min-next.ensures))
    (λ k d l m. let n = c.next_follower.ensures.first k d l (omega (arith, by, m)) in omega (arith, n, c.min-next.ensures))
    (λ k d l same m. let n = firsts k d l same (omega (arith, by, m)) in omega (arith, n, c.min-next.ensures))
    (λ k d l same m. let n = seconds k d l same (omega (arith, by, m)) in omega (arith, n, c.min-next.ensures))
    (inl (omega (arith, c.greatest_arrival-last.ensures.value, c.if-last-next.true)))

pub returns-clause-same : goal.returns-clause-same
returns-clause-same c some later x late soon =
    let by : c.arrives_by-by.result ≡ arrives_by (tables_by c.args.self.now.windows.now) c.args.tick c.args.pair.message c.args.pair.group c.args.from = c.arrives_by-by.ensures in
    let firsts = rw c.args.self.now.kind at c.next_start.ensures.first in
    let seconds = rw c.args.self.now.kind at c.next_start.ensures.second in
    stamp_for_same c.args.self.now.scenario.now (tables_by c.args.self.now.windows.now) c.args.self.now.sure.now c.args.pair c.args.starts.now c.args.tick later x c.args.from
    c.min-next.result some late
    (omega (arith, by, c.next_follower.ensures.past, c.next_start.ensures.past, c.min-next.ensures))
    (λ k d l m. let n = c.next_follower.ensures.first k d l (omega (arith, by, m)) in omega (arith, n, c.min-next.ensures))
    (λ k d l same m. let n = firsts k d l same (omega (arith, by, m)) in omega (arith, n, c.min-next.ensures))
    (λ k d l same m. let n = seconds k d l same (omega (arith, by, m)) in omega (arith, n, c.min-next.ensures))
    (inr (omega (arith, soon, c.saturating_add.ensures, c.max.ensures, c.least_proposal.ensures.value)))

pub returns-then-last-by-clause-same : goal.returns-then-last-by-clause-same
returns-then-last-by-clause-same c some later x late soon =
    stamp_for_last c.args.self.now.scenario.now (tables_by c.args.self.now.windows.now) c.args.self.now.sure.now c.args.pair c.args.starts.now c.args.tick later x c.args.from some late
    (omega (arith, c.greatest_arrival-last.ensures.value, c.arrives_by-by.ensures, c.if-last-by.true))
