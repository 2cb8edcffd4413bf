use Rattle.std.proofs.Common.{sym, ◌∙◌}
use Rattle.std.proofs.lemmas.Result.{IfOk-weaker}
use Rattle.convoy_branch.specs.Uppers.{IsRaised}
use Rattle.convoy_branch.specs.FromIssue.{IsRaisedFromIssue}
use Rattle.convoy_branch.proofs.Origins.{raised_of, wide_of}
use Rattle.convoy_branch.proofs.bounds.Bounds.raised.Goals as goal

pub returns-in-None : goal.returns-in-None
returns-in-None c =
    let bounds = c.args.self in
    let plan = c.args.origin.now in
    let region = c.args.branch.now.region in
    let upper = c.args.upper in
    IfOk-weaker c.raised_from_issue.result (IsRaisedFromIssue bounds c.instance.result.now region upper) (IsRaised bounds plan region upper)
    (λ raised is. raised_of bounds plan c.instance.result.now region region upper raised (c.is_its_own.ensures.scenario ∙ sym c.instance.ensures.value) c.is_its_own.ensures.region is) c.raised_from_issue.ensures

pub returns-in_ok-wide-in-Some : goal.returns-in_ok-wide-in-Some
returns-in_ok-wide-in-Some c =
    let bounds = c.args.self in
    let plan = c.args.origin.now in
    let region = c.args.branch.now.region in
    let upper = c.args.upper in
    let moved = c.in-Some.moved.now in
    let wide = c.in_ok-wide-in-Some.wide in
    IfOk-weaker c.raised_from_issue-in-Some.result (IsRaisedFromIssue bounds moved wide.region upper) (IsRaised bounds plan region upper)
    (λ raised is. raised_of bounds plan moved region wide.region upper raised (sym c.in-Some.ensures.some) (wide_of plan region wide c.in_ok-wide-in-Some.ensures) is) c.raised_from_issue-in-Some.ensures
