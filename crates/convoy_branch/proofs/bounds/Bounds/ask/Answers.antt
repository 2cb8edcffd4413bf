use Rattle.std.proofs.Common.{sym, ◌∙◌}
use Rattle.std.proofs.lemmas.Result.{IfOk-weaker}
use Rattle.convoy_branch.specs.Asked.{IsAsked}
use Rattle.convoy_branch.specs.FromIssue.{IsAskedFromIssue}
use Rattle.convoy_branch.proofs.Origins.{asked_of, wide_of}
use Rattle.convoy_branch.proofs.bounds.Bounds.ask.Goals as goal

pub returns-in-None : goal.returns-in-None
returns-in-None c =
    let bounds = c.args.self in
    let plan = c.args.origin.now in
    let region = c.args.branch.now.region in
    let latency = c.args.latency in
    IfOk-weaker c.ask_from_issue.result (IsAskedFromIssue bounds c.instance.result.now region latency) (IsAsked bounds plan region latency)
    (λ asked is. asked_of bounds plan c.instance.result.now region region latency asked (c.is_its_own.ensures.scenario ∙ sym c.instance.ensures.value) c.is_its_own.ensures.region is) c.ask_from_issue.ensures

pub returns-in_ok-wide-in-Some : goal.returns-in_ok-wide-in-Some
returns-in_ok-wide-in-Some c =
    let bounds = c.args.self in
    let plan = c.args.origin.now in
    let region = c.args.branch.now.region in
    let latency = c.args.latency in
    let moved = c.in-Some.moved.now in
    let wide = c.in_ok-wide-in-Some.wide in
    IfOk-weaker c.ask_from_issue-in-Some.result (IsAskedFromIssue bounds moved wide.region latency) (IsAsked bounds plan region latency)
    (λ asked is. asked_of bounds plan moved region wide.region latency asked (sym c.in-Some.ensures.some) (wide_of plan region wide c.in_ok-wide-in-Some.ensures) is) c.ask_from_issue-in-Some.ensures
