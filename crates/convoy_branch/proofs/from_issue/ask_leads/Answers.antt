use Rattle.std.proofs.Common.{◌≡◌, ◌∙◌, Bool, None, IfOk, IfSome, subst, sym}
use Rattle.std.proofs.lemmas.Result.{IfOk-weaker}
use Rattle.convoy_leads.specs.Openings.{IsOpening}
use Rattle.convoy_narrowing.specs.Narrowing.{closes_region}
use Rattle.convoy_branch.specs.FromIssue.{IsLeftFromIssue}
use Rattle.convoy_branch.specs.declared.asked.Asked.{Asked}
use Rattle.convoy_branch.proofs.RegionTests.{as_narrowed, box_shown, has_none, lead_leaf, leaf_by_none, leaf_closed, left_by_none}
use Rattle.convoy_branch.proofs.from_issue.ask_leads.Goals as goal

pub returns-then-is_closed-clause-leaf : goal.returns-then-is_closed-clause-leaf
returns-then-is_closed-clause-leaf c =
    let plan = c.args.instance.now in
    let region = c.args.branch.now.region in
    let shows = box_shown plan region c.delay_box.result.now c.in_ok-test.test c.in_ok-shown.shown c.args.latency c.is_closed.result c.in_ok-test.ensures c.delay_box.ensures.value c.in_ok-shown.ensures.closed c.is_closed.ensures in
    leaf_closed plan region c.args.latency c.closed.result (shows ∙ c.if-is_closed.true) c.closed.ensures

pub returns-then-is_empty-clause-leaf : goal.returns-then-is_empty-clause-leaf
returns-then-is_empty-clause-leaf c =
    let plan = c.args.instance.now in
    let region = c.args.branch.now.region in
    let latency = c.args.latency in
    let shows = box_shown plan region c.delay_box.result.now c.in_ok-test.test c.in_ok-shown.shown latency c.is_closed.result c.in_ok-test.ensures c.delay_box.ensures.value c.in_ok-shown.ensures.closed c.is_closed.ensures in
    let none = has_none region c.before-2.result.now c.is_empty.result c.before-2.ensures.value c.is_empty.ensures c.if-is_empty.true in
    IfOk-weaker c.left_open.result (λ (asked : Asked). asked.leaf ≡ None) (λ (asked : Asked). asked.leaf ≡ lead_leaf (closes_region plan region latency) latency)
    (λ asked is. leaf_by_none plan region latency asked none (shows ∙ c.if-is_closed.false) is) c.left_open.ensures.leaf

pub returns-then-is_empty-clause-left : goal.returns-then-is_empty-clause-left
returns-then-is_empty-clause-left c =
    let plan = c.args.instance.now in
    let region = c.args.branch.now.region in
    let none = has_none region c.before-2.result.now c.is_empty.result c.before-2.ensures.value c.is_empty.ensures c.if-is_empty.true in
    IfOk-weaker c.left_open.result (λ (asked : Asked). IfSome asked.left (λ left. (left.value.test ≡ c.in_ok-test.test) × IfSome left.value.opening (IsOpening c.in_ok-test.test.scenario))) (λ (asked : Asked). IfSome asked.left (λ left. IsLeftFromIssue plan region left.value))
    (λ asked is. left_by_none plan region c.delay_box.result.now c.in_ok-test.test asked none c.in_ok-test.ensures c.delay_box.ensures.value is) c.left_open.ensures.left

pub returns-clause-leaf : goal.returns-clause-leaf
returns-clause-leaf c =
    let plan = c.args.instance.now in
    let region = c.args.branch.now.region in
    let latency = c.args.latency in
    let shows = box_shown plan region c.delay_box.result.now c.in_ok-test.test c.in_ok-shown.shown latency c.is_closed.result c.in_ok-test.ensures c.delay_box.ensures.value c.in_ok-shown.ensures.closed c.is_closed.ensures in
    subst (λ (closed : Bool). IfOk c.ask_narrowed.result (λ (asked : Asked). asked.leaf ≡ lead_leaf closed latency)) (sym (as_narrowed plan region latency (shows ∙ c.if-is_closed.false))) c.ask_narrowed.ensures.leaf
