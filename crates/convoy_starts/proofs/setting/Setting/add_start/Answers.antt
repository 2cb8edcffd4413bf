use Rattle.std.proofs.Common.{List, ◌≡◌, true, sym, ap, subst, ◌∙◌}
use Rattle.std.proofs.lemmas.Bool.{cond-true}
use Rattle.convoy_sure.specs.Windows.{tables_by}
use Rattle.convoy_starts.specs.Starts.{Start, may_commit, start_of, with_start}
use Rattle.convoy_starts.specs.Mosts.{AreCurrent}
use Rattle.convoy_starts.proofs.MostLaws.{start_at, current_with}
use Rattle.convoy_starts.proofs.setting.Setting.add_start.Goals as goal

pub returns-clause-current : goal.returns-clause-current
returns-clause-current c =
    let scenario = c.args.self.now.scenario.now in
    let tables = tables_by c.args.self.now.windows.now in
    let sure = c.args.self.now.sure.now in
    let bars = c.args.self.now.bars.now in
    let memos = c.start_of-start.new.memos in
    let before : AreCurrent scenario tables.times sure bars c.args.starts.now.items c.args.tick memos =
    subst (λ (ss : List Start). AreCurrent scenario tables.times sure bars ss c.args.tick memos) c.deref.ensures.value c.start_of-start.ensures.current in
    subst (λ (ss : List Start). AreCurrent scenario tables.times sure bars ss c.args.tick memos) (sym c.in_ok-with_start.ensures)
    (current_with scenario tables.times sure bars c.args.starts.now.items c.start_of-start.result c.args.tick memos
    (start_at scenario tables sure c.deref.result.now c.args.tick c.args.pair c.args.self.now.barring c.start_of-start.result c.start_of-start.ensures.value) before)

pub returns-clause-value : goal.returns-clause-value
returns-clause-value c =
    let scenario = c.args.self.now.scenario.now in
    let tables = tables_by c.args.self.now.windows.now in
    let old = c.args.starts.now.items in
    let made = λ (starts : List Start). start_of scenario tables c.args.self.now.sure.now c.args.self.now.barring starts c.args.tick c.args.pair in
    let test : may_commit scenario tables.times c.args.tick c.args.pair ≡ true = sym c.may_commit.ensures ∙ c.if-not-may_commit.false in
    c.in_ok-with_start.ensures
    ∙ ap (λ (s : Start). with_start old s) (c.start_of-start.ensures.value ∙ ap made c.deref.ensures.value)
    ∙ sym (cond-true (may_commit scenario tables.times c.args.tick c.args.pair) (with_start old (made old)) old test)
