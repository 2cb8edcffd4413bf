use Rattle.convoy_workflow_replies.proofs.OfOthers.{others_against, yes_against}
use Rattle.convoy_workflow_replies.proofs.checking.check_of_other.Goals as goal

pub returns-in_ok-differs_line-in-Fine : goal.returns-in_ok-differs_line-in-Fine
returns-in_ok-differs_line-in-Fine c =
    yes_against c.args.part c.args.limit c.args.text.now _ _ (rw c.in-Fine.is at c.in_ok-answer.ensures) c.in_ok-differs_line-in-Fine.ensures

pub returns-in_default : goal.returns-in_default
returns-in_default c =
    others_against c.args.part c.args.limit c.args.text.now _ _ c.in_default.not-Fine c.in_ok-answer.ensures
