use Rattle.convoy_plans.proofs.OfMessages.{messages_of_plans}
use Rattle.convoy_plans.proofs.plan_laws.messages_are_of_plans.Goals as goal

pub returns : goal.returns
returns c = messages_of_plans
