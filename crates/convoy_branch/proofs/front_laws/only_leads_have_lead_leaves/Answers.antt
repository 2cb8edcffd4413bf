use Rattle.convoy_branch.proofs.FrontTrees.{no_leads-whole}
use Rattle.convoy_branch.proofs.front_laws.only_leads_have_lead_leaves.Goals as goal

pub returns : goal.returns
returns c bounds scenario best nodes other none fronts = no_leads-whole bounds scenario best nodes other none fronts
