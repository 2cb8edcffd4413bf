use Rattle.convoy_branch.proofs.SplitNodes.{All-turn}
use Rattle.convoy_branch.proofs.front_laws.turns_are_nodes.Goals as goal

pub returns : goal.returns
returns c bounds scenario best branch turn table lawful is = All-turn bounds scenario best branch turn table lawful is
