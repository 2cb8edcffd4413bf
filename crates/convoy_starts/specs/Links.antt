-- Chains of links: how the stamp of a message at a group may come to be as great as leads say. A search goes by them where it splits a box; no promise rests on them.
use Rattle.std.specs.Prelude.{◌<◌, length, All, IfSome}
use Rattle.convoy_draft.specs.declared.limits.TheConstants.{MOST_GROUPS}
use Rattle.convoy_scenario.specs.Scenario.{Scenario}
use Rattle.convoy_starts.specs.declared.chain.Link.{Link}

-- a link speaks of messages of the scenario, and of a group that there may be
pub record IsLink (scenario : Scenario) (link : Link) : Type 0 where
  pub message : link.message < length scenario.multicasts
  pub group : link.group < MOST_GROUPS
  pub commit : IfSome link.commit (λ commit. commit.message < length scenario.multicasts)
  pub others : All (λ z. z < length scenario.multicasts) link.others
