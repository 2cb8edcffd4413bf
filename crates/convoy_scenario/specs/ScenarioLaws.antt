-- What is proved of drafts and of scenarios. Each is the one clause of the function of its name in the crate's module `scenario_laws`.
use Rattle.std.specs.Prelude.{◌≡◌, ℕ, ◌<◌, ◌≤◌, false, List, [], length, slice_index_or, None, Ok, IsTrue}
use Rattle.std.specs.List.{AllByRecursion, IsDistinct}
use Rattle.std.specs.Str.{bytes_eq}
use Rattle.convoy_draft.specs.declared.limits.TheConstants.{MOST_LINKS}
use Rattle.convoy_draft.specs.Checks.{Check, all_differ, is_among, judge}
use Rattle.convoy_draft.specs.Draft.{Draft}
use Rattle.convoy_scenario.specs.Naming.{draft_for}
use Rattle.convoy_scenario.specs.Numbering.{in_order, links_of_draft, place, scenario_of_draft}
use Rattle.convoy_scenario.specs.declared.sender.Sender.{Sender}
use Rattle.convoy_scenario.specs.Scenario.{HaveSameHomes, Link, Scenario, TakeTimeAlike, group_name_at, message_at, range_between}
use Rattle.convoy_scenario.specs.WellFormed.{IsScenario, ascend_after, is_whole}

-- what is made of a draft is a well-formed scenario
abbrev pub DraftsGiveScenarios : Type 0
DraftsGiveScenarios = (draft : Draft) (scenario : Scenario) → scenario_of_draft draft ≡ Ok scenario → IsScenario scenario

-- each well-formed scenario is made of its draft
abbrev pub ScenariosHaveDrafts : Type 0
ScenariosHaveDrafts = (scenario : Scenario) → IsScenario scenario → scenario_of_draft (draft_for scenario) ≡ Ok scenario

-- the links of a well-formed scenario are those of its draft, all of them and in their order
abbrev pub LinksHaveDrafts : Type 0
LinksHaveDrafts = (scenario : Scenario) → IsScenario scenario → links_of_draft (draft_for scenario) ≡ scenario.links

-- the target's group is a group
abbrev pub TargetsAreGroups : Type 0
TargetsAreGroups = (scenario : Scenario) → IsScenario scenario → scenario.target_group < length scenario.groups

-- a well-formed scenario has no more links than there are pairs of a sender and a group
abbrev pub LinksAreFew : Type 0
LinksAreFew = (scenario : Scenario) → IsScenario scenario → length scenario.links ≤ MOST_LINKS

-- where no rule of a list has a fault, each of them holds
abbrev pub JudgedRulesHold : Type 0
JudgedRulesHold = (rules : List Check) → judge rules ≡ Ok tt → AllByRecursion (λ rule. IsTrue rule.0) rules

-- names of which no two are the same are distinct
abbrev pub DifferentNamesAreDistinct : Type 0
DifferentNamesAreDistinct = (names : List (List ℕ)) → IsTrue (all_differ names) → IsDistinct bytes_eq names

-- a name that is among others stands at its place
abbrev pub NamesHavePlaces : Type 0
NamesHavePlaces = (name : List ℕ) (names : List (List ℕ)) → IsTrue (is_among name names) → slice_index_or names (place name names) [] ≡ name

-- the target of what is made of a draft has the names that are written there
pub record IsNamedTarget (draft : Draft) (scenario : Scenario) : Type 0 where
  pub message : (message_at scenario scenario.target_message).name ≡ draft.target_message
  pub group : group_name_at scenario scenario.target_group ≡ draft.target_group

abbrev pub TargetsAreNamed : Type 0
TargetsAreNamed = (draft : Draft) (scenario : Scenario) → scenario_of_draft draft ≡ Ok scenario → IsNamedTarget draft scenario

-- links that ascend, of which none leads to another place with the whole range, stay as they are
abbrev pub OrderedLinksStay : Type 0
OrderedLinksStay =
    (delay : ℕ) (links : List Link) → IsTrue (ascend_after None links) → AllByRecursion (λ link. is_whole delay link ≡ false) links → in_order delay links ≡ links

-- the range between two places is that of the link that is written between them, and 1 to D where none is: putting links in order and leaving out those that have the whole range changes none
abbrev pub OrderKeepsRanges : Type 0
OrderKeepsRanges =
    (draft : Draft) (scenario : Scenario) (sender : Sender) (to : ℕ) → scenario_of_draft draft ≡ Ok scenario
    → range_between scenario sender to ≡ range_between (record scenario { links = links_of_draft draft }) sender to

-- .. nor does it change what takes time: a link from a group to itself is never left out
abbrev pub OrderKeepsWhatTakesTime : Type 0
OrderKeepsWhatTakesTime =
    (draft : Draft) (scenario : Scenario) → scenario_of_draft draft ≡ Ok scenario
    → TakeTimeAlike (record scenario { links = links_of_draft draft }) scenario

-- What a place sends to another one takes time; so two scenarios in which the same groups have links to themselves agree in what takes time.
abbrev pub HomesDecideWhatTakesTime : Type 0
HomesDecideWhatTakesTime = (scenario other : Scenario) → HaveSameHomes scenario other → TakeTimeAlike scenario other
