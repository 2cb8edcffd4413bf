-- One draft with two choices of D and of links, of which one gives no wider ranges than the other.
use Rattle.std.specs.Prelude.{◌≡◌, ℕ, ℤ, ◌≤◌, List, Ok}
use Rattle.std.specs.List.{AllZip}
use Rattle.convoy_draft.specs.declared.limits.TheConstants.{GREATEST_DELAY}
use Rattle.convoy_draft.specs.Checks.{ticks}
use Rattle.convoy_draft.specs.Draft.{Draft, DraftLink}
use Rattle.convoy_scenario.specs.Scenario.{Scenario}
use Rattle.convoy_scenario.specs.Numbering.{scenario_of_draft}
use Rattle.convoy_orders.specs.GreatestAt.{IsUpperAt}
use Rattle.convoy_orders.specs.NarrowerRanges.{IsWithinRange}

-- the draft with another D and other links
abbrev pub relinked : ℤ → List DraftLink → Draft → Draft
relinked delay links draft = record draft { delay = delay; links = links }

-- the least and the greatest delay of a link as it is written
abbrev pub written_range : DraftLink → ℕ × ℕ
written_range link = (ticks GREATEST_DELAY link.least, ticks GREATEST_DELAY link.most)

-- the second link leads from where the first does to where it does, for stamps if the first is, with a range that lies within that of the first
pub record IsNarrowerLink (link narrow : DraftLink) : Type 0 where
  pub sender : narrow.sender ≡ link.sender
  pub to : narrow.to ≡ link.to
  pub stamps : narrow.stamps ≡ link.stamps
  pub range : IsWithinRange (written_range narrow) (written_range link)

-- A latency that a message of a draft never exceeds at a group is not exceeded with narrower links and no greater D.
abbrev pub NarrowerLinksAreNoSlower : Type 0
NarrowerLinksAreNoSlower =
    (draft : Draft) (delay : ℤ) (links : List DraftLink) (scenario narrow : Scenario) (m g latency : ℕ)
    → scenario_of_draft draft ≡ Ok scenario → scenario_of_draft (relinked delay links draft) ≡ Ok narrow
    → narrow.delay ≤ scenario.delay → AllZip IsNarrowerLink draft.links links
    → IsUpperAt scenario m g latency
    → IsUpperAt narrow m g latency
