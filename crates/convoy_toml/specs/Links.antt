-- The links that a table writes: one from each that sends to each group that they lead to, and perhaps the ways back.
use Rattle.std.specs.Prelude.{ℕ, ◌*◌, nat_le, if◌then◌else◌, Bool, ℤ, List, [], ◌++◌, map, flat_map, filter, length, sum_by, Option, Some, None, option_map, unwrap_or, Result, Ok, Err}
use Rattle.std.specs.List.{list_any}
use Rattle.convoy_draft.specs.declared.fault.Limit.TheVariants.{Link}
use Rattle.convoy_draft.specs.declared.fault.ScenarioFault.{ScenarioFault}
use Rattle.convoy_draft.specs.declared.fault.ScenarioFault.TheVariants.{OverLimit}
use Rattle.convoy_draft.specs.Checks.{leads_elsewhere}
use Rattle.convoy_draft.specs.Draft.{DraftLink}
use Rattle.convoy_toml.specs.declared.links.TheConstants.{MOST_WRITTEN_LINKS}
use Rattle.convoy_toml.specs.Shape.{LinkEnds}

-- the links of a table, with their range in ticks: where they lead, the least and the greatest delay, and whether a group's own stamps go by those from a group to itself, too
pub record Bundle : Type 0 where
  pub ends : LinkEnds
  pub least : ℤ
  pub most : ℤ
  pub stamps : Bool

-- a link with the range of the bundle
abbrev pub link_in : Bundle → Option (List ℕ) → List ℕ → DraftLink
link_in bundle sender to = record { sender = sender; to = to; least = bundle.least; most = bundle.most; stamps = bundle.stamps }

-- links from one sender to each of the groups
abbrev pub links_from : Bundle → Option (List ℕ) → List (List ℕ) → List DraftLink
links_from bundle sender to = map (link_in bundle sender) to

-- links from each of these to each of the groups, sender by sender
abbrev pub links_between : Bundle → List (List ℕ) → List (List ℕ) → List DraftLink
links_between bundle senders to = flat_map (λ sender. links_from bundle (Some sender) to) senders

-- the links of a bundle in order: the ways there, and where both are asked for the ways back; clients that are not named have no ways back
abbrev pub ways_of : Bundle → List DraftLink
ways_of bundle = by_senders bundle.ends.senders where
  by_senders : Option (List (List ℕ)) → List DraftLink
  by_senders None = links_from bundle None bundle.ends.to
  by_senders (Some senders) = links_between bundle senders bundle.ends.to ++ (if bundle.ends.both then links_between bundle bundle.ends.to senders else [])

-- links without those from a group to itself, unless there are no others
abbrev pub apart : List DraftLink → List DraftLink
apart links = if list_any leads_elsewhere links then filter leads_elsewhere links else links

-- the links that a table writes
abbrev pub links_of_bundle : Bundle → List DraftLink
links_of_bundle bundle = apart (ways_of bundle)

-- how many ways a bundle has, those from a group to itself among them
abbrev pub count_of : Bundle → ℕ
count_of bundle = unwrap_or (option_map length bundle.ends.senders) 1 * length bundle.ends.to * (if bundle.ends.both then 2 else 1)

-- the links that all tables write, in order, unless these are too many
abbrev pub links_of_bundles : List Bundle → Result (List DraftLink) ScenarioFault
links_of_bundles bundles =
    if nat_le (sum_by count_of bundles) MOST_WRITTEN_LINKS then Ok (flat_map links_of_bundle bundles) else Err (OverLimit Link)
