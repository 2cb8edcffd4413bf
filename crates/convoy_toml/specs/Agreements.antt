-- What the replicas of groups need to agree, as ranges of links: each link to such a group takes so much longer, and what the group sends to itself takes just that.
use Rattle.std.specs.Prelude.{ℕ, ◌+◌, ℤ, pos, int_le, Bool, true, false, ◌&&◌, if◌then◌else◌, List, [], ◌∷◌, ◌++◌, map, flat_map, find, Option, Some, None, Result, Ok}
use Rattle.std.specs.List.{list_all}
use Rattle.convoy_lines.specs.Results.{◌>>=◌}
use Rattle.convoy_draft.specs.declared.fault.Limit.TheVariants.{Agree, Delay, Link}
use Rattle.convoy_draft.specs.declared.fault.ScenarioFault.{ScenarioFault}
use Rattle.convoy_draft.specs.declared.fault.ScenarioFault.TheVariants.{OverLimit}
use Rattle.convoy_draft.specs.declared.limits.TheConstants.{GREATEST_DELAY}
use Rattle.convoy_draft.specs.declared.time.Time.{Time}
use Rattle.convoy_draft.specs.declared.time.Time.TheVariants.{Ticks, Real}
use Rattle.convoy_draft.specs.Checks.{Check, has_range, is_among, is_within, judge, leads_elsewhere, ticks}
use Rattle.convoy_draft.specs.Draft.{Draft, DraftLink}
use Rattle.convoy_draft.specs.Limits.{greatest_delay}
use Rattle.convoy_toml.specs.Ways.{link_along, ways_without_link, with_least}

-- what the replicas of groups need to agree, in ticks: the groups, the least and the greatest time from an entry given to the leader until it is applied there, and whether they agree twice
pub record Agreement : Type 0 where
  pub groups : List (List ℕ)
  pub least : ℤ
  pub most : ℤ
  pub twice : Bool

-- ---- ranges for what goes by no link

-- the least delay of what goes by no link: in whole ticks 1, in real time what is written, if anything is
abbrev pub least_of_rest : Time → Option ℤ → Option ℤ
least_of_rest Ticks least = Some (pos 1)
least_of_rest Real least = least

-- the draft, with a link for each way on which something goes without one, where their least delay is known
abbrev pub filled_by : Option ℤ → Draft → Draft
filled_by None draft = draft
filled_by (Some least) draft = record draft { links = draft.links ++ map (link_along least draft.delay) (ways_without_link draft) }

abbrev pub filled : Option ℤ → Draft → Draft
filled least draft = filled_by (least_of_rest draft.time least) draft

-- ---- what is added to ranges

-- the agreement of a group: the first that names it
abbrev pub agreement_at : List Agreement → List ℕ → Option Agreement
agreement_at agreements group = find (λ agreement. is_among group agreement.groups) agreements

-- a delay within its limits and another one, together
abbrev pub together : ℤ → ℤ → ℤ
together delay other = pos (ticks GREATEST_DELAY delay + ticks GREATEST_DELAY other)

-- the link, with what an agreement takes added to its range
abbrev pub lengthened_by : Option Agreement → DraftLink → DraftLink
lengthened_by None link = link
lengthened_by (Some agreement) link = record link { least = together link.least agreement.least; most = together link.most agreement.most }

-- the link, with that of the group that it leads to, unless it leads there from the group itself
abbrev pub lengthened : List Agreement → DraftLink → DraftLink
lengthened agreements link = if leads_elsewhere link then lengthened_by (agreement_at agreements link.to) link else link

-- the link of a group to itself, by which what it sends to itself takes what the agreement does, and where it agrees twice its own stamps do, too
abbrev pub home_link : Agreement → List ℕ → DraftLink
home_link agreement group = record { sender = Some group; to = group; least = agreement.least; most = agreement.most; stamps = agreement.twice }

-- one for each group that has an agreement
abbrev pub home_links : List Agreement → List DraftLink
home_links agreements = flat_map (λ agreement. map (home_link agreement) agreement.groups) agreements

-- the links, with what agreements add
abbrev pub agreed_links : List Agreement → List DraftLink → List DraftLink
agreed_links agreements links = map (lengthened agreements) links ++ home_links agreements

-- a delay, or the greatest of all links if that is more
abbrev pub greatest_of : ℤ → List DraftLink → ℤ
greatest_of so_far [] = so_far
greatest_of so_far (link ∷ links) = greatest_of (if int_le so_far link.most then link.most else so_far) links

-- the draft, with what agreements add to its links, and D no less than they have
abbrev pub agreed : List Agreement → Draft → Draft
agreed agreements draft = record draft {
  links = agreed_links agreements draft.links;
  delay = greatest_of draft.delay (agreed_links agreements draft.links);
}

-- ---- the rules

-- the agreement has a range, of 1 tick or more
abbrev pub is_agreement : Agreement → Bool
is_agreement agreement = int_le (pos 1) agreement.least && int_le agreement.least agreement.most

-- the greatest time of the agreement is none above the greatest delay that a packet may have
abbrev pub is_short : Time → Agreement → Bool
is_short time agreement = int_le agreement.most (pos (greatest_delay time))

-- the rules for a draft in which replicas agree: D and each link are within their limits without them, and each agreement has a range that a link may have
abbrev pub agreement_checks : List Agreement → Draft → List Check
agreement_checks agreements draft =
    (is_within 1 (greatest_delay draft.time) draft.delay, OverLimit Delay)
    ∷ (list_all (has_range draft.delay) draft.links, OverLimit Link)
    ∷ (list_all is_agreement agreements, OverLimit Agree)
    ∷ (list_all (is_short draft.time) agreements, OverLimit Delay)
    ∷ []

-- there is no agreement
abbrev pub none_agree : List Agreement → Bool
none_agree [] = true
none_agree (agreement ∷ others) = false

-- the draft, with what agreements add, or the first rule for them that it breaks
abbrev pub with_agreed : List Agreement → Draft → Result Draft ScenarioFault
with_agreed agreements draft = judge (agreement_checks agreements draft) >>= λ _. Ok (agreed agreements draft)

-- the draft, with links for what goes by none: where no replicas agree, just if their least delay is written and is not the 1 that it is without a link; and else wherever it is known, with what agreements add to all links
abbrev pub with_agreements : Option ℤ → List Agreement → Draft → Result Draft ScenarioFault
with_agreements least agreements draft =
    if none_agree agreements then Ok (with_least least draft) else with_agreed agreements (filled least draft)
