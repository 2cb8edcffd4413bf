-- The ranges that a plan's tables of links write between two sites.
use Rattle.std.specs.Prelude.{ℕ, Bool, ◌&&◌, ◌||◌, not, List, [], map, find, unwrap_or}
use Rattle.std.specs.List.{list_any}
use Rattle.std.specs.Option.{option_map_or}
use Rattle.std.specs.Str.{bytes_eq}
use Rattle.convoy_draft.specs.declared.limits.TheConstants.{GREATEST_DELAY}
use Rattle.convoy_draft.specs.Checks.{is_among, ticks}
use Rattle.convoy_toml.specs.Links.{Bundle}
use Rattle.convoy_toml.specs.Shape.{LinkEnds}

-- the sites from which a table's links lead
abbrev pub senders_of : LinkEnds → List (List ℕ)
senders_of ends = unwrap_or ends.senders []

-- a table's links lead from the one site to the other, but for the ways back
abbrev pub leads_out : LinkEnds → List ℕ → List ℕ → Bool
leads_out ends from to = is_among from (senders_of ends) && is_among to ends.to

-- one of them leads to another site
abbrev pub leads_away : LinkEnds → Bool
leads_away ends = list_any (λ from. list_any (λ to. not (bytes_eq from to)) ends.to) (senders_of ends)

-- a table's links lead from the one site to the other, there or back; as in a scenario, those of a table that leads to another site lead from none to itself
abbrev pub leads : LinkEnds → List ℕ → List ℕ → Bool
leads ends from to =
    (leads_out ends from to || (ends.both && leads_out ends to from)) && (not (bytes_eq from to) || not (leads_away ends))

-- the greatest delay from the one site to the other by the first table that leads there, or 0 where none does
abbrev pub most_in : List Bundle → List ℕ → List ℕ → ℕ
most_in bundles from to = option_map_or (λ bundle. ticks GREATEST_DELAY bundle.most) (find (λ bundle. leads bundle.ends from to) bundles) 0

-- the same from each site to each
abbrev pub most_table : List Bundle → List (List ℕ) → List (List ℕ)
most_table bundles sites = map (λ from. map (most_in bundles from) sites) sites
