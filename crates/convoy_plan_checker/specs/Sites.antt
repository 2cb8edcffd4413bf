-- Sites of groups, some of which are not known: what a node of a tree over placements stands over.
use Rattle.std.specs.Prelude.{ℕ, ◌==◌, Bool, false, List, [], length, map, replicate, slice_set, Option, Some, None, is_some, is_none, unwrap_or}
use Rattle.std.specs.List.{list_all, slice_get}
use Rattle.convoy_plans.specs.Plans.{Plan, sites_of}
use Rattle.convoy_plan_certificate.specs.declared.branch.Branch.{Branch}
use Rattle.convoy_plan_certificate.specs.declared.branch.Branch.TheVariants.{Split}

-- the site of each group, where it is known
abbrev pub Sites : Type 0
Sites = List (Option ℕ)

-- no group has a site
abbrev pub no_sites : Plan → Sites
no_sites plan = replicate (length plan.written.groups) None

-- it is a group that has no site yet
abbrev pub is_open : Option (Option ℕ) → Bool
is_open None = false
is_open (Some site) = is_none site

abbrev pub is_left : Sites → ℕ → Bool
is_left sites g = is_open (slice_get sites g)

-- each group has one
abbrev pub is_placed : Sites → Bool
is_placed sites = list_all is_some sites

-- the sites of the groups, where each has one
abbrev pub placement_of : Sites → List ℕ
placement_of sites = map (λ site. unwrap_or site 0) sites

-- both are known, and one site
abbrev pub is_one_site : Option ℕ → Option ℕ → Bool
is_one_site None other = false
is_one_site (Some site) None = false
is_one_site (Some site) (Some other) = site == other

-- the sites below a node that stands over some: one more group at each of its sites in turn, in the order of the plan. A leaf has none.
abbrev pub sites_below : Plan → Branch → Sites → List Sites
sites_below plan (Split g) sites = map (λ site. slice_set sites g (Some site)) (sites_of plan g)
sites_below plan leaf sites = []
