-- Whether some sites of the groups are a placement, as a test.
use Rattle.std.specs.Prelude.{ℕ, ◌==◌, Bool, ◌&&◌, ◌||◌, not, List, length}
use Rattle.std.specs.List.{list_all, range_with_len}
use Rattle.convoy_plans.specs.Placements.{site_at}
use Rattle.convoy_plans.specs.Plans.{Plan, has, sites_of}

-- the group is at one of its sites
abbrev pub is_at_home : Plan → List ℕ → ℕ → Bool
is_at_home plan placement g = has (site_at placement g) (sites_of plan g)

-- none of the groups but the group itself is at its site
abbrev pub is_alone : List ℕ → List ℕ → ℕ → Bool
is_alone placement groups g = list_all (λ h. g == h || not (site_at placement g == site_at placement h)) groups

-- no two of the groups are at one site
abbrev pub are_spread : List ℕ → List ℕ → Bool
are_spread placement groups = list_all (is_alone placement groups) groups

-- all rules for a placement hold
abbrev pub is_kept : Plan → List ℕ → Bool
is_kept plan placement =
    (length placement == length plan.housed)
    && list_all (is_at_home plan placement) (range_with_len 0 (length plan.housed))
    && list_all (are_spread placement) plan.apart
