-- Whether a range is written wherever a packet may travel, at whichever of its sites each group is.
use Rattle.std.specs.Prelude.{ℕ, nat_le, ◌==◌, Bool, true, false, ◌&&◌, ◌||◌, List, [], ◌∷◌, is_some}
use Rattle.std.specs.List.{list_all, range_with_len}
use Rattle.std.specs.Prelude.{length}
use Rattle.convoy_draft.specs.declared.time.Time.{Time}
use Rattle.convoy_draft.specs.declared.time.Time.TheVariants.{Ticks, Real}
use Rattle.convoy_plans.specs.declared.plan.Origin.{Origin}
use Rattle.convoy_plans.specs.declared.plan.Origin.TheVariants.{Site, Group}
use Rattle.convoy_plans.specs.Plans.{Plan, goes_of, is_apart, most_between, origin_of, sites_of}

-- a range is written from each site of the one list to each of the other; from none to itself where the two may not be at one site
abbrev pub are_told : Plan → Bool → List ℕ → List ℕ → Bool
are_told plan apart from to = list_all (λ a. list_all (λ b. (apart && a == b) || nat_le 1 (most_between plan a b)) to) from

-- the two are one group
abbrev pub is_itself : Origin → ℕ → Bool
is_itself (Site s) g = false
is_itself (Group h) g = h == g

-- the sites at which clients are, or at which the group may be
abbrev pub sites_from : Plan → Origin → List ℕ
sites_from plan (Site s) = s ∷ []
sites_from plan (Group g) = sites_of plan g

-- clients share a site with any group, and two groups unless they are to be apart
abbrev pub never_meet : Plan → Origin → ℕ → Bool
never_meet plan (Site s) g = false
never_meet plan (Group h) g = is_apart plan h g

-- ranges are written from there to the group, wherever both are
abbrev pub is_told_from : Plan → Origin → ℕ → Bool
is_told_from plan from g =
    is_itself from g || are_told plan (never_meet plan from g) (sites_from plan from) (sites_of plan g)

-- ranges are written from there to each of the groups
abbrev pub all_told_from : Plan → List ℕ → Origin → Bool
all_told_from plan groups from = list_all (is_told_from plan from) groups

-- ranges are written for the message, and for the stamps that its groups send each other
abbrev pub is_message_told : Plan → ℕ → Bool
is_message_told plan m =
    all_told_from plan (goes_of plan m) (origin_of plan m)
    && list_all (λ h. all_told_from plan (goes_of plan m) (Group h)) (goes_of plan m)

-- in real time, unless the least delay of what goes by no link is written, ranges are written for each message
abbrev pub is_told : Plan → Bool
is_told plan = by_time plan.written.time where
  by_time : Time → Bool
  by_time Ticks = true
  by_time Real = is_some plan.written.least || list_all (is_message_told plan) (range_with_len 0 (length plan.written.messages))
