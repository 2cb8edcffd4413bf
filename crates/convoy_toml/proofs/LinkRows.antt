-- Worked rows: which links some tables write.
use Rattle.std.proofs.Common.{◌≡◌, refl, true, false, Bool, pos, [], ◌∷◌, Option, Some, None, ℕ, List, Ok, Err, codes, replicate}
use Rattle.convoy_draft.specs.declared.fault.Limit.TheVariants.{Link}
use Rattle.convoy_draft.specs.declared.fault.ScenarioFault.TheVariants.{OverLimit}
use Rattle.convoy_draft.specs.Draft.{DraftLink}
use Rattle.convoy_toml.specs.Links.{Bundle, count_of, links_of_bundle, links_of_bundles}

abbrev a : List ℕ
a = codes "a"

abbrev b : List ℕ
b = codes "b"

abbrev c : List ℕ
c = codes "c"

-- links of 1 to 2 ticks from these to those, and perhaps back
abbrev bundle : Option (List (List ℕ)) → List (List ℕ) → Bool → Bundle
bundle senders to both = record { ends = record { senders = senders; to = to; both = both }; least = pos 1; most = pos 2; stamps = false }

-- the one link from the one to the other
abbrev link : Option (List ℕ) → List ℕ → DraftLink
link sender to = record { sender = sender; to = to; least = pos 1; most = pos 2; stamps = false }

one_way : links_of_bundle (bundle (Some (a ∷ [])) (b ∷ []) false) ≡ link (Some a) b ∷ []
one_way = refl

both_ways : links_of_bundle (bundle (Some (a ∷ [])) (b ∷ c ∷ []) true) ≡ link (Some a) b ∷ link (Some a) c ∷ link (Some b) a ∷ link (Some c) a ∷ []
both_ways = refl

of_clients : links_of_bundle (bundle None (b ∷ a ∷ []) false) ≡ link None b ∷ link None a ∷ []
of_clients = refl

among_all : links_of_bundle (bundle (Some (a ∷ b ∷ c ∷ [])) (a ∷ b ∷ c ∷ []) false)
    ≡ link (Some a) b ∷ link (Some a) c ∷ link (Some b) a ∷ link (Some b) c ∷ link (Some c) a ∷ link (Some c) b ∷ []
among_all = refl

-- each way is there and back, so twice
twice_among_two : links_of_bundle (bundle (Some (a ∷ b ∷ [])) (a ∷ b ∷ []) true) ≡ link (Some a) b ∷ link (Some b) a ∷ link (Some a) b ∷ link (Some b) a ∷ []
twice_among_two = refl

to_itself_alone : links_of_bundle (bundle (Some (a ∷ [])) (a ∷ []) false) ≡ link (Some a) a ∷ []
to_itself_alone = refl

most_in_one_table : count_of (bundle (Some (replicate 32 a)) (replicate 64 a) true) ≡ 4_096
most_in_one_table = refl

too_many : links_of_bundles (bundle None (b ∷ []) false ∷ bundle (Some (replicate 32 a)) (replicate 64 a) true ∷ []) ≡ Err (OverLimit Link)
too_many = refl

from_two_tables : links_of_bundles (bundle None (b ∷ []) false ∷ bundle (Some (a ∷ [])) (b ∷ []) true ∷ []) ≡ Ok (link None b ∷ link (Some a) b ∷ link (Some b) a ∷ [])
from_two_tables = refl
