-- Worked rows: which shares values tell, and which a table of links writes.
use Rattle.std.proofs.Common.{◌≡◌, refl, true, false, [], ◌∷◌, Some, None, pos, negsuc, Err, codes}
use Rattle.toml.specs.Data.{Data, Members, integer, string, boolean, no_members, member}
use Rattle.convoy_draft.specs.declared.fault.Key.TheVariants.{Link}
use Rattle.convoy_draft.specs.declared.fault.ScenarioFault.TheVariants.{Shape}
use Rattle.convoy_toml.specs.Outside.{share_in}
use Rattle.convoy_toml.specs.Shape.{share_of_table}
use Rattle.convoy_toml.specs.Shares.{as_share, share_of_text}

bounds : (share_of_text (codes "0") ≡ Some 0) × (share_of_text (codes "1") ≡ Some 1000000000) × (share_of_text (codes "1.000000000") ≡ Some 1000000000)
bounds = (refl, refl, refl)

parts : (share_of_text (codes "0.001") ≡ Some 1000000) × (share_of_text (codes "0.000000001") ≡ Some 1) × (share_of_text (codes "0.25") ≡ Some 250000000)
parts = (refl, refl, refl)

too_much : (share_of_text (codes "2") ≡ None) × (share_of_text (codes "1.000000001") ≡ None)
too_much = (refl, refl)

too_fine : (share_of_text (codes "0.0000000000") ≡ None) × (share_of_text (codes "0.0000000001") ≡ None)
too_fine = (refl, refl)

no_number : (share_of_text [] ≡ None) × (share_of_text (codes "0.") ≡ None) × (share_of_text (codes ".5") ≡ None) × (share_of_text (codes "00.5") ≡ None) × (share_of_text (codes "0,5") ≡ None) × (share_of_text (codes "0.5%") ≡ None)
no_number = (refl, refl, refl, refl, refl, refl)

integers : (as_share (integer (pos 0)) ≡ Some 0) × (as_share (integer (pos 1)) ≡ Some 1000000000) × (as_share (integer (pos 2)) ≡ None) × (as_share (integer (negsuc 0)) ≡ None)
integers = (refl, refl, refl, refl)

-- a table of links from the clients with that share
abbrev table_with : Data → Members
table_with share = member (codes "outside") share (member (codes "to") (string (codes "a")) no_members)

told : share_in (table_with (string (codes "0.5"))) ≡ Some (record { ends = record { senders = None; to = codes "a" ∷ []; both = false }; billionths = 500000000 })
told = refl

not_told : share_in (member (codes "to") (string (codes "a")) no_members) ≡ None
not_told = refl

no_share : share_of_table (table_with (boolean true)) ≡ Err (Shape Link)
no_share = refl
