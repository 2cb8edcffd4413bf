-- Worked rows of the line `link`.
use Rattle.std.proofs.Common.{◌≡◌, ℕ, pos, Bool, true, false, List, [], ◌∷◌, Some, None, refl, codes}
use Rattle.std.specs.List.{AllByRecursion}
use Rattle.convoy_draft.specs.Draft.{DraftLink}
use Rattle.convoy_scenario_lines.specs.declared.version.Version.{Version}
use Rattle.convoy_scenario_lines.specs.declared.version.Version.TheVariants.{Two, Three}
use Rattle.convoy_scenario_lines.specs.LineForms.{name_of, link_in}
use Rattle.convoy_scenario_lines.proofs.ScenarioAgain.{name_again}

a_named : name_of (codes "a") ≡ codes "a"
a_named = name_again (codes "a") refl

b_named : name_of (codes "b") ≡ codes "b"
b_named = name_again (codes "b") refl

-- a link from group a to itself, of 10 to 80 ticks
abbrev at_home : Bool → DraftLink
at_home stamps = record { sender = Some (codes "a"); to = codes "a"; least = pos 10; most = pos 80; stamps = stamps }

-- version 3 has a word for such a link that is for stamps, too
for_stamps : link_in Three (codes "link a a 10 80 stamps") ≡ Some (at_home true)
for_stamps = rw a_named refl

-- without it the link is for messages alone, in each version that has links
for_messages : AllByRecursion (λ version. link_in version (codes "link a a 10 80") ≡ Some (at_home false)) (Two ∷ Three ∷ [])
for_messages = (rw a_named refl, (rw a_named refl, tt))

-- no link to another group is for stamps, too
elsewhere : link_in Three (codes "link a b 10 80 stamps") ≡ None
elsewhere = rw (a_named, b_named) refl

-- nor is one from the clients; the word stands last, alone, and once; version 2 has none
not_read : AllByRecursion (λ (row : Version × List ℕ). link_in row.0 row.1 ≡ None) (
    (Three, codes "link client a 10 80 stamps") ∷ (Three, codes "link a a 10 80 stamp") ∷ (Three, codes "link a a 10 80 ") ∷ (Three, codes "link a a 10 80 stamps stamps")
    ∷ (Three, codes "link a a stamps 10 80") ∷ (Two, codes "link a a 10 80 stamps") ∷ [])
not_read = (refl, (refl, (refl, (refl, (refl, (refl, tt))))))
