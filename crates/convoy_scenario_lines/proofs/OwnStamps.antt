-- The word `stamps` of a line `link`: what is read was written so, and what is written is read again.
use Rattle.std.proofs.Common.{◌≡◌, ℕ, ◌==◌, ◌&&◌, ◌||◌, not, Bool, true, false, cond, List, [], ◌∷◌, length, Option, Some, None, eq-eqb, refl, ap, sym, ◌∙◌, arith, inl, inr, codes}
use Rattle.std.specs.List.{AllByRecursion, list_any}
use Rattle.std.specs.Str.{bytes_eq}
use Rattle.std.proofs.lemmas.Bool.{and_parts, cases_Bool, eqb-true, false≢true, ne_eqb, or_parts, true≢false}
use Rattle.std.proofs.lemmas.List.{nil_from_length}
use Rattle.std.proofs.lemmas.Option.{cond_some, same_Some}
use Rattle.std.proofs.lemmas.Slice.Eq.{bytes_eq-Decides}
use Rattle.convoy_draft.specs.Checks.{is_among, is_named_alike, leads_elsewhere}
use Rattle.convoy_draft.specs.Draft.{DraftLink}
use Rattle.convoy_scenario.specs.declared.sender.Sender.{Sender}
use Rattle.convoy_scenario.specs.declared.sender.Sender.TheVariants.{Client, Group}
use Rattle.convoy_scenario.specs.Naming.{sender_name}
use Rattle.convoy_scenario.specs.Numbering.{link_of, place, sender_of}
use Rattle.convoy_scenario.specs.Scenario.{Link, Scenario, group_name_at, is_same_sender}
use Rattle.convoy_scenario_lines.specs.declared.version.Version.{Version}
use Rattle.convoy_scenario_lines.specs.declared.version.Version.TheVariants.{One, Two, Three}
use Rattle.convoy_scenario_lines.specs.LineForms.{stamps_in, where_stamps_stay}
use Rattle.convoy_scenario_lines.specs.ScenarioLines.{stamps_words}
use Rattle.convoy_lines.proofs.Spelling.{AreWords, known_word}

-- ---- what is read was written so

-- what a version can say of whether a link is for stamps, too
abbrev pub CanHaveStamps : Version → Bool → Type 0
CanHaveStamps One stamps = stamps ≡ false
CanHaveStamps Two stamps = stamps ≡ false
CanHaveStamps Three stamps = Unit {0}

without : (version : Version) (stamps : Bool) → false ≡ stamps → CanHaveStamps version stamps
without One stamps is = sym is
without Two stamps is = sym is
without Three stamps is = tt

some_left : (word : List ℕ) (words : List (List ℕ)) → (length (word ∷ words) == 0) ≡ false
some_left word words = ne_eqb (length (word ∷ words)) 0 (λ e. omega arith)

pub stamps_take : (version : Version) (words : List (List ℕ)) (stamps : Bool) → stamps_in version words ≡ Some stamps → (words ≡ stamps_words stamps) × CanHaveStamps version stamps
stamps_take version [] stamps e = let is = same_Some false stamps e in (ap stamps_words is, without version stamps is)
stamps_take One (word ∷ words) stamps e = let no : None ≡ Some stamps = rw (some_left word words) at e in absurd cc
stamps_take Two (word ∷ words) stamps e = let no : None ≡ Some stamps = rw (some_left word words) at e in absurd cc
stamps_take Three (word ∷ words) stamps e =
    let read : cond (bytes_eq word (codes "stamps") && length words == 0) (Some true) None ≡ Some stamps = rw (some_left word words) at e in
    let a = cond_some (bytes_eq word (codes "stamps") && length words == 0) true stamps read in
    let parts = and_parts (bytes_eq word (codes "stamps")) (length words == 0) a.0 in
    let first : word ≡ codes "stamps" = (bytes_eq-Decides word (codes "stamps")).0 parts.0 in
    let last : words ≡ [] = nil_from_length words (eqb-true _ _ parts.1) in
    (ap (λ w. w ∷ words) first ∙ ap (λ ws. codes "stamps" ∷ ws) last ∙ ap stamps_words a.1, tt)

-- a link that is read for stamps, too, leads from a group to itself
pub stays : (link found : DraftLink) → where_stamps_stay link ≡ Some found → ((found.stamps && leads_elsewhere found) ≡ false) × (link ≡ found)
stays link found e =
    elim (cases_Bool (link.stamps && leads_elsewhere link)) [
      | inl away ↦ let no : None ≡ Some found = rw away at e in absurd cc
      | inr home ↦
          let is : Some link ≡ Some found = rw home at e in
          let same = same_Some link found is in
          (ap (λ (l : DraftLink). l.stamps && leads_elsewhere l) (sym same) ∙ home, same)
    ]

-- one name of a group has one number
one_number : (groups places : List (List ℕ)) (sender : Option (List ℕ)) (to : List ℕ) → is_among to groups ≡ true → is_named_alike sender (Some to) ≡ true → is_same_sender (sender_of groups places sender) (Group (place to groups)) ≡ true
one_number groups places None to among e = absurd (false≢true e)
one_number groups places (Some name) to among e =
    let same : name ≡ to = (bytes_eq-Decides name to).0 e in
    let known : is_among name groups ≡ true = ap (λ n. is_among n groups) same ∙ among in
    rw known (eq-eqb (place name groups) (place to groups) (ap (λ n. place n groups) same))

keeps : (stamps alike same : Bool) → (alike ≡ true → same ≡ true) → (stamps && not alike) ≡ false → (stamps && same) ≡ stamps
keeps false alike same h e = refl
keeps true true same h e = h refl
keeps true false same h e = absurd (true≢false e)

-- such a link is for stamps, too, as a link with numbers
pub kept_stamps : (groups places : List (List ℕ)) (link : DraftLink) → is_among link.to groups ≡ true → (link.stamps && leads_elsewhere link) ≡ false → (link_of groups places link).stamps ≡ link.stamps
kept_stamps groups places link among stay =
    keeps link.stamps (is_named_alike link.sender (Some link.to)) (is_same_sender (sender_of groups places link.sender) (Group (place link.to groups)))
    (one_number groups places link.sender link.to among) stay

-- ---- what is written is read again

pub stamps_again : (version : Version) (stamps : Bool) → CanHaveStamps version stamps → stamps_in version (stamps_words stamps) ≡ Some stamps
stamps_again version false can = refl
stamps_again One true can = absurd (true≢false can)
stamps_again Two true can = absurd (true≢false can)
stamps_again Three true can = refl

pub stamps_are_words : (stamps : Bool) → AreWords (stamps_words stamps)
stamps_are_words true = (known_word (codes "stamps") refl, tt)
stamps_are_words false = tt

-- a link of a scenario that is for stamps, too, leads home by its names
pub home_again : (plan : Scenario) (sender : Sender) (to : ℕ) (stamps : Bool) → (not stamps || is_same_sender sender (Group to)) ≡ true
    → (stamps && not (is_named_alike (sender_name plan sender) (Some (group_name_at plan to)))) ≡ false
home_again plan sender to false home = refl
home_again plan (Client p) to true home = absurd (false≢true home)
home_again plan (Group g) to true home =
    let same : group_name_at plan g ≡ group_name_at plan to = ap (group_name_at plan) (eqb-true g to home) in
    ap not ((bytes_eq-Decides (group_name_at plan g) (group_name_at plan to)).1 same)

-- each link is for messages alone, where none is for stamps, too
pub each_without : (links : List Link) → list_any (λ link. link.stamps) links ≡ false → AllByRecursion (λ link. link.stamps ≡ false) links
each_without [] e = tt
each_without (link ∷ links) e =
    let parts = or_parts link.stamps (list_any (λ other. other.stamps) links) e in
    (parts.0, each_without links parts.1)

pub any_stamps : (links : List Link) → AllByRecursion (λ link. CanHaveStamps Three link.stamps) links
any_stamps [] = tt
any_stamps (link ∷ links) = (tt, any_stamps links)
