-- What takes time: all that goes to another place, and what a group sends to itself by a link.
use Rattle.std.proofs.Common.{◌≡◌, ℕ, ◌==◌, ◌&&◌, ◌||◌, Bool, true, false, not, List, [], ◌∷◌, refl, ap, sym, subst, inl, inr}
use Rattle.std.specs.List.{find, AllByRecursion}
use Rattle.std.specs.Option.{is_some, option_map_or}
use Rattle.std.proofs.lemmas.Bool.{and_parts, cases_Bool, eqb-true, eq-eqb}
use Rattle.convoy_scenario.specs.declared.sender.Sender.{Sender}
use Rattle.convoy_scenario.specs.declared.sender.Sender.TheVariants.{Client, Group}
use Rattle.convoy_draft.specs.Checks.{checks, judge}
use Rattle.convoy_scenario.specs.Numbering.{delay_of_draft, in_order, links_of_draft, scenario_of}
use Rattle.convoy_scenario.specs.Scenario.{HaveSameHomes, Link, Scenario, is_same_sender, stamp_takes_time, takes_time}
use Rattle.convoy_scenario.specs.ScenarioLaws.{HomesDecideWhatTakesTime, OrderKeepsWhatTakesTime}
use Rattle.convoy_scenario.specs.WellFormed.{is_whole}
use Rattle.convoy_scenario.proofs.GivenScenarios.{passed}
use Rattle.convoy_scenario.proofs.KeptRanges.{AreApart, all_apart, leads, none_apart, none_in_order, one_sender, put_here, put_past}
use Rattle.convoy_scenario.proofs.NumberedLemmas.{passes}

same_messages : (plan other : Scenario) → HaveSameHomes plan other → (sender : Sender) (to : ℕ) → takes_time other sender to ≡ takes_time plan sender to
same_messages plan other homes (Client p) to = refl
same_messages plan other homes (Group g) to = elim (cases_Bool (g == to)) [
  | inl home ↦ subst (λ (k : ℕ). takes_time other (Group k) to ≡ takes_time plan (Group k) to) (sym (eqb-true g to home)) (homes.messages to)
  | inr away ↦ rw away refl
]

same_stamps : (plan other : Scenario) → HaveSameHomes plan other → (from to : ℕ) → stamp_takes_time other from to ≡ stamp_takes_time plan from to
same_stamps plan other homes from to = elim (cases_Bool (from == to)) [
  | inl home ↦ subst (λ (k : ℕ). stamp_takes_time other k to ≡ stamp_takes_time plan k to) (sym (eqb-true from to home)) (homes.stamps to)
  | inr away ↦ rw away refl
]

pub same_takes : HomesDecideWhatTakesTime
same_takes plan other homes = record { messages = same_messages plan other homes; stamps = same_stamps plan other homes }

-- a link from a group to itself is not left out
not_whole : (delay to : ℕ) (link : Link) → Group to ≡ link.sender → to ≡ link.to → is_whole delay link ≡ false
not_whole delay to link from there =
    let home : is_same_sender link.sender (Group link.to) ≡ true = rw (sym from, sym there) (eq-eqb to to refl) in
    rw home (none_and ((link.least == 1) && (link.most == delay))) where
      none_and : (b : Bool) → (b && false) ≡ false
      none_and true = refl
      none_and false = refl

home_kept : (delay to : ℕ) (links : List Link) → AreApart links → find (leads (Group to) to) (in_order delay links) ≡ find (leads (Group to) to) links
home_kept delay to [] distinct = refl
home_kept delay to (link ∷ links) distinct =
    let rest = home_kept delay to links distinct.1 in
    elim (cases_Bool (leads (Group to) to link)) [
      | inl here ↦
          let ends = and_parts (is_same_sender (Group to) link.sender) (to == link.to) here in
          let from : Group to ≡ link.sender = one_sender (Group to) link.sender ends.0 in
          let there : to ≡ link.to = eqb-true to link.to ends.1 in
          let others : AllByRecursion (λ other. leads (Group to) to other ≡ false) links =
          subst (λ (s : Sender). AllByRecursion (λ other. leads s to other ≡ false) links) (sym from)
          (subst (λ (k : ℕ). AllByRecursion (λ other. leads link.sender k other ≡ false) links) (sym there) distinct.0) in
          let none = none_in_order (Group to) to delay links (none_apart (Group to) to links others) in
          rw (not_whole delay to link from there, put_here (Group to) to link (in_order delay links) here none, here) refl
      | inr away ↦ elim (cases_Bool (is_whole delay link)) [
        | inl whole ↦ rw (whole, away) rest
        | inr part ↦ rw (part, put_past (Group to) to link (in_order delay links) away, away) rest
      ]
    ]

pub taking_kept : OrderKeepsWhatTakesTime
taking_kept draft scenario e =
    let p = passed (judge (checks draft)) (scenario_of draft) scenario e in
    let is = passes draft p.0 in
    let apart = all_apart draft.groups draft.places draft.links is.links_differ is.ends in
    let given = record scenario { links = links_of_draft draft } in
    let kept = λ (g : ℕ). home_kept (delay_of_draft draft) g (links_of_draft draft) apart in
    same_takes given scenario (record {
      messages = λ g.
          subst (λ (s : Scenario). takes_time s (Group g) g ≡ takes_time (record s { links = links_of_draft draft }) (Group g) g) p.1
          (ap (λ found. not (g == g) || is_some found) (kept g));
      stamps = λ g.
          subst (λ (s : Scenario). stamp_takes_time s g g ≡ stamp_takes_time (record s { links = links_of_draft draft }) g g) p.1
          (ap (λ found. not (g == g) || option_map_or (λ (link : Link). link.stamps) found false) (kept g));
    })
