-- What a part of a text is, where it was read.
use Rattle.std.proofs.Common.{◌≡◌, ℕ, ◌==◌, ◌&&◌, Bool, true, false, not, List, All, refl, ap, subst, ◌∙◌, inl, inr}
use Rattle.std.specs.List.{list_any}
use Rattle.std.proofs.lemmas.Bool.{cases_Bool}
use Rattle.convoy_draft.specs.declared.time.Time.{Time}
use Rattle.convoy_draft.specs.declared.time.Time.TheVariants.{Ticks, Real}
use Rattle.convoy_scenario.specs.Scenario.{Scenario, is_timed}
use Rattle.convoy_certificate.specs.declared.node.Node.{Node}
use Rattle.convoy_certificate.specs.declared.version.Version.{Version}
use Rattle.convoy_certificate.specs.Certificate.{IsNode, IsNodeWhere}
use Rattle.convoy_certificate.specs.Reading.{is_same_version}
use Rattle.convoy_certificate.specs.Text.{is_stamp, is_lead, decides_ties, says_time, version_for}
use Rattle.convoy_certificate.proofs.Taken.{one_version}

-- the version that is due says how time goes where the scenario has it said
pub says_again : (time : Time) (timed waits : Bool) (links : ℕ) (nodes : List Node) → says_time (version_for time timed waits links nodes) ≡ timed
says_again time true true links nodes = refl
says_again Ticks true false links nodes = refl
says_again Real true false links nodes = elim (cases_Bool (list_any decides_ties nodes)) [ inl tied ↦ rw tied refl | inr none ↦ rw none refl ]
says_again time false waits links nodes =
    elim (cases_Bool (list_any is_lead nodes)) [
      | inl led ↦ rw led refl
      | inr none ↦
          elim (cases_Bool (links == 0 && not (list_any is_stamp nodes))) [
            | inl one ↦ rw (none, one) refl
            | inr two ↦ rw (none, two) refl
          ]
    ]

-- nodes that were read in the version that is due are those of a certificate of the scenario
pub nodes_are : (plan : Scenario) (version due : Version) (timed waits : Bool) (time : Time) (links : ℕ) (seen nodes : List Node) → is_same_version version due ≡ true → due ≡ version_for time timed waits links seen → timed ≡ is_timed plan → time ≡ plan.time
    → All (IsNodeWhere (says_time version) time) nodes → All (IsNode plan) nodes
nodes_are plan version due timed waits time links seen nodes same is said goes are =
    let says : says_time version ≡ is_timed plan = ap says_time (one_version version due same ∙ is) ∙ says_again time timed waits links seen ∙ said in
    subst (λ (t : Time). All (IsNodeWhere (is_timed plan) t) nodes) goes (subst (λ (b : Bool). All (IsNodeWhere b time) nodes) says are)
