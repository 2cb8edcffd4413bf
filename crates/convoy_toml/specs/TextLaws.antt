-- What is proved of scenario texts. Each is the one clause of the function of its name in the crate's module `text_laws`.
use Rattle.std.specs.Int.{IsGcd}
use Rattle.std.specs.Prelude.{◌≡◌, ℕ, ℤ, ◌+ℤ◌, false, List, Option, Some, Ok, IsNone, IsSome, IsTrue, Contains}
use Rattle.std.specs.Str.{bytes_eq}
use Rattle.toml.specs.Data.{Members, get_member}
use Rattle.convoy_draft.specs.declared.fault.Key.TheVariants.{Target}
use Rattle.convoy_draft.specs.Checks.{leads_elsewhere}
use Rattle.convoy_draft.specs.Draft.{Draft, DraftLink}
use Rattle.convoy_draft.specs.Keys.{key_word}
use Rattle.convoy_around.specs.Around.{is_span}
use Rattle.convoy_scenario.specs.Scenario.{Scenario}
use Rattle.convoy_scenario.specs.WellFormed.{IsScenario}
use Rattle.convoy_toml.specs.declared.around.Around.{Around}
use Rattle.convoy_toml.specs.declared.asked.Asked.{Asked}
use Rattle.convoy_toml.specs.Agreements.{Agreement, agreement_at, with_agreements}
use Rattle.convoy_toml.specs.Around.{span_of}
use Rattle.convoy_toml.specs.Reading.{of_any_target, table_of_text, input_of_text, input_of_text_by, scenario_of_text_by}
use Rattle.convoy_toml.specs.Shape.{WrittenTarget, all_groups, written_target}
use Rattle.convoy_toml.specs.Times.{common_divisor}

-- what a text is read as is a well-formed scenario, whatever is asked beside it
abbrev pub TextsGiveScenarios : Type 0
TextsGiveScenarios =
    (asked : Asked) (text : List ℕ) (scenario : Scenario) → scenario_of_text_by asked text ≡ Ok scenario → IsScenario scenario

-- all is asked around the target of the scenario: by a span that is one, and no longer than it may be
pub record HasSpan (scenario : Scenario) (by : Around) : Type 0 where
  pub span : ℕ
  pub is : span_of scenario by ≡ Ok span
  pub short : IsTrue (is_span span)

-- where all is asked around the target, the scenario that is read has a span
abbrev pub TextsHaveSpans : Type 0
TextsHaveSpans =
    (asked : Asked) (text : List ℕ) (scenario : Scenario) (by : Around) → scenario_of_text_by asked text ≡ Ok scenario → asked.around ≡ Some by → HasSpan scenario by

-- a text in which a target at one group is written gives the same, whether the target may be left out or not
abbrev pub TargetsMayBeSaid : Type 0
TargetsMayBeSaid =
    (text : List ℕ) (table : Members) (target : WrittenTarget) → table_of_text text ≡ Ok table → IsSome (get_member (key_word Target) table)
    → written_target table ≡ Ok target → bytes_eq target.group all_groups ≡ false → input_of_text_by of_any_target text ≡ input_of_text text

-- the common divisor of two lengths divides both, and each number that divides both divides it
abbrev pub CommonDivisorsAreGreatest : Type 0
CommonDivisorsAreGreatest = (a b : ℕ) → IsGcd a b (common_divisor a b)

-- the further links are these with what agreements add: to each that leads to a group whose replicas agree, from another place, the range of the agreement is added; each that leads to any other group stays; and each group that has an agreement has a link to itself with just that range, by which its own stamps go where it agrees twice
pub record HasAgreements (agreements : List Agreement) (links more : List DraftLink) : Type 0 where
  pub lengthened : (link : DraftLink) (agreement : Agreement) → Contains links link → IsTrue (leads_elsewhere link) → agreement_at agreements link.to ≡ Some agreement
      → Contains more (record link { least = link.least +ℤ agreement.least; most = link.most +ℤ agreement.most })
  pub kept : (link : DraftLink) → Contains links link → IsNone (agreement_at agreements link.to) → Contains more link
  pub home : (agreement : Agreement) (group : List ℕ) → Contains agreements agreement → Contains agreement.groups group
      → Contains more (record { sender = Some group; to = group; least = agreement.least; most = agreement.most; stamps = agreement.twice })

-- a draft with agreements has the links that are written with what agreements add, whatever the least delay of what goes by none is
abbrev pub AgreementsLengthenLinks : Type 0
AgreementsLengthenLinks =
    (least : Option ℤ) (agreements : List Agreement) (plain draft : Draft) → with_agreements least agreements plain ≡ Ok draft → HasAgreements agreements plain.links draft.links
