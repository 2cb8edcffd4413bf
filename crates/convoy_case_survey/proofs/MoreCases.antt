-- The survey of one case more.
use Rattle.std.proofs.Common.{◌≡◌, ◌⊎◌, ◌+◌, ◌-◌, ◌<◌, ℕ, List, [], ◌∷◌, ◌++◌, map, flat_map, zero, suc, All, inl, inr, append_assoc, ap, subst, sym, refl, ◌∙◌, arith}
use Rattle.std.specs.List.{range_with_len}
use Rattle.std.proofs.lemmas.List.{map-append}
use Rattle.std.proofs.lemmas.List.Elements.{All-append, All-cons, All-nil}
use Rattle.convoy_stamps.proofs.Loops.{flat_map_range_more}
use Rattle.convoy_lines.specs.Texts.{spaced}
use Rattle.convoy_scenario.specs.Scenario.{Scenario}
use Rattle.convoy_toml.specs.declared.asked.Asked.{Asked}
use Rattle.convoy_branch.specs.Options.{Settings}
use Rattle.convoy_tables.specs.declared.format.Format.{Format}
use Rattle.convoy_commands.specs.declared.fault.Fault.{Fault}
use Rattle.convoy_commands.specs.declared.fault.Fault.TheVariants.{Memory}
use Rattle.convoy_commands.specs.Searches.{IsFaultyBy}
use Rattle.convoy_case_survey.specs.declared.surveyed_case.SurveyedCase.{SurveyedCase}
use Rattle.convoy_case_survey.specs.CaseSurveys.{IsSurveyedCase, case_asked, sent_by}
use Rattle.convoy_case_survey.specs.Surveying.{AreSurveyedCases, IsOneFaulty}

-- the first numbers, as pieces of one number each
pieces : (n : ℕ) (from : ℕ) → flat_map (λ (k : ℕ). k ∷ []) (range_with_len from n) ≡ range_with_len from n
pieces zero from = refl
pieces (suc n) from = ap (λ (ks : List ℕ). from ∷ ks) (pieces n (from + 1))

range_more : (n : ℕ) → range_with_len 0 (n + 1) ≡ range_with_len 0 n ++ n ∷ []
range_more n = sym (pieces (n + 1) 0) ∙ flat_map_range_more (λ (k : ℕ). k ∷ []) n ∙ ap (λ (ks : List ℕ). ks ++ n ∷ []) (pieces n 0)

pub cases_more : (format : Format) (asked : Asked) (settings : Settings) (text : List ℕ) (n : ℕ) (old new : List SurveyedCase) (case : SurveyedCase)
    → AreSurveyedCases format asked n settings text old
    → (case.number ≡ n) × IsSurveyedCase format asked settings text case → new ≡ old ++ case ∷ []
    → AreSurveyedCases format asked (n + 1) settings text new
cases_more format asked settings text n old new case before (numbered, is) more = record {
  all = ap (λ (cs : List SurveyedCase). map (λ (c : SurveyedCase). c.number) cs) more
      ∙ map-append (λ (c : SurveyedCase). c.number) old (case ∷ [])
      ∙ ap (λ (ns : List ℕ). ns ++ case.number ∷ []) before.all
      ∙ ap (λ (k : ℕ). range_with_len 0 n ++ k ∷ []) numbered
      ∙ sym (range_more n);
  surveyed = subst (λ (cs : List SurveyedCase). All (IsSurveyedCase format asked settings text) cs) (sym more)
      (All-append (IsSurveyedCase format asked settings text) old (case ∷ []) before.surveyed
      (All-cons (IsSurveyedCase format asked settings text) case [] is (All-nil (IsSurveyedCase format asked settings text))));
}

pub one_faulty : (asked : Asked) (count : ℕ) (text : List ℕ) (n : ℕ) (fault : Fault) → n < count
    → IsFaultyBy (case_asked asked n) text fault ⊎ (fault ≡ Memory) → IsOneFaulty asked count text fault ⊎ (fault ≡ Memory)
one_faulty asked count text n fault known (inl faulty) = inl (record { number = n; known = known; faulty = faulty })
one_faulty asked count text n fault known (inr memory) = inr memory

-- of the numbers from m to the last the first is m, and the others begin after it
pub one_less : (m count : ℕ) → m < count → range_with_len m (count - m) ≡ m ∷ range_with_len (m + 1) (count - (m + 1))
one_less m count less =
    let same : count - m ≡ suc (count - (m + 1)) = omega (arith, less) in
    ap (range_with_len m) same

-- the text so far, one more message, and the messages that are left
pub more_sent : (scenario : Scenario) (m count : ℕ) (text spaced_text new sent all : List ℕ) → m < count → spaced_text ≡ text ++ 32 ∷ [] → new ≡ spaced_text ++ sent
    → sent ≡ sent_by scenario m
    → text ++ flat_map (λ n. spaced (sent_by scenario n)) (range_with_len m (count - m)) ≡ all
    → new ++ flat_map (λ n. spaced (sent_by scenario n)) (range_with_len (m + 1) (count - (m + 1))) ≡ all
more_sent scenario m count text spaced_text new sent all less with_space with_sent is before =
    ap (λ (t : List ℕ). t ++ rest) (with_sent ∙ ap (λ (t : List ℕ). t ++ sent) with_space ∙ ap (λ (s : List ℕ). (text ++ 32 ∷ []) ++ s) is)
    ∙ ap (λ (t : List ℕ). t ++ rest) (append_assoc text (32 ∷ []) (sent_by scenario m))
    ∙ append_assoc text (32 ∷ sent_by scenario m) rest
    ∙ ap (λ (ns : List ℕ). text ++ flat_map (λ n. spaced (sent_by scenario n)) ns) (sym (one_less m count less))
    ∙ before where
      rest : List ℕ
      rest = flat_map (λ n. spaced (sent_by scenario n)) (range_with_len (m + 1) (count - (m + 1)))
