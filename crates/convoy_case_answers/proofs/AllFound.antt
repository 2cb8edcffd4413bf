-- What is found of one case more.
use Rattle.std.proofs.Common.{◌≡◌, ◌⊎◌, ◌+◌, ◌<◌, ℕ, List, [], ◌∷◌, ◌++◌, length, get_or, map, flat_map, zero, suc, All, Some, slice_get, inl, inr, ap, subst, sym, refl, ◌∙◌}
use Rattle.std.specs.List.{range_with_len}
use Rattle.std.proofs.lemmas.List.{map-append}
use Rattle.std.proofs.lemmas.List.Elements.{All-append, All-cons, All-nil}
use Rattle.convoy_stamps.proofs.Loops.{flat_map_range_more}
use Rattle.std.proofs.lemmas.Option.{slice_get_read}
use Rattle.convoy_toml.specs.declared.asked.Asked.{Asked}
use Rattle.convoy_branch.specs.Options.{Settings}
use Rattle.convoy_commands.specs.declared.fault.Fault.{Fault}
use Rattle.convoy_commands.specs.declared.fault.Fault.TheVariants.{Memory}
use Rattle.convoy_case_answers.specs.declared.found.Found.{Found}
use Rattle.convoy_case_answers.specs.declared.late.Late.{Late}
use Rattle.convoy_case_answers.specs.Founds.{AreFoundUpTo, IsCaseRefused, IsFound, IsFoundAmong, IsRefusedAmong}

-- the first numbers, as pieces of one number each
pieces : (n : ℕ) (from : ℕ) → flat_map (λ (k : ℕ). k ∷ []) (range_with_len from n) ≡ range_with_len from n
pieces zero from = refl
pieces (suc n) from = ap (λ (ks : List ℕ). from ∷ ks) (pieces n (from + 1))

range_more : (n : ℕ) → range_with_len 0 (n + 1) ≡ range_with_len 0 n ++ n ∷ []
range_more n = sym (pieces (n + 1) 0) ∙ flat_map_range_more (λ (k : ℕ). k ∷ []) n ∙ ap (λ (ks : List ℕ). ks ++ n ∷ []) (pieces n 0)

pub all_more : (late : Late) (cases : List Asked) (settings : Settings) (text : List ℕ) (n : ℕ) (case : Asked) (old new : List Found) (found : Found)
    → n < length cases → case ≡ get_or cases n case → AreFoundUpTo late cases settings text n old
    → (found.number ≡ n) × IsFound late case settings text found → new ≡ old ++ found ∷ []
    → AreFoundUpTo late cases settings text (n + 1) new
all_more late cases settings text n case old new found within read before (numbered, is) more = record {
  all = ap (λ (fs : List Found). map (λ (f : Found). f.number) fs) more
      ∙ map-append (λ (f : Found). f.number) old (found ∷ [])
      ∙ ap (λ (ns : List ℕ). ns ++ found.number ∷ []) before.all
      ∙ ap (λ (k : ℕ). range_with_len 0 n ++ k ∷ []) numbered
      ∙ sym (range_more n);
  found = subst (λ (fs : List Found). All (IsFoundAmong late cases settings text) fs) (sym more)
      (All-append (IsFoundAmong late cases settings text) old (found ∷ []) before.found (All-cons (IsFoundAmong late cases settings text) found [] among (All-nil (IsFoundAmong late cases settings text))));
} where
  there : slice_get cases n ≡ Some case
  there = slice_get_read cases (length cases) n case refl within read

  among : IsFoundAmong late cases settings text found
  among = record { case = case; there = ap (λ (k : ℕ). slice_get cases k) numbered ∙ there; is = is }

pub one_refused : (late : Late) (cases : List Asked) (text : List ℕ) (n : ℕ) (case : Asked) (fault : Fault)
    → n < length cases → case ≡ get_or cases n case → IsCaseRefused late case text fault ⊎ (fault ≡ Memory)
    → IsRefusedAmong late cases text fault ⊎ (fault ≡ Memory)
one_refused late cases text n case fault within read (inl refused) =
    inl (record { number = n; case = case; there = slice_get_read cases (length cases) n case refl within read; refused = refused })
one_refused late cases text n case fault within read (inr memory) = inr memory
