-- What is found among those that are left, from the first of them on.
use Rattle.std.proofs.Common.{◌≡◌, ℕ, suc, ◌+◌, ◌-◌, ◌<◌, ◌≤◌, Bool, true, false, if◌then◌else◌, List, [], ◌∷◌, ◌++◌, length, get_or, drop, Some, None, Option, Result, Ok, Err, refl, ap, sym, ◌∙◌, inl, arith}
use Rattle.std.specs.Str.{bytes_eq}
use Rattle.std.specs.List.{list_all}
use Rattle.std.proofs.lemmas.List.{drop_all, drop_more}
use Rattle.convoy_scenario.specs.Scenario.{Message, no_message}
use Rattle.convoy_scenario.specs.Memory.{IsUnlessMemory}
use Rattle.convoy_traces.specs.declared.told.Entry.{Entry}
use Rattle.convoy_traces.specs.declared.told.Told.{Told}
use Rattle.convoy_traces.specs.declared.fault.TraceFault.{TraceFault}
use Rattle.convoy_traces.specs.declared.fault.TraceFault.TheVariants.{Memory}
use Rattle.convoy_traces.specs.Rows.{message_numbered, numbered}
use Rattle.convoy_traces.specs.Traces.{fine_from, fine_of, first_factor, is_whole}
use Rattle.convoy_traces.proofs.Chains.{goes_on, stops}

module _ (names : List (List ℕ)) (word : List ℕ) (i : ℕ) (total : Option ℕ) (below : i < length names)
    (so_far : numbered i (drop i names) word ≡ total) where
  opened : (if bytes_eq (get_or names i []) word then Some i else numbered (i + 1) (drop (i + 1) names) word) ≡ total
  opened = sym (ap (λ (ns : List (List ℕ)). numbered i ns word) (drop_more names i [] below)) ∙ so_far

  pub name_met : bytes_eq (get_or names i []) word ≡ true → Some i ≡ total
  name_met is = rw is at opened

  pub name_passed : bytes_eq (get_or names i []) word ≡ false → numbered (i + 1) (drop (i + 1) names) word ≡ total
  name_passed isnt = rw isnt at opened

pub no_name : (names : List (List ℕ)) (word : List ℕ) (i : ℕ) (total : Option ℕ) → length names ≤ i → numbered i (drop i names) word ≡ total → None ≡ total
no_name names word i total past so_far = sym (ap (λ (ns : List (List ℕ)). numbered i ns word) (drop_all i names past)) ∙ so_far

module _ (messages : List Message) (word : List ℕ) (i : ℕ) (total : Option ℕ) (below : i < length messages)
    (so_far : message_numbered i (drop i messages) word ≡ total) where
  opened_message : (if bytes_eq (get_or messages i no_message).name word then Some i else message_numbered (i + 1) (drop (i + 1) messages) word) ≡ total
  opened_message = sym (ap (λ (ms : List Message). message_numbered i ms word) (drop_more messages i no_message below)) ∙ so_far

  pub message_met : bytes_eq (get_or messages i no_message).name word ≡ true → Some i ≡ total
  message_met is = rw is at opened_message

  pub message_passed : bytes_eq (get_or messages i no_message).name word ≡ false → message_numbered (i + 1) (drop (i + 1) messages) word ≡ total
  message_passed isnt = rw isnt at opened_message

pub no_message_met : (messages : List Message) (word : List ℕ) (i : ℕ) (total : Option ℕ) → length messages ≤ i → message_numbered i (drop i messages) word ≡ total → None ≡ total
no_message_met messages word i total past so_far = sym (ap (λ (ms : List Message). message_numbered i ms word) (drop_all i messages past)) ∙ so_far

module _ (tick : ℕ) (entries : List Entry) (most before : ℕ) (total : Option ℕ) (below : before < most)
    (so_far : first_factor tick entries (most - before) (before + 1) ≡ total) where
  one_less : most - before ≡ suc (most - (before + 1))
  one_less = omega arith

  opened_factor : first_factor tick entries (suc (most - (before + 1))) (before + 1) ≡ total
  opened_factor = rw one_less at so_far

  pub factor_met : list_all (is_whole tick (before + 1)) entries ≡ true → Some (before + 1) ≡ total
  unfolding first_factor
  factor_met is = rw is at opened_factor

  pub factor_passed : list_all (is_whole tick (before + 1)) entries ≡ false → first_factor tick entries (most - (before + 1)) (before + 1 + 1) ≡ total
  unfolding first_factor
  factor_passed isnt = rw isnt at opened_factor

pub no_factor : (tick : ℕ) (entries : List Entry) (most before : ℕ) (total : Option ℕ) → most ≤ before → first_factor tick entries (most - before) (before + 1) ≡ total → None ≡ total
unfolding first_factor
no_factor tick entries most before total past so_far = let none : most - before ≡ 0 = omega arith in rw none at so_far

module _ (tick factor : ℕ) (entries : List Entry) (some : Entry) (i : ℕ) (told : List Told) (total : Result (List Told) TraceFault) (below : i < length entries)
    (so_far : fine_from tick factor told (drop i entries) ≡ total) where
  opened_fine : fine_from tick factor told (get_or entries i some ∷ drop (i + 1) entries) ≡ total
  opened_fine = sym (ap (fine_from tick factor told) (drop_more entries i some below)) ∙ so_far

  pub fine_more : (fine : Told) → fine_of tick factor (get_or entries i some) ≡ Ok fine → fine_from tick factor (told ++ fine ∷ []) (drop (i + 1) entries) ≡ total
  unfolding fine_from
  fine_more fine given =
      goes_on (fine_of tick factor (get_or entries i some)) (λ f. fine_from tick factor (told ++ f ∷ []) (drop (i + 1) entries)) fine total (inl (sym given)) opened_fine

  pub fine_stops : (fault : TraceFault) → fine_of tick factor (get_or entries i some) ≡ Err fault → IsUnlessMemory Memory total (Err fault)
  unfolding fine_from
  fine_stops fault given =
      stops (fine_of tick factor (get_or entries i some)) (λ f. fine_from tick factor (told ++ f ∷ []) (drop (i + 1) entries)) fault total (inl (sym given)) opened_fine

pub fine_done : (tick factor : ℕ) (entries : List Entry) (i : ℕ) (told : List Told) (total : Result (List Told) TraceFault) → length entries ≤ i
    → fine_from tick factor told (drop i entries) ≡ total → IsUnlessMemory Memory total (Ok told)
unfolding fine_from
fine_done tick factor entries i told total past so_far = inl (sym (ap (fine_from tick factor told) (drop_all i entries past)) ∙ so_far)
