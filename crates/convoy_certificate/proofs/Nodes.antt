-- The node lines, one after another.
use Rattle.std.proofs.Common.{◌≡◌, ℕ, ◌+◌, if◌then◌else◌, true, false, List, [], ◌∷◌, ◌++◌, length, Option, Some, None, ok_or, Result, Ok, Err, ◌<◌, arith, refl, sym, ap, ◌∙◌, append_assoc}
use Rattle.std.proofs.lemmas.List.{append-nil}
use Rattle.convoy_scenario_lines.specs.declared.line_fault.Expected.TheVariants as expected
use Rattle.convoy_lines.specs.Places.{Place}
use Rattle.convoy_scenario_lines.specs.LineReading.{form_at}
use Rattle.convoy_draft.specs.declared.time.Time.{Time}
use Rattle.convoy_certificate.specs.declared.node.Node.{Node}
use Rattle.convoy_certificate.specs.declared.version.Version.{Version}
use Rattle.convoy_certificate.specs.declared.text_fault.TextFault.{TextFault}
use Rattle.convoy_certificate.specs.declared.text_fault.TextFault.TheVariants as faults
use Rattle.convoy_certificate.specs.Forms.{node_or_end}
use Rattle.convoy_lines.specs.Results.{◌>>=◌}
use Rattle.convoy_certificate.specs.Reading.{in_text, leads_with, are_too_many, from_node, nodes_in, nodes_at}

-- what is read so far, and what is to come
abbrev pub with_front : List Node → Result (List Node × Place) TextFault → Result (List Node × Place) TextFault
with_front front read = read >>= λ more. Ok (front ++ more.0, more.1)

regroup : (front : List Node) (node : Node) (read : Result (List Node × Place) TextFault) → with_front front (read >>= λ more. Ok (node ∷ more.0, more.1)) ≡ with_front (front ++ node ∷ []) read
regroup front node (Ok x) = ap (λ (ns : List Node). Ok (ns, x.1)) (sym (append_assoc front (node ∷ []) x.0))
regroup front node (Err e) = refl

abbrev place_in : Result (Option Node × Place) TextFault → Place → Place
place_in (Ok x) p = x.1
place_in (Err fault) p = p

-- what is no node is the end
pub no_node : (next : Option Node) → ((node : Node) → next ≡ Some node → ⊥) → next ≡ None
no_node None other = refl
no_node (Some node) other = absurd (other node refl)

module _ (version : Version) (time : Time) where
  abbrev pub node_at : Place → Result (Option Node × Place) TextFault
  node_at p = in_text (form_at expected.Node (node_or_end version time) p)

  -- the nodes after that one, if it is not one too many
  abbrev pub past_node : ℕ → ℕ → Place → Node → Result (List Node × Place) TextFault
  past_node count leads p node = if are_too_many count (leads_with leads node) then Err faults.TreeCount else nodes_at version time (count + 1) (leads_with leads node) p

  abbrev pub after_node : ℕ → ℕ → Option Node × Place → Result (List Node × Place) TextFault
  after_node count leads next = from_node next.0 next.1 (past_node count leads next.1)

  unfolds : (count leads number : ℕ) (rest : List ℕ) (ended : List (List ℕ)) → nodes_in version time count leads number rest ended ≡ (node_at (record { ended = ended; rest = rest; number = number }) >>= after_node count leads)
  unfolding nodes_in
  unfolds count leads number rest [] = refl
  unfolds count leads number rest (line ∷ lines) =
      elim (node_or_end version time line) as (λ n. (ok_or n (faults.Line number expected.Node) >>= λ next. from_node next (record { ended = lines; rest = rest; number = number + 1 }) (past_node count leads (record { ended = lines; rest = rest; number = number + 1 })))
      ≡ (in_text (form_at expected.Node (λ _. n) (record { ended = line ∷ lines; rest = rest; number = number })) >>= after_node count leads)) [ None ↦ refl | Some next ↦ refl ]

  one_more : (count leads : ℕ) (p : Place) → nodes_at version time count leads p ≡ (node_at p >>= after_node count leads)
  one_more count leads p = unfolds count leads p.number p.rest p.ended

  step : (front : List Node) (count leads : ℕ) (p : Place) (total : Result (List Node × Place) TextFault) (next : Result (Option Node × Place) TextFault) → next ≡ node_at p
      → with_front front (nodes_at version time count leads p) ≡ total → with_front front (next >>= after_node count leads) ≡ total
  step front count leads p total next e so_far = ap (λ r. with_front front (r >>= after_node count leads)) e ∙ sym (ap (with_front front) (one_more count leads p)) ∙ so_far

  pub faulty : (front : List Node) (count leads : ℕ) (p : Place) (total : Result (List Node × Place) TextFault) (fault : TextFault) → Err fault ≡ node_at p → with_front front (nodes_at version time count leads p) ≡ total → Err fault ≡ total
  faulty front count leads p total fault e so_far = step front count leads p total (Err fault) e so_far

  pub too_many : (front : List Node) (count leads : ℕ) (p : Place) (total : Result (List Node × Place) TextFault) (node : Node) (q : Place) → Ok (Some node, q) ≡ node_at p → are_too_many count (leads_with leads node) ≡ true
      → with_front front (nodes_at version time count leads p) ≡ total → Err faults.TreeCount ≡ total
  too_many front count leads p total node q e many so_far =
      let limit : with_front front (after_node count leads (Some node, q)) ≡ Err faults.TreeCount = rw many refl in
      sym limit ∙ step front count leads p total (Ok (Some node, q)) e so_far

  pub goes_on : (front : List Node) (count leads : ℕ) (p : Place) (total : Result (List Node × Place) TextFault) (node : Node) (q : Place) → Ok (Some node, q) ≡ node_at p → are_too_many count (leads_with leads node) ≡ false
      → with_front front (nodes_at version time count leads p) ≡ total → with_front (front ++ node ∷ []) (nodes_at version time (count + 1) (leads_with leads node) q) ≡ total
  goes_on front count leads p total node q e few so_far =
      let within : after_node count leads (Some node, q) ≡ (nodes_at version time (count + 1) (leads_with leads node) q >>= λ more. Ok (node ∷ more.0, more.1)) = rw few refl in
      sym (ap (with_front front) within ∙ regroup front node (nodes_at version time (count + 1) (leads_with leads node) q)) ∙ step front count leads p total (Ok (Some node, q)) e so_far

  pub done : (front : List Node) (count leads : ℕ) (p : Place) (total : Result (List Node × Place) TextFault) (q : Place) → Ok (None, q) ≡ node_at p → with_front front (nodes_at version time count leads p) ≡ total → Ok (front, q) ≡ total
  done front count leads p total q e so_far = ap (λ (ns : List Node). Ok (ns, q)) (sym (append-nil front)) ∙ step front count leads p total (Ok (None, q)) e so_far

  -- a node that was read leaves fewer lines
  pub falls : (p q : Place) (next : Option Node) → Ok (next, q) ≡ node_at p → length q.ended < length p.ended
  falls p q next e = shorter p.number p.rest p.ended e where
    shorter : (number : ℕ) (rest : List ℕ) (ended : List (List ℕ)) → Ok (next, q) ≡ node_at (record { ended = ended; rest = rest; number = number }) → length q.ended < length ended
    shorter number rest [] e = absurd cc
    shorter number rest (line ∷ lines) e = by_form (node_or_end version time line) e where
      by_form : (n : Option (Option Node)) → Ok (next, q) ≡ in_text (form_at expected.Node (λ _. n) (record { ended = line ∷ lines; rest = rest; number = number })) → length q.ended < length (line ∷ lines)
      by_form None e = absurd cc
      by_form (Some found) e = let same : q ≡ record { ended = lines; rest = rest; number = number + 1 } = ap (λ r. place_in r q) e in rw same (omega arith)
