-- What messages follow, as it is drafted of a text.
use Rattle.std.proofs.Common.{◌≡◌, ℕ, ◌<◌, ◌==◌, zero, suc, Bool, true, List, [], ◌∷◌, length, find, take, get_or, slice_index_or, Option, Some, None, is_some, unwrap_or, inl, inr, refl, sym, ap, eq-eqb, ◌∙◌, arith}
use Rattle.std.specs.List.{list_all, range_with_len}
use Rattle.std.proofs.lemmas.Bool.{and_parts, cases_Bool, cond-true, cond-false, eqb-true, false≢true}
use Rattle.std.proofs.lemmas.List.{length-take}
use Rattle.std.proofs.lemmas.List.Quantifiers.{position-Some}
use Rattle.convoy_draft.specs.Draft.{Draft}
use Rattle.convoy_sim.proofs.Membership.{IsIn, in_of_find, in_of_flat_map, in_of_range}
use Rattle.convoy_workflows.specs.Rules.{DraftCause, draft_cause, draft_cause_from, draft_causes, message_named, no_draft_message}
use Rattle.convoy_workflows.specs.Shape.{WrittenCause}

-- ---- what is found, and what all pass
pub passed : {X : Type 0} (p : X → Bool) (x : X) (xs : List X) → IsIn x xs → list_all p xs ≡ true → p x ≡ true
passed p x [] i h = absurd i
passed p x (y ∷ ys) (inl e) h = ap p (sym e) ∙ (and_parts (p y) (list_all p ys) h).0
passed p x (y ∷ ys) (inr i) h = passed p x ys i (and_parts (p y) (list_all p ys) h).1

pub passed_at : {X : Type 0} (p : X → Bool) (xs : List X) (k : ℕ) (d : X) → k < length xs → list_all p xs ≡ true → p (get_or xs k d) ≡ true
passed_at p [] k d within h = absurd (omega arith)
passed_at p (x ∷ xs) zero d within h = (and_parts (p x) (list_all p xs) h).0
passed_at p (x ∷ xs) (suc k) d within h = passed_at p xs k d (omega arith) (and_parts (p x) (list_all p xs) h).1

-- where some element passes, the first that does is found
found_some : {X : Type 0} (p : X → Bool) (x : X) (xs : List X) → IsIn x xs → p x ≡ true → (y : X) × (find p xs ≡ Some y)
found_some p x [] i h = absurd i
found_some p x (y ∷ ys) i h = elim (cases_Bool (p y)) [
  | inl e ↦ (y, cond-true (p y) (Some y) (find p ys) e)
  | inr e ↦
      let later : IsIn x ys = elim i [
        | inl same ↦ absurd (false≢true (sym e ∙ ap p same ∙ h))
        | inr rest ↦ rest
      ] in
      let r = found_some p x ys later h in
      (r.0, cond-false (p y) (Some y) (find p ys) e ∙ r.1)
]

same_heads : {X : Type 0} (x y : X) → x ∷ [] ≡ y ∷ [] → x ≡ y
same_heads x y h = cc

module _ (draft : Draft) (written : List (Option WrittenCause)) where
  -- what message m follows
  abbrev pub drafted_of : ℕ → List DraftCause
  drafted_of m = draft_cause draft.groups draft.messages m (slice_index_or written m None)

  -- what it follows, where this is written
  abbrev pub drafted_from : ℕ → WrittenCause → DraftCause
  drafted_from m w = draft_cause_from draft.groups draft.messages m w.event (message_named w.message (take m draft.messages))

  in_step : (m : ℕ) (o : Option WrittenCause) (c : DraftCause) → IsIn c (draft_cause draft.groups draft.messages m o) → (w : WrittenCause) × (c ≡ drafted_from m w) × (draft_cause draft.groups draft.messages m o ≡ c ∷ [])
  in_step m None c i = absurd i
  in_step m (Some w) c (inl e) = (w, sym e, ap (λ (d : DraftCause). d ∷ []) e)
  in_step m (Some w) c (inr i) = absurd i

  -- a cause is that of its effect, which has no other
  pub record IsDrafted (c : DraftCause) : Type 0 where
    pub below : c.effect < length draft.messages
    pub cause : WrittenCause
    pub is : c ≡ drafted_from c.effect cause
    pub alone : drafted_of c.effect ≡ c ∷ []

  pub drafted : (c : DraftCause) → IsIn c (draft_causes draft written) → IsDrafted c
  drafted c i =
      let from = in_of_flat_map drafted_of c (range_with_len 0 (length draft.messages)) i in
      let within = in_of_range from.0 0 (length draft.messages) from.1 in
      let step = in_step from.0 (slice_index_or written from.0 None) c from.2 in
      let effect : c.effect ≡ from.0 = ap (λ (d : DraftCause). d.effect) step.1 in
      record {
        below = omega (arith, effect, within.1);
        cause = step.0;
        is = step.1 ∙ ap (λ (m : ℕ). drafted_from m step.0) (sym effect);
        alone = ap drafted_of effect ∙ step.2;
      }

  -- so it is what is found for its effect
  pub drafted_found : (c : DraftCause) → IsIn c (draft_causes draft written) → find (λ cause. cause.effect == c.effect) (draft_causes draft written) ≡ Some c
  drafted_found c i =
      let p : DraftCause → Bool = λ cause. cause.effect == c.effect in
      let some = found_some p c (draft_causes draft written) i (eq-eqb c.effect c.effect refl) in
      let there = in_of_find p some.0 (draft_causes draft written) some.1 in
      let same : some.0.effect ≡ c.effect = eqb-true some.0.effect c.effect there.1 in
      let one : some.0 ≡ c = same_heads some.0 c (sym (drafted some.0 there.0).alone ∙ ap drafted_of same ∙ (drafted c i).alone) in
      some.1 ∙ ap (λ (d : DraftCause). Some d) one

  -- the message that it follows stands before it
  pub drafted_before : (c : DraftCause) → IsIn c (draft_causes draft written) → is_some c.message ≡ true → unwrap_or c.message 0 < c.effect
  drafted_before c i some =
      let d = drafted c i in
      let named : c.message ≡ message_named d.cause.message (take c.effect draft.messages) = ap (λ (e : DraftCause). e.message) d.is in
      before c.message some named where
        before : (o : Option ℕ) → is_some o ≡ true → o ≡ message_named (drafted c i).cause.message (take c.effect draft.messages) → unwrap_or o 0 < c.effect
        before None some named = absurd (false≢true some)
        before (Some x) some named =
            let place = position-Some _ (take c.effect draft.messages) x no_draft_message (sym named) in
            let few = length-take c.effect draft.messages in
            omega (arith, place.0, few)
