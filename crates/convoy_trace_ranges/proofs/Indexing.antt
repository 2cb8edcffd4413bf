-- The index of entries with one more.
use Rattle.std.proofs.Common.{◌≡◌, cond, ℕ, Bool, true, false, List, [], ◌∷◌, ◌++◌, length, Option, Some, None, refl, ap, sym, ◌∙◌, inl, inr}
use Rattle.std.specs.Prelude.{is_some, position}
use Rattle.std.specs.Str.{bytes_eq}
use Rattle.std.proofs.lemmas.Bool.{cases_Bool}
use Rattle.std.proofs.lemmas.Slice.Eq.{bytes_eq-Decides}
use Rattle.convoy_trace_ranges.specs.Events.{Entry}
use Rattle.convoy_trace_ranges.specs.Marks.{has_mark, is_told, mark_of}
use Rattle.convoy_trace_ranges.proofs.Marking.{found_same, pushed_new, pushed_other}

-- what is none
none_from : (o : Option ℕ) → is_some o ≡ false → o ≡ None
none_from None is = refl
none_from (Some n) is = absurd cc

module _ (entries : List Entry) (one : Entry) (get : List ℕ → Option ℕ) (key : List ℕ) (key_is : key ≡ mark_of one)
    (index : (mark : List ℕ) → get mark ≡ position (has_mark mark) entries) where
  -- the event is told where its mark is found
  pub told_by_index : is_told entries one ≡ is_some (get key)
  told_by_index = rw key_is (found_same (has_mark (mark_of one)) entries ∙ ap is_some (sym (index (mark_of one))))

  -- each mark is found, where the new one was not
  pub index_more : (new : List ℕ → Option ℕ) (place : ℕ) → place ≡ length entries → is_some (get key) ≡ false
      → ((mark : List ℕ) → new mark ≡ cond (bytes_eq key mark) (Some place) (get mark))
      → (mark : List ℕ) → new mark ≡ position (has_mark mark) (entries ++ one ∷ [])
  index_more new place last none is mark =
      elim (cases_Bool (bytes_eq key mark)) [
        | inl same ↦
            let equal : key ≡ mark = (bytes_eq-Decides key mark).0 same in
            let first : position (has_mark mark) entries ≡ None = sym (index mark) ∙ none_from (get mark) (rw (← equal) none) in
            let passes : has_mark mark one ≡ true = rw (← key_is) same in
            is mark ∙ ap (λ (b : Bool). cond b (Some place) (get mark)) same ∙ ap Some last ∙ sym (pushed_new (has_mark mark) entries one first passes)
        | inr differs ↦
            let fails : has_mark mark one ≡ false = rw (← key_is) differs in
            is mark ∙ ap (λ (b : Bool). cond b (Some place) (get mark)) differs ∙ index mark ∙ sym (pushed_other (has_mark mark) entries one fails)
      ]
