use Rattle.std.proofs.Common.{◌≡◌, ℕ, true, false, length, refl, sym, ap, ◌∙◌, inl, Ok, Err, Some, string_bytes, List, [], ◌∷◌, ◌++◌}
use Rattle.std.specs.Prelude.{is_some, position}
use Rattle.std.specs.BTreeMap.{get_by_text}
use Rattle.std.proofs.lemmas.Map.Text.{btree_map_updates_text}
use Rattle.convoy_traces.specs.declared.fault.Cause.TheVariants.{Twice}
use Rattle.convoy_traces.specs.declared.fault.TraceFault.TheVariants.{Line}
use Rattle.convoy_trace_ranges.specs.Events.{Entry}
use Rattle.convoy_trace_ranges.specs.Marks.{has_mark, is_told, mark_of}
use Rattle.convoy_trace_ranges.proofs.Indexing.{index_more, told_by_index}
use Rattle.convoy_trace_ranges.proofs.traced.Traced.with.Goals as goal

pub returns-then-contains_key : goal.returns-then-contains_key
returns-then-contains_key c =
    let key : List ℕ = string_bytes c.in_ok-mark.mark in
    let key_is : key ≡ mark_of c.args.one = c.in_ok-mark.ensures in
    let found : is_some (get_by_text c.self.inside.places key) ≡ true = sym (rw c.as_str.ensures.value at c.contains_key.ensures) ∙ c.if-contains_key.true in
    let told : is_told c.args.self c.args.one ≡ true =
    rw (← c.self.view_is) (told_by_index c.self.inside.entries.items c.args.one (get_by_text c.self.inside.places) key key_is c.self.invariant ∙ found) in
    rw told (inl (ap (λ (one : Entry). Err (Line one.line Twice)) c.one.view_is))

pub invariant_of-result : goal.invariant_of-result
invariant_of-result c =
    let key : List ℕ = string_bytes c.in_ok-mark.mark in
    let key_is : key ≡ mark_of c.args.one = c.in_ok-mark.ensures in
    let none : is_some (get_by_text c.self.inside.places key) ≡ false = sym (rw c.as_str.ensures.value at c.contains_key.ensures) ∙ c.if-contains_key.false in
    let more = btree_map_updates_text key c.self.inside.places c.insert.new.self _ c.in_ok-insert.ensures.updates in
    rw c.in_ok-push.ensures.items
    (index_more c.self.inside.entries.items c.args.one (get_by_text c.self.inside.places) key key_is c.self.invariant (get_by_text c.insert.new.self) _ (ap length c.as_slice-place.ensures.value) none more)

pub returns : goal.returns
returns c =
    let key : List ℕ = string_bytes c.in_ok-mark.mark in
    let key_is : key ≡ mark_of c.args.one = c.in_ok-mark.ensures in
    let none : is_some (get_by_text c.self.inside.places key) ≡ false = sym (rw c.as_str.ensures.value at c.contains_key.ensures) ∙ c.if-contains_key.false in
    let told : is_told c.args.self c.args.one ≡ false =
    rw (← c.self.view_is) (told_by_index c.self.inside.entries.items c.args.one (get_by_text c.self.inside.places) key key_is c.self.invariant ∙ none) in
    rw told (inl (ap Ok (c.in_ok-push.ensures.items ∙ ap (λ (entries : List Entry). entries ++ c.args.one ∷ []) c.self.view_is)))
