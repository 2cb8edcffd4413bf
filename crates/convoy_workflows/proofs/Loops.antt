-- Loops over messages, one more at a time.
use Rattle.std.proofs.Common.{◌≡◌, ℕ, ◌+◌, suc, List, [], ◌∷◌, ◌++◌, length, flat_map, slice_index_or, refl, sym, ap, ◌∙◌, arith}
use Rattle.std.specs.List.{range_with_len}
use Rattle.std.proofs.lemmas.List.{flat_map_more}
use Rattle.convoy_draft.specs.Draft.{DraftMessage}
use Rattle.convoy_scenario.proofs.NumberLemmas.{range_with_len-more}
use Rattle.convoy_workflows.specs.Windows.{Window, message_within, messages_within, own_window}

-- what f gives of one number more
pub flat_map_range_more : {X : Type 0} (f : ℕ → List X) (n : ℕ) → flat_map f (range_with_len 0 (n + 1)) ≡ flat_map f (range_with_len 0 n) ++ f n
flat_map_range_more f n =
    let next : n + 1 ≡ suc n = omega arith in
    let last : 0 + n ≡ n = omega arith in
    ap (λ m. flat_map f (range_with_len 0 m)) next
    ∙ ap (flat_map f) (range_with_len-more 0 n)
    ∙ ap (λ m. flat_map f (range_with_len 0 n ++ m ∷ [])) last
    ∙ sym (flat_map_more f [] (range_with_len 0 n) n)

-- one message more in its window
within_after : (windows : List Window) (m : ℕ) (messages : List DraftMessage) (next : DraftMessage)
    → messages_within windows m (messages ++ next ∷ []) ≡ messages_within windows m messages ++ message_within (slice_index_or windows (m + length messages) (own_window next)) next ∷ []
within_after windows m [] next =
    let same : m ≡ m + 0 = omega arith in
    ap (λ k. message_within (slice_index_or windows k (own_window next)) next ∷ []) same
within_after windows m (message ∷ messages) next =
    let same : m + 1 + length messages ≡ m + suc (length messages) = omega arith in
    ap (λ rest. message_within (slice_index_or windows m (own_window message)) message ∷ rest)
    (within_after windows (m + 1) messages next
    ∙ ap (λ k. messages_within windows (m + 1) messages ++ message_within (slice_index_or windows k (own_window next)) next ∷ []) same)

pub length-messages_within : (windows : List Window) (m : ℕ) (messages : List DraftMessage) → length (messages_within windows m messages) ≡ length messages
length-messages_within windows m [] = refl
length-messages_within windows m (message ∷ messages) = ap suc (length-messages_within windows (m + 1) messages)

pub within_more : (windows : List Window) (messages done : List DraftMessage) (count : ℕ) (next : DraftMessage) → done ≡ messages_within windows 0 messages → count ≡ length messages
    → messages_within windows 0 (messages ++ next ∷ []) ≡ done ++ message_within (slice_index_or windows count (own_window next)) next ∷ []
within_more windows messages done count next so_far many =
    let same : 0 + length messages ≡ count = omega (arith, many) in
    within_after windows 0 messages next
    ∙ ap (λ k. messages_within windows 0 messages ++ message_within (slice_index_or windows k (own_window next)) next ∷ []) same
    ∙ ap (λ before. before ++ message_within (slice_index_or windows count (own_window next)) next ∷ []) (sym so_far)
