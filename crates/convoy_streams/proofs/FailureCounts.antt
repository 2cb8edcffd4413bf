-- How many failures a list of answers has.
use Rattle.std.proofs.Common.{◌≡◌, List, [], ◌∷◌, ◌++◌, refl}
use Rattle.std.specs.List.{All}
use Rattle.std.proofs.lemmas.List.Elements.{All-head, All-tail}
use Rattle.convoy_streams.specs.Devices.{Answer, Moved, Failed, IsPiece, failures}

-- pieces are no failures
pub none_in_pieces : (answers : List Answer) → All IsPiece answers → failures answers ≡ 0
none_in_pieces [] each = refl
none_in_pieces (Moved bytes ∷ answers) each = none_in_pieces answers (All-tail IsPiece (Moved bytes) answers each)
none_in_pieces (Failed ∷ answers) each = absurd (All-head IsPiece Failed answers each)

-- after pieces, all depends on the last answer
pub after_pieces : (pieces : List Answer) (last : Answer) → All IsPiece pieces →
    failures (pieces ++ last ∷ []) ≡ failures (last ∷ [])
after_pieces [] last each = refl
after_pieces (Moved bytes ∷ pieces) last each = after_pieces pieces last (All-tail IsPiece (Moved bytes) pieces each)
after_pieces (Failed ∷ pieces) last each = absurd (All-head IsPiece Failed pieces each)

-- where there is no answer there is no failure
pub in_nothing : (answers : List Answer) → answers ≡ [] → failures answers ≡ 0
in_nothing answers none = rw none refl
