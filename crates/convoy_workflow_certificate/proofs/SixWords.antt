-- A line of six words, which is appended word by word.
use Rattle.std.proofs.Common.{◌≡◌, ℕ, List, [], ◌∷◌, ◌++◌, refl, ap, ◌∙◌, append_assoc}
use Rattle.std.proofs.lemmas.List.{append-nil}

regroup : (old l a b c d e f z : List ℕ) → (((((((old ++ l) ++ a) ++ b) ++ c) ++ d) ++ e) ++ f) ++ z ≡ old ++ ((l ++ (a ++ (b ++ (c ++ (d ++ (e ++ (f ++ []))))))) ++ z)
regroup old l a b c d e f z = simp (append_assoc, append-nil)

pub six_words : (old l a b c d e f z t1 t2 t3 t4 t5 t6 t7 t8 : List ℕ) → t1 ≡ old ++ l → t2 ≡ t1 ++ a → t3 ≡ t2 ++ b → t4 ≡ t3 ++ c → t5 ≡ t4 ++ d → t6 ≡ t5 ++ e
    → t7 ≡ t6 ++ f → t8 ≡ t7 ++ z → t8 ≡ old ++ ((l ++ (a ++ (b ++ (c ++ (d ++ (e ++ (f ++ []))))))) ++ z)
six_words old l a b c d e f z t1 t2 t3 t4 t5 t6 t7 t8 e1 e2 e3 e4 e5 e6 e7 e8 =
    e8
    ∙ ap (λ t. t ++ z)
    (e7 ∙ ap (λ t. t ++ f) (e6 ∙ ap (λ t. t ++ e) (e5 ∙ ap (λ t. t ++ d) (e4 ∙ ap (λ t. t ++ c) (e3 ∙ ap (λ t. t ++ b) (e2 ∙ ap (λ t. t ++ a) e1))))))
    ∙ regroup old l a b c d e f z
