use Rattle.std.proofs.Common.{◌≡◌, ℕ, ◌∙◌, ◌||◌, Bool, List, [], ◌∷◌, map, Bor, refl, ap, rules, tests}
use Rattle.std.specs.List.{list_any}
use Rattle.std.specs.Str.{bytes_eq}
use Rattle.std.proofs.lemmas.Iterator.{YieldsList-from_slice}
use Rattle.std.proofs.lemmas.Iterator.Search.{any_from_yields_List}
use Rattle.convoy_workflows.proofs.shape.is_one_of.Goals as goal

any_map : {X Y : Type 0} (p : Y → Bool) (f : X → Y) (xs : List X) → list_any (λ x. p (f x)) xs ≡ list_any p (map f xs)
any_map p f [] = refl
any_map p f (x ∷ xs) = ap (λ rest. p (f x) || rest) (any_map p f xs)

pub returns : goal.returns
returns c =
    let is : Bor (List ℕ) → Bool = λ w. bytes_eq w.now c.args.word.now in
    any_from_yields_List is _ _ _ c.any.ensures.ran (YieldsList-from_slice c.args.words.now c.iter.ensures.rest) (λ x b q k. search (rules, tests))
    ∙ any_map (λ known. bytes_eq known c.args.word.now) (λ (w : Bor (List ℕ)). w.now) c.args.words.now
