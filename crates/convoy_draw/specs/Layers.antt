-- Three layers of an image's elements, of which a later one lies over an earlier one.
use Rattle.std.specs.Prelude.{ℕ, List, [], ◌∷◌, ◌++◌, codes}
use Rattle.convoy_picture.specs.declared.role.Role.{Role}
use Rattle.convoy_picture.specs.declared.role.Role.TheVariants.{Target, Holder, Other}
use Rattle.convoy_draw.specs.Drawings.{Tells}

-- an element that is drawn so and that tells so
abbrev pub element_text : List ℕ → List ℕ → List ℕ
element_text told drawn = codes "<g><title>" ++ (told ++ (codes "</title>" ++ (drawn ++ (codes "</g>" ++ 10 ∷ []))))

-- the elements of each layer, one after the other
pub record Layers : Type 0 where
  pub others : List ℕ
  pub holder : List ℕ
  pub target : List ℕ

-- the layer of a role
abbrev pub layer_of : Layers → Role → List ℕ
layer_of layers Target = layers.target
layer_of layers Holder = layers.holder
layer_of layers Other = layers.others

-- one more element in the layer of a role
abbrev pub with_element : Layers → Role → List ℕ → Layers
with_element layers Target element = record layers { target = layers.target ++ element }
with_element layers Holder element = record layers { holder = layers.holder ++ element }
with_element layers Other element = record layers { others = layers.others ++ element }

-- one of the layers has a piece
pub record IsToldIn (layers : Layers) (piece : List ℕ) : Type 0 where
  pub role : Role
  pub told : Tells piece (layer_of layers role)
