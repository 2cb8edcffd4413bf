-- What a command reads, by what its command line says.
use Rattle.std.specs.Prelude.{◌≡◌, List, ℕ, Option, Some, None, codes, string_bytes}
use Rattle.convoy_arguments.specs.declared.input.Input.{Input}
use Rattle.convoy_arguments.specs.declared.input.Input.TheVariants as inputs

-- the input of that name: standard input where there is none, or the name is `-`
abbrev pub IsNamed : Option (List ℕ) → Input → Type 0
IsNamed None inputs.Standard = Unit {0}
IsNamed (Some name) inputs.Standard = name ≡ codes "-"
IsNamed (Some name) (inputs.File file) = (string_bytes file ≡ name) × ¬ (name ≡ codes "-")
IsNamed None (inputs.File file) = ⊥

-- the name of the file, where it is one
abbrev pub file_in : Input → Option (List ℕ)
file_in inputs.Standard = None
file_in (inputs.File file) = Some (string_bytes file)

-- the name of the file with the scenario that is wanted, where there is one
abbrev pub wanted_file : Option Input → Option (List ℕ)
wanted_file None = None
wanted_file (Some input) = file_in input

-- not both texts of a task come from standard input
abbrev pub AreApart : Option Input → Input → Type 0
AreApart (Some inputs.Standard) inputs.Standard = ⊥
AreApart wanted text = Unit {0}
