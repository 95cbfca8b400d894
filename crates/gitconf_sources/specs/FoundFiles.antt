-- The files at the places of sources.
-- Source: git-config's manual page, under "FILES"; the order is that in which Git reads them.
use Rattle.std.specs.Prelude.{◌≡◌, ℕ, Bool, true, false, List, [], ◌∷◌, ◌++◌, Option, Some, None}
use Rattle.gitconf_sources.specs.Metadata.{Meta, meta_of_file}
use Rattle.gitconf_sources.specs.declared.source.Source.{Source}
use Rattle.gitconf_sources.specs.declared.source.Source.TheVariants.{GitInstallation, System, Git, User}
use Rattle.gitconf_sources.specs.declared.source.Trust.TheVariants.{Full}
use Rattle.gitconf_sources.specs.Reports.{FileReport, is_there, May, VariableReport}
use Rattle.gitconf_sources.specs.declared.host.Places.{Places}
use Rattle.gitconf_sources.specs.Places.{IsPlaced, place_of}

-- the sources, in the order in which they are read
abbrev pub global_sources : List Source
global_sources = GitInstallation ∷ System ∷ Git ∷ User ∷ []

-- what was found, as a list of one or none
abbrev pub found_list : Option Meta → List Meta
found_list None = []
found_list (Some meta) = meta ∷ []

-- the metadata of the file at a place, if there is a file
abbrev pub IsFileAt : Option (List ℕ → FileReport) → Source → (place : Option (List ℕ)) → List Meta → Type 0
IsFileAt table source None found = found ≡ []
IsFileAt table source (Some path) found = (there : Bool) × May table (λ told. there ≡ is_there (told path)) × elim there [
  | true ↦ found ≡ meta_of_file path source Full ∷ []
  | false ↦ found ≡ []
]

-- the same, for the place of a source, by what variables are set to
abbrev pub IsFound : Option (List ℕ → VariableReport) → Places → Option (List ℕ → FileReport) → Source → List Meta → Type 0
IsFound variables places table source found =
    (place : Option (List ℕ)) × IsPlaced variables (λ var. place_of var places source) place × IsFileAt table source place found

-- the metadata of the files of sources, in order
abbrev pub AreFound : Option (List ℕ → VariableReport) → Places → Option (List ℕ → FileReport) → List Source → List Meta → Type 0
AreFound variables places table [] found = found ≡ []
AreFound variables places table (source ∷ sources) found =
    (here : List Meta) × IsFound variables places table source here × (rest : List Meta) × AreFound variables places table sources rest × (found ≡ here ++ rest)
