-- The sources of configuration and their groups, as git-config's manual page names them under "FILES".
use Rattle.std.specs.Prelude.{Bool, true, ◌&&◌, List, [], ◌∷◌}
use Rattle.std.specs.List.{list_all}
use Rattle.std.specs.Ordering.{is_lt}
use Rattle.std.specs.declared.cmp.Ordering.{Ordering}
use Rattle.gitconf_sources.specs.declared.source.Source.{Source}
use Rattle.gitconf_sources.specs.declared.source.Source.TheVariants as source
use Rattle.gitconf_sources.specs.declared.source.Kind.{Kind}
use Rattle.gitconf_sources.specs.declared.source.Kind.TheVariants as kind
use Rattle.gitconf_sources.specs.declared.source.Trust.{Trust}
use Rattle.gitconf_sources.specs.declared.source.Trust.TheVariants.{Reduced, Full}

-- the group of a source
abbrev pub kind_of : Source → Kind
kind_of source.GitInstallation = kind.GitInstallation
kind_of source.System = kind.System
kind_of source.Git = kind.Global
kind_of source.User = kind.Global
kind_of source.Local = kind.Repository
kind_of source.Worktree = kind.Repository
kind_of source.Env = kind.Override
kind_of source.Cli = kind.Override
kind_of source.Api = kind.Override
kind_of source.EnvOverride = kind.Override

-- the sources of a group, lowest first; what overrides everything is in no list
abbrev pub sources_of : Kind → List Source
sources_of kind.GitInstallation = source.GitInstallation ∷ []
sources_of kind.System = source.System ∷ []
sources_of kind.Global = source.Git ∷ source.User ∷ []
sources_of kind.Repository = source.Local ∷ source.Worktree ∷ []
sources_of kind.Override = source.Env ∷ source.Cli ∷ source.Api ∷ []

-- the sources in the order in which they are read, lowest first
abbrev pub sources_in_order : List Source
sources_in_order =
    source.GitInstallation ∷ source.System ∷ source.Git ∷ source.User ∷ source.Local ∷ source.Worktree ∷ source.Env ∷ source.Cli ∷ source.Api ∷ source.EnvOverride ∷ []

-- the groups of sources in the order in which they are read, lowest first
abbrev pub kinds_in_order : List Kind
kinds_in_order = kind.GitInstallation ∷ kind.System ∷ kind.Global ∷ kind.Repository ∷ kind.Override ∷ []

-- trust, lowest first
abbrev pub trust_in_order : List Trust
trust_in_order = Reduced ∷ Full ∷ []

-- each element comes before all those after it
abbrev pub ascends : {A : Type 0} → (A → A → Ordering) → List A → Bool
ascends cmp [] = true
ascends cmp (x ∷ xs) = list_all (λ y. is_lt (cmp x y)) xs && ascends cmp xs
