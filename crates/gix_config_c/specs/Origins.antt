-- Where sections come from, in numbers, and filters of it.
use Rattle.std.specs.Prelude.{ℕ, ◌/◌, ◌%◌, ◌==◌, ◌&&◌, Bool, true, nat_le, if◌then◌else◌, Option, Some, None}
use Rattle.gitconf_sources.specs.Metadata.{Meta}
use Rattle.gitconf_sources.specs.declared.source.Source.{Source}
use Rattle.gitconf_sources.specs.declared.source.Source.TheVariants as sources
use Rattle.gitconf_sources.specs.declared.source.Trust.{Trust}
use Rattle.gitconf_sources.specs.declared.source.Trust.TheVariants as trusts
use Rattle.gix_config_c.specs.declared.origin.Filter.{Filter}

-- the number of a source: a bit of its own
abbrev pub source_number : Source → ℕ
source_number sources.GitInstallation = 1
source_number sources.System = 2
source_number sources.Git = 4
source_number sources.User = 8
source_number sources.Local = 16
source_number sources.Worktree = 32
source_number sources.Env = 64
source_number sources.Cli = 128
source_number sources.Api = 256
source_number sources.EnvOverride = 512

-- the number of a trust: greater for more trust
abbrev pub trust_number : Trust → ℕ
trust_number trusts.Reduced = 0
trust_number trusts.Full = 1

-- the source that has the number
abbrev pub source_of : (number : ℕ) → Option Source
source_of number =
    if number == 1 then Some sources.GitInstallation
    else if number == 2 then Some sources.System
    else if number == 4 then Some sources.Git
    else if number == 8 then Some sources.User
    else if number == 16 then Some sources.Local
    else if number == 32 then Some sources.Worktree
    else if number == 64 then Some sources.Env
    else if number == 128 then Some sources.Cli
    else if number == 256 then Some sources.Api
    else if number == 512 then Some sources.EnvOverride
    else None

-- the trust that has the number
abbrev pub trust_of : (number : ℕ) → Option Trust
trust_of number = if number == 0 then Some trusts.Reduced else if number == 1 then Some trusts.Full else None

-- the source is among those of the filter, and the trust is at least its least one
abbrev pub keeps : Filter → Meta → Bool
keeps filter meta = ((filter.sources / source_number meta.source) % 2 == 1) && nat_le filter.least_trust (trust_number meta.trust)

-- all is kept without a filter
abbrev pub keeps_if : Option Filter → Meta → Bool
keeps_if None = λ meta. true
keeps_if (Some filter) = keeps filter
