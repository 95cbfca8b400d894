-- What callers see of metadata: a text is its bytes.
use Rattle.std.specs.Prelude.{ℕ, Bool, List, ◌++◌, Option, Some, None, nat_eq}
use Rattle.std.specs.Option.{option_eq, option_cmp}
use Rattle.std.specs.Str.{bytes_eq}
use Rattle.std.specs.Ordering.{nat_cmp, on, then_cmp, eq_of_both}
use Rattle.std.specs.Cmp.Lexicographic.{slice_cmp}
use Rattle.std.specs.Hash as fed
use Rattle.std.specs.declared.cmp.Ordering.{Ordering}
use Rattle.gitconf_sources.specs.contracts.source.SourcePartialEq.TheImpl as source_eq
use Rattle.gitconf_sources.specs.contracts.source.SourceOrd.TheImpl as source_ord
use Rattle.gitconf_sources.specs.contracts.source.SourceHash.TheImpl as source_hash
use Rattle.gitconf_sources.specs.contracts.source.TrustPartialEq.TheImpl as trust_eq
use Rattle.gitconf_sources.specs.contracts.source.TrustOrd.TheImpl as trust_ord
use Rattle.gitconf_sources.specs.contracts.source.TrustHash.TheImpl as trust_hash
use Rattle.gitconf_sources.specs.declared.source.Source.{Source}
use Rattle.gitconf_sources.specs.declared.source.Source.TheVariants.{Api}
use Rattle.gitconf_sources.specs.declared.source.Trust.{Trust}
use Rattle.gitconf_sources.specs.declared.source.Trust.TheVariants.{Full}

-- where a section comes from: its file's path, the place, the includes above it, the trust in it
pub record Meta : Type 0 where
  pub path : Option (List ℕ)
  pub source : Source
  pub level : ℕ
  pub trust : Trust

-- that of what the calling program sets
abbrev pub api_meta : Meta
api_meta = record { path = None; source = Api; level = 0; trust = Full }

-- that of a file that no other file includes
abbrev pub meta_of_file : List ℕ → Source → Trust → Meta
meta_of_file path source trust = record { path = Some path; source = source; level = 0; trust = trust }

-- that of a source without a file: level 0 and full trust
abbrev pub meta_of_source : Source → Meta
meta_of_source source = record api_meta { source = source }

-- equal in each part; paths are compared byte by byte
abbrev pub same_meta : Meta → Meta → Bool
same_meta =
    eq_of_both (eq_of_both (eq_of_both (on (λ m. m.path) (option_eq bytes_eq)) (on (λ m. m.source) (source_eq.ghosts).eq)) (on (λ m. m.level) nat_eq))
    (on (λ m. m.trust) (trust_eq.ghosts).eq)

-- ordered by path, then source, level and trust
abbrev pub meta_cmp : Meta → Meta → Ordering
meta_cmp =
    then_cmp (then_cmp (then_cmp (on (λ m. m.path) (option_cmp (slice_cmp nat_cmp))) (on (λ m. m.source) (source_ord.ghosts).cmp)) (on (λ m. m.level) nat_cmp))
    (on (λ m. m.trust) (trust_ord.ghosts).cmp)

-- what is hashed: path, source, level and trust
abbrev pub meta_hash : Meta → fed.HashWrites
meta_hash m = fed.option fed.str m.path ++ (source_hash.ghosts).hash_input m.source ++ fed.u8 m.level ++ (trust_hash.ghosts).hash_input m.trust
