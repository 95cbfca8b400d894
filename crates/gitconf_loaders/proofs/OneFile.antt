-- One file that is loaded by its path, by how the call ends.
use Rattle.std.proofs.Common.{◌≡◌, ℕ, ◌==◌, Bool, true, false, List, Option, Some, None, Result, Ok, Err, inl, inr, refl, sym, ap, ◌∙◌, subst, string_bytes}
use Rattle.std.specs.Prelude.{IfErr, IfSome, IsErrAnd}
use Rattle.std.proofs.lemmas.Bool.{eqb-true}
use Rattle.std.specs.declared.alloc.Global.{Global}
use Rattle.std.specs.declared.string.String.{String}
use Rattle.std.specs.declared.vec.Vec.{Vec}
use Rattle.gitconf_sources.specs.Metadata.{meta_of_file}
use Rattle.gitconf_sources.specs.declared.source.Source.{Source}
use Rattle.gitconf_sources.specs.declared.source.Trust.{Trust}
use Rattle.gitconf_sources.specs.Reports.{FileReport, IsReadOf, IsTrustOf, May, read_of, trust_of}
use Rattle.gitconf_sources.specs.declared.fault.FileFault.{FileFault}
use Rattle.gitconf_sources.specs.declared.fault.Stage.{Stage}
use Rattle.gitconf_sources.specs.declared.fault.Stage.TheVariants.{Open, Read, Memory}
use Rattle.gitconf_read.specs.EventResult.{IsRefused}
use Rattle.gitconf_read.specs.ParseError.{Refusal}
use Rattle.gitconf_state.specs.State.{State}
use Rattle.gitconf_includes.specs.Expansion.{IsLoadOf}
use Rattle.gitconf_loaders.specs.declared.from_paths.Error.{Error}
use Rattle.gitconf_includes.specs.Errors.{init_of_parse}
use Rattle.gitconf_loaders.specs.Errors.{paths_of_init, paths_says}
use Rattle.gitconf_loaders.specs.Paths.{IsLoadedFrom, IsFileRead, telling}
use Rattle.gitconf_loaders.specs.Refused.{fault_refused, parse_refused, within, Refused, Unmade, Unparsed}
use Rattle.gitconf_includes.specs.Said.{known}

-- a text that is read is returned by the table
pub answered : {Z : Type 0} (table : Option (List ℕ → FileReport)) (path : List ℕ) (text : Vec ℕ Z)
    → IfSome table (λ files. IsReadOf (Ok text) (files path)) → May table (λ files. ◌≡◌ {A = Result (List ℕ) FileFault} (Ok text.items) (read_of (files path)))
answered None path text told = tt
answered (Some files) path text told = sym told

-- and so is a trust
pub trusted : (table : Option (List ℕ → FileReport)) (path : List ℕ) (trust : Trust) → IfSome table (λ files. IsTrustOf (Ok trust) (files path))
    → May table (λ files. ◌≡◌ {A = Result Trust FileFault} (Ok trust) (trust_of (files path)))
trusted None path trust told = tt
trusted (Some files) path trust told = sym told

module _ (table : Option (List ℕ → FileReport)) (path : List ℕ) (source : Source) where
  -- the trust can't be told
  pub not_trusted : (fault : FileFault) (why : Refused) → IfSome table (λ files. IsTrustOf (Err fault) (files path)) → why ≡ fault_refused path fault → IsLoadedFrom table path source (Err why)
  not_trusted fault why told is = go table told
    where
      go : (table : Option (List ℕ → FileReport)) → IfSome table (λ files. IsTrustOf (Err fault) (files path)) → IsLoadedFrom table path source (Err why)
      go None told = inr (Err fault, tt, ap Err is)
      go (Some files) (inl wanting) = inl (ap Err (is ∙ rw wanting refl))
      go (Some files) (inr told) = inr (Err fault, sym told, ap Err is)

  -- what is trusted is read
  pub reads : (trust : Trust) (r : Result State Refused) → IfSome table (λ files. IsTrustOf (Ok trust) (files path)) → IsFileRead table path source trust r → IsLoadedFrom table path source r
  reads trust r told read = inr (Ok trust, trusted table path trust told, read)

  -- the file can't be read
  pub not_read : (Z : Type 0) (trust : Trust) (fault : FileFault) (why : Refused) → IfSome table (λ files. IsTrustOf (Ok trust) (files path))
      → IfSome table (λ files. IsReadOf {Z = Z} (Err fault) (files path)) → why ≡ fault_refused path fault → IsLoadedFrom table path source (Err why)
  not_read Z trust fault why told read is = go table told read
    where
      go : (table : Option (List ℕ → FileReport)) → IfSome table (λ files. IsTrustOf (Ok trust) (files path)) → IfSome table (λ files. IsReadOf {Z = Z} (Err fault) (files path))
          → IsLoadedFrom table path source (Err why)
      go None told read = inr (Ok trust, tt, (Err fault, tt, ap Err is))
      go (Some files) told (inl wanting) = inl (ap Err (is ∙ rw wanting refl))
      go (Some files) told (inr read) = inr (Ok trust, sym told, (Err fault, sym read, ap Err is))

  -- the outcome of the load is that of the file
  pub loads : {Z : Type 0} (trust : Trust) (text : Vec ℕ Z) (r : Result State Refused) → IfSome table (λ files. IsTrustOf (Ok trust) (files path)) → IfSome table (λ files. IsReadOf (Ok text) (files path))
      → IsLoadOf (λ e. within (Unmade path) (parse_refused e)) false text.items (meta_of_file path source trust) r → IsLoadedFrom table path source r
  loads trust text r told read load = reads trust r told (Ok text.items, answered table path text read, load)

-- what the parser's refusals say
parse_says : (at : String Global) (path : List ℕ) (e : Refusal) → string_bytes at ≡ path → paths_says (paths_of_init at (init_of_parse e)) ≡ within (Unmade path) (parse_refused e)
parse_says at path e same = go (e.number == 27) refl
  where
    go : (b : Bool) → (e.number == 27) ≡ b → paths_says (paths_of_init at (init_of_parse e)) ≡ within (Unmade path) (parse_refused e)
    go true is = rw is refl
    go false is = rw is (ap (λ (p : List ℕ). Unmade p (Unparsed (known e))) same)

-- the parser refuses
pub not_parsed : {Z : Type 0} (table : Option (List ℕ → FileReport)) (path : List ℕ) (source : Source) (trust : Trust) (text : Vec ℕ Z) (at : String Global) (e : Refusal) (result : Result State Error)
    → IfSome table (λ files. IsTrustOf (Ok trust) (files path)) → IfSome table (λ files. IsReadOf (Ok text) (files path)) → string_bytes at ≡ path → IsRefused text.items e
    → IsErrAnd result (λ r. r ≡ paths_of_init at (init_of_parse e)) → IsLoadedFrom table path source (telling paths_says result)
not_parsed table path source trust text at e (Ok made) told read same refused err = absurd err
not_parsed table path source trust text at e (Err r) told read same refused err =
    loads table path source trust text (Err (paths_says r)) told read (e, refused, ap paths_says err ∙ parse_says at path e same)
