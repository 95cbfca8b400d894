-- Files at the places of sources.
use Rattle.std.proofs.Common.{◌≡◌, ℕ, true, false, List, [], ◌∷◌, ◌++◌, Option, Some, None, refl, sym, ap, ◌∙◌, append_assoc, append-nil}
use Rattle.std.specs.Prelude.{IfSome}
use Rattle.gitconf_sources.specs.Metadata.{Meta, meta_of_file}
use Rattle.gitconf_sources.specs.declared.source.Source.{Source}
use Rattle.gitconf_sources.specs.declared.source.Trust.TheVariants.{Full}
use Rattle.gitconf_sources.specs.Reports.{FileReport, is_there, May, VariableReport}
use Rattle.gitconf_sources.specs.declared.host.Places.{Places}
use Rattle.gitconf_sources.specs.Places.{IsPlaced, place_of}
use Rattle.gitconf_sources.specs.FoundFiles.{AreFound, IsFound}

-- what a call of the host says, the table may say
pub may : {T : Type 0} (P : T → Type 0) (table : Option T) → IfSome table P → May table P
may P None told = tt
may P (Some t) told = told

module _ (variables : Option (List ℕ → VariableReport)) (places : Places) (table : Option (List ℕ → FileReport)) where
  -- a source without a place
  pub no_place : (source : Source) → IsPlaced variables (λ var. place_of var places source) None → IsFound variables places table source []
  no_place source placed = (None, placed, refl)

  -- a place at which no file is
  pub no_file : (source : Source) (path : List ℕ) → IsPlaced variables (λ var. place_of var places source) (Some path) → IfSome table (λ files. false ≡ is_there (files path))
      → IsFound variables places table source []
  no_file source path placed told = (Some path, placed, (false, may (λ files. false ≡ is_there (files path)) table told, refl))

  -- a file that is found
  pub a_file : (source : Source) (path : List ℕ) (meta : Meta) → IsPlaced variables (λ var. place_of var places source) (Some path) → IfSome table (λ files. true ≡ is_there (files path))
      → meta ≡ meta_of_file path source Full → IsFound variables places table source (meta ∷ [])
  a_file source path meta placed told is = (Some path, placed, (true, may (λ files. true ≡ is_there (files path)) table told, ap (λ m. m ∷ []) is))

  -- four sources, one after the other
  pub four : (one two three last : Source) (first second third fourth : List Meta) (found : List Meta) → IsFound variables places table one first → IsFound variables places table two second
      → IsFound variables places table three third → IsFound variables places table last fourth → found ≡ first ++ (second ++ (third ++ (fourth ++ [])))
      → AreFound variables places table (one ∷ two ∷ three ∷ last ∷ []) found
  four one two three last first second third fourth found is_first is_second is_third is_fourth is = (
    first,
    is_first,
    second ++ (third ++ (fourth ++ [])),
    (second, is_second, third ++ (fourth ++ []), (third, is_third, fourth ++ [], (fourth, is_fourth, [], refl, refl), refl), refl),
    is,
  )

-- a list that is pushed to four times
pub pushed : {A : Type 0} (none one two three all first second third fourth : List A) → none ≡ [] → one ≡ none ++ first → two ≡ one ++ second → three ≡ two ++ third → all ≡ three ++ fourth
    → all ≡ first ++ (second ++ (third ++ (fourth ++ [])))
pushed none one two three all first second third fourth e0 e1 e2 e3 e4 =
    e4 ∙ ap (λ l. l ++ fourth) (e3 ∙ ap (λ l. l ++ third) (e2 ∙ ap (λ l. l ++ second) (e1 ∙ ap (λ l. l ++ first) e0)))
    ∙ append_assoc (first ++ second) third fourth ∙ append_assoc first second (third ++ fourth)
    ∙ ap (λ l. first ++ (second ++ (third ++ l))) (sym (append-nil fourth))
