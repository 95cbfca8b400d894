-- What is written after calls on a file that was loaded whole reads back.
use Rattle.std.proofs.Common.{◌≡◌, ℕ, List, Option, Some, None, subst, sym}
use Rattle.std.specs.Prelude.{IfSome, length}
use Rattle.gitconf_text.specs.Document.{IsText, Reads}
use Rattle.gitconf_text.specs.Part.{Part}
use Rattle.gitconf_text.specs.Token.{tokens_of}
use Rattle.gitconf_sources.specs.Metadata.{api_meta}
use Rattle.gitconf_state.specs.Made.{IsMade}
use Rattle.gitconf_state.specs.Printing.{printed}
use Rattle.gitconf_state.specs.State.{State, document_of}
use Rattle.gitconf_state.proofs.Loading.Clean.{full_has_items, full_is_clean}
use Rattle.gix_config_laws.specs.Headline.{AreCleanCalls, Call, Runs}
use Rattle.gix_config_laws.specs.Programs.{ReadsAfter}
use Rattle.gix_config_laws.proofs.ReadsBack.{made_is_load, runs_read}

pub some_weaker : {A : Type 0} (o : Option A) (P Q : A → Type 0) → ((a : A) → P a → Q a) → IfSome o P → IfSome o Q
some_weaker None P Q f p = tt
some_weaker (Some a) P Q f p = f a p

pub reads_after : (text : List ℕ) (calls : State → List Call) (loaded left : State) (parts : List Part) (is : IsText text parts)
    → IsMade (tokens_of parts) api_meta (length text) loaded → (runs : Runs (calls loaded) loaded left) → AreCleanCalls (calls loaded) loaded left runs
    → (written : List ℕ) → written ≡ printed left → ReadsAfter text calls written
reads_after text calls loaded left parts is made runs clean written same =
    let load = made_is_load parts api_meta (length text) loaded made in
    record {
      loaded = loaded;
      left = left;
      parts = parts;
      is_text = is;
      made = made;
      runs = runs;
      reads = subst (λ w. Reads w (document_of left)) (sym same)
          (runs_read (calls loaded) loaded left runs clean (full_has_items parts loaded is.fits load) (full_is_clean parts loaded is.fits load));
    }
