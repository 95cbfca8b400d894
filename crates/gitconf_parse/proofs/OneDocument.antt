-- A text has one document, so its file answers as it does.
use Rattle.std.proofs.Common.{◌≡◌, ℕ, true, List, ap, sym, ◌∙◌}
use Rattle.gitconf_sources.specs.Key.{Key}
use Rattle.gitconf_text.specs.Document.{Document, Reads, unmarked}
use Rattle.gitconf_state.specs.Lookup.{all_values, last_value, listed}
use Rattle.gitconf_state.specs.State.{State, document_of}
use Rattle.gitconf_read.proofs.OneDocument as reader
use Rattle.gitconf_parse.specs.Lookup.{value_of_key, values_of_key}
use Rattle.gitconf_parse.proofs.Decisions.{file_value, file_values}

same_document : (text : List ℕ) (d other : Document) → Reads text d → Reads text other → d ≡ other
same_document text d other x y =
    x.2 ∙ reader.one_document (unmarked text) x.0 y.0 x.1.spelled_is x.1.fits y.1.spelled_is y.1.fits ∙ sym y.2

pub text_value : (text : List ℕ) (d : Document) (state : State) (key : Key) → Reads text d → Reads text (document_of state)
    → value_of_key key d ≡ last_value key.section key.subsection key.name (λ _. true) (listed state)
text_value text d state key x y = ap (value_of_key key) (same_document text d (document_of state) x y) ∙ sym (file_value key state)

pub text_values : (text : List ℕ) (d : Document) (state : State) (key : Key) → Reads text d → Reads text (document_of state)
    → values_of_key key d ≡ all_values key.section key.subsection key.name (λ _. true) (listed state)
text_values text d state key x y = ap (values_of_key key) (same_document text d (document_of state) x y) ∙ sym (file_values key state)
