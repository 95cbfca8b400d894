-- Written texts are read back.
use Rattle.std.proofs.Common.{◌≡◌, ℕ, true, List, ◌++◌, map, ap, subst, sym}
use Rattle.std.specs.Prelude.{flat_map}
use Rattle.gitconf_text.specs.Part.{Part}
use Rattle.gitconf_text.specs.Document.{IsText, Reads}
use Rattle.gitconf_state.specs.State.{SectionState, State, HasItems, document_of, document_of_kept, entries_of, section_document}
use Rattle.gitconf_state.specs.Clean.{IsClean}
use Rattle.gitconf_state.specs.Comments.{item_comments, comments, comments_of, comments_of_kept}
use Rattle.gitconf_state.specs.Printing.{printed}
use Rattle.gitconf_state.proofs.Printing.ReadsBack.{all_reads_back, filter_all}
use Rattle.gitconf_parse.proofs.CommentLaws.{all_comments}

pub text_reads : (text : List ℕ) (state : State) → HasItems state → text ≡ printed state → IsClean state → Reads text (document_of state)
text_reads text state has is clean = subst (λ t. Reads t (document_of state)) (sym is) (all_reads_back state has clean)

pub text_comments : (text : List ℕ) (state : State) → HasItems state → text ≡ printed state → IsClean state → (parts : List Part) → IsText text parts → comments_of parts ≡ comments state
text_comments text state has is clean parts text_is = all_comments state has clean parts (subst (λ t. IsText t parts) is text_is)

-- all sections
pub whole_document : (text : List ℕ) (state : State) → Reads text (document_of_kept (λ _. true) state) → Reads text (document_of state)
whole_document text state reads =
    subst (λ (sections : List SectionState). Reads text (record { front = entries_of state.front; sections = map section_document sections })) (filter_all state.sections) reads

pub whole_comments : (state : State) → comments_of_kept (λ _. true) state ≡ comments state
whole_comments state = ap (λ (sections : List SectionState). flat_map item_comments state.front ++ flat_map (λ s. flat_map item_comments (s.items ++ s.held)) sections) (filter_all state.sections)
