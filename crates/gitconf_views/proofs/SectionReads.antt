-- The written text of a section alone is read back.
use Rattle.std.proofs.Common.{◌≡◌, ℕ, List, [], ◌∷◌, refl, subst, sym}
use Rattle.gitconf_text.specs.Document.{Reads}
use Rattle.gitconf_state.specs.State.{SectionState, HasSectionItems, section_document}
use Rattle.gitconf_state.specs.Clean.{IsCleanSection}
use Rattle.gitconf_state.specs.Printing.{printed_section}
use Rattle.gitconf_state.proofs.Printing.ReadsBack.{sections_read_back}

-- a section alone, whatever is held behind it
pub section_reads : (s : SectionState) → HasSectionItems (record s { held = [] }) → IsCleanSection (record s { held = [] })
    → Reads (printed_section s) (record { front = []; sections = section_document s ∷ [] })
section_reads s has clean =
    (sections_read_back (record { front = []; meta = s.meta; next = 0; used = 0; sections = (record s { held = [] }) ∷ [] })
    (record { front = refl; sections = (has, tt) }) (record { sections = (clean, tt); blanks = refl; names = refl })).0

pub section_text_reads : (text : List ℕ) (s : SectionState) → text ≡ printed_section s → HasSectionItems (record s { held = [] }) → IsCleanSection (record s { held = [] })
    → Reads text (record { front = []; sections = section_document s ∷ [] })
section_text_reads text s is has clean = subst (λ t. Reads t (record { front = []; sections = section_document s ∷ [] })) (sym is) (section_reads s has clean)
