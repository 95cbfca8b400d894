-- The printed text is read back: it has no mark, and its parts that fit have the document of the state.
use Rattle.std.proofs.Common.{◌≡◌, ◌<◌, ℕ, Bool, true, false, List, [], ◌∷◌, ◌++◌, length, refl, ap, sym, subst, ◌∙◌, append_assoc, arith}
use Rattle.std.specs.Prelude.{nat_eq, filter}
use Rattle.std.specs.Char.{is_ascii_alphabetic}
use Rattle.std.specs.List.{list_all, AllByRecursion}
use Rattle.std.proofs.lemmas.Bool.{eqb-true}
use Rattle.gitconf_text.specs.Bytes.{is_blank}
use Rattle.gitconf_text.specs.Text.{begins_line_end, are_line_ends}
use Rattle.gitconf_text.specs.Unit.{is_mark}
use Rattle.gitconf_text.specs.Header.{PlainHeader, DottedHeader, QuotedHeader}
use Rattle.gitconf_text.specs.Names.{is_value_name}
use Rattle.gitconf_text.specs.Part.{BlanksItem, LineEndsItem, CommentItem, EntryItem, Part, ItemPart, HeaderPart, spelled, AreFit}
use Rattle.gitconf_text.specs.Document.{Document, unmarked, IsText, Reads, gathered}
use Rattle.gitconf_text.proofs.Tests.{both_true}
use Rattle.gitconf_state.specs.State.{SectionState, State, HasSectionItems, HasItems, section_document, document_of_kept, document_of}
use Rattle.gitconf_state.specs.Clean.{IsCleanSection, IsClean}
use Rattle.gitconf_state.specs.Printing.{section_parts, printed_parts, printed_kept, printed, printed_section}
use Rattle.gitconf_state.specs.Writing.{Closed}
use Rattle.gitconf_state.proofs.Printing.Fitted.{Fitted}
use Rattle.gitconf_state.proofs.Printing.Apart.{AreApart, fitted}
use Rattle.gitconf_state.proofs.Printing.SectionsApart.{IsSection, all_both, all_mapped, section_apart, printed_apart}
use Rattle.gitconf_state.proofs.Printing.PrintedDocument.{section_document-is, printed_document}

-- a text that begins with a byte that passes a test that the mark doesn't pass
unmarked_byte : (p : ℕ → Bool) (b : ℕ) (rest : List ℕ) → p 239 ≡ false → p b ≡ true → unmarked (b ∷ rest) ≡ b ∷ rest
unmarked_byte p b rest fails passes = go (nat_eq 239 b) refl
  where
    go : (t : Bool) → nat_eq 239 b ≡ t → unmarked (b ∷ rest) ≡ b ∷ rest
    go false e = rw e refl
    go true e = absurd (let h : p 239 ≡ true = ap p (eqb-true 239 b e) ∙ passes in cc)

-- blanks are no mark
unmarked_run : (run rest : List ℕ) → 0 < length run → list_all is_blank run ≡ true → unmarked (run ++ rest) ≡ run ++ rest
unmarked_run [] rest some all = absurd (omega arith)
unmarked_run (b ∷ run) rest some all = unmarked_byte is_blank b (run ++ rest) refl (both_true (is_blank b) (list_all is_blank run) all).0

-- line endings are no mark
unmarked_line_ends : (run rest : List ℕ) → 0 < length run → are_line_ends run ≡ true → unmarked (run ++ rest) ≡ run ++ rest
unmarked_line_ends [] rest some all = absurd (omega arith)
unmarked_line_ends (b ∷ run) rest some all = unmarked_byte (λ b. begins_line_end (b ∷ run)) b (run ++ rest) refl (both_true (begins_line_end (b ∷ run)) (are_line_ends run) all).0

-- a name is no mark
unmarked_name : (name rest : List ℕ) → is_value_name name ≡ true → unmarked (name ++ rest) ≡ name ++ rest
unmarked_name [] rest named = absurd (cc)
unmarked_name (b ∷ name) rest named = unmarked_byte is_ascii_alphabetic b (name ++ rest) refl (both_true _ _ named).0

-- parts that fit don't begin with a mark
unmarked_parts : (parts : List Part) → AreFit parts [] → unmarked (spelled parts) ≡ spelled parts
unmarked_parts [] fits = refl
unmarked_parts (ItemPart (BlanksItem run) ∷ parts) fits = unmarked_run run (spelled parts) fits.0.0 fits.0.1
unmarked_parts (ItemPart (LineEndsItem run) ∷ parts) fits = unmarked_line_ends run (spelled parts) fits.0.0 fits.0.1
unmarked_parts (ItemPart (CommentItem tag text) ∷ parts) fits = unmarked_byte is_mark tag (text ++ spelled parts) refl fits.0.0
unmarked_parts (ItemPart (EntryItem e) ∷ parts) fits = subst (λ t. unmarked t ≡ t) (sym (append_assoc e.name _ (spelled parts))) (unmarked_name e.name _ fits.0.0)
unmarked_parts (HeaderPart (PlainHeader name) ∷ parts) fits = refl
unmarked_parts (HeaderPart (DottedHeader name subsection) ∷ parts) fits = refl
unmarked_parts (HeaderPart (QuotedHeader name blanks spelling) ∷ parts) fits = refl

-- a text of parts that fit is those parts
pub is_text : {text : List ℕ} {document : Document} {comments : List (List ℕ)} (f : Fitted text document comments) → IsText text f.parts
is_text f = record { spelled_is = ap unmarked (sym f.same) ∙ unmarked_parts f.parts f.fits; fits = f.fits }

-- the text of parts of which none runs into the next has their document
reads : (parts : List Part) → AreApart Closed parts → Reads (spelled parts) (gathered parts)
reads parts apart = let f = fitted parts apart in (f.parts, is_text f, sym f.document_is)

-- The text of a section alone is read back.
pub sections_read_back : (state : State) → HasItems state → IsClean state
    → AllByRecursion (λ s. Reads (printed_section s) (record { front = []; sections = section_document s ∷ [] })) state.sections
sections_read_back state has clean = all_mapped IsSection (λ s. Reads (printed_section s) (record { front = []; sections = section_document s ∷ [] })) state.sections
    (λ s is. subst (Reads (printed_section s)) (section_document-is s) (reads (section_parts s) (section_apart s is)))
    (all_both HasSectionItems IsCleanSection state.sections has.sections clean.sections)

-- The text of a state is read back.
pub kept_reads_back : (keeps : SectionState → Bool) (state : State) → HasItems state → IsClean state → Reads (printed_kept keeps state) (document_of_kept keeps state)
kept_reads_back keeps state has clean = subst (Reads (printed_kept keeps state)) (printed_document keeps state clean) (reads (printed_parts keeps state) (printed_apart keeps state has clean))

-- a filter that keeps all
pub filter_all : {A : Type 0} (xs : List A) → filter (λ _. true) xs ≡ xs
filter_all [] = refl
filter_all (x ∷ xs) = ap (λ ys. x ∷ ys) (filter_all xs)

-- The text of all of a state is read back.
pub all_reads_back : (state : State) → HasItems state → IsClean state → Reads (printed state) (document_of state)
all_reads_back state has clean =
    subst (λ (sections : List SectionState). Reads (printed state) (document_of (record { front = state.front; meta = state.meta; next = state.next; used = state.used; sections = sections })))
    (filter_all state.sections) (kept_reads_back (λ _. true) state has clean)
