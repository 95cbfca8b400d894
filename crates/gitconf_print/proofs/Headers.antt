-- The text of a header, part by part.
use Rattle.std.proofs.Common.{◌≡◌, ℕ, Bool, true, false, List, [], ◌∷◌, ◌++◌, Option, Some, None, Decides, refl, ap, sym, append_assoc}
use Rattle.std.specs.Prelude.{if◌then◌else◌}
use Rattle.std.proofs.lemmas.Slice.Eq.{bytes_eq-Decides}
use Rattle.std.specs.Str.{bytes_eq}
use Rattle.gitconf_text.specs.Header.{DottedHeader, QuotedHeader, spelled_header}
use Rattle.gitconf_items.specs.declared.event.Span.{Span}
use Rattle.gitconf_items.specs.declared.event.Header.{Header}
use Rattle.gitconf_items.specs.Events.{bytes_of, header_form, header_of}
use Rattle.gitconf_print.specs.Runs.{behind_name}

spelled_is : (name separator subsection : List ℕ) (dot : Bool) → Decides dot (separator ≡ 46 ∷ [])
    → spelled_header (if dot then DottedHeader name subsection else QuotedHeader name separator subsection)
    ≡ 91 ∷ (name ++ ((if dot then separator ++ subsection else separator ++ 34 ∷ (subsection ++ 34 ∷ [])) ++ 93 ∷ []))
spelled_is name separator subsection true is = rw (is.0 refl) refl
spelled_is name separator subsection false is = ap (λ t. 91 ∷ (name ++ t)) (sym (simp append_assoc))

header_is : (buffer name : List ℕ) (separator subsection : Option Span)
    → spelled_header (header_form buffer name separator subsection) ≡ 91 ∷ (name ++ (behind_name buffer separator subsection ++ 93 ∷ []))
header_is buffer name None subsection = refl
header_is buffer name (Some separator) None = refl
header_is buffer name (Some separator) (Some subsection) =
    spelled_is name (bytes_of buffer separator) (bytes_of buffer subsection) (bytes_eq (bytes_of buffer separator) (46 ∷ [])) (bytes_eq-Decides (bytes_of buffer separator) (46 ∷ []))

-- a header is its bracket, its name, what follows that, and its bracket
pub header_parts : (buffer : List ℕ) (h : Header)
    → spelled_header (header_of buffer h) ≡ 91 ∷ (bytes_of buffer h.name ++ (behind_name buffer h.separator h.subsection ++ 93 ∷ []))
header_parts buffer h = header_is buffer (bytes_of buffer h.name) h.separator h.subsection
