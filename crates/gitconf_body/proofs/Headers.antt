-- Headers that are made.
use Rattle.std.proofs.Common.{◌≡◌, ℕ, ◌+◌, ◌≤◌, true, List, [], ◌∷◌, ◌++◌, length, Option, Some, None, refl, ap, sym, ◌∙◌, arith, length-append}
use Rattle.gitconf_text.specs.Header as grammar
use Rattle.gitconf_text.specs.Header.{spelled_header}
use Rattle.gitconf_text.specs.Names.{is_valid_or_none}
use Rattle.gitconf_text.specs.Token.{HeaderToken}
use Rattle.gitconf_items.specs.declared.event.Copied.{Copied}
use Rattle.gitconf_items.specs.declared.event.Span.{Span}
use Rattle.gitconf_items.specs.declared.event.Event.TheVariants as kinds
use Rattle.gitconf_items.specs.EventRef.{ShownHeader, escaped_subsection}
use Rattle.gitconf_items.specs.Events.{header_of}
use Rattle.gitconf_items.specs.ShownEvents.{CopyFits, IsShown, decoded_or, shown_token}
use Rattle.gitconf_state.specs.Edit.{made_header}
use Rattle.gitconf_state.proofs.Edits.Values.{made_subsection}
use Rattle.gitconf_body.specs.Buffers.{StandsAt}
use Rattle.gitconf_body.specs.Lines.{QuotedStands}
use Rattle.gitconf_body.specs.declared.section.Quoted.{Quoted}

-- a header without a subsection
pub plain_shown : (buffer copies name : List ℕ) (s : Span) → StandsAt buffer s name
    → IsShown buffer copies (kinds.SectionHeader (record { name = s; separator = None; subsection = None; decoded = None }))
plain_shown buffer copies name s stands = record {
  fits = record { name = stands.fits; separator = tt; subsection = tt; both = refl };
  copy_fits = tt;
  shown = refl;
}

-- one with a subsection in quotes
pub quoted_of : (buffer : List ℕ) (q : Quoted) (name spelling : List ℕ) (decoded : Option Copied) → QuotedStands buffer q name spelling
    → header_of buffer (record { name = q.name; separator = Some q.separator; subsection = Some q.subsection; decoded = decoded }) ≡ grammar.QuotedHeader name (32 ∷ []) spelling
quoted_of buffer q name spelling decoded s = rw (s.separator.is, s.name.is, s.subsection.is) refl

pub quoted_shown : (buffer copies : List ℕ) (q : Quoted) (name subsection : List ℕ) (decoded : Option Copied) → QuotedStands buffer q name (escaped_subsection subsection)
    → is_valid_or_none (Some subsection) ≡ true → CopyFits (length copies) decoded → decoded_or copies decoded (Some (escaped_subsection subsection)) ≡ Some subsection
    → IsShown buffer copies (kinds.SectionHeader (record { name = q.name; separator = Some q.separator; subsection = Some q.subsection; decoded = decoded }))
quoted_shown buffer copies q name subsection decoded s valid fits copied = record {
  fits = record { name = s.name.fits; separator = s.separator.fits; subsection = s.subsection.fits; both = refl };
  copy_fits = fits;
  shown = (λ i. ShownHeader (s.name.is i) (Some (s.separator.is i)) ((ap (λ t. decoded_or copies decoded (Some t)) s.subsection.is ∙ copied ∙ sym (made_subsection name (Some subsection) valid)) i))
      ∙ ap (λ h. shown_token (HeaderToken h)) (sym (quoted_of buffer q name (escaped_subsection subsection) decoded s));
}

-- no more bytes than the header has
pub plain_bytes : (name : List ℕ) → length name ≤ length (spelled_header (made_header name None))
plain_bytes name = let l = length-append name (93 ∷ []) in omega (arith, l)

pub quoted_bytes : (name subsection : List ℕ) → length name + 1 + length (escaped_subsection subsection) ≤ length (spelled_header (made_header name (Some subsection)))
quoted_bytes name subsection =
    let a = length-append name (32 ∷ 34 ∷ (escaped_subsection subsection ++ 34 ∷ 93 ∷ [])) in
    let b = length-append (escaped_subsection subsection) (34 ∷ 93 ∷ []) in
    omega (arith, a, b)
