-- Bytes appended to the buffer leave every view as it is.
use Rattle.std.proofs.Common.{◌≡◌, ℕ, List, [], ◌∷◌, ◌++◌, length, map, Option, Some, None, refl, ap, sym, ◌∙◌}
use Rattle.std.specs.Prelude.{if◌then◌else◌}
use Rattle.std.specs.List.{AllByRecursion}
use Rattle.std.specs.Option.{option_map}
use Rattle.std.specs.Str.{bytes_eq}
use Rattle.gitconf_text.specs.Header as grammar
use Rattle.gitconf_text.specs.Bytes.{fold}
use Rattle.gitconf_text.specs.Token.{HeaderToken}
use Rattle.gitconf_text.specs.Sections.{SectionEntry}
use Rattle.gitconf_items.specs.declared.event.Span.{Span}
use Rattle.gitconf_items.specs.declared.event.Header.{Header}
use Rattle.gitconf_items.specs.declared.event.Event.TheVariants as kinds
use Rattle.gitconf_items.specs.Events.{bytes_of, header_of, header_form, OptionFits, HeaderFits}
use Rattle.gitconf_items.specs.EventRef.{ShownHeader}
use Rattle.gitconf_items.specs.ShownEvents.{decoded_or, shown_token, IsShown}
use Rattle.gitconf_body.proofs.Append.{bytes_more, span_more, items_more, items_fit_more}
use Rattle.gitconf_sections.specs.Section.{Section}
use Rattle.gitconf_views.specs.Store.{section_state, SectionFits}

form_more : (buffer more name : List ℕ) (separator subsection : Option Span) → OptionFits (length buffer) separator → OptionFits (length buffer) subsection
    → header_form (buffer ++ more) name separator subsection ≡ header_form buffer name separator subsection
form_more buffer more name None subsection fits fits_too = refl
form_more buffer more name (Some s) None fits fits_too = refl
form_more buffer more name (Some s) (Some t) fits fits_too = λ i.
    if bytes_eq (bytes_more buffer more s fits i) (46 ∷ []) then grammar.DottedHeader name (bytes_more buffer more t fits_too i)
    else grammar.QuotedHeader name (bytes_more buffer more s fits i) (bytes_more buffer more t fits_too i)

-- a header is spelled as before
pub header_more : (buffer more : List ℕ) (h : Header) → HeaderFits (length buffer) h → header_of (buffer ++ more) h ≡ header_of buffer h
header_more buffer more h fits =
    ap (λ n. header_form (buffer ++ more) n h.separator h.subsection) (bytes_more buffer more h.name fits.name)
    ∙ form_more buffer more (bytes_of buffer h.name) h.separator h.subsection fits.separator fits.subsection

option_more : (buffer more : List ℕ) (o : Option Span) → OptionFits (length buffer) o → option_map (bytes_of (buffer ++ more)) o ≡ option_map (bytes_of buffer) o
option_more buffer more None fits = refl
option_more buffer more (Some s) fits = ap (λ (t : List ℕ). Some t) (bytes_more buffer more s fits)

option_fits_more : (buffer more : List ℕ) (o : Option Span) → OptionFits (length buffer) o → OptionFits (length (buffer ++ more)) o
option_fits_more buffer more None fits = tt
option_fits_more buffer more (Some s) fits = span_more buffer more s fits

pub header_shown_more : (buffer copies more : List ℕ) (h : Header) → IsShown buffer copies (kinds.SectionHeader h) → IsShown (buffer ++ more) copies (kinds.SectionHeader h)
header_shown_more buffer copies more h s = record {
  fits = record {
    name = span_more buffer more h.name s.fits.name;
    separator = option_fits_more buffer more h.separator s.fits.separator;
    subsection = option_fits_more buffer more h.subsection s.fits.subsection;
    both = s.fits.both;
  };
  copy_fits = s.copy_fits;
  shown = (λ i. ShownHeader (bytes_more buffer more h.name s.fits.name i) (option_more buffer more h.separator s.fits.separator i)
      (decoded_or copies h.decoded (option_more buffer more h.subsection s.fits.subsection i)))
      ∙ s.shown ∙ ap (λ t. shown_token (HeaderToken t)) (sym (header_more buffer more h s.fits));
}

-- a section is the same, and stands within the longer buffer
pub section_more : (buffer copies more : List ℕ) (e : SectionEntry Section) → SectionFits buffer copies e → section_state (buffer ++ more) e ≡ section_state buffer e
section_more buffer copies more e fits = λ i. record {
  number = e.number;
  header = header_more buffer more e.section.header fits.header.fits i;
  meta = e.section.meta.value;
  items = items_more buffer more e.section.items.items fits.items i;
  held = items_more buffer more e.section.held.items fits.held i;
}

pub section_fits_more : (buffer copies more : List ℕ) (e : SectionEntry Section) → SectionFits buffer copies e → SectionFits (buffer ++ more) copies e
section_fits_more buffer copies more e fits = record {
  header = header_shown_more buffer copies more e.section.header fits.header;
  items = items_fit_more buffer more e.section.items.items fits.items;
  held = items_fit_more buffer more e.section.held.items fits.held;
  name = fits.name ∙ ap (λ h. fold (grammar.name_of h)) (sym (header_more buffer more e.section.header fits.header.fits));
  subsection = fits.subsection ∙ ap grammar.subsection_of (sym (header_more buffer more e.section.header fits.header.fits));
}

pub sections_more : (buffer copies more : List ℕ) (es : List (SectionEntry Section)) → AllByRecursion (SectionFits buffer copies) es
    → map (section_state (buffer ++ more)) es ≡ map (section_state buffer) es
sections_more buffer copies more [] fits = refl
sections_more buffer copies more (e ∷ es) fits = λ i. section_more buffer copies more e fits.0 i ∷ sections_more buffer copies more es fits.1 i

pub sections_fit_in_more : (buffer copies more : List ℕ) (es : List (SectionEntry Section)) → AllByRecursion (SectionFits buffer copies) es
    → AllByRecursion (SectionFits (buffer ++ more) copies) es
sections_fit_in_more buffer copies more [] fits = tt
sections_fit_in_more buffer copies more (e ∷ es) fits = (section_fits_more buffer copies more e fits.0, sections_fit_in_more buffer copies more es fits.1)
