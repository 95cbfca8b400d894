-- A header is set as one with the same name and subsection.
use Rattle.std.proofs.Common.{◌≡◌, ◌<◌, ℕ, Bool, true, false, not, List, [], ◌∷◌, ◌++◌, length, Some, refl, ap, sym, append_assoc, arith}
use Rattle.std.specs.Prelude.{◌==◌, ◌&&◌, flat_map, codes}
use Rattle.std.specs.Char.{to_ascii_lowercase}
use Rattle.std.specs.List.{list_all}
use Rattle.std.specs.Str.{bytes_eq}
use Rattle.std.proofs.lemmas.Bool.Decides.{nat_tests}
use Rattle.std.proofs.lemmas.Str.Ascii.{lowercase-lowercase}
use Rattle.gitconf_text.specs.Bytes.{is_blank, is_header_byte, fold}
use Rattle.gitconf_text.specs.Unit.{TextUnit, Escape, OpenEscape, Plain, units_of}
use Rattle.gitconf_text.specs.Header.{Header, PlainHeader, DottedHeader, QuotedHeader, spelled_header, is_subsection_unit, subsection_byte, unquoted, FitsHeader, name_of, subsection_of}
use Rattle.gitconf_text.specs.Token.{HeaderToken}
use Rattle.gitconf_items.specs.EventRef.{ShownHeader, written, escaped_subsection}
use Rattle.gitconf_items.specs.ShownEvents.{separator_of, shown_token}
use Rattle.gitconf_text.proofs.Tests.{both_true, apart}
use Rattle.gitconf_items.proofs.Subsections.{reads_back}

-- letters in lower case stay
fold_again : (name : List ℕ) → fold (fold name) ≡ fold name
fold_again [] = refl
fold_again (b ∷ bs) = λ j. lowercase-lowercase b j ∷ fold_again bs j

lower_header : (b : ℕ) → is_header_byte b ≡ true → is_header_byte (to_ascii_lowercase b) ≡ true
lower_header b h = grind (arith, nat_tests)

fold_header : (bytes : List ℕ) → list_all is_header_byte bytes ≡ true → list_all is_header_byte (fold bytes) ≡ true
fold_header [] h = refl
fold_header (b ∷ bytes) h =
    let p = both_true (is_header_byte b) (list_all is_header_byte bytes) h in
    rw (lower_header b p.0) (fold_header bytes p.1)

-- no LF is among what is spelled in quotes
units_lines : (units : List TextUnit) → list_all is_subsection_unit units ≡ true → list_all (λ b. not (b == 10)) (flat_map subsection_byte units) ≡ true
units_lines [] h = refl
units_lines (Escape b ∷ units) h =
    let p = both_true (not (b == 10)) (list_all is_subsection_unit units) h in
    rw p.0 (units_lines units p.1)
units_lines (OpenEscape ∷ units) h = absurd (cc)
units_lines (Plain b ∷ units) h = go (b == 10) refl (units_lines units p.1)
  where
    p : (is_subsection_unit (Plain b) ≡ true) × (list_all is_subsection_unit units ≡ true)
    p = both_true (is_subsection_unit (Plain b)) (list_all is_subsection_unit units) h

    go : (t : Bool) → (b == 10) ≡ t → list_all (λ b. not (b == 10)) (flat_map subsection_byte units) ≡ true
        → (not (b == 10) && list_all (λ b. not (b == 10)) (flat_map subsection_byte units)) ≡ true
    go true e later = absurd (let x : false ≡ true = rw (e, is_subsection_unit) at p.0 in cc)
    go false e later = rw e later

-- a header with the same name and subsection, and this text, which is set as it is
pub record SameHeader (h : Header) (text : List ℕ) : Type 0 where
  pub header : Header
  pub same : spelled_header header ≡ text
  pub fits : FitsHeader header
  pub name : name_of header ≡ name_of h
  pub subsection : subsection_of header ≡ subsection_of h
  pub again : written (shown_token (HeaderToken header)) ≡ text

-- blanks are no dot
no_dot : (blanks : List ℕ) → 0 < length blanks → list_all is_blank blanks ≡ true → bytes_eq blanks (codes ".") ≡ false
no_dot [] some all = absurd (omega arith)
no_dot (b ∷ blanks) some all = rw (apart is_blank 46 b refl (both_true (is_blank b) (list_all is_blank blanks) all).0) refl

quoted_text : (name blanks spelling : List ℕ)
    → 91 ∷ (name ++ (blanks ++ 34 ∷ (spelling ++ 34 ∷ 93 ∷ []))) ≡ codes "[" ++ (name ++ ((blanks ++ (codes "\"" ++ (spelling ++ codes "\""))) ++ codes "]"))
quoted_text name blanks spelling = ap (λ t. 91 ∷ (name ++ t)) (sym (simp append_assoc))

-- a header that is set
pub set_header : (h : Header) → FitsHeader h → SameHeader h (written (shown_token (HeaderToken h)))
set_header (PlainHeader name) fits = record { header = PlainHeader name; same = refl; fits = fits; name = refl; subsection = refl; again = refl }
set_header (DottedHeader name subsection) fits =
    record {
      header = DottedHeader name (fold subsection);
      same = refl;
      fits = (fits.0, fold_header subsection fits.1);
      name = refl;
      subsection = ap Some (fold_again subsection);
      again = ap (λ t. written (ShownHeader name (separator_of (DottedHeader name subsection)) (Some t))) (fold_again subsection);
    }
set_header (QuotedHeader name blanks spelling) fits =
    let back = reads_back (unquoted spelling) (units_lines (units_of spelling) fits.3) in
    record {
      header = QuotedHeader name blanks (escaped_subsection (unquoted spelling));
      same = rw (no_dot blanks fits.1 fits.2) (quoted_text name blanks (escaped_subsection (unquoted spelling)));
      fits = (fits.0, fits.1, fits.2, back.fits);
      name = refl;
      subsection = ap Some back.same;
      again = ap (λ t. written (ShownHeader name (Some blanks) (Some t))) back.same;
    }
