-- A header that fits is read to its spans.
use Rattle.std.proofs.Common.{◌≡◌, ℕ, ◌+◌, ◌<◌, Bool, true, false, List, [], ◌∷◌, ◌++◌, length, drop, Some, None, refl, ap, ◌∙◌, arith, append_assoc}
use Rattle.std.specs.Prelude.{◌==◌, nat_lt}
use Rattle.std.specs.List.{list_all}
use Rattle.gitconf_text.specs.Bytes.{is_blank, is_name_byte, is_header_byte}
use Rattle.gitconf_text.specs.Text.{begins}
use Rattle.gitconf_text.specs.Header as grammar
use Rattle.gitconf_items.specs.declared.event.Header.{Header}
use Rattle.gitconf_read.specs.Reading.{span, end_of_run, spelling_from, quoted_header, header_at}
use Rattle.gitconf_read.proofs.RunLaws.{run_again, all_places, begins_stops}
use Rattle.gitconf_text.proofs.ByteLaws.{name_byte_header, blank_no_header_byte, blank_no_bracket}
use Rattle.gitconf_read.proofs.At.{behind_front, behind_byte}
use Rattle.gitconf_text.proofs.Tests.{both_true}
use Rattle.gitconf_read.proofs.SpellingAgain.{spelling_again}
use Rattle.std.proofs.lemmas.Bool.{lt-ltb, le-ltb}
use Rattle.std.proofs.lemmas.List.Folds.{list_all-append}
use Rattle.std.proofs.Common.{length-append}

-- a run of bytes that pass a test, at an offset
pub run_at : (p : ℕ → Bool) (input front rest : List ℕ) (n : ℕ) → drop n input ≡ front ++ rest → list_all p front ≡ true → begins p rest ≡ false
    → end_of_run (begins p) n (drop n input) ≡ n + length front
run_at p input front rest n at all stops = rw at (run_again (begins p) front rest n (all_places p front rest all) (begins_stops p rest stops))

pub all_header_bytes : (name : List ℕ) → list_all is_name_byte name ≡ true → list_all is_header_byte name ≡ true
all_header_bytes [] h = refl
all_header_bytes (b ∷ name) h = let p = both_true (is_name_byte b) (list_all is_name_byte name) h in rw (name_byte_header b p.0) (all_header_bytes name p.1)

-- the spans of a header whose bracket is at the offset n, and the offset after it
abbrev pub header_spans : (n : ℕ) → grammar.Header → Header × ℕ
header_spans n (grammar.PlainHeader name) =
    let end = n + 1 + length name in
    (record { name = span (n + 1) end; separator = None; subsection = None; decoded = None }, end + 1)
header_spans n (grammar.DottedHeader name subsection) =
    let dot = n + 1 + length name in
    let end = dot + 1 + length subsection in
    (record { name = span (n + 1) dot; separator = Some (span dot (dot + 1)); subsection = Some (span (dot + 1) end); decoded = None }, end + 1)
header_spans n (grammar.QuotedHeader name blanks spelling) =
    let end = n + 1 + length name in
    let quote = end + length blanks in
    let last = quote + 1 + length spelling in
    (record { name = span (n + 1) end; separator = Some (span end quote); subsection = Some (span (quote + 1) last); decoded = None }, last + 1 + 1)

-- a run of blanks begins with none of the bytes that a name has, and with no bracket
pub begins_other : (p : ℕ → Bool) (blanks rest : List ℕ) → ((b : ℕ) → is_blank b ≡ true → p b ≡ false) → 0 < length blanks → list_all is_blank blanks ≡ true → begins p (blanks ++ rest) ≡ false
begins_other p [] rest differs some all = absurd (omega (arith, some))
begins_other p (b ∷ blanks) rest differs some all = differs b (both_true (is_blank b) (list_all is_blank blanks) all).0

-- After its name, a header with quotes is read to its spans.
quoted_again : (blanks spelling rest input : List ℕ) (from end : ℕ) → drop end input ≡ blanks ++ (34 ∷ (spelling ++ (34 ∷ 93 ∷ rest)))
    → 0 < length blanks → list_all is_blank blanks ≡ true → grammar.is_spelling spelling ≡ true
    → quoted_header input from end ≡ Some (
      record {
        name = span from end;
        separator = Some (span end (end + length blanks));
        subsection = Some (span (end + length blanks + 1) (end + length blanks + 1 + length spelling));
        decoded = None;
      },
      end + length blanks + 1 + length spelling + 1 + 1,
    )
unfolding quoted_header
quoted_again blanks spelling rest input from end between filled all good =
    rw (blanks_end, ap (begins (λ b. b == 34)) quote, some, last, blanks_end, ap (begins (λ b. b == 93)) bracket) refl
  where
    blanks_end : end_of_run (begins is_blank) end (drop end input) ≡ end + length blanks
    blanks_end = run_at is_blank input blanks _ end between all refl

    quote : drop (end + length blanks) input ≡ 34 ∷ (spelling ++ (34 ∷ 93 ∷ rest))
    quote = behind_front input blanks _ end between

    some : nat_lt end (end + length blanks) ≡ true
    some = lt-ltb _ _ (omega (arith, filled))

    inside : drop (end + length blanks + 1) input ≡ spelling ++ (34 ∷ 93 ∷ rest)
    inside = behind_byte input 34 _ (end + length blanks) quote

    last : spelling_from (end + length blanks + 1) 0 (drop (end + length blanks + 1) input) ≡ Some (end + length blanks + 1 + length spelling)
    last = rw inside (spelling_again false spelling (93 ∷ rest) (end + length blanks + 1) _ refl good)

    bracket : drop (end + length blanks + 1 + length spelling + 1) input ≡ 93 ∷ rest
    bracket = behind_byte input 34 _ _ (behind_front input spelling _ (end + length blanks + 1) inside)

pub header_again : (h : grammar.Header) (rest input : List ℕ) (n : ℕ) → drop n input ≡ grammar.spelled_header h ++ rest → grammar.FitsHeader h → header_at input n ≡ Some (header_spans n h)
unfolding header_at
header_again (grammar.PlainHeader name) rest input n stands fits =
    rw (whole, ap (begins (λ b. b == 93)) (behind_front input name (93 ∷ rest) (n + 1) here), dot, same, some) refl
  where
    here : drop (n + 1) input ≡ name ++ 93 ∷ rest
    here = behind_byte input 91 (name ++ 93 ∷ rest) n (simp append_assoc at stands)

    whole : end_of_run (begins is_header_byte) (n + 1) (drop (n + 1) input) ≡ n + 1 + length name
    whole = run_at is_header_byte input name (93 ∷ rest) (n + 1) here (all_header_bytes name fits.1) refl

    dot : end_of_run (begins is_name_byte) (n + 1) (drop (n + 1) input) ≡ n + 1 + length name
    dot = run_at is_name_byte input name (93 ∷ rest) (n + 1) here fits.1 refl

    same : nat_lt (n + 1 + length name) (n + 1 + length name) ≡ false
    same = le-ltb (n + 1 + length name) (n + 1 + length name) (omega arith)

    some : nat_lt (n + 1) (n + 1 + length name) ≡ true
    some = lt-ltb (n + 1) (n + 1 + length name) (omega (arith, fits.0))
header_again (grammar.DottedHeader name subsection) rest input n stands fits =
    rw (whole, ap (begins (λ b. b == 93)) bracket, dot, some) refl
  where
    here : drop (n + 1) input ≡ name ++ (46 ∷ (subsection ++ (93 ∷ rest)))
    here = behind_byte input 91 _ n (simp append_assoc at stands)

    bracket : drop (n + 1 + length name + 1 + length subsection) input ≡ 93 ∷ rest
    bracket = behind_front input subsection (93 ∷ rest) (n + 1 + length name + 1) (behind_byte input 46 _ (n + 1 + length name) (behind_front input name _ (n + 1) here))

    bytes : list_all is_header_byte (name ++ 46 ∷ subsection) ≡ true
    bytes = rw (list_all-append is_header_byte name (46 ∷ subsection), all_header_bytes name fits.0, fits.1) refl

    whole : end_of_run (begins is_header_byte) (n + 1) (drop (n + 1) input) ≡ n + 1 + length name + 1 + length subsection
    whole = run_at is_header_byte input (name ++ 46 ∷ subsection) (93 ∷ rest) (n + 1) (simp append_assoc here) bytes refl ∙ rw length-append (omega arith)

    dot : end_of_run (begins is_name_byte) (n + 1) (drop (n + 1) input) ≡ n + 1 + length name
    dot = run_at is_name_byte input name _ (n + 1) here fits.0 refl

    some : nat_lt (n + 1 + length name) (n + 1 + length name + 1 + length subsection) ≡ true
    some = lt-ltb _ _ (omega arith)
header_again (grammar.QuotedHeader name blanks spelling) rest input n stands fits =
    rw (whole, no_bracket) found
  where
    here : drop (n + 1) input ≡ name ++ (blanks ++ (34 ∷ (spelling ++ (34 ∷ 93 ∷ rest))))
    here = behind_byte input 91 _ n (simp append_assoc at stands)

    between : drop (n + 1 + length name) input ≡ blanks ++ (34 ∷ (spelling ++ (34 ∷ 93 ∷ rest)))
    between = behind_front input name _ (n + 1) here

    whole : end_of_run (begins is_header_byte) (n + 1) (drop (n + 1) input) ≡ n + 1 + length name
    whole = run_at is_header_byte input name _ (n + 1) here fits.0 (begins_other is_header_byte blanks _ blank_no_header_byte fits.1 fits.2)

    no_bracket : begins (λ b. b == 93) (drop (n + 1 + length name) input) ≡ false
    no_bracket = rw between (begins_other (λ b. b == 93) blanks _ blank_no_bracket fits.1 fits.2)

    found : quoted_header input (n + 1) (n + 1 + length name) ≡ Some (header_spans n (grammar.QuotedHeader name blanks spelling))
    found = quoted_again blanks spelling rest input (n + 1) (n + 1 + length name) between fits.1 fits.2 fits.3
