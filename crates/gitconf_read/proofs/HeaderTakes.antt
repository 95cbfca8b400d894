-- What is read as a header is one.
use Rattle.std.proofs.Common.{◌≡◌, ℕ, ◌+◌, ◌<◌, Bool, true, false, List, [], ◌∷◌, ◌++◌, length, drop, Option, Some, None, refl, ap, sym, subst, ◌∙◌, arith, append_assoc, append-nil}
use Rattle.std.specs.Prelude.{◌||◌, ◌==◌, nat_lt}
use Rattle.std.specs.List.{list_all}
use Rattle.std.proofs.lemmas.Bool.{le-ltb, ltb-true, eqb-true}
use Rattle.gitconf_text.specs.Bytes.{is_blank, is_name_byte, is_header_byte}
use Rattle.gitconf_text.specs.Text.{begins}
use Rattle.gitconf_text.specs.Header as grammar
use Rattle.gitconf_items.specs.declared.event.Header.{Header}
use Rattle.gitconf_read.specs.Reading.{end_of_run, spelling_from, unquoted_header, quoted_header, header_at}
use Rattle.gitconf_text.proofs.CommentEnds.{Stops}
use Rattle.gitconf_read.proofs.RunLaws.{Run, run_takes, run_again, places_all}
use Rattle.gitconf_read.proofs.At.{behind_front, behind_byte}
use Rattle.gitconf_text.proofs.Tests.{both_true}
use Rattle.gitconf_read.proofs.SpellingAgain.{spelling_again, SpellingShape, spelling_takes}

-- a text that begins with a header
pub record HeaderShape (text : List ℕ) : Type 0 where
  pub header : grammar.Header
  pub rest : List ℕ
  pub whole : text ≡ grammar.spelled_header header ++ rest
  pub fits : grammar.FitsHeader header

pub begins_byte : (k : ℕ) (text : List ℕ) → begins (λ b. b == k) text ≡ true → (rest : List ℕ) × (text ≡ k ∷ rest)
begins_byte k [] h = absurd (cc)
begins_byte k (b ∷ rest) h = (rest, ap (λ x. x ∷ rest) (eqb-true b k h))

-- a header's byte that a name has not is the dot
dot_is : (b : ℕ) → is_header_byte b ≡ true → is_name_byte b ≡ false → b ≡ 46
dot_is b h no_name = eqb-true b 46 (let x : (false || b == 46) ≡ true = rw no_name at h in x)

-- the header without quotes: its name bytes, and the rest of the header's bytes
unquoted_takes : (input rest : List ℕ) (from : ℕ) (bytes name more : List ℕ) (found : Header × ℕ)
    → drop from input ≡ bytes ++ 93 ∷ rest → list_all is_header_byte bytes ≡ true
    → bytes ≡ name ++ more → list_all is_name_byte name ≡ true → Stops (begins is_name_byte) more
    → unquoted_header input from (from + length bytes) ≡ Some found → HeaderShape (91 ∷ (bytes ++ 93 ∷ rest))
unquoted_takes input rest from bytes name (c ∷ more) found stands all cut names stops read =
    let each : list_all is_header_byte (name ++ c ∷ more) ≡ true = subst (λ t. list_all is_header_byte t ≡ true) cut all in
    let p = and_tail name (c ∷ more) each in
    let q = both_true (is_header_byte c) (list_all is_header_byte more) p in
    record {
      header = grammar.DottedHeader name more;
      rest = rest;
      whole = (let c_is : c ≡ 46 = dot_is c q.0 stops in rw cut (simp append_assoc (ap (λ x. 91 ∷ (name ++ (x ∷ (more ++ 93 ∷ rest)))) c_is)));
      fits = (names, q.1);
    }
  where
    and_tail : (front back : List ℕ) → list_all is_header_byte (front ++ back) ≡ true → list_all is_header_byte back ≡ true
    and_tail [] back h = h
    and_tail (b ∷ front) back h = and_tail front back (both_true (is_header_byte b) (list_all is_header_byte (front ++ back)) h).1
unquoted_takes input rest from [] name [] found stands all cut names stops read = absurd (
    let dot : end_of_run (begins is_name_byte) from (drop from input) ≡ from + 0 = rw stands (run_again (begins is_name_byte) [] (93 ∷ rest) from tt refl) in
    let same : nat_lt (from + 0) (from + 0) ≡ false = le-ltb (from + 0) (from + 0) (omega arith) in
    let none : nat_lt from (from + 0) ≡ false = le-ltb from (from + 0) (omega arith) in
    let x = rw (dot, same, none) at read in cc)
unquoted_takes input rest from (b ∷ bytes) name [] found stands all cut names stops read = record {
  header = grammar.PlainHeader (b ∷ bytes);
  rest = rest;
  whole = simp append_assoc;
  fits = (omega arith, (let e : b ∷ bytes ≡ name = cut ∙ append-nil name in subst (λ t. list_all is_name_byte t ≡ true) (sym e) names));
}

-- a header with quotes, from its pieces
quoted_shape : (name text blanks behind spelling later rest : List ℕ)
    → text ≡ blanks ++ behind → behind ≡ 34 ∷ (spelling ++ 34 ∷ later) → later ≡ 93 ∷ rest
    → list_all is_header_byte name ≡ true → 0 < length blanks → list_all is_blank blanks ≡ true → grammar.is_spelling spelling ≡ true
    → HeaderShape (91 ∷ (name ++ text))
quoted_shape name text blanks behind spelling later rest a b c names filled all good = record {
  header = grammar.QuotedHeader name blanks spelling;
  rest = rest;
  whole = rw (a, b, c) (simp append_assoc);
  fits = (names, filled, all, good);
}

-- the header with quotes, whose name ends at the offset `end`
quoted_takes : (input name text : List ℕ) (from end : ℕ) (found : Header × ℕ)
    → drop end input ≡ text → list_all is_header_byte name ≡ true
    → quoted_header input from end ≡ Some found → HeaderShape (91 ∷ (name ++ text))
unfolding quoted_header
quoted_takes input name text from end found stands names read = go (run_takes (begins is_blank) end (drop end input)) (nat_lt end E) refl (begins (λ b. b == 34) (drop E input)) refl
  where
    -- where the blanks end
    E : ℕ
    E = end_of_run (begins is_blank) end (drop end input)

    go : (r : Run (begins is_blank) end (drop end input)) → (s : Bool) → nat_lt end E ≡ s → (t : Bool) → begins (λ b. b == 34) (drop E input) ≡ t → HeaderShape (91 ∷ (name ++ text))
    go r false some t quote = absurd (let x = rw some at read in cc)
    go r true some false quote = absurd (let x = rw (some, quote) at read in cc)
    go r true some true quote = ending (spelling_from (E + 1) 0 (drop (E + 1) input)) refl
      where
        behind : drop E input ≡ r.rest
        behind = rw r.end (behind_front input r.front r.rest end r.whole)

        filled : 0 < length r.front
        filled = let less : end < E = ltb-true end E some in omega (arith, less, r.end)

        closing : (last : ℕ) → spelling_from (E + 1) 0 (drop (E + 1) input) ≡ Some last → (t : Bool) → begins (λ b. b == 93) (drop (last + 1) input) ≡ t → SpellingShape (drop (E + 1) input) → HeaderShape (91 ∷ (name ++ text))
        closing last e false bracket s = absurd (let x = rw (some, quote, e, bracket) at read in cc)
        closing last e true bracket s =
            let q = begins_byte 34 (drop E input) quote in
            let after : drop (E + 1) input ≡ q.0 = behind_byte input 34 q.0 E q.1 in
            let again = spelling_again false s.spelling s.rest (E + 1) (E + 1 + length s.spelling) refl s.fits in
            let ends : Some last ≡ Some (E + 1 + length s.spelling) = sym e ∙ ap (λ t. spelling_from (E + 1) 0 t) s.whole ∙ again in
            let last_is : last ≡ E + 1 + length s.spelling = cc in
            let left : drop (last + 1) input ≡ s.rest = rw last_is (behind_byte input 34 s.rest (E + 1 + length s.spelling) (behind_front input s.spelling (34 ∷ s.rest) (E + 1) s.whole)) in
            let b = begins_byte 93 (drop (last + 1) input) bracket in
            quoted_shape name text r.front r.rest s.spelling s.rest b.0 (sym stands ∙ r.whole) (sym behind ∙ q.1 ∙ ap (λ t. 34 ∷ t) (sym after ∙ s.whole)) (sym left ∙ b.1)
            names filled (places_all is_blank r.front r.rest r.places) s.fits

        ending : (o : Option ℕ) → spelling_from (E + 1) 0 (drop (E + 1) input) ≡ o → HeaderShape (91 ∷ (name ++ text))
        ending None e = absurd (let x = rw (some, quote, e) at read in cc)
        ending (Some last) e = closing last e (begins (λ b. b == 93) (drop (last + 1) input)) refl (spelling_takes (drop (E + 1) input) (E + 1) 0 last e (omega arith))

pub header_takes : (input text : List ℕ) (n : ℕ) (found : Header × ℕ) → drop n input ≡ 91 ∷ text → header_at input n ≡ Some found → HeaderShape (91 ∷ text)
unfolding header_at
header_takes input text n found stands read = go (run_takes (begins is_header_byte) (n + 1) (drop (n + 1) input)) (begins (λ b. b == 93) (drop E input)) refl
  where
    -- where the header's bytes end
    E : ℕ
    E = end_of_run (begins is_header_byte) (n + 1) (drop (n + 1) input)

    here : drop (n + 1) input ≡ text
    here = behind_byte input 91 text n stands

    go : (r : Run (begins is_header_byte) (n + 1) (drop (n + 1) input)) → (t : Bool) → begins (λ b. b == 93) (drop E input) ≡ t → HeaderShape (91 ∷ text)
    go r t bracket = by_bracket t bracket
      where
        behind : drop E input ≡ r.rest
        behind = rw r.end (behind_front input r.front r.rest (n + 1) r.whole)

        names : list_all is_header_byte r.front ≡ true
        names = places_all is_header_byte r.front r.rest r.places

        by_bracket : (t : Bool) → begins (λ b. b == 93) (drop E input) ≡ t → HeaderShape (91 ∷ text)
        by_bracket false e =
            let whole : 91 ∷ (r.front ++ r.rest) ≡ 91 ∷ text = ap (λ t. 91 ∷ t) (sym r.whole ∙ here) in
            subst (λ t. HeaderShape t) whole (quoted_takes input r.front r.rest (n + 1) E found behind names (rw e at read))
        by_bracket true e =
            let b = begins_byte 93 (drop E input) e in
            let whole : drop (n + 1) input ≡ r.front ++ 93 ∷ b.0 = r.whole ∙ ap (λ t. r.front ++ t) (sym behind ∙ b.1) in
            let cut = run_takes (begins is_name_byte) 0 r.front in
            let read2 : unquoted_header input (n + 1) (n + 1 + length r.front) ≡ Some found = subst (λ m. unquoted_header input (n + 1) m ≡ Some found) r.end (rw e at read) in
            subst (λ t. HeaderShape t) (ap (λ t. 91 ∷ t) (sym whole ∙ here)) (unquoted_takes input b.0 (n + 1) r.front cut.front cut.rest found whole names cut.whole
            (places_all is_name_byte cut.front cut.rest cut.places) cut.stops read2)
