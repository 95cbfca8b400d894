-- What the lines write, each with its end where it stays, is the text of the lines that stay.
use Rattle.std.proofs.Common.{◌≡◌, ◌≤◌, ◌<◌, ℕ, ◌+◌, ◌-◌, Bool, true, false, not, List, [], ◌∷◌, ◌++◌, Option, Some, None, refl, ap, sym, ◌∙◌, append_assoc, arith}
use Rattle.std.specs.Prelude.{◌==◌, ◌&&◌, ◌||◌, nat_lt, is_none}
use Rattle.std.specs.List.{list_any}
use Rattle.std.proofs.lemmas.Bool.{ltb-true, ltb-false, ne_eqb}
use Rattle.gitconf_items.specs.EventRef.{Shown, ShownComment, ShownHeader, ShownValueName, ShownValue, ShownNewline, ShownUnfinished, ShownLast, ShownBlanks, ShownSeparator}
use Rattle.gitconf_items.specs.Sections.{is_shown_header}
use Rattle.gitconf_layout.specs.declared.format.Options.{Options}
use Rattle.gitconf_layout.specs.declared.place.Before.{Before}
use Rattle.gitconf_layout.specs.declared.place.Before.TheVariants.{Nothing, Value, Other}
use Rattle.gitconf_layout.specs.declared.place.Place.{Place}
use Rattle.gitconf_layout.specs.Layout.{lines_of, behind, begins_comment, is_nothing, keeps_blanks, line_text, is_content, set_lines, is_fewer, kept, joined, set_body}
use Rattle.gitconf_layout.specs.Setting.{first, behind_token, is_full, one_less, on_next_line, end_text, set_tokens}
use Rattle.gitconf_layout.proofs.Passes.{behind_line, lines_text, pass}

or_assoc : (a b c : Bool) → ((a || b) || c) ≡ (a || (b || c))
or_assoc true b c = refl
or_assoc false b c = refl

or_swap : (a b c : Bool) → ((a || b) || c) ≡ (b || (a || c))
or_swap true true c = refl
or_swap true false c = refl
or_swap false true c = refl
or_swap false false c = refl

or_false : (a : Bool) → (a || false) ≡ a
or_false true = refl
or_false false = refl

behind_line-section : (p : Place) (line : List Shown) → (behind_line p line).in_section ≡ (p.in_section || list_any is_shown_header line)
behind_line-section p [] = sym (or_false p.in_section)
behind_line-section p (t ∷ line) = behind_line-section (behind_token p t) line ∙ or_swap (is_shown_header t) p.in_section (list_any is_shown_header line)

behind_line-room : (p : Place) (line : List Shown) → (behind_line p line).room ≡ p.room
behind_line-room p [] = refl
behind_line-room p (t ∷ line) = behind_line-room (behind_token p t) line

-- content follows content
behind_content : (b : Before) (t : Shown) → is_nothing (behind b t) ≡ (is_nothing b && not (is_content t))
behind_content Nothing (ShownComment tag text) = refl
behind_content Nothing (ShownHeader name separator subsection) = refl
behind_content Nothing (ShownValueName bytes) = refl
behind_content Nothing (ShownValue bytes) = refl
behind_content Nothing (ShownNewline bytes) = refl
behind_content Nothing (ShownUnfinished bytes) = refl
behind_content Nothing (ShownLast bytes) = refl
behind_content Nothing (ShownBlanks bytes) = refl
behind_content Nothing ShownSeparator = refl
behind_content Value (ShownComment tag text) = refl
behind_content Value (ShownHeader name separator subsection) = refl
behind_content Value (ShownValueName bytes) = refl
behind_content Value (ShownValue bytes) = refl
behind_content Value (ShownNewline bytes) = refl
behind_content Value (ShownUnfinished bytes) = refl
behind_content Value (ShownLast bytes) = refl
behind_content Value (ShownBlanks bytes) = refl
behind_content Value ShownSeparator = refl
behind_content Other (ShownComment tag text) = refl
behind_content Other (ShownHeader name separator subsection) = refl
behind_content Other (ShownValueName bytes) = refl
behind_content Other (ShownValue bytes) = refl
behind_content Other (ShownNewline bytes) = refl
behind_content Other (ShownUnfinished bytes) = refl
behind_content Other (ShownLast bytes) = refl
behind_content Other (ShownBlanks bytes) = refl
behind_content Other ShownSeparator = refl

and_not : (a b c : Bool) → ((a && not b) && not c) ≡ (a && not (b || c))
and_not true true c = refl
and_not true false c = refl
and_not false b c = refl

and_true : (a : Bool) → (a && true) ≡ a
and_true true = refl
and_true false = refl

behind_line-before : (p : Place) (line : List Shown) → is_nothing (behind_line p line).before ≡ (is_nothing p.before && not (list_any is_content line))
behind_line-before p [] = sym (and_true (is_nothing p.before))
behind_line-before p (t ∷ line) =
    behind_line-before (behind_token p t) line ∙ ap (λ x. x && not (list_any is_content line)) (behind_content p.before t) ∙ and_not (is_nothing p.before) (is_content t) (list_any is_content line)

-- if no content follows, no comment does
no_comment : (line : List Shown) → list_any is_content line ≡ false → begins_comment line ≡ false
no_comment [] h = refl
no_comment (ShownComment tag text ∷ line) h = absurd (cc)
no_comment (ShownHeader name separator subsection ∷ line) h = refl
no_comment (ShownValueName bytes ∷ line) h = refl
no_comment (ShownValue bytes ∷ line) h = refl
no_comment (ShownNewline bytes ∷ line) h = refl
no_comment (ShownUnfinished bytes ∷ line) h = refl
no_comment (ShownLast bytes ∷ line) h = refl
no_comment (ShownBlanks bytes ∷ line) h = refl
no_comment (ShownSeparator ∷ line) h = refl

and_false : (a : Bool) → (a && false) ≡ false
and_false true = refl
and_false false = refl

-- a line without content has no text
blank_text : (o : Options) (s : Bool) (line : List Shown) → list_any is_content line ≡ false → line_text o s Nothing line ≡ []
blank_text o s [] h = refl
blank_text o s (ShownComment tag text ∷ line) h = absurd (cc)
blank_text o s (ShownHeader name separator subsection ∷ line) h = absurd (cc)
blank_text o s (ShownValueName bytes ∷ line) h = absurd (cc)
blank_text o s (ShownValue bytes ∷ line) h = absurd (cc)
blank_text o s (ShownUnfinished bytes ∷ line) h = absurd (cc)
blank_text o s (ShownLast bytes ∷ line) h = absurd (cc)
blank_text o s (ShownSeparator ∷ line) h = absurd (cc)
blank_text o s (ShownNewline run ∷ line) h = blank_text o s line h
blank_text o s (ShownBlanks run ∷ line) h =
    let none : keeps_blanks o s Nothing line ≡ false = rw (no_comment line h) (and_false (not s && is_none o.root_comment_indent)) in
    rw none (blank_text o s line h)

-- how many more blank lines may stay, where that many come before
abbrev left : (limit : Option ℕ) → (blank : ℕ) → Option ℕ
left None blank = None
left (Some n) blank = Some (n - blank)

left_none : (limit : Option ℕ) → left limit 0 ≡ limit
left_none None = refl
left_none (Some n) = ap Some (let e : n - 0 ≡ n = omega arith in e)

left_less : (limit : Option ℕ) (blank : ℕ) → one_less (left limit blank) ≡ left limit (blank + 1)
left_less None blank = refl
left_less (Some n) blank = ap Some (let e : n - blank - 1 ≡ n - (blank + 1) = omega arith in e)

left_full : (limit : Option ℕ) (blank : ℕ) → is_full (left limit blank) ≡ not (is_fewer blank limit)
left_full None blank = refl
left_full (Some n) blank = go (nat_lt blank n) refl
  where
    go : (t : Bool) → nat_lt blank n ≡ t → (n - blank == 0) ≡ not (nat_lt blank n)
    go true e = let h : blank < n = ltb-true blank n e in rw (e, ne_eqb (n - blank) 0 (λ (z : n - blank ≡ 0). absurd (omega arith))) refl
    go false e = let h : n ≤ blank = ltb-false blank n e in let z : n - blank ≡ 0 = omega arith in rw (e, z) refl

-- a line without anything before it
abbrev pub at_start : (s : Bool) → (room : Option ℕ) → Place
at_start s room = record { in_section = s; before = Nothing; room = room }

next_content : (o : Options) (q : Place) → is_nothing q.before ≡ false → on_next_line o q ≡ at_start q.in_section o.max_consecutive_blank_lines
next_content o q h = rw h refl

next_blank : (o : Options) (q : Place) → is_nothing q.before ≡ true → on_next_line o q ≡ at_start q.in_section (one_less q.room)
next_blank o q h = rw h refl

end_content : (e : List ℕ) (q : Place) → is_nothing q.before ≡ false → end_text e q ≡ e
end_content e q h = rw (h, end_text) refl

end_full : (e : List ℕ) (q : Place) → is_nothing q.before ≡ true → is_full q.room ≡ true → end_text e q ≡ []
end_full e q h k = rw (h, k, end_text) refl

end_room : (e : List ℕ) (q : Place) → is_nothing q.before ≡ true → is_full q.room ≡ false → end_text e q ≡ e
end_room e q h k = rw (h, k, end_text) refl

regroup : (a e b c : List ℕ) → ((a ++ e) ++ b) ++ c ≡ a ++ (e ++ (b ++ c))
regroup a e b c = simp append_assoc

-- the text of the lines that stay, and what follows them
text_of : (o : Options) (e : List ℕ) (s : Bool) (limit : Option ℕ) (blank : ℕ) (ended : List (List Shown)) (last : List Shown) → List ℕ
text_of o e s limit blank ended last =
    joined e (kept limit o.max_consecutive_blank_lines blank (set_lines o s ended)) ++ line_text o (s || list_any (list_any is_shown_header) ended) Nothing last

-- a line that stays
text_kept : (o : Options) (e : List ℕ) (s : Bool) (limit : Option ℕ) (blank : ℕ) (line : List Shown) (ended : List (List Shown)) (last : List Shown) → list_any is_content line ≡ false → is_fewer blank limit ≡ true
    → text_of o e s limit blank (line ∷ ended) last ≡ line_text o s Nothing line ++ (e ++ text_of o e (s || list_any is_shown_header line) limit (blank + 1) ended last)
unfolding text_of
text_kept o e s limit blank line ended last h k =
    rw (h, k, kept, sym (or_assoc s (list_any is_shown_header line) (list_any (list_any is_shown_header) ended)))
    (regroup (line_text o s Nothing line) e _ _)

text_content : (o : Options) (e : List ℕ) (s : Bool) (limit : Option ℕ) (blank : ℕ) (line : List Shown) (ended : List (List Shown)) (last : List Shown) → list_any is_content line ≡ true
    → text_of o e s limit blank (line ∷ ended) last ≡ line_text o s Nothing line ++ (e ++ text_of o e (s || list_any is_shown_header line) o.max_consecutive_blank_lines 0 ended last)
unfolding text_of
text_content o e s limit blank line ended last h =
    rw (h, kept, sym (or_assoc s (list_any is_shown_header line) (list_any (list_any is_shown_header) ended)))
    (regroup (line_text o s Nothing line) e _ _)

text_dropped : (o : Options) (e : List ℕ) (s : Bool) (limit : Option ℕ) (blank : ℕ) (line : List Shown) (ended : List (List Shown)) (last : List Shown) → list_any is_content line ≡ false → is_fewer blank limit ≡ false
    → text_of o e s limit blank (line ∷ ended) last ≡ text_of o e (s || list_any is_shown_header line) limit (blank + 1) ended last
unfolding text_of
text_dropped o e s limit blank line ended last h k =
    rw (h, k, kept, sym (or_assoc s (list_any is_shown_header line) (list_any (list_any is_shown_header) ended))) refl

-- the lines from a place at the start of one
stay : (o : Options) (e : List ℕ) (s : Bool) (limit : Option ℕ) (blank : ℕ) (ended : List (List Shown)) (last : List Shown)
    → lines_text o e (at_start s (left limit blank)) ended last ≡ text_of o e s limit blank ended last
unfolding text_of
stay o e s limit blank [] last = rw (or_false s) refl
stay o e s limit blank (line ∷ ended) last =
    go (list_any is_content line) refl (is_fewer blank limit) refl (stay o e t o.max_consecutive_blank_lines 0 ended last) (stay o e t limit (blank + 1) ended last)
  where
    t : Bool
    t = s || list_any is_shown_header line

    q : Place
    q = behind_line (at_start s (left limit blank)) line

    text : List ℕ
    text = line_text o s Nothing line

    behind_is : (c : Bool) → list_any is_content line ≡ c → is_nothing q.before ≡ not c
    behind_is c h = behind_line-before (at_start s (left limit blank)) line ∙ ap not h

    next : is_nothing q.before ≡ true → on_next_line o q ≡ at_start t (left limit (blank + 1))
    next h = next_blank o q h ∙ ap (λ u. at_start u (one_less q.room)) (behind_line-section (at_start s (left limit blank)) line)
        ∙ ap (λ r. at_start t (one_less r)) (behind_line-room (at_start s (left limit blank)) line) ∙ ap (at_start t) (left_less limit blank)

    full : is_full q.room ≡ not (is_fewer blank limit)
    full = ap is_full (behind_line-room (at_start s (left limit blank)) line) ∙ left_full limit blank

    go : (c : Bool) → list_any is_content line ≡ c → (f : Bool) → is_fewer blank limit ≡ f
        → lines_text o e (at_start t (left o.max_consecutive_blank_lines 0)) ended last ≡ text_of o e t o.max_consecutive_blank_lines 0 ended last
        → lines_text o e (at_start t (left limit (blank + 1))) ended last ≡ text_of o e t limit (blank + 1) ended last
        → text ++ (end_text e q ++ lines_text o e (on_next_line o q) ended last) ≡ text_of o e s limit blank (line ∷ ended) last
    go true h f k content blanks =
        ap (λ x. text ++ (x ++ lines_text o e (on_next_line o q) ended last)) (end_content e q (behind_is true h))
        ∙ ap (λ p. text ++ (e ++ lines_text o e p ended last))
        (next_content o q (behind_is true h) ∙ ap (λ u. at_start u o.max_consecutive_blank_lines) (behind_line-section (at_start s (left limit blank)) line) ∙ ap (at_start t) (sym (left_none o.max_consecutive_blank_lines)))
        ∙ ap (λ x. text ++ (e ++ x)) content
        ∙ sym (text_content o e s limit blank line ended last h)
    go false h true k content blanks =
        ap (λ x. text ++ (x ++ lines_text o e (on_next_line o q) ended last)) (end_room e q (behind_is false h) (full ∙ ap not k))
        ∙ ap (λ p. text ++ (e ++ lines_text o e p ended last)) (next (behind_is false h))
        ∙ ap (λ x. text ++ (e ++ x)) blanks
        ∙ sym (text_kept o e s limit blank line ended last h k)
    go false h false k content blanks =
        ap (λ x. x ++ (end_text e q ++ lines_text o e (on_next_line o q) ended last)) (blank_text o s line h)
        ∙ ap (λ x. x ++ lines_text o e (on_next_line o q) ended last) (end_full e q (behind_is false h) (full ∙ ap not k))
        ∙ ap (λ p. lines_text o e p ended last) (next (behind_is false h))
        ∙ blanks
        ∙ sym (text_dropped o e s limit blank line ended last h k)

-- one pass writes the text of the lines that stay
pub body_is : (o : Options) (e : List ℕ) (tokens : List Shown) → set_tokens o e (first o) tokens ≡ set_body o e (lines_of tokens)
unfolding text_of
body_is o e tokens =
    let lines = lines_of tokens in
    pass o e (first o) tokens
    ∙ ap (λ r. lines_text o e (at_start false r) lines.ended lines.last) (sym (left_none o.max_leading_blank_lines))
    ∙ stay o e false o.max_leading_blank_lines 0 lines.ended lines.last
