-- A layout holds the line ending that was chosen, and is laid out as it is.
use Rattle.std.proofs.Common.{◌≡◌, ℕ, Bool, true, false, List, [], ◌∷◌, ◌++◌, inl, inr, refl, ap, sym, subst, ◌∙◌}
use Rattle.std.specs.Prelude.{◌⊎◌, ◌==◌, if◌then◌else◌}
use Rattle.std.specs.List.{AllByRecursion, list_any}
use Rattle.std.proofs.lemmas.List.Elements.{All-from_recursion}
use Rattle.gitconf_text.specs.Text.{ends, is_line_end}
use Rattle.gitconf_text.specs.Part.{Part}
use Rattle.gitconf_text.specs.Token.{tokens_of}
use Rattle.gitconf_text.specs.Document.{IsText, gathered}
use Rattle.gitconf_text.specs.Document.{unmarked}
use Rattle.gitconf_items.specs.EventRef.{Shown}
use Rattle.gitconf_read.proofs.OneDocument.{one_tokens}
use Rattle.gitconf_state.specs.Comments.{comments_of}
use Rattle.gitconf_state.specs.Writing.{Closed}
use Rattle.gitconf_state.proofs.Printing.ReadsBack.{is_text}
use Rattle.gitconf_layout.specs.declared.format.Newline.{Newline}
use Rattle.gitconf_layout.specs.declared.format.Newline.TheVariants.{Detect, Lf, CrLf}
use Rattle.gitconf_layout.specs.declared.format.Options.{Options}
use Rattle.gitconf_layout.specs.declared.place.Before.TheVariants.{Nothing}
use Rattle.gitconf_layout.specs.Kept.{has_no_cr, line_end_in, HoldsLineEnd, HoldLineEnd}
use Rattle.gitconf_layout.specs.Layout.{is_cr_or_lf, is_newline, detected, line_end_of, lines_of, set_body, trimmed, with_one_line_end, laid_out, layout}
use Rattle.gitconf_layout.specs.Setting.{first, is_dropped, set_tokens}
use Rattle.gitconf_layout.proofs.SetEntries.{at_place, one_line_end}
use Rattle.gitconf_layout.proofs.Staying.{body_is}
use Rattle.gitconf_layout.proofs.Closing.{trimmed_cases, trimmed_none}
use Rattle.gitconf_layout.proofs.Ending.{Filled, front_filled}
use Rattle.gitconf_layout.proofs.LayoutLaws.{line_end_is}
use Rattle.gitconf_layout.proofs.LineEnds.{TokensHold, Holds, has_newline, detected_is, set_unended, ended_last, unended}
use Rattle.gitconf_layout.proofs.Laid.{set_from}
use Rattle.gitconf_layout.proofs.Fronts.{shown_parts}
use Rattle.gitconf_layout.proofs.AgainEntries.{Stays, moved}
use Rattle.gitconf_layout.proofs.Again.{again, stays_none}
use Rattle.gitconf_layout.proofs.AgainEnds.{Shut, stays_end, shut}

-- what is set of parts from the start
abbrev pub StaysWhole : Options → (e text : List ℕ) → Type 0
StaysWhole o e text = Stays o e false Nothing o.max_leading_blank_lines text

pub stays_text : (o : Options) (e text : List ℕ) → (f : StaysWhole o e text) → IsText text f.parts
stays_text o e text f = is_text (record { parts = f.parts; same = f.same; fits = f.fits; document_is = refl {a = gathered f.parts}; comments_are = refl {a = comments_of f.parts} })

-- the lines that stay
body_again : (o : Options) (text : List ℕ) (parts : List Part) → IsText text parts → has_no_cr parts ≡ true
    → let e = line_end_of o.newline (shown_parts parts) in StaysWhole o e (set_body o e (lines_of (shown_parts parts)))
body_again o text parts is none =
    let e = line_end_of o.newline (shown_parts parts) in
    let a = again o e (line_end_is o.newline (shown_parts parts)) parts Closed false Nothing o.max_leading_blank_lines refl is.fits tt none in
    moved o e false Nothing o.max_leading_blank_lines _ _ (body_is o e (shown_parts parts)) a.stays

trim_step : ℕ → List ℕ → List ℕ
trim_step b text = elim text [ [] ↦ if is_cr_or_lf b then [] else b ∷ [] | c ∷ more ↦ b ∷ c ∷ more ]

trimmed_again : (text : List ℕ) → trimmed (trimmed text) ≡ trimmed text
unfolding trim_step
trimmed_again [] = refl
trimmed_again (b ∷ text) = elim (trimmed_cases b text) [
  | inl none ↦ rw none.0 refl
  | inr some ↦ ap trimmed some ∙ ap (trim_step b) (trimmed_again text)
]

with_one_filled : (e text : List ℕ) → Filled text → with_one_line_end e text ≡ trimmed text ++ e
with_one_filled e [] f = absurd (let x = f.2 in cc)
with_one_filled e (b ∷ text) f = refl

-- a text with one line ending at its end keeps it
one_again : (e text : List ℕ) → is_line_end e ≡ true → with_one_line_end e (with_one_line_end e text) ≡ with_one_line_end e text
one_again e [] line = refl
one_again e (b ∷ text) line =
    with_one_filled e (trimmed (b ∷ text) ++ e) (front_filled (trimmed (b ∷ text)) e (one_line_end Filled (10, [], refl) (13, 10 ∷ [], refl) e line))
    ∙ ap (λ t. t ++ e) (trimmed_none (trimmed (b ∷ text)) e (one_line_end (λ e. trimmed e ≡ []) refl refl e line) ∙ trimmed_again (b ∷ text))

-- what is set from the start, with one line ending at its end
one_stays : (o : Options) (e : List ℕ) → is_line_end e ≡ true → (set : List Shown) (text : List ℕ) → Shut o e false Nothing o.max_leading_blank_lines set text → StaysWhole o e (with_one_line_end e text)
unfolding set_tokens
one_stays o e line set [] is = stays_none o e false Nothing o.max_leading_blank_lines [] refl
one_stays o e line set (b ∷ text) is = elim is [
  | inl bare ↦ kept (is_dropped (at_place false Nothing o.max_leading_blank_lines)) refl bare.0 bare.2
  | inr full ↦ full.1.stays
]
  where
    kept : (d : Bool) → is_dropped (at_place false Nothing o.max_leading_blank_lines) ≡ d → trimmed (b ∷ text) ≡ [] → (is_dropped (at_place false Nothing o.max_leading_blank_lines) ≡ true → b ∷ text ≡ []) → StaysWhole o e (trimmed (b ∷ text) ++ e)
    kept true d none empty = absurd (let x : b ∷ text ≡ [] = empty d in cc)
    kept false d none empty = moved o e false Nothing o.max_leading_blank_lines e (trimmed (b ∷ text) ++ e) (ap (λ t. t ++ e) (sym none)) (stays_end o e line false Nothing o.max_leading_blank_lines d)

body_ended : (o : Options) (text : List ℕ) (parts : List Part) → IsText text parts → has_no_cr parts ≡ true
    → let e = line_end_of o.newline (shown_parts parts) in StaysWhole o e (with_one_line_end e (set_body o e (lines_of (shown_parts parts))))
body_ended o text parts is none =
    let e = line_end_of o.newline (shown_parts parts) in
    let line = line_end_is o.newline (shown_parts parts) in
    let w = shut o e line parts Closed false Nothing o.max_leading_blank_lines refl is.fits tt none in
    moved o e false Nothing o.max_leading_blank_lines _ _ (ap (with_one_line_end e) (body_is o e (shown_parts parts))) (one_stays o e line (shown_parts parts) _ w)

-- where the line ending is told again, it is the same, or nothing is to be ended
line_same : (n : Newline) (tokens again : List Shown) → AllByRecursion (HoldsLineEnd (line_end_of n tokens)) again → (line_end_of n again ≡ line_end_of n tokens) ⊎ (list_any is_newline again ≡ false)
line_same Detect tokens again h = detected_is (detected tokens) (line_end_is Detect tokens) again h
line_same Lf tokens again h = inl refl
line_same CrLf tokens again h = inl refl

-- what stays has one list of tokens
one_list : (o : Options) (e text : List ℕ) → (f : StaysWhole o e text) → (read : List Part) → IsText text read → tokens_of read ≡ tokens_of f.parts
one_list o e text f read is = let own = stays_text o e text f in one_tokens (unmarked text) read f.parts is.spelled_is is.fits own.spelled_is own.fits

-- the lines of parts that stay, by the line ending that is told again
relined : (o : Options) (e other text : List ℕ) → (f : StaysWhole o e text) → (other ≡ e) ⊎ (has_newline (tokens_of f.parts) ≡ false) → set_body o other (lines_of (shown_parts f.parts)) ≡ text
relined o e other text f which =
    sym (body_is o other (shown_parts f.parts)) ∙ elim which [
      | inl same ↦ ap (λ e. set_from o e false Nothing o.max_leading_blank_lines f.parts) same
      | inr none ↦ set_unended o other e (first o) (shown_parts f.parts) none
    ] ∙ f.again

-- one line ending at the end stays, by the line ending that is told again
one_same : (o : Options) (e other text : List ℕ) → is_line_end e ≡ true → (f : StaysWhole o e (with_one_line_end e text)) → (other ≡ e) ⊎ (has_newline (tokens_of f.parts) ≡ false)
    → with_one_line_end other (with_one_line_end e text) ≡ with_one_line_end e text
one_same o e other text line f (inl same) = ap (λ other. with_one_line_end other (with_one_line_end e text)) same ∙ one_again e text line
one_same o e other [] line f (inr none) = refl
one_same o e other (b ∷ text) line f (inr none) =
    absurd (let x : true ≡ false = sym (ended_last (trimmed (b ∷ text)) e line) ∙ ap (ends (λ b. b == 10)) (sym f.same) ∙ unended f.parts f.fits none in cc)

-- A layout is laid out as it is.
pub laid_out_again : (o : Options) (text : List ℕ) (parts read : List Part) → IsText text parts → has_no_cr parts ≡ true → IsText (layout o parts) read → layout o read ≡ layout o parts
unfolding laid_out
laid_out_again o text parts read is none is_read = go o.ensure_trailing_newline refl
  where
    e : List ℕ
    e = line_end_of o.newline (shown_parts parts)

    go : (ended : Bool) → o.ensure_trailing_newline ≡ ended → layout o read ≡ layout o parts
    go true h =
        let f = body_ended o text parts is none in
        let read_is : IsText (with_one_line_end e (set_body o e (lines_of (shown_parts parts)))) read = rw h at is_read in
        let other = line_end_of o.newline (shown_parts f.parts) in
        let which = line_same o.newline (shown_parts parts) (shown_parts f.parts) f.holds in
        rw (h, one_list o e _ f read read_is) (ap (with_one_line_end other) (relined o e other _ f which) ∙ one_same o e other (set_body o e (lines_of (shown_parts parts))) (line_end_is o.newline (shown_parts parts)) f which)
    go false h =
        let f = body_again o text parts is none in
        let read_is : IsText (set_body o e (lines_of (shown_parts parts))) read = rw h at is_read in
        rw (h, one_list o e _ f read read_is) (relined o e _ _ f (line_same o.newline (shown_parts parts) (shown_parts f.parts) f.holds))

-- Its newlines are the line ending that was chosen.
pub laid_out_holds : (o : Options) (text : List ℕ) (parts read : List Part) → IsText text parts → has_no_cr parts ≡ true → IsText (layout o parts) read → HoldLineEnd (line_end_in o parts) read
unfolding laid_out
laid_out_holds o text parts read is none is_read = All-from_recursion (HoldsLineEnd e) (shown_parts read) (go o.ensure_trailing_newline refl)
  where
    e : List ℕ
    e = line_end_of o.newline (shown_parts parts)

    held : (text : List ℕ) → (f : StaysWhole o e text) → IsText text read → Holds e read
    held text f is = subst (TokensHold e) (sym (one_list o e text f read is)) f.holds

    go : (ended : Bool) → o.ensure_trailing_newline ≡ ended → Holds e read
    go true h = held _ (body_ended o text parts is none) (rw h at is_read)
    go false h = held _ (body_again o text parts is none) (rw h at is_read)
