-- Laws of layouts.
use Rattle.std.proofs.Common.{◌≡◌, ℕ, Bool, true, false, List, [], ◌∷◌, map, inl, inr, refl}
use Rattle.std.specs.Prelude.{◌==◌, if◌then◌else◌}
use Rattle.std.specs.List.{list_any}
use Rattle.gitconf_text.specs.Text.{ends, is_line_end}
use Rattle.gitconf_text.specs.Part.{Part}
use Rattle.gitconf_text.specs.Token.{tokens_of}
use Rattle.gitconf_text.specs.Document.{IsText, gathered}
use Rattle.gitconf_items.specs.EventRef.{Shown, ShownComment, ShownHeader, ShownValueName, ShownValue, ShownNewline, ShownUnfinished, ShownLast, ShownBlanks, ShownSeparator}
use Rattle.gitconf_items.specs.ShownEvents.{shown_token}
use Rattle.gitconf_state.specs.Comments.{comments_of}
use Rattle.gitconf_state.specs.Writing.{Closed}
use Rattle.gitconf_state.proofs.Printing.Fitted.{Fitted, respelled}
use Rattle.gitconf_state.proofs.Printing.ReadsBack.{is_text}
use Rattle.gitconf_layout.specs.declared.format.Newline.{Newline}
use Rattle.gitconf_layout.specs.declared.format.Newline.TheVariants.{Detect, Lf, CrLf}
use Rattle.gitconf_layout.specs.declared.format.Options.{Options}
use Rattle.gitconf_layout.specs.declared.place.Before.TheVariants.{Nothing}
use Rattle.gitconf_layout.specs.Layout.{detected, line_end_of, lines_of, set_body, is_cr_or_lf, trimmed, with_one_line_end, laid_out, layout}
use Rattle.gitconf_layout.specs.Kept.{Keeps, EndsOnce}
use Rattle.gitconf_layout.proofs.Staying.{body_is}
use Rattle.gitconf_layout.proofs.Laid.{laid}
use Rattle.gitconf_layout.proofs.Ended.{ended_fitted}

by_return : (cr : Bool) → is_line_end (if◌then◌else◌ {A = List ℕ} cr (13 ∷ 10 ∷ []) (10 ∷ [])) ≡ true
by_return true = refl
by_return false = refl

detected_end : (tokens : List Shown) → is_line_end (detected tokens) ≡ true
detected_end [] = refl
detected_end (ShownNewline run ∷ tokens) = by_return (list_any (λ b. b == 13) run)
detected_end (ShownComment tag text ∷ tokens) = detected_end tokens
detected_end (ShownHeader name separator subsection ∷ tokens) = detected_end tokens
detected_end (ShownValueName bytes ∷ tokens) = detected_end tokens
detected_end (ShownValue bytes ∷ tokens) = detected_end tokens
detected_end (ShownUnfinished bytes ∷ tokens) = detected_end tokens
detected_end (ShownLast bytes ∷ tokens) = detected_end tokens
detected_end (ShownBlanks bytes ∷ tokens) = detected_end tokens
detected_end (ShownSeparator ∷ tokens) = detected_end tokens

-- what lines end with is a line ending
pub line_end_is : (n : Newline) (tokens : List Shown) → is_line_end (line_end_of n tokens) ≡ true
line_end_is Detect tokens = detected_end tokens
line_end_is Lf tokens = refl
line_end_is CrLf tokens = refl

-- the lines that stay are a text with the document and the comments of the parts
pub body_fitted : (o : Options) (text : List ℕ) (parts : List Part) → IsText text parts
    → let tokens = map shown_token (tokens_of parts) in Fitted (set_body o (line_end_of o.newline tokens) (lines_of tokens)) (gathered parts) (comments_of parts)
body_fitted o text parts is =
    let tokens = map shown_token (tokens_of parts) in
    let e = line_end_of o.newline tokens in
    respelled (body_is o e tokens) (laid o e (line_end_is o.newline tokens) parts Closed false Nothing o.max_leading_blank_lines refl is.fits tt).fitted

fitted_keeps : (parts : List Part) (text : List ℕ) → Fitted text (gathered parts) (comments_of parts) → Keeps parts text
fitted_keeps parts text f = record { read = f.parts; is_text = is_text f; document = f.document_is; comments = f.comments_are }

-- the document and the comments stay
pub keeps_document : (o : Options) (text : List ℕ) (parts : List Part) → IsText text parts → Keeps parts (layout o parts)
unfolding laid_out
keeps_document o text parts is = go o.ensure_trailing_newline
  where
    tokens : List Shown
    tokens = map shown_token (tokens_of parts)

    e : List ℕ
    e = line_end_of o.newline tokens

    go : (ended : Bool) → Keeps parts (if ended then with_one_line_end e (set_body o e (lines_of tokens)) else set_body o e (lines_of tokens))
    go true = fitted_keeps parts _ (ended_fitted e (line_end_is o.newline tokens) (set_body o e (lines_of tokens)) (gathered parts) (comments_of parts) (body_fitted o text parts is))
    go false = fitted_keeps parts _ (body_fitted o text parts is)

-- no CR or LF is at the end
trimmed_ends : (text : List ℕ) → ends is_cr_or_lf (trimmed text) ≡ false
trimmed_ends [] = refl
trimmed_ends (b ∷ text) = go (trimmed text) refl (trimmed_ends text)
  where
    go : (rest : List ℕ) → trimmed text ≡ rest → ends is_cr_or_lf (trimmed text) ≡ false → ends is_cr_or_lf (trimmed (b ∷ text)) ≡ false
    go (c ∷ rest) h later = rw (h, trimmed) (let k = rw h at later in k)
    go [] h later = rw (h, trimmed) (last (is_cr_or_lf b) refl)
      where
        last : (t : Bool) → is_cr_or_lf b ≡ t → ends is_cr_or_lf (if is_cr_or_lf b then [] else b ∷ []) ≡ false
        last true e = rw e refl
        last false e = rw e e

ended_once : (e text : List ℕ) → is_line_end e ≡ true → EndsOnce (with_one_line_end e text)
ended_once e [] line = inl refl
ended_once e (b ∷ text) line = inr (trimmed (b ∷ text), e, refl, trimmed_ends (b ∷ text), line)

-- with one asked for the text ends with one line ending
pub ends_once : (o : Options) (parts : List Part) → o.ensure_trailing_newline ≡ true → EndsOnce (layout o parts)
unfolding laid_out
ends_once o parts h =
    let tokens = map shown_token (tokens_of parts) in
    rw h (ended_once (line_end_of o.newline tokens) (set_body o (line_end_of o.newline tokens) (lines_of tokens)) (line_end_is o.newline tokens))
