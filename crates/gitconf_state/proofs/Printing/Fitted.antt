-- A text in parts that fit, with the document and the comments that they have; and one more blank, line ending or other part before it.
use Rattle.std.proofs.Common.{◌≡◌, ◌<◌, ℕ, Bool, true, false, List, [], ◌∷◌, ◌++◌, length, refl, ap, sym, subst, ◌∙◌, append_assoc, append-nil, arith}
use Rattle.std.specs.List.{list_all}
use Rattle.std.proofs.lemmas.List.Folds.{list_all-append}
use Rattle.gitconf_text.specs.Bytes.{is_blank}
use Rattle.gitconf_text.specs.Text.{begins, begins_line_end, are_line_ends}
use Rattle.gitconf_text.specs.Header.{Header, PlainHeader, DottedHeader, QuotedHeader, spelled_header}
use Rattle.gitconf_text.specs.Names.{is_value_name}
use Rattle.gitconf_text.specs.Part.{BlanksItem, LineEndsItem, CommentItem, EntryItem, Part, ItemPart, HeaderPart, spelled_part, spelled, FitsPart, AreFit}
use Rattle.gitconf_text.specs.Document.{Document, with_part, gathered}
use Rattle.gitconf_text.proofs.Tests.{both_true}
use Rattle.gitconf_text.proofs.ByteLaws.{letter_no_blank, letter_no_line_end, mark_no_blank, mark_no_line_end, line_end_no_blank, line_end_more}
use Rattle.gitconf_state.specs.Comments.{part_comments, comments_of}
use Rattle.gitconf_state.proofs.Printing.Follows.{blank_cases}

-- a text in parts that fit
pub record Fitted (text : List ℕ) (document : Document) (comments : List (List ℕ)) : Type 0 where
  pub parts : List Part
  pub same : spelled parts ≡ text
  pub fits : AreFit parts []
  pub document_is : gathered parts ≡ document
  pub comments_are : comments_of parts ≡ comments

-- a part that may come before the text
pub put : (p : Part) {text : List ℕ} {document : Document} {comments : List (List ℕ)} → FitsPart p text → Fitted text document comments
    → Fitted (spelled_part p ++ text) (with_part p document) (part_comments p ++ comments)
put p fits f = record {
  parts = p ∷ f.parts;
  same = ap (λ t. spelled_part p ++ t) f.same;
  fits = (subst (FitsPart p) (sym (append-nil (spelled f.parts) ∙ f.same)) fits, f.fits);
  document_is = ap (with_part p) f.document_is;
  comments_are = ap (λ t. part_comments p ++ t) f.comments_are;
}

-- the same text in other words
pub respelled : {text other : List ℕ} {document : Document} {comments : List (List ℕ)} → text ≡ other → Fitted text document comments → Fitted other document comments
respelled same f = record { parts = f.parts; same = f.same ∙ same; fits = f.fits; document_is = f.document_is; comments_are = f.comments_are }

-- a text that is cut after the run at its front
pub record Cut (is_run begins_run : List ℕ → Bool) (text : List ℕ) (document : Document) (comments : List (List ℕ)) : Type 0 where
  pub run : List ℕ
  pub rest : List ℕ
  pub whole : text ≡ run ++ rest
  pub passes : is_run run ≡ true
  pub stops : begins_run rest ≡ false
  pub behind : Fitted rest document comments

-- no run is at the front
uncut : (is_run begins_run : List ℕ → Bool) {text : List ℕ} {document : Document} {comments : List (List ℕ)} → is_run [] ≡ true → begins_run text ≡ false → Fitted text document comments
    → Cut is_run begins_run text document comments
uncut is_run begins_run {text} none stops f = record { run = []; rest = text; whole = refl; passes = none; stops = stops; behind = f }

-- the first part is the run
cut_first : (is_run begins_run : List ℕ → Bool) (run : List ℕ) (parts : List Part) {text : List ℕ} {document : Document} {comments : List (List ℕ)}
    → run ++ spelled parts ≡ text → is_run run ≡ true → begins_run (spelled parts ++ []) ≡ false → AreFit parts [] → gathered parts ≡ document → comments_of parts ≡ comments
    → Cut is_run begins_run text document comments
cut_first is_run begins_run run parts same passes stops fits document comments = record {
  run = run;
  rest = spelled parts;
  whole = sym same;
  passes = passes;
  stops = subst (λ t. begins_run t ≡ false) (append-nil (spelled parts)) stops;
  behind = record { parts = parts; same = refl; fits = fits; document_is = document; comments_are = comments };
}

-- a name begins with neither a blank nor a line ending
name_no_blank : (name rest : List ℕ) → is_value_name name ≡ true → begins is_blank (name ++ rest) ≡ false
name_no_blank [] rest h = absurd (cc)
name_no_blank (b ∷ name) rest h = letter_no_blank b (both_true _ _ h).0

-- a name begins with no line ending
name_no_line_end : (name rest : List ℕ) → is_value_name name ≡ true → begins_line_end (name ++ rest) ≡ false
name_no_line_end [] rest h = absurd (cc)
name_no_line_end (b ∷ name) rest h = letter_no_line_end b (name ++ rest) (both_true _ _ h).0

-- a header begins with no blank
header_no_blank : (h : Header) (rest : List ℕ) → begins is_blank (spelled_header h ++ rest) ≡ false
header_no_blank (PlainHeader name) rest = refl
header_no_blank (DottedHeader name subsection) rest = refl
header_no_blank (QuotedHeader name blanks spelling) rest = refl

-- a header begins with no line ending
header_no_line_end : (h : Header) (rest : List ℕ) → begins_line_end (spelled_header h ++ rest) ≡ false
header_no_line_end (PlainHeader name) rest = refl
header_no_line_end (DottedHeader name subsection) rest = refl
header_no_line_end (QuotedHeader name blanks spelling) rest = refl

-- line endings begin with no blank
line_ends_no_blank : (run rest : List ℕ) → 0 < length run → are_line_ends run ≡ true → begins is_blank (run ++ rest) ≡ false
line_ends_no_blank [] rest some h = absurd (omega arith)
line_ends_no_blank (b ∷ run) rest some h = line_end_no_blank b run (both_true _ _ h).0

-- blanks begin with no line ending
blanks_no_line_end : (run rest : List ℕ) → 0 < length run → list_all is_blank run ≡ true → begins_line_end (run ++ rest) ≡ false
blanks_no_line_end [] rest some h = absurd (omega arith)
blanks_no_line_end (b ∷ run) rest some h = blank_cases (λ b. begins_line_end (b ∷ (run ++ rest)) ≡ false) refl refl b (both_true (is_blank b) (list_all is_blank run) h).0

-- the blanks at the front of a text
pub cut_blanks : {text : List ℕ} {document : Document} {comments : List (List ℕ)} → Fitted text document comments → Cut (list_all is_blank) (begins is_blank) text document comments
cut_blanks {text} {document} {comments} f = go f.parts f.same f.fits f.document_is f.comments_are
  where
    without : begins is_blank text ≡ false → Cut (list_all is_blank) (begins is_blank) text document comments
    without stops = uncut (list_all is_blank) (begins is_blank) refl stops f

    go : (parts : List Part) → spelled parts ≡ text → AreFit parts [] → gathered parts ≡ document → comments_of parts ≡ comments → Cut (list_all is_blank) (begins is_blank) text document comments
    go [] same fits d c = without (subst (λ t. begins is_blank t ≡ false) same refl)
    go (ItemPart (BlanksItem run) ∷ parts) same fits d c = cut_first (list_all is_blank) (begins is_blank) run parts same fits.0.1 fits.0.2 fits.1 d c
    go (ItemPart (LineEndsItem run) ∷ parts) same fits d c = without (subst (λ t. begins is_blank t ≡ false) same (line_ends_no_blank run (spelled parts) fits.0.0 fits.0.1))
    go (ItemPart (CommentItem tag t) ∷ parts) same fits d c = without (subst (λ t. begins is_blank t ≡ false) same (mark_no_blank tag fits.0.0))
    go (ItemPart (EntryItem e) ∷ parts) same fits d c = without (subst (λ t. begins is_blank t ≡ false) (sym (append_assoc e.name _ _) ∙ same) (name_no_blank e.name _ fits.0.0))
    go (HeaderPart h ∷ parts) same fits d c = without (subst (λ t. begins is_blank t ≡ false) same (header_no_blank h (spelled parts)))

-- the line endings at the front of a text
pub cut_line_ends : {text : List ℕ} {document : Document} {comments : List (List ℕ)} → Fitted text document comments → Cut are_line_ends begins_line_end text document comments
cut_line_ends {text} {document} {comments} f = go f.parts f.same f.fits f.document_is f.comments_are
  where
    without : begins_line_end text ≡ false → Cut are_line_ends begins_line_end text document comments
    without stops = uncut are_line_ends begins_line_end refl stops f

    go : (parts : List Part) → spelled parts ≡ text → AreFit parts [] → gathered parts ≡ document → comments_of parts ≡ comments → Cut are_line_ends begins_line_end text document comments
    go [] same fits d c = without (subst (λ t. begins_line_end t ≡ false) same refl)
    go (ItemPart (BlanksItem run) ∷ parts) same fits d c = without (subst (λ t. begins_line_end t ≡ false) same (blanks_no_line_end run (spelled parts) fits.0.0 fits.0.1))
    go (ItemPart (LineEndsItem run) ∷ parts) same fits d c = cut_first are_line_ends begins_line_end run parts same fits.0.1 fits.0.2 fits.1 d c
    go (ItemPart (CommentItem tag t) ∷ parts) same fits d c = without (subst (λ t. begins_line_end t ≡ false) same (mark_no_line_end tag (t ++ spelled parts) fits.0.0))
    go (ItemPart (EntryItem e) ∷ parts) same fits d c = without (subst (λ t. begins_line_end t ≡ false) (sym (append_assoc e.name _ _) ∙ same) (name_no_line_end e.name _ fits.0.0))
    go (HeaderPart h ∷ parts) same fits d c = without (subst (λ t. begins_line_end t ≡ false) same (header_no_line_end h (spelled parts)))

-- blanks are joined with those that follow them
pub put_blanks : (run : List ℕ) {text : List ℕ} {document : Document} {comments : List (List ℕ)} → list_all is_blank run ≡ true → Fitted text document comments → Fitted (run ++ text) document comments
put_blanks run {text} {document} {comments} all f = let c = cut_blanks f in respelled (append_assoc run c.run c.rest ∙ ap (λ t. run ++ t) (sym c.whole)) (go (run ++ c.run) (rw (list_all-append is_blank run c.run, all, c.passes) refl) c.stops c.behind)
  where
    go : (joined : List ℕ) {rest : List ℕ} → list_all is_blank joined ≡ true → begins is_blank rest ≡ false → Fitted rest document comments → Fitted (joined ++ rest) document comments
    go [] all stops f = f
    go (b ∷ joined) all stops f = put (ItemPart (BlanksItem (b ∷ joined))) (omega arith, all, stops) f

-- two runs of line endings are one
pub line_ends-append : (run other : List ℕ) → are_line_ends run ≡ true → are_line_ends other ≡ true → are_line_ends (run ++ other) ≡ true
line_ends-append [] other all also = also
line_ends-append (b ∷ run) other all also = let q = both_true (begins_line_end (b ∷ run)) (are_line_ends run) all in rw (line_end_more b run other q.0) (line_ends-append run other q.1 also)

-- line endings are joined with those that follow them
pub put_line_ends : (run : List ℕ) {text : List ℕ} {document : Document} {comments : List (List ℕ)} → 0 < length run → are_line_ends run ≡ true → Fitted text document comments
    → Fitted (run ++ text) document comments
put_line_ends [] some all f = absurd (omega arith)
put_line_ends (b ∷ run) some all f =
    let c = cut_line_ends f in
    respelled (append_assoc (b ∷ run) c.run c.rest ∙ ap (λ t. (b ∷ run) ++ t) (sym c.whole))
    (put (ItemPart (LineEndsItem ((b ∷ run) ++ c.run))) (omega arith, line_ends-append (b ∷ run) c.run all c.passes, c.stops) c.behind)
