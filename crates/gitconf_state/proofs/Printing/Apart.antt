-- Parts of which none runs into the next: their text is one of parts that fit, with the same document and comments.
use Rattle.std.proofs.Common.{◌≡◌, ◌<◌, ℕ, Bool, true, false, not, List, [], ◌∷◌, ◌++◌, length, Option, Some, None, refl, sym, subst, append_assoc, arith}
use Rattle.std.specs.Prelude.{◌==◌}
use Rattle.std.specs.List.{list_all}
use Rattle.gitconf_text.specs.Bytes.{is_blank}
use Rattle.gitconf_text.specs.Text.{begins_line_end, are_line_ends}
use Rattle.gitconf_text.specs.Unit.{is_mark}
use Rattle.gitconf_text.specs.Header.{FitsHeader}
use Rattle.gitconf_text.specs.Names.{is_value_name}
use Rattle.gitconf_text.specs.Part.{Assigned, Entry, BlanksItem, LineEndsItem, CommentItem, EntryItem, Part, ItemPart, HeaderPart, spelled_assigned, spelled_part, spelled}
use Rattle.gitconf_text.specs.Document.{Document, with_part, gathered}
use Rattle.gitconf_text.proofs.Tests.{both_true}
use Rattle.gitconf_text.proofs.ByteLaws.{line_end_more}
use Rattle.gitconf_state.specs.Comments.{part_comments, comments_of}
use Rattle.gitconf_state.specs.Writing.{may_stand_behind, Open, Closed, OpenKey, OpenKeyAndBlanks, OpenValue, OpenComment, after, after_entry}
use Rattle.gitconf_state.proofs.Printing.Follows.{may_follow, blanks_follow, line_end_follows, mark_follows, letter_follows}
use Rattle.gitconf_state.proofs.Printing.Fitted.{Fitted, put, put_blanks, put_line_ends}
use Rattle.gitconf_state.proofs.Printing.FittedComment.{put_comment}
use Rattle.gitconf_state.proofs.Printing.FittedEntry.{IsClosed, put_key, put_value}

-- what an entry assigns, if anything, has a value that a text may have
abbrev pub AreClosed : Option Assigned → Type 0
AreClosed None = Unit {0}
AreClosed (Some a) = IsClosed a

-- what a part is, wherever it is; its pieces have their line endings
abbrev pub IsSound : Part → Type 0
IsSound (ItemPart (BlanksItem run)) = list_all is_blank run ≡ true
IsSound (ItemPart (LineEndsItem run)) = (0 < length run) × (are_line_ends run ≡ true)
IsSound (ItemPart (CommentItem tag text)) = (is_mark tag ≡ true) × (list_all (λ b. not (b == 10)) text ≡ true)
IsSound (ItemPart (EntryItem e)) = (is_value_name e.name ≡ true) × (list_all is_blank e.blanks ≡ true) × AreClosed e.assigned
IsSound (HeaderPart h) = FitsHeader h

-- A header may come if nothing is left open, and a comment not after a comment.
abbrev pub stands : Open → Part → Bool
stands before (ItemPart (BlanksItem run)) = true
stands before (ItemPart (LineEndsItem run)) = true
stands before (ItemPart (CommentItem tag text)) = elim before [ OpenComment ↦ false | _ ↦ true ]
stands before (ItemPart (EntryItem e)) = may_stand_behind before (EntryItem e)
stands before (HeaderPart h) = elim before [ Closed ↦ true | _ ↦ false ]

-- what is left open after a part
abbrev pub after_part : Open → Part → Open
after_part before (ItemPart i) = after before i
after_part before (HeaderPart h) = Closed

-- no part runs into the next
abbrev pub AreApart : Open → List Part → Type 0
AreApart before [] = Unit {0}
AreApart before (p ∷ parts) = (stands before p ≡ true) × IsSound p × AreApart (after_part before p) parts

-- the end may follow all
end_follows : (before : Open) → may_follow before [] ≡ true
end_follows Closed = refl
end_follows OpenKey = refl
end_follows OpenKeyAndBlanks = refl
end_follows OpenValue = refl
end_follows OpenComment = refl

-- a run of line endings begins with one
run_begins : (run rest : List ℕ) → 0 < length run → are_line_ends run ≡ true → begins_line_end (run ++ rest) ≡ true
run_begins [] rest some all = absurd (omega arith)
run_begins (b ∷ run) rest some all = line_end_more b run rest (both_true _ _ all).0

-- an entry may follow a name and blanks
name_follows : (name rest : List ℕ) → is_value_name name ≡ true → may_follow OpenKeyAndBlanks (name ++ rest) ≡ true
name_follows [] rest named = absurd (cc)
name_follows (b ∷ name) rest named = letter_follows b (name ++ rest) (both_true _ _ named).0

-- no comment follows a comment
comment_apart : (before : Open) (tag : ℕ) (text : List ℕ) → stands before (ItemPart (CommentItem tag text)) ≡ true → before ≡ OpenComment → ⊥
comment_apart Closed tag text h e = absurd (cc)
comment_apart OpenKey tag text h e = absurd (cc)
comment_apart OpenKeyAndBlanks tag text h e = absurd (cc)
comment_apart OpenValue tag text h e = absurd (cc)
comment_apart OpenComment tag text h e = absurd (cc)

-- an entry may follow where it is
entry_follows : (before : Open) (e : Entry) (rest : List ℕ) → stands before (ItemPart (EntryItem e)) ≡ true → is_value_name e.name ≡ true → may_follow before (e.name ++ rest) ≡ true
entry_follows Closed e rest h named = refl
entry_follows OpenKeyAndBlanks e rest h named = name_follows e.name rest named
entry_follows OpenKey e rest h named = absurd (cc)
entry_follows OpenValue e rest h named = absurd (cc)
entry_follows OpenComment e rest h named = absurd (cc)

-- a part may follow where it is
part_follows : (before : Open) (p : Part) (text : List ℕ) → stands before p ≡ true → IsSound p → may_follow (after_part before p) text ≡ true → may_follow before (spelled_part p ++ text) ≡ true
part_follows before (ItemPart (BlanksItem run)) text stands sound h = blanks_follow before run text sound h
part_follows before (ItemPart (LineEndsItem run)) text stands sound h = line_end_follows before (run ++ text) (run_begins run text sound.0 sound.1)
part_follows before (ItemPart (CommentItem tag words)) text stands sound h = mark_follows before tag (words ++ text) (comment_apart before tag words stands) sound.0
part_follows before (ItemPart (EntryItem e)) text stands sound h =
    subst (λ t. may_follow before t ≡ true) (sym (append_assoc e.name (e.blanks ++ spelled_assigned e.assigned) text)) (entry_follows before e _ stands sound.0)
part_follows Closed (HeaderPart h) text stands sound follows = refl
part_follows OpenKey (HeaderPart h) text stands sound follows = absurd (cc)
part_follows OpenKeyAndBlanks (HeaderPart h) text stands sound follows = absurd (cc)
part_follows OpenValue (HeaderPart h) text stands sound follows = absurd (cc)
part_follows OpenComment (HeaderPart h) text stands sound follows = absurd (cc)

-- after a name and blanks an entry leaves open what it does after a line ending
after_key : (blanks : List ℕ) (a : Option Assigned) → after_entry OpenKeyAndBlanks blanks a ≡ after_entry Closed blanks a
after_key blanks None = refl
after_key blanks (Some a) = refl

-- what an entry leaves open is told by the entry alone
after_entry-is : (before : Open) (e : Entry) → stands before (ItemPart (EntryItem e)) ≡ true → after before (EntryItem e) ≡ after Closed (EntryItem e)
after_entry-is Closed e h = refl
after_entry-is OpenKeyAndBlanks e h = after_key e.blanks e.assigned
after_entry-is OpenKey e h = absurd (cc)
after_entry-is OpenValue e h = absurd (cc)
after_entry-is OpenComment e h = absurd (cc)

-- an entry put before a text that may follow it
put_entry : (name blanks : List ℕ) (a : Option Assigned) {text : List ℕ} {document : Document} {comments : List (List ℕ)} → is_value_name name ≡ true → list_all is_blank blanks ≡ true → AreClosed a
    → may_follow (after_entry Closed blanks a) text ≡ true → Fitted text document comments
    → Fitted ((name ++ (blanks ++ spelled_assigned a)) ++ text) (with_part (ItemPart (EntryItem (record { name = name; blanks = blanks; assigned = a }))) document) comments
put_entry name blanks None named all closed follows f = put_key name blanks named all follows f
put_entry name blanks (Some a) named all closed follows f = put_value name blanks a named all closed follows f

-- a part put before a text that may follow it
put_part : (before : Open) (p : Part) {text : List ℕ} {document : Document} {comments : List (List ℕ)} → stands before p ≡ true → IsSound p → may_follow (after_part before p) text ≡ true
    → Fitted text document comments → Fitted (spelled_part p ++ text) (with_part p document) (part_comments p ++ comments)
put_part before (ItemPart (BlanksItem run)) stands sound follows f = put_blanks run sound f
put_part before (ItemPart (LineEndsItem run)) stands sound follows f = put_line_ends run sound.0 sound.1 f
put_part before (ItemPart (CommentItem tag words)) stands sound follows f = put_comment tag words sound.0 sound.1 follows f
put_part before (ItemPart (EntryItem e)) {text} stands sound follows f =
    put_entry e.name e.blanks e.assigned sound.0 sound.1 sound.2 (subst (λ b. may_follow b text ≡ true) (after_entry-is before e stands) follows) f
put_part before (HeaderPart h) stands sound follows f = put (HeaderPart h) sound f

-- Parts of which none runs into the next have a text of parts that fit.
fitted_behind : (before : Open) (parts : List Part) → AreApart before parts → (may_follow before (spelled parts) ≡ true) × Fitted (spelled parts) (gathered parts) (comments_of parts)
fitted_behind before [] apart = (end_follows before, record { parts = []; same = refl; fits = tt; document_is = refl; comments_are = refl })
fitted_behind before (p ∷ parts) apart =
    let later = fitted_behind (after_part before p) parts apart.2 in
    (part_follows before p (spelled parts) apart.0 apart.1 later.0, put_part before p apart.0 apart.1 later.0 later.1)

-- Parts that begin a text and of which none runs into the next have a text of parts that fit.
pub fitted : (parts : List Part) → AreApart Closed parts → Fitted (spelled parts) (gathered parts) (comments_of parts)
fitted parts apart = (fitted_behind Closed parts apart).1

-- what is left open after parts
abbrev pub behind_parts : Open → List Part → Open
behind_parts before [] = before
behind_parts before (p ∷ parts) = behind_parts (after_part before p) parts

-- two lists of parts, the second apart from what the first leaves open
pub apart-append : (before : Open) (parts others : List Part) → AreApart before parts → AreApart (behind_parts before parts) others → AreApart before (parts ++ others)
apart-append before [] others apart also = also
apart-append before (p ∷ parts) others apart also = (apart.0, apart.1, apart-append (after_part before p) parts others apart.2 also)
