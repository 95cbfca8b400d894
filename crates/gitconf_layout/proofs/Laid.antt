-- What one pass over the tokens of a text writes is a text with the same document and comments.
use Rattle.std.proofs.Common.{◌≡◌, ◌<◌, ℕ, Bool, true, false, not, List, [], ◌∷◌, ◌++◌, length, map, Option, Some, None, inl, inr, refl, ap, sym, subst, ◌∙◌, append_assoc, arith}
use Rattle.std.specs.Prelude.{◌==◌, ◌&&◌, if◌then◌else◌}
use Rattle.std.specs.List.{list_all}
use Rattle.std.proofs.lemmas.List.{map-append}
use Rattle.gitconf_text.specs.Bytes.{is_blank, is_name_byte}
use Rattle.gitconf_text.specs.Text.{begins, begins_line_end, are_line_ends, is_line_end}
use Rattle.gitconf_text.specs.Unit.{is_mark}
use Rattle.gitconf_text.specs.Value.{Piece, spelled_value, FitsValue}
use Rattle.gitconf_text.specs.Names.{is_value_name}
use Rattle.gitconf_text.specs.Header.{Header, PlainHeader, DottedHeader, QuotedHeader, spelled_header, name_of, subsection_of}
use Rattle.gitconf_text.specs.Part.{Assigned, Entry, BlanksItem, LineEndsItem, CommentItem, EntryItem, Part, ItemPart, HeaderPart, spelled_item, spelled, FitsItem, AreFit}
use Rattle.gitconf_text.specs.Token.{HeaderToken, item_tokens, tokens_of}
use Rattle.gitconf_text.specs.Document.{Document, with_part, gathered}
use Rattle.gitconf_items.specs.EventRef.{written}
use Rattle.gitconf_items.specs.ShownEvents.{shown_token}
use Rattle.gitconf_text.proofs.Tests.{both_true}
use Rattle.gitconf_state.specs.Comments.{without_white_end, comments_of}
use Rattle.gitconf_state.specs.Writing.{may_stand_behind, Open, Closed, OpenKey, OpenKeyAndBlanks, OpenValue, OpenComment, after_blanks, after_entry, after}
use Rattle.gitconf_state.proofs.Printing.Follows.{may_follow, may_follow_key, blanks_follow, line_end_follows, mark_follows, letter_follows}
use Rattle.gitconf_state.proofs.Printing.Fitted.{Fitted, put, respelled, put_blanks, put_line_ends}
use Rattle.gitconf_state.proofs.Printing.FittedComment.{put_comment}
use Rattle.gitconf_state.proofs.Printing.FittedEntry.{put_key, put_value}
use Rattle.gitconf_state.proofs.Loading.Names.{Follows, first_fits, only_line_ends, behind_item}
use Rattle.gitconf_layout.specs.declared.format.Options.{Options}
use Rattle.gitconf_layout.specs.declared.place.Before.{Before}
use Rattle.gitconf_layout.specs.declared.place.Before.TheVariants.{Nothing, Value, Other}
use Rattle.gitconf_layout.specs.Layout.{is_nothing, keeps_blanks, before_name, before_comment, comment_text}
use Rattle.gitconf_layout.specs.Setting.{ends_text, ends_place, set_tokens}
use Rattle.gitconf_layout.proofs.SetHeaders.{SameHeader, set_header}
use Rattle.gitconf_layout.proofs.SetEntries.{at_place, gap, set_value, set_entry, room_behind, before_behind_value, behind_assigned, AssignedEnds, pass_entry}
use Rattle.gitconf_layout.proofs.SetValues.{gap_blank, raw_same, Ways, ways, piece_ends, set_closed, set_bare}
use Rattle.gitconf_layout.proofs.SetRuns.{IsRun, ends_run, ends_line, stripped_comment, comment_in_line, name_blank, comment_blank}

-- what is left open in the text that is set: no blanks follow a name
abbrev pub tight : Open → Open
tight Closed = Closed
tight OpenKey = OpenKey
tight OpenKeyAndBlanks = OpenKey
tight OpenValue = OpenValue
tight OpenComment = OpenComment

-- what comes before a token on its line is what is left open there
abbrev pub meets : Open → Before → Bool
meets Closed before = true
meets OpenKey Value = true
meets OpenKey Nothing = false
meets OpenKey Other = false
meets OpenKeyAndBlanks Value = true
meets OpenKeyAndBlanks Nothing = false
meets OpenKeyAndBlanks Other = false
meets OpenValue before = not (is_nothing before)
meets OpenComment before = not (is_nothing before)

-- the text that is set from here on
abbrev pub set_from : Options → (e : List ℕ) → (s : Bool) → (b : Before) → (r : Option ℕ) → List Part → List ℕ
set_from o e s b r parts = set_tokens o e (at_place s b r) (map shown_token (tokens_of parts))

-- a text with this document and these comments that may follow what is left open
pub record Laid (state : Open) (text : List ℕ) (document : Document) (comments : List (List ℕ)) : Type 0 where
  pub fitted : Fitted text document comments
  pub follows : may_follow (tight state) text ≡ true

end_follows : (before : Open) → may_follow before [] ≡ true
end_follows Closed = refl
end_follows OpenKey = refl
end_follows OpenKeyAndBlanks = refl
end_follows OpenValue = refl
end_follows OpenComment = refl

tight_blanks : (run : List ℕ) (before : Open) → tight (after_blanks run before) ≡ tight before
tight_blanks [] before = refl
tight_blanks (b ∷ run) Closed = refl
tight_blanks (b ∷ run) OpenKey = refl
tight_blanks (b ∷ run) OpenKeyAndBlanks = refl
tight_blanks (b ∷ run) OpenValue = refl
tight_blanks (b ∷ run) OpenComment = refl

pub meets_blanks : (run : List ℕ) (before : Open) (b : Before) → meets before b ≡ true → meets (after_blanks run before) b ≡ true
meets_blanks [] before b h = h
meets_blanks (c ∷ run) Closed b h = h
meets_blanks (c ∷ run) OpenKey Value h = refl
meets_blanks (c ∷ run) OpenKey Nothing h = absurd (cc)
meets_blanks (c ∷ run) OpenKey Other h = absurd (cc)
meets_blanks (c ∷ run) OpenKeyAndBlanks b h = h
meets_blanks (c ∷ run) OpenValue b h = h
meets_blanks (c ∷ run) OpenComment b h = h

-- what may follow may follow after blanks
loosened : (before : Open) (run text : List ℕ) → may_follow before text ≡ true → may_follow (after_blanks run before) text ≡ true
loosened before [] text h = h
loosened Closed (b ∷ run) text h = h
loosened OpenKey (b ∷ run) text h = (both_true (not (begins is_name_byte text)) (may_follow_key text) h).1
loosened OpenKeyAndBlanks (b ∷ run) text h = h
loosened OpenValue (b ∷ run) text h = h
loosened OpenComment (b ∷ run) text h = h

-- blanks put before a text, or none
maybe_blanks : (k : Bool) (state : Open) (run text : List ℕ) (document : Document) (comments : List (List ℕ)) → list_all is_blank run ≡ true → Laid (after_blanks run state) text document comments
    → Laid state ((if k then run else []) ++ text) document comments
maybe_blanks k state run text document comments all later = go k
  where
    follows : may_follow (tight state) text ≡ true
    follows = subst (λ q. may_follow q text ≡ true) (tight_blanks run state) later.follows

    go : (k : Bool) → Laid state ((if k then run else []) ++ text) document comments
    go true = record { fitted = put_blanks run all later.fitted; follows = blanks_follow (tight state) run text all (loosened (tight state) run text follows) }
    go false = record { fitted = later.fitted; follows = follows }

run_begins : (run rest : List ℕ) → 0 < length run → are_line_ends run ≡ true → begins_line_end (run ++ rest) ≡ true
run_begins [] rest some all = absurd (omega arith)
run_begins (b ∷ []) rest some all = ends_front b rest (both_true (begins_line_end (b ∷ [])) true all).0
  where
    ends_front : (b : ℕ) (rest : List ℕ) → begins_line_end (b ∷ []) ≡ true → begins_line_end (b ∷ rest) ≡ true
    ends_front b rest h = go (b == 10) refl
      where
        go : (t : Bool) → (b == 10) ≡ t → begins_line_end (b ∷ rest) ≡ true
        go true e = rw e refl
        go false e = absurd (let k : (b == 13 && false) ≡ true = rw e at h in let l = (both_true (b == 13) false k).1 in cc)
run_begins (b ∷ c ∷ run) rest some all = (both_true (begins_line_end (b ∷ c ∷ run)) _ all).0

-- a run of line endings put before a text, or nothing
maybe_line_ends : (state : Open) (run text : List ℕ) (document : Document) (comments : List (List ℕ)) → IsRun run → (run ≡ [] → state ≡ Closed) → Fitted text document comments
    → Laid state (run ++ text) document comments
maybe_line_ends state run text document comments is none f = elim is [
  | inl empty ↦ record {
    fitted = subst (λ run. Fitted (run ++ text) document comments) (sym empty) f;
    follows = subst (λ q. may_follow (tight q) (run ++ text) ≡ true) (sym (none empty)) refl;
  }
  | inr some ↦ record {
    fitted = put_line_ends run some.0 some.1 f;
    follows = line_end_follows (tight state) (run ++ text) (run_begins run text some.0 some.1);
  }
]

-- after nothing on its line nothing is left open
pub nothing_closed : (state : Open) (b : Before) → meets state b ≡ true → is_nothing b ≡ true → state ≡ Closed
nothing_closed Closed b m h = refl
nothing_closed OpenKey Nothing m h = absurd (cc)
nothing_closed OpenKey Value m h = absurd (cc)
nothing_closed OpenKey Other m h = absurd (cc)
nothing_closed OpenKeyAndBlanks Nothing m h = absurd (cc)
nothing_closed OpenKeyAndBlanks Value m h = absurd (cc)
nothing_closed OpenKeyAndBlanks Other m h = absurd (cc)
nothing_closed OpenValue b m h = absurd (let k : false ≡ true = rw h at m in cc)
nothing_closed OpenComment b m h = absurd (let k : false ≡ true = rw h at m in cc)

-- no comment follows a comment
not_comment : (state : Open) (tag : ℕ) (text rest : List ℕ) → FitsItem (CommentItem tag text) rest → Follows state ((tag ∷ text) ++ rest) → state ≡ OpenComment → ⊥
not_comment Closed tag text rest fits h e = absurd (cc)
not_comment OpenKey tag text rest fits h e = absurd (cc)
not_comment OpenKeyAndBlanks tag text rest fits h e = absurd (cc)
not_comment OpenValue tag text rest fits h e = absurd (cc)
not_comment OpenComment tag text rest fits h e = absurd (let r = only_line_ends (CommentItem tag text) rest fits h in let k = r.1 in cc)

tight_comment : (state : Open) (run : List ℕ) → (state ≡ OpenComment → ⊥) → after_blanks run (tight state) ≡ OpenComment → ⊥
tight_comment Closed [] no_comment e = absurd (cc)
tight_comment OpenKey [] no_comment e = absurd (cc)
tight_comment OpenKeyAndBlanks [] no_comment e = absurd (cc)
tight_comment OpenValue [] no_comment e = absurd (cc)
tight_comment OpenComment [] no_comment e = no_comment refl
tight_comment Closed (b ∷ run) no_comment e = absurd (cc)
tight_comment OpenKey (b ∷ run) no_comment e = absurd (cc)
tight_comment OpenKeyAndBlanks (b ∷ run) no_comment e = absurd (cc)
tight_comment OpenValue (b ∷ run) no_comment e = absurd (cc)
tight_comment OpenComment (b ∷ run) no_comment e = no_comment refl

-- a comment after its indent
set_comment : (state : Open) (front : List ℕ) (tag : ℕ) (words text : List ℕ) (document : Document) (comments : List (List ℕ)) → list_all is_blank front ≡ true → is_mark tag ≡ true
    → list_all (λ b. not (b == 10)) words ≡ true → (state ≡ OpenComment → ⊥) → Laid OpenComment text document comments
    → Laid state ((front ++ (tag ∷ words)) ++ text) document ((tag ∷ without_white_end words) ∷ comments)
set_comment state front tag words text document comments all mark lines other later =
    let comment : Fitted (tag ∷ (words ++ text)) document ((tag ∷ without_white_end words) ∷ comments) = put_comment tag words mark lines later.follows later.fitted in
    let same : (front ++ (tag ∷ words)) ++ text ≡ front ++ (tag ∷ (words ++ text)) = append_assoc front (tag ∷ words) text in
    record {
      fitted = respelled (sym same) (put_blanks front all comment);
      follows = ap (may_follow (tight state)) same ∙ blanks_follow (tight state) front (tag ∷ (words ++ text)) all (mark_follows (after_blanks front (tight state)) tag (words ++ text) (tight_comment state front other) mark);
    }

redocumented : {text : List ℕ} {document other : Document} {comments : List (List ℕ)} → document ≡ other → Fitted text document comments → Fitted text other comments
redocumented same f = record { parts = f.parts; same = f.same; fits = f.fits; document_is = f.document_is ∙ same; comments_are = f.comments_are }

recommented : {text : List ℕ} {document : Document} {comments other : List (List ℕ)} → comments ≡ other → Fitted text document comments → Fitted text document other
recommented same f = record { parts = f.parts; same = f.same; fits = f.fits; document_is = f.document_is; comments_are = f.comments_are ∙ same }

-- a bracket may follow where a header is
bracket : (state : Open) (h : Header) (rest : List ℕ) → Follows state (spelled_header h ++ rest) → (text : List ℕ) → may_follow (tight state) (91 ∷ text) ≡ true
bracket Closed h rest follows text = refl
bracket OpenKey h rest follows text = refl
bracket OpenKeyAndBlanks h rest follows text = refl
bracket OpenValue (PlainHeader name) rest follows text = absurd (cc)
bracket OpenValue (DottedHeader name subsection) rest follows text = absurd (cc)
bracket OpenValue (QuotedHeader name blanks spelling) rest follows text = absurd (cc)
bracket OpenComment (PlainHeader name) rest follows text = absurd (cc)
bracket OpenComment (DottedHeader name subsection) rest follows text = absurd (cc)
bracket OpenComment (QuotedHeader name blanks spelling) rest follows text = absurd (cc)

-- a header may follow where one is
header_follows : (state : Open) (h other : Header) (rest text : List ℕ) → Follows state (spelled_header h ++ rest) → may_follow (tight state) (spelled_header other ++ text) ≡ true
header_follows state h (PlainHeader name) rest text follows = bracket state h rest follows _
header_follows state h (DottedHeader name subsection) rest text follows = bracket state h rest follows _
header_follows state h (QuotedHeader name blanks spelling) rest text follows = bracket state h rest follows _

-- a header put before a text
put_header : (state : Open) (h : Header) (written : List ℕ) (rest text : List ℕ) (document : Document) (comments : List (List ℕ)) → SameHeader h written → Follows state (spelled_header h ++ rest)
    → Laid Closed text document comments → Laid state (written ++ text) (with_part (HeaderPart h) document) comments
put_header state h written rest text document comments same follows later =
    let f : Fitted (spelled_header same.header ++ text) (with_part (HeaderPart same.header) document) comments = put (HeaderPart same.header) same.fits later.fitted in
    let d : with_part (HeaderPart same.header) document ≡ with_part (HeaderPart h) document
    = ap (λ (name : List ℕ). record { front = []; sections = (record { name = name; subsection = subsection_of same.header; entries = document.front }) ∷ document.sections }) same.name
    ∙ ap (λ (subsection : Option (List ℕ)). record { front = []; sections = (record { name = name_of h; subsection = subsection; entries = document.front }) ∷ document.sections }) same.subsection in
    record {
      fitted = respelled (ap (λ t. t ++ text) same.same) (redocumented d f);
      follows = ap (λ t. may_follow (tight state) (t ++ text)) (sym same.same) ∙ header_follows state h same.header rest text follows;
    }

-- where an entry may be, the set one may follow
entry_follows : (o : Options) (s : Bool) (state : Open) (b : Before) (name rest : List ℕ) → may_stand_behind state (EntryItem (record { name = name; blanks = []; assigned = None })) ≡ true → meets state b ≡ true → is_value_name name ≡ true
    → may_follow (tight state) (before_name o s b ++ (name ++ rest)) ≡ true
entry_follows o s Closed b name rest stands m named = refl
entry_follows o s OpenKeyAndBlanks Value [] rest stands m named = absurd (cc)
entry_follows o s OpenKeyAndBlanks Value (c ∷ name) rest stands m named = letter_follows c (name ++ rest) (both_true _ _ named).0
entry_follows o s OpenKeyAndBlanks Nothing name rest stands m named = absurd (cc)
entry_follows o s OpenKeyAndBlanks Other name rest stands m named = absurd (cc)
entry_follows o s OpenKey b name rest stands m named = absurd (cc)
entry_follows o s OpenValue b name rest stands m named = absurd (cc)
entry_follows o s OpenComment b name rest stands m named = absurd (cc)

stands_same : (state : Open) (x y : Entry) → may_stand_behind state (EntryItem x) ≡ true → may_stand_behind state (EntryItem y) ≡ true
stands_same Closed x y h = refl
stands_same OpenKeyAndBlanks x y h = refl
stands_same OpenKey x y h = absurd (cc)
stands_same OpenValue x y h = absurd (cc)
stands_same OpenComment x y h = absurd (cc)

-- what an entry leaves open
pub tight_key : (state : Open) (en : Entry) → may_stand_behind state (EntryItem en) ≡ true → (blanks : List ℕ) → (tight (after_entry state blanks None) ≡ OpenKey) × (meets (after_entry state blanks None) Value ≡ true)
tight_key Closed en h [] = (refl, refl)
tight_key Closed en h (b ∷ blanks) = (refl, refl)
tight_key OpenKeyAndBlanks en h [] = (refl, refl)
tight_key OpenKeyAndBlanks en h (b ∷ blanks) = (refl, refl)
tight_key OpenKey en h blanks = absurd (cc)
tight_key OpenValue en h blanks = absurd (cc)
tight_key OpenComment en h blanks = absurd (cc)

pub after_value : (state : Open) (en : Entry) → may_stand_behind state (EntryItem en) ≡ true → (blanks : List ℕ) (a : Assigned) → after_entry state blanks (Some a) ≡ OpenValue
after_value Closed en h blanks a = refl
after_value OpenKeyAndBlanks en h blanks a = refl
after_value OpenKey en h blanks a = absurd (cc)
after_value OpenValue en h blanks a = absurd (cc)
after_value OpenComment en h blanks a = absurd (cc)

-- parts with no text are none
pub no_parts : (parts : List Part) → AreFit parts [] → spelled parts ≡ [] → parts ≡ []
no_parts [] fits h = refl
no_parts (ItemPart (BlanksItem []) ∷ parts) fits h = absurd (let k : 0 < 0 = fits.0.0 in omega arith)
no_parts (ItemPart (BlanksItem (b ∷ run)) ∷ parts) fits h = absurd (cc)
no_parts (ItemPart (LineEndsItem []) ∷ parts) fits h = absurd (let k : 0 < 0 = fits.0.0 in omega arith)
no_parts (ItemPart (LineEndsItem (b ∷ run)) ∷ parts) fits h = absurd (cc)
no_parts (ItemPart (CommentItem tag text) ∷ parts) fits h = absurd (cc)
no_parts (ItemPart (EntryItem e) ∷ parts) fits h = absurd (named e.name _ fits.0.0 (sym (append_assoc e.name _ (spelled parts)) ∙ h))
  where
    named : (name rest : List ℕ) → is_value_name name ≡ true → name ++ rest ≡ [] → ⊥
    named [] rest is e = absurd (cc)
    named (b ∷ name) rest is e = absurd (cc)
no_parts (HeaderPart (PlainHeader name) ∷ parts) fits h = absurd (cc)
no_parts (HeaderPart (DottedHeader name subsection) ∷ parts) fits h = absurd (cc)
no_parts (HeaderPart (QuotedHeader name blanks spelling) ∷ parts) fits h = absurd (cc)

-- an entry without `=` after its indent
set_key : (o : Options) (s : Bool) (b : Before) (state : Open) (en : Entry) (text : List ℕ) (document : Document) (comments : List (List ℕ)) → en.assigned ≡ None → may_stand_behind state (EntryItem en) ≡ true → meets state b ≡ true
    → is_value_name en.name ≡ true → may_follow OpenKey text ≡ true → Fitted text document comments
    → Laid state (before_name o s b ++ ((en.name ++ ([] ++ [])) ++ text)) (with_part (ItemPart (EntryItem (record { name = en.name; blanks = en.blanks; assigned = None }))) document) comments
set_key o s b state en text document comments none stands m named follows f = record {
  fitted = put_blanks (before_name o s b) (name_blank o s b) (put_key en.name [] named refl follows f);
  follows = ap (λ t. may_follow (tight state) (before_name o s b ++ t)) (append_assoc en.name ([] ++ []) text)
      ∙ entry_follows o s state b en.name (([] ++ []) ++ text) (stands_same state en (record { name = en.name; blanks = []; assigned = None }) stands) m named;
}

-- the raw text of a value that is set stays
value_document : (o : Options) (e : List ℕ) (en : Entry) (a : Assigned) (document : Document)
    → with_part (ItemPart (EntryItem (record { name = en.name; blanks = gap o; assigned = Some (record { blanks = gap o; value = set_value e a.value }) }))) document
    ≡ with_part (ItemPart (EntryItem (record { name = en.name; blanks = en.blanks; assigned = Some a }))) document
value_document o e en a document = ap (λ (raw : List ℕ). record { front = (record { name = en.name; raw = Some raw }) ∷ document.front; sections = document.sections }) (raw_same e a.value)

-- an entry with a value after its indent
set_valued : (o : Options) (e : List ℕ) (s : Bool) (b : Before) (state : Open) (en : Entry) (a : Assigned) (text : List ℕ) (document : Document) (comments : List (List ℕ)) → may_stand_behind state (EntryItem en) ≡ true → meets state b ≡ true
    → is_value_name en.name ≡ true → Fitted ((en.name ++ (gap o ++ 61 ∷ (gap o ++ spelled_value (set_value e a.value)))) ++ text)
    (with_part (ItemPart (EntryItem (record { name = en.name; blanks = gap o; assigned = Some (record { blanks = gap o; value = set_value e a.value }) }))) document) comments
    → Laid state (before_name o s b ++ ((en.name ++ (gap o ++ 61 ∷ (gap o ++ spelled_value (set_value e a.value)))) ++ text)) (with_part (ItemPart (EntryItem (record { name = en.name; blanks = en.blanks; assigned = Some a }))) document) comments
set_valued o e s b state en a text document comments stands m named f = record {
  fitted = put_blanks (before_name o s b) (name_blank o s b) (redocumented (value_document o e en a document) f);
  follows = ap (λ t. may_follow (tight state) (before_name o s b ++ t)) (append_assoc en.name _ text)
      ∙ entry_follows o s state b en.name _ (stands_same state en (record { name = en.name; blanks = []; assigned = None }) stands) m named;
}

pub behind_is : (pieces : List Piece) → meets OpenValue (before_behind_value pieces) ≡ true
behind_is [] = refl
behind_is (p ∷ pieces) = refl

-- What follows parts, for all places that meet what is left open.
abbrev pub LaidBehind : Options → (e : List ℕ) → List Part → Type 0
LaidBehind o e parts = (state : Open) (s : Bool) (b : Before) (r : Option ℕ) → meets state b ≡ true → AreFit parts [] → Follows state (spelled parts)
    → Laid state (set_from o e s b r parts) (gathered parts) (comments_of parts)

-- the text of an entry and what follows it
pub entry_text : (o : Options) (e : List ℕ) (s : Bool) (b : Before) (r : Option ℕ) (en : Entry) (parts : List Part) → AssignedEnds en.assigned
    → set_from o e s b r (ItemPart (EntryItem en) ∷ parts)
    ≡ before_name o s b ++ (spelled_item (EntryItem (set_entry o e en)) ++ set_tokens o e (behind_assigned o s r en.assigned) (map shown_token (tokens_of parts)))
entry_text o e s b r en parts ends_so =
    ap (set_tokens o e (at_place s b r)) (map-append shown_token (item_tokens (EntryItem en)) (tokens_of parts))
    ∙ pass_entry o e s b r en (map shown_token (tokens_of parts)) ends_so

relaid : (state : Open) (text other : List ℕ) (document : Document) (comments : List (List ℕ)) → text ≡ other → Laid state text document comments → Laid state other document comments
relaid state text other document comments same l = subst (λ t. Laid state t document comments) same l

-- the entry that ends a text with an open piece
last_entry : (o : Options) (e : List ℕ) (en : Entry) (a : Assigned) (s : Bool) (b : Before) (r : Option ℕ) (parts : List Part) → parts ≡ [] → is_value_name en.name ≡ true → FitsValue (set_value e a.value) []
    → Fitted ((en.name ++ (gap o ++ 61 ∷ (gap o ++ spelled_value (set_value e a.value)))) ++ set_from o e s b r parts)
    (with_part (ItemPart (EntryItem (record { name = en.name; blanks = gap o; assigned = Some (record { blanks = gap o; value = set_value e a.value }) }))) (gathered parts)) (comments_of parts)
unfolding set_tokens
last_entry o e en a s b r parts none named fits =
    subst (λ parts. Fitted ((en.name ++ (gap o ++ 61 ∷ (gap o ++ spelled_value (set_value e a.value)))) ++ set_from o e s b r parts)
    (with_part (ItemPart (EntryItem (record { name = en.name; blanks = gap o; assigned = Some (record { blanks = gap o; value = set_value e a.value }) }))) (gathered parts)) (comments_of parts))
    (sym none)
    (put (ItemPart (EntryItem (record { name = en.name; blanks = gap o; assigned = Some (record { blanks = gap o; value = set_value e a.value }) }))) (named, gap_blank o, (gap_blank o, fits))
    (record { parts = []; same = refl; fits = tt; document_is = refl; comments_are = refl }))

laid_entry : (o : Options) (e : List ℕ) → is_line_end e ≡ true → (name blanks : List ℕ) (assigned : Option Assigned) (parts : List Part) → LaidBehind o e parts
    → LaidBehind o e (ItemPart (EntryItem (record { name = name; blanks = blanks; assigned = assigned })) ∷ parts)
laid_entry o e line name blanks None parts later state s b r m fits follows =
    let en : Entry = record { name = name; blanks = blanks; assigned = None } in
    let first = first_fits (ItemPart (EntryItem en)) parts fits in
    let n = behind_item state (EntryItem en) (spelled parts) first follows in
    let key = tight_key state en n.0 blanks in
    let next = later (after_entry state blanks None) s Value r key.1 fits.1 n.1 in
    let behind = subst (λ q. may_follow q (set_from o e s Value r parts) ≡ true) key.0 next.follows in
    relaid state _ _ _ _ (sym (entry_text o e s b r en parts tt))
    (set_key o s b state en (set_from o e s Value r parts) (gathered parts) (comments_of parts) refl n.0 m first.0 behind next.fitted)
laid_entry o e line name blanks (Some a) parts later state s b r m fits follows =
    relaid state _ _ _ _ (sym (entry_text o e s b r en parts (piece_ends a.value.pieces a.value.last (spelled parts) value.end)))
    (set_valued o e s b state en a text (gathered parts) (comments_of parts) n.0 m first.0 (go (ways e line a.value.pieces a.value.last (spelled parts) value.end)))
  where
    en : Entry
    en = record { name = name; blanks = blanks; assigned = Some a }

    first : FitsItem (EntryItem en) (spelled parts)
    first = first_fits (ItemPart (EntryItem en)) parts fits

    value : FitsValue a.value (spelled parts)
    value = first.2.1

    n : (may_stand_behind state (EntryItem en) ≡ true) × Follows (after state (EntryItem en)) (spelled parts)
    n = behind_item state (EntryItem en) (spelled parts) first follows

    text : List ℕ
    text = set_from o e s (before_behind_value a.value.pieces) (room_behind o a.value.pieces r) parts

    next : Laid OpenValue text (gathered parts) (comments_of parts)
    next = later OpenValue s (before_behind_value a.value.pieces) (room_behind o a.value.pieces r) (behind_is a.value.pieces) fits.1
        (subst (λ q. Follows q (spelled parts)) (after_value state en n.0 blanks a) n.1)

    go : Ways e a.value.pieces a.value.last (spelled parts)
        → Fitted ((en.name ++ (gap o ++ 61 ∷ (gap o ++ spelled_value (set_value e a.value)))) ++ text)
        (with_part (ItemPart (EntryItem (record { name = en.name; blanks = gap o; assigned = Some (record { blanks = gap o; value = set_value e a.value }) }))) (gathered parts)) (comments_of parts)
    go (inl closed) = put_value name (gap o) (record { blanks = gap o; value = set_value e a.value }) first.0 (gap_blank o) (set_closed o e a.value (spelled parts) value closed.0 closed.1) next.follows next.fitted
    go (inr bare) = last_entry o e en a s (before_behind_value a.value.pieces) (room_behind o a.value.pieces r) parts (no_parts parts fits.1 bare.0) first.0 (set_bare e a.value (spelled parts) value bare.1)

-- What one pass writes is a text with the document and the comments of the parts.
pub laid : (o : Options) (e : List ℕ) → is_line_end e ≡ true → (parts : List Part) → LaidBehind o e parts
unfolding set_tokens ends_text ends_place
laid o e line [] state s b r m fits follows = record {
  fitted = record { parts = []; same = refl; fits = tt; document_is = refl; comments_are = refl };
  follows = end_follows (tight state);
}
laid o e line (ItemPart (BlanksItem run) ∷ parts) state s b r m fits follows =
    let n = behind_item state (BlanksItem run) (spelled parts) (first_fits (ItemPart (BlanksItem run)) parts fits) follows in
    maybe_blanks (keeps_blanks o s b (map shown_token (tokens_of parts))) state run (set_from o e s b r parts) (gathered parts) (comments_of parts) fits.0.1
    (laid o e line parts (after_blanks run state) s b r (meets_blanks run state b m) fits.1 n.1)
laid o e line (ItemPart (LineEndsItem run) ∷ parts) state s b r m fits follows =
    let q = ends_place o (at_place s b r) run in
    let next = laid o e line parts Closed q.in_section q.before q.room refl fits.1 tt in
    maybe_line_ends state (ends_text o e (at_place s b r) run) (set_from o e q.in_section q.before q.room parts) (gathered parts) (comments_of parts) (ends_run o e line (at_place s b r) run)
    (none_closed (is_nothing b) refl) next.fitted
  where
    none_closed : (t : Bool) → is_nothing b ≡ t → ends_text o e (at_place s b r) run ≡ [] → state ≡ Closed
    none_closed true h none = nothing_closed state b m h
    none_closed false h none = absurd (ends_line o e line (at_place s b r) h run fits.0.0 fits.0.1 none)
laid o e line (ItemPart (CommentItem tag text) ∷ parts) state s b r m fits follows =
    let first = first_fits (ItemPart (CommentItem tag text)) parts fits in
    let n = behind_item state (CommentItem tag text) (spelled parts) first follows in
    let rest = map shown_token (tokens_of parts) in
    let later = laid o e line parts OpenComment s Other r refl fits.1 n.1 in
    let set = set_comment state (before_comment o s b) tag (comment_text text rest) (set_from o e s Other r parts) (gathered parts) (comments_of parts) (comment_blank o s b) fits.0.0
    (comment_in_line text rest fits.0.1) (not_comment state tag text (spelled parts) first follows) later in
    record { fitted = recommented (ap (λ t. (tag ∷ t) ∷ comments_of parts) (stripped_comment text rest)) set.fitted; follows = set.follows }
laid o e line (ItemPart (EntryItem en) ∷ parts) state s b r m fits follows = laid_entry o e line en.name en.blanks en.assigned parts (laid o e line parts) state s b r m fits follows
laid o e line (HeaderPart h ∷ parts) state s b r m fits follows =
    put_header state h (written (shown_token (HeaderToken h))) (spelled parts) (set_from o e true Other r parts) (gathered parts) (comments_of parts) (set_header h fits.0) follows
    (laid o e line parts Closed true Other r refl fits.1 tt)
