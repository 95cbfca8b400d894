-- What one pass writes, with one line ending in place of those at its end, is read as parts that one pass from the same place
-- writes as they are, if no comment's text ends with a CR.
use Rattle.std.proofs.Common.{◌≡◌, ◌<◌, ℕ, Bool, true, false, not, List, [], ◌∷◌, ◌++◌, length, map, Option, Some, None, inl, inr, refl, ap, sym, subst, ◌∙◌, append_assoc, append-nil}
use Rattle.std.specs.Prelude.{◌⊎◌, ◌==◌, flat_map, if◌then◌else◌}
use Rattle.std.specs.List.{list_all}
use Rattle.gitconf_text.specs.Bytes.{is_blank}
use Rattle.gitconf_text.specs.Text.{begins, ends, begins_line_end, is_line_end}
use Rattle.gitconf_text.specs.Unit.{units_of}
use Rattle.gitconf_text.specs.Value.{Piece, Value as ValueOf, spelled_value, may_follow_value, FitsValue}
use Rattle.gitconf_text.specs.Header.{Header}
use Rattle.gitconf_text.specs.Names.{is_value_name}
use Rattle.gitconf_text.specs.Part.{Assigned, Entry, BlanksItem, LineEndsItem, CommentItem, EntryItem, Part, ItemPart, HeaderPart, spelled_item, spelled, FitsItem, AreFit}
use Rattle.gitconf_text.specs.Token.{HeaderToken}
use Rattle.gitconf_items.specs.EventRef.{Shown, written}
use Rattle.gitconf_items.specs.ShownEvents.{shown_token}
use Rattle.gitconf_text.proofs.Tests.{both_true, false_not}
use Rattle.gitconf_state.proofs.Printing.Follows.{may_follow, line_end_follows}
use Rattle.gitconf_state.proofs.Loading.Names.{is_line_closed, Follows, first_fits, behind_item}
use Rattle.gitconf_layout.specs.declared.format.Options.{Options}
use Rattle.gitconf_layout.specs.declared.place.Before.{Before}
use Rattle.gitconf_layout.specs.declared.place.Before.TheVariants.{Value, Other}
use Rattle.gitconf_layout.specs.declared.place.Place.{Place}
use Rattle.gitconf_layout.specs.Kept.{has_no_cr}
use Rattle.gitconf_layout.specs.Layout.{is_nothing, begins_comment, keeps_blanks, before_name, before_comment, trimmed}
use Rattle.gitconf_layout.specs.Setting.{is_dropped, end_text, ends_text, ends_place, set_tokens}
use Rattle.gitconf_layout.proofs.SetHeaders.{SameHeader, set_header}
use Rattle.gitconf_layout.proofs.SetEntries.{at_place, gap, set_piece, set_value, room_behind, before_behind_value, one_line_end}
use Rattle.gitconf_layout.proofs.SetValues.{gap_blank, end_set, ways, piece_ends, set_closed, set_bare}
use Rattle.gitconf_layout.proofs.SetRuns.{ends_run}
use Rattle.gitconf_layout.proofs.Laid.{set_from, meets, meets_blanks, tight_key, after_value, behind_is, no_parts, entry_text, laid}
use Rattle.gitconf_layout.proofs.Closing.{end_begins, begins_trimmed, trimmed_follows, trimmed_some, trimmed_none, trimmed_same}
use Rattle.gitconf_layout.proofs.Ending.{Filled, flat, reclosed, front_filled, pieces_close, reclosed_value, all_apart, header_stays, line_ends_go, no_feed, last_stays}
use Rattle.gitconf_layout.proofs.Ended.{closed_or_bare, key_stays, name_filled, header_filled, mark_stays, paired_rest, regroup_last, regroup_empty, regroup_pieces}
use Rattle.gitconf_layout.proofs.RunsAgain.{text_once, no_ends, dropped_run}
use Rattle.gitconf_layout.proofs.Fronts.{shown_parts, cut_blanks, keeps_none}
use Rattle.gitconf_layout.proofs.AgainEntries.{Stays, moved, end_again, stays_key, valued, set_piece_ends, stays_value, stays_empty, closed_fits}
use Rattle.gitconf_layout.proofs.Again.{Again, uncommented, stays_blanks, stays_ends, words_same, closed_ends, set_closed_line, again_comment, reworded, stays_header, stays_closed, stays_none}
use Rattle.gitconf_state.specs.Writing.{Open, Closed, OpenKey, OpenValue, OpenComment, after_blanks, after_entry}

-- nothing stays of the text but its end
abbrev pub Bare : (s : Bool) (b : Before) (r : Option ℕ) (set : List Shown) (text : List ℕ) → Type 0
Bare s b r set text = (trimmed text ≡ []) × (begins_comment set ≡ false) × (is_dropped (at_place s b r) ≡ true → text ≡ [])

-- something stays, and is written again
abbrev pub Full : (o : Options) (e : List ℕ) (s : Bool) (b : Before) (r : Option ℕ) (set : List Shown) (text : List ℕ) → Type 0
Full o e s b r set text = Filled (trimmed text) × Again o e s b r set (trimmed text ++ e)

abbrev pub Shut : (o : Options) (e : List ℕ) (s : Bool) (b : Before) (r : Option ℕ) (set : List Shown) (text : List ℕ) → Type 0
Shut o e s b r set text = Bare s b r set text ⊎ Full o e s b r set text

-- a line ending that stays
pub stays_end : (o : Options) (e : List ℕ) → is_line_end e ≡ true → (s : Bool) (b : Before) (r : Option ℕ) → is_dropped (at_place s b r) ≡ false → Stays o e s b r e
unfolding set_tokens
stays_end o e line s b r kept =
    let f : Stays o e s b r (ends_text o e (at_place s b r) e ++ [])
    = let q = ends_place o (at_place s b r) e in stays_ends o e line s b r e [] (stays_none o e q.in_section q.before q.room [] refl) in
    moved o e s b r (ends_text o e (at_place s b r) e ++ []) e (append-nil (ends_text o e (at_place s b r) e) ∙ text_once o e (at_place s b r) e line ∙ rw (kept, end_text) refl) f

content_stays : (s : Bool) (b : Before) (r : Option ℕ) → is_nothing b ≡ false → is_dropped (at_place s b r) ≡ false
content_stays s b r h = rw h refl

-- a text before one of which something stays
full_front : (o : Options) (e : List ℕ) (s : Bool) (b : Before) (r : Option ℕ) (set : List Shown) (x text : List ℕ) → Filled (trimmed text) → Again o e s b r set (x ++ (trimmed text ++ e)) → Full o e s b r set (x ++ text)
full_front o e s b r set x text f a =
    let same = trimmed_some x text f.0 f.1 f.2 in
    (subst Filled (sym same) (front_filled x (trimmed text) f), reworded o e s b r set (x ++ (trimmed text ++ e)) (trimmed (x ++ text) ++ e) (sym (append_assoc x (trimmed text) e) ∙ ap (λ t. t ++ e) (sym same)) a)

-- a text before one of which nothing stays
full_last : (o : Options) (e : List ℕ) (s : Bool) (b : Before) (r : Option ℕ) (set : List Shown) (x text : List ℕ) → trimmed text ≡ [] → trimmed x ≡ x → Filled x → Again o e s b r set (x ++ e) → Full o e s b r set (x ++ text)
full_last o e s b r set x text none stays f a =
    let same = trimmed_none x text none ∙ stays in
    (subst Filled (sym same) f, reworded o e s b r set (x ++ e) (trimmed (x ++ text) ++ e) (ap (λ t. t ++ e) (sym same)) a)

-- the same in two pieces
full_front_two : (o : Options) (e : List ℕ) (s : Bool) (b : Before) (r : Option ℕ) (set : List Shown) (x y text : List ℕ) → Filled (trimmed text) → Again o e s b r set (x ++ (y ++ (trimmed text ++ e))) → Full o e s b r set (x ++ (y ++ text))
full_front_two o e s b r set x y text f a =
    subst (Full o e s b r set) (append_assoc x y text) (full_front o e s b r set (x ++ y) text f (reworded o e s b r set _ _ (sym (append_assoc x y (trimmed text ++ e))) a))

front_stays : (x y : List ℕ) → trimmed y ≡ y → Filled y → trimmed (x ++ y) ≡ x ++ y
front_stays x y stays f = trimmed_some x y f.0 f.1 (stays ∙ f.2) ∙ ap (λ t. x ++ t) stays

full_last_two : (o : Options) (e : List ℕ) (s : Bool) (b : Before) (r : Option ℕ) (set : List Shown) (x y text : List ℕ) → trimmed text ≡ [] → trimmed y ≡ y → Filled y → Again o e s b r set (x ++ (y ++ e)) → Full o e s b r set (x ++ (y ++ text))
full_last_two o e s b r set x y text none stays f a =
    subst (Full o e s b r set) (append_assoc x y text)
    (full_last o e s b r set (x ++ y) text none (front_stays x y stays f) (front_filled x y f) (reworded o e s b r set _ _ (sym (append_assoc x y e)) a))

-- a text without CR at its end and without LF stays
words_stay : (text : List ℕ) → ends (λ b. b == 13) text ≡ false → list_all (λ b. not (b == 10)) text ≡ true → trimmed text ≡ text
words_stay [] cr lines = refl
words_stay (b ∷ []) cr lines =
    let r : (b == 13) ≡ false = cr in
    let f : (b == 10) ≡ false = false_not (b == 10) ((both_true (not (b == 10)) true lines).0) in
    rw (trimmed, r, f) refl
words_stay (b ∷ c ∷ text) cr lines = rw (trimmed, words_stay (c ∷ text) cr (both_true (not (b == 10)) (list_all (λ b. not (b == 10)) (c ∷ text)) lines).1) refl

-- what begins with a line ending does so when its end is replaced
closed_trimmed : (e : List ℕ) → is_line_end e ≡ true → (text : List ℕ) → is_line_closed text ≡ true → is_line_closed (trimmed text ++ e) ≡ true
closed_trimmed e line [] h = one_line_end (λ e. is_line_closed e ≡ true) refl refl e line
closed_trimmed e line (b ∷ text) h = line_closed (trimmed (b ∷ text) ++ e) (begins_trimmed e line (b ∷ text) h)
  where
    line_closed : (t : List ℕ) → begins_line_end t ≡ true → is_line_closed t ≡ true
    line_closed [] k = refl
    line_closed (c ∷ t) k = k

no_filled : Filled [] → ⊥
no_filled f = absurd (let x = f.2 in cc)

-- What is set after parts, for all places that meet what is left open.
abbrev pub ShutBehind : Options → (e : List ℕ) → List Part → Type 0
ShutBehind o e parts = (state : Open) (s : Bool) (b : Before) (r : Option ℕ) → meets state b ≡ true → AreFit parts [] → Follows state (spelled parts) → has_no_cr parts ≡ true
    → Shut o e s b r (shown_parts parts) (set_from o e s b r parts)

shut_blanks : (o : Options) (e : List ℕ) (s : Bool) (b : Before) (r : Option ℕ) (run : List ℕ) (set : List Shown) (other : List Shown) (text : List ℕ) → begins_comment set ≡ false → 0 < length run → list_all is_blank run ≡ true → Shut o e s b r other text
    → (k : Bool) → keeps_blanks o s b other ≡ k → Shut o e s b r set ((if k then run else []) ++ text)
shut_blanks o e s b r run set other text plain some all later false k = elim later [
  | inl bare ↦ inl (bare.0, plain, bare.2)
  | inr full ↦ inr (full.0, uncommented o e s b r set (trimmed text ++ e) plain full.1.stays)
]
shut_blanks o e s b r run set other text plain some all later true k = elim later [
  | inl bare ↦ absurd (let x : true ≡ false = sym k ∙ keeps_none o s b other bare.1 in cc)
  | inr full ↦ inr (full_front o e s b r set run text full.0 (uncommented o e s b r set (run ++ (trimmed text ++ e)) plain (stays_blanks o e s b r run other (trimmed text ++ e) some all full.1 true k)))
]

shut_ends : (o : Options) (e : List ℕ) → is_line_end e ≡ true → (s : Bool) (b : Before) (r : Option ℕ) (run : List ℕ) (set other : List Shown) (text : List ℕ) → begins_comment set ≡ false
    → (let q = ends_place o (at_place s b r) run in Shut o e q.in_section q.before q.room other text) → Shut o e s b r set (ends_text o e (at_place s b r) run ++ text)
shut_ends o e line s b r run set other text plain later = elim later [
  | inl bare ↦ inl (
    trimmed_none x text bare.0 ∙ gone,
    plain,
    λ d.
        let none = dropped_run o e s b r d run in
        let same = no_ends o e line p run none in
        ap (λ t. t ++ text) none ∙ bare.2 (ap is_dropped same ∙ d),
  )
  | inr full ↦ inr (full_front o e s b r set x text full.0 (uncommented o e s b r set (x ++ (trimmed text ++ e)) plain (stays_ends o e line s b r run (trimmed text ++ e) full.1.stays)))
]
  where
    p : Place
    p = at_place s b r

    x : List ℕ
    x = ends_text o e p run

    -- from the front, since nothing stays after
    gone : trimmed x ≡ []
    gone = elim (ends_run o e line p run) [ inl none ↦ ap trimmed none | inr some ↦ line_ends_go x some.1 ]

shut_comment : (o : Options) (e : List ℕ) → is_line_end e ≡ true → (s : Bool) (b : Before) (r : Option ℕ) (tag : ℕ) (words : List ℕ) (set other : List Shown) (text : List ℕ) → FitsItem (CommentItem tag words) text → ends (λ b. b == 13) words ≡ false → is_line_closed text ≡ true
    → Shut o e s Other r other text → Shut o e s b r set ((before_comment o s b ++ (tag ∷ words)) ++ text)
shut_comment o e line s b r tag words set other text fits cr closed later = elim later [
  | inl bare ↦ inr (full_last o e s b r set (front ++ (tag ∷ words)) text bare.0 (front_stays front (tag ∷ words) stays (tag, words, refl)) (front_filled front (tag ∷ words) (tag, words, refl))
      (again_comment o e s b r tag words set e fits.0 fits.1 cr (closed_ends words cr e (one_line_end (λ e. is_line_closed e ≡ true) refl refl e line)) (stays_end o e line s Other r refl)))
  | inr full ↦ inr (full_front o e s b r set (front ++ (tag ∷ words)) text full.0
      (again_comment o e s b r tag words set (trimmed text ++ e) fits.0 fits.1 cr (closed_ends words cr (trimmed text ++ e) (closed_trimmed e line text closed)) full.1.stays))
]
  where
    front : List ℕ
    front = before_comment o s b

    stays : trimmed (tag ∷ words) ≡ tag ∷ words
    stays = mark_stays tag words fits.0 ∙ ap (λ t. tag ∷ t) (words_stay words cr fits.1)

shut_header : (o : Options) (e : List ℕ) → is_line_end e ≡ true → (s : Bool) (b : Before) (r : Option ℕ) (h : Header) (set other : List Shown) (text : List ℕ) → begins_comment set ≡ false → (fits : AreFit (HeaderPart h ∷ []) []) → Shut o e true Other r other text
    → Shut o e s b r set (written (shown_token (HeaderToken h)) ++ text)
shut_header o e line s b r h set other text plain fits later = elim later [
  | inl bare ↦ inr (full_last o e s b r set x text bare.0 (subst (λ t. trimmed t ≡ t) is.same (header_stays is.header)) (subst Filled is.same (header_filled is.header))
      (uncommented o e s b r set (x ++ e) plain (stays_header o e s b r h e fits (stays_end o e line true Other r refl))))
  | inr full ↦ inr (full_front o e s b r set x text full.0 (uncommented o e s b r set (x ++ (trimmed text ++ e)) plain (stays_header o e s b r h (trimmed text ++ e) fits full.1.stays)))
]
  where
    is : SameHeader h (written (shown_token (HeaderToken h)))
    is = set_header h fits.0

    x : List ℕ
    x = written (shown_token (HeaderToken h))

shut_key : (o : Options) (e : List ℕ) → is_line_end e ≡ true → (s : Bool) (b : Before) (r : Option ℕ) (name : List ℕ) (set other : List Shown) (text : List ℕ) → begins_comment set ≡ false → is_value_name name ≡ true → may_follow OpenKey text ≡ true
    → Shut o e s Value r other text → Shut o e s b r set (before_name o s b ++ ((name ++ ([] ++ [])) ++ text))
shut_key o e line s b r name set other text plain named follows later = elim later [
  | inl bare ↦
      let f = stays_end o e line s Value r refl in
      inr (full_last_two o e s b r set (before_name o s b) (name ++ ([] ++ [])) text bare.0 (key_stays name [] named refl) (name_filled name ([] ++ []) named)
      (uncommented o e s b r set _ plain (stays_key o e s b r name e named (line_end_follows OpenKey e (end_begins e line)) f (cut_blanks o e s r f.parts f.fits))))
  | inr full ↦
      let f = full.1.stays in
      inr (full_front_two o e s b r set (before_name o s b) (name ++ ([] ++ [])) text full.0
      (uncommented o e s b r set _ plain (stays_key o e s b r name (trimmed text ++ e) named (trimmed_follows e line OpenKey text follows) f (cut_blanks o e s r f.parts f.fits))))
]

sets_closed : (e : List ℕ) → is_line_end e ≡ true → (pieces : List Piece) → list_all (λ (p : Piece). is_line_end p.line_end) pieces ≡ true → list_all (λ (p : Piece). is_line_end p.line_end) (map (set_piece e) pieces) ≡ true
sets_closed e line [] all = refl
sets_closed e line (p ∷ pieces) all =
    let q = both_true (is_line_end p.line_end) (list_all (λ (p : Piece). is_line_end p.line_end) pieces) all in
    rw (end_set e p.line_end line q.0) (sets_closed e line pieces q.1)

before_content : (pieces : List Piece) → is_nothing (before_behind_value pieces) ≡ false
before_content [] = refl
before_content (p ∷ pieces) = refl

piece_again : (e : List ℕ) → is_line_end e ≡ true → (p : Piece) → set_piece e (set_piece e p) ≡ set_piece e p
piece_again e line p = λ j. record { text = p.text; line_end = end_again e p.line_end line j }

-- the pieces of a value with the last one's line ending replaced, set again
reclosed_again : (e : List ℕ) → is_line_end e ≡ true → (p : Piece) (pieces : List Piece)
    → map (set_piece e) (reclosed e (set_piece e p) (map (set_piece e) pieces)) ≡ reclosed e (set_piece e p) (map (set_piece e) pieces)
reclosed_again e line p [] = λ j. record { text = p.text; line_end = end_again e (10 ∷ []) line j } ∷ []
reclosed_again e line p (q ∷ more) = λ j. piece_again e line p j ∷ reclosed_again e line q more j

-- an entry at the end whose last piece is empty and follows others
last_pieces : (o : Options) (e : List ℕ) → is_line_end e ≡ true → (s : Bool) (b : Before) (r : Option ℕ) (name : List ℕ) (p : Piece) (pieces : List Piece) (rest : List ℕ) (set : List Shown) (text : List ℕ) → begins_comment set ≡ false → is_value_name name ≡ true
    → FitsValue (record { pieces = p ∷ pieces; last = [] }) rest → trimmed text ≡ []
    → Full o e s b r set (before_name o s b ++ (spelled_item (EntryItem (valued o e name (gap o) (record { pieces = p ∷ pieces; last = [] }))) ++ text))
unfolding set_tokens
last_pieces o e line s b r name p pieces rest set text plain named fits none = (
  subst Filled (sym whole) (front_filled (before_name o s b) (trimmed mid) filled),
  reworded o e s b r set (before_name o s b ++ (spelled_item (EntryItem (valued o e name (gap o) w)) ++ [])) _ (ap (λ t. before_name o s b ++ t) written_again ∙ sym (append_assoc (before_name o s b) (trimmed mid) e) ∙ ap (λ t. t ++ e) (sym whole))
      (uncommented o e s b r set _ plain (stays_value o e line s b r name w [] named (record { parts = []; same = refl; fits = tt; again = refl; holds = tt }) fits_again)),
)
  where
    v : ValueOf
    v = record { pieces = p ∷ pieces; last = [] }

    mid : List ℕ
    mid = spelled_item (EntryItem (valued o e name (gap o) v))

    front : List ℕ
    front = name ++ (gap o ++ 61 ∷ gap o)

    set_pieces : List Piece
    set_pieces = map (set_piece e) pieces

    w : ValueOf
    w = record { pieces = reclosed e (set_piece e p) set_pieces; last = [] }

    close : (trimmed (flat (set_piece e p ∷ set_pieces)) ++ e ≡ flat (reclosed e (set_piece e p) set_pieces)) × Filled (trimmed (flat (set_piece e p ∷ set_pieces)))
    close = pieces_close e (set_piece e p) set_pieces (set_piece_ends e line (p ∷ pieces))

    trimmed_mid : trimmed mid ≡ front ++ trimmed (flat (set_piece e p ∷ set_pieces))
    trimmed_mid = ap trimmed (regroup_pieces name (gap o) (gap o) (flat (set_piece e p ∷ set_pieces))) ∙ trimmed_some front (flat (set_piece e p ∷ set_pieces)) close.1.0 close.1.1 close.1.2

    filled : Filled (trimmed mid)
    filled = subst Filled (sym trimmed_mid) (front_filled front _ close.1)

    whole : trimmed (before_name o s b ++ (mid ++ text)) ≡ before_name o s b ++ trimmed mid
    whole = ap trimmed (sym (append_assoc (before_name o s b) mid text)) ∙ trimmed_none (before_name o s b ++ mid) text none ∙ trimmed_some (before_name o s b) mid filled.0 filled.1 filled.2

    same : set_value e w ≡ w
    same = λ j. record { pieces = reclosed_again e line p pieces j; last = [] }

    written_again : spelled_item (EntryItem (valued o e name (gap o) w)) ++ [] ≡ trimmed mid ++ e
    written_again =
        append-nil _ ∙ ap (λ (u : ValueOf). name ++ (gap o ++ 61 ∷ (gap o ++ spelled_value u))) same ∙ regroup_pieces name (gap o) (gap o) (flat (reclosed e (set_piece e p) set_pieces))
        ∙ ap (λ t. front ++ t) (sym close.0) ∙ sym (append_assoc front _ e) ∙ ap (λ t. t ++ e) (sym trimmed_mid)

    opened : FitsValue (set_value e v) []
    opened = elim (ways e line (p ∷ pieces) [] rest fits.end) [
      | inl closed ↦
          let is = set_closed o e v rest fits closed.0 closed.1 in
          closed_fits (record { blanks = gap o; value = set_value e v }) [] is (ap (begins is_blank) (append-nil (spelled_value (set_value e v))) ∙ is.front) refl
      | inr bare ↦ set_bare e v rest fits bare.1
    ]

    fits_again : FitsValue (set_value e w) []
    fits_again =
        let is = reclosed_value e line (gap o) (set_piece e p) set_pieces [] (gap_blank o) opened in
        subst (λ (u : ValueOf). FitsValue u []) (sym same) (closed_fits (record { blanks = gap o; value = w }) [] is (ap (begins is_blank) (append-nil (spelled_value w)) ∙ is.front) refl)

-- an entry with a value at the end
last_value : (o : Options) (e : List ℕ) → is_line_end e ≡ true → (s : Bool) (b : Before) (r : Option ℕ) (name : List ℕ) (pieces : List Piece) (last rest : List ℕ) (set : List Shown) (text : List ℕ) → begins_comment set ≡ false → is_value_name name ≡ true
    → FitsValue (record { pieces = pieces; last = last }) rest → trimmed text ≡ []
    → Full o e s b r set (before_name o s b ++ (spelled_item (EntryItem (valued o e name (gap o) (record { pieces = pieces; last = last }))) ++ text))
last_value o e line s b r name [] [] rest set text plain named fits none =
    let group = regroup_empty name (gap o) (gap o) in
    let stays : trimmed (61 ∷ gap o) ≡ 61 ∷ gap o = trimmed_same (61 ∷ gap o) (all_apart is_blank refl refl (gap o) (gap_blank o)) in
    let f = stays_end o e line s Value r refl in
    full_last_two o e s b r set (before_name o s b) _ text none (ap trimmed group ∙ front_stays (name ++ gap o) (61 ∷ gap o) stays (61, gap o, refl) ∙ sym group) (name_filled name _ named)
    (uncommented o e s b r set _ plain (stays_empty o e line s b r name e named (line_end_follows OpenValue e (end_begins e line)) f (cut_blanks o e s r f.parts f.fits)))
last_value o e line s b r name (p ∷ pieces) [] rest set text plain named fits none = last_pieces o e line s b r name p pieces rest set text plain named fits none
last_value o e line s b r name pieces (c ∷ last) rest set text plain named fits none = elim (closed_or_bare pieces (c ∷ last) rest fits.end) [
  | inr bare ↦ absurd (let x : c ∷ last ≡ [] = bare.1 in cc)
  | inl closed ↦
      let group = regroup_last name (gap o) (gap o) (flat (map (set_piece e) pieces)) (c ∷ last) in
      let front = name ++ (gap o ++ 61 ∷ (gap o ++ flat (map (set_piece e) pieces))) in
      let paired = paired_rest (flat_map (λ (p : Piece). units_of p.text) pieces) (units_of (c ∷ last)) false fits.units in
      let stays : trimmed (c ∷ last) ≡ c ∷ last = last_stays (c ∷ last) closed.1 (no_feed false paired.0 (c ∷ last) paired.1) in
      full_last_two o e s b r set (before_name o s b) _ text none (ap trimmed group ∙ front_stays front (c ∷ last) stays (c, last, refl) ∙ sym group) (name_filled name _ named)
      (uncommented o e s b r set _ plain (stays_closed o e line s b r name pieces (c ∷ last) rest e named fits (sets_closed e line pieces closed.0) closed.1 (line_end_follows OpenValue e (end_begins e line))
      (stays_end o e line s (before_behind_value pieces) (room_behind o pieces r) (content_stays s (before_behind_value pieces) (room_behind o pieces r) (before_content pieces)))))
]

shut_value : (o : Options) (e : List ℕ) → is_line_end e ≡ true → (s : Bool) (b : Before) (r : Option ℕ) (name : List ℕ) (pieces : List Piece) (last rest : List ℕ) (set other : List Shown) (text : List ℕ) → begins_comment set ≡ false → is_value_name name ≡ true
    → FitsValue (record { pieces = pieces; last = last }) rest → (rest ≡ [] → text ≡ []) → may_follow_value text ≡ true → Shut o e s (before_behind_value pieces) (room_behind o pieces r) other text
    → Shut o e s b r set (before_name o s b ++ (spelled_item (EntryItem (valued o e name (gap o) (record { pieces = pieces; last = last }))) ++ text))
shut_value o e line s b r name pieces last rest set other text plain named fits empty follows later = elim later [
  | inl bare ↦ inr (last_value o e line s b r name pieces last rest set text plain named fits bare.0)
  | inr full ↦ elim (closed_or_bare pieces last rest fits.end) [
    | inl closed ↦ inr (full_front_two o e s b r set (before_name o s b) _ text full.0
        (uncommented o e s b r set _ plain (stays_closed o e line s b r name pieces last rest (trimmed text ++ e) named fits (sets_closed e line pieces closed.0) closed.1 (trimmed_follows e line OpenValue text follows) full.1.stays)))
    | inr bare ↦ absurd (no_filled (subst (λ t. Filled (trimmed t)) (empty bare.0) full.0))
  ]
]

shut_entry : (o : Options) (e : List ℕ) → is_line_end e ≡ true → (name blanks : List ℕ) (assigned : Option Assigned) (parts : List Part) → ShutBehind o e parts
    → ShutBehind o e (ItemPart (EntryItem (record { name = name; blanks = blanks; assigned = assigned })) ∷ parts)
unfolding set_tokens
shut_entry o e line name blanks None parts later state s b r m fits follows none =
    let en : Entry = record { name = name; blanks = blanks; assigned = None } in
    let set = shown_parts (ItemPart (EntryItem en) ∷ parts) in
    let first = first_fits (ItemPart (EntryItem en)) parts fits in
    let n = behind_item state (EntryItem en) (spelled parts) first follows in
    let key = tight_key state en n.0 blanks in
    let text = set_from o e s Value r parts in
    let behind = subst (λ q. may_follow q text ≡ true) key.0 ((laid o e line parts (after_entry state blanks None) s Value r key.1 fits.1 n.1).follows) in
    subst (Shut o e s b r set) (sym (entry_text o e s b r en parts tt))
    (shut_key o e line s b r name set (shown_parts parts) text refl first.0 behind (later (after_entry state blanks None) s Value r key.1 fits.1 n.1 none))
shut_entry o e line name blanks (Some a) parts later state s b r m fits follows none =
    let en : Entry = record { name = name; blanks = blanks; assigned = Some a } in
    let set = shown_parts (ItemPart (EntryItem en) ∷ parts) in
    let first = first_fits (ItemPart (EntryItem en)) parts fits in
    let n = behind_item state (EntryItem en) (spelled parts) first follows in
    let opened : Follows OpenValue (spelled parts) = subst (λ q. Follows q (spelled parts)) (after_value state en n.0 blanks a) n.1 in
    let before = before_behind_value a.value.pieces in
    let room = room_behind o a.value.pieces r in
    let text = set_from o e s before room parts in
    let behind = (laid o e line parts OpenValue s before room (behind_is a.value.pieces) fits.1 opened).follows in
    subst (Shut o e s b r set) (sym (entry_text o e s b r en parts (piece_ends a.value.pieces a.value.last (spelled parts) first.2.1.end)))
    (shut_value o e line s b r name a.value.pieces a.value.last (spelled parts) set (shown_parts parts) text refl first.0 first.2.1 (λ h. ap (set_from o e s before room) (no_parts parts fits.1 h)) behind
    (later OpenValue s before room (behind_is a.value.pieces) fits.1 opened none))

-- What one pass writes, with one line ending in place of those at its end, stays.
pub shut : (o : Options) (e : List ℕ) → is_line_end e ≡ true → (parts : List Part) → ShutBehind o e parts
unfolding set_tokens ends_text ends_place
shut o e line [] state s b r m fits follows none = inl (refl, refl, λ d. refl)
shut o e line (ItemPart (BlanksItem run) ∷ parts) state s b r m fits follows none =
    let n = behind_item state (BlanksItem run) (spelled parts) (first_fits (ItemPart (BlanksItem run)) parts fits) follows in
    shut_blanks o e s b r run (shown_parts (ItemPart (BlanksItem run) ∷ parts)) (shown_parts parts) (set_from o e s b r parts) refl fits.0.0 fits.0.1
    (shut o e line parts (after_blanks run state) s b r (meets_blanks run state b m) fits.1 n.1 none) (keeps_blanks o s b (shown_parts parts)) refl
shut o e line (ItemPart (LineEndsItem run) ∷ parts) state s b r m fits follows none =
    let q = ends_place o (at_place s b r) run in
    shut_ends o e line s b r run (shown_parts (ItemPart (LineEndsItem run) ∷ parts)) (shown_parts parts) (set_from o e q.in_section q.before q.room parts) refl
    (shut o e line parts Closed q.in_section q.before q.room refl fits.1 tt none)
shut o e line (ItemPart (CommentItem tag words) ∷ parts) state s b r m fits follows none =
    let first = first_fits (ItemPart (CommentItem tag words)) parts fits in
    let n = behind_item state (CommentItem tag words) (spelled parts) first follows in
    let q = both_true (not (ends (λ b. b == 13) words)) (has_no_cr parts) none in
    let cr = false_not (ends (λ b. b == 13) words) q.0 in
    let text = set_from o e s Other r parts in
    let set = shown_parts (ItemPart (CommentItem tag words) ∷ parts) in
    let closed = set_closed_line o e line s r parts fits.1 n.1 in
    subst (Shut o e s b r set) (ap (λ w. (before_comment o s b ++ (tag ∷ w)) ++ text) (sym (words_same words (shown_parts parts) cr)))
    (shut_comment o e line s b r tag words set (shown_parts parts) text (fits.0.0, fits.0.1, closed_ends words cr text closed) cr closed (shut o e line parts OpenComment s Other r refl fits.1 n.1 q.1))
shut o e line (ItemPart (EntryItem en) ∷ parts) state s b r m fits follows none = shut_entry o e line en.name en.blanks en.assigned parts (shut o e line parts) state s b r m fits follows none
shut o e line (HeaderPart h ∷ parts) state s b r m fits follows none =
    shut_header o e line s b r h (shown_parts (HeaderPart h ∷ parts)) (shown_parts parts) (set_from o e true Other r parts) refl (fits.0, tt) (shut o e line parts Closed true Other r refl fits.1 tt none)
