-- What one pass writes is read as parts that one pass from the same place writes as they are, if no comment's text ends with a CR.
use Rattle.std.proofs.Common.{◌≡◌, ◌<◌, ℕ, Bool, true, false, not, List, [], ◌∷◌, ◌++◌, length, Option, Some, None, inl, inr, refl, ap, sym, subst, ◌∙◌, append_assoc, append-nil, arith}
use Rattle.std.specs.Prelude.{◌==◌, ◌&&◌, is_none, if◌then◌else◌}
use Rattle.std.specs.List.{list_all}
use Rattle.std.proofs.lemmas.List.{length-append}
use Rattle.gitconf_text.specs.Bytes.{is_blank}
use Rattle.gitconf_text.specs.Text.{begins, ends, are_line_ends, is_line_end}
use Rattle.gitconf_text.specs.Unit.{is_mark, is_white}
use Rattle.gitconf_text.specs.Value.{Piece, Value as ValueOf, spelled_value, may_follow_value, FitsValue}
use Rattle.gitconf_text.specs.Header.{Header, PlainHeader, DottedHeader, QuotedHeader}
use Rattle.gitconf_text.specs.Names.{is_value_name}
use Rattle.gitconf_text.specs.Part.{Assigned, Entry, BlanksItem, LineEndsItem, CommentItem, EntryItem, Part, ItemPart, HeaderPart, spelled_item, spelled, ends_comment, FitsItem, AreFit}
use Rattle.gitconf_text.specs.Token.{HeaderToken}
use Rattle.gitconf_items.specs.EventRef.{Shown, written}
use Rattle.gitconf_items.specs.ShownEvents.{shown_token}
use Rattle.gitconf_text.proofs.Tests.{both_true, false_not}
use Rattle.gitconf_text.proofs.ByteLaws.{mark_no_blank}
use Rattle.gitconf_state.proofs.Printing.Follows.{may_follow, line_end_cases}
use Rattle.gitconf_state.proofs.Printing.Fitted.{line_ends-append}
use Rattle.gitconf_state.proofs.Loading.Names.{is_line_closed, Follows, first_fits, only_line_ends, behind_item}
use Rattle.gitconf_layout.specs.declared.format.Options.{Options}
use Rattle.gitconf_layout.specs.declared.place.Before.{Before}
use Rattle.gitconf_layout.specs.declared.place.Before.TheVariants.{Value, Other}
use Rattle.gitconf_layout.specs.declared.place.Place.{Place}
use Rattle.gitconf_layout.specs.Kept.{has_no_cr}
use Rattle.gitconf_layout.specs.Layout.{is_nothing, begins_comment, begins_newline, keeps_blanks, before_name, before_comment, without_cr, comment_text}
use Rattle.gitconf_layout.specs.Setting.{ends_text, ends_place, set_tokens}
use Rattle.gitconf_layout.proofs.SetHeaders.{set_header}
use Rattle.gitconf_layout.proofs.SetEntries.{at_place, gap, set_value, room_behind, before_behind_value, one_line_end}
use Rattle.gitconf_layout.proofs.SetValues.{Ways, ways, piece_ends, set_closed, set_bare}
use Rattle.gitconf_layout.proofs.SetRuns.{ends_run, comment_blank}
use Rattle.gitconf_layout.proofs.Laid.{set_from, meets, meets_blanks, tight_key, after_value, behind_is, no_parts, entry_text, laid}
use Rattle.gitconf_layout.proofs.RunsAgain.{ends_text-append, ends_place-append, ends_again, no_ends, content_ends}
use Rattle.gitconf_layout.proofs.LineEnds.{made_ends, holds_both}
use Rattle.gitconf_layout.proofs.Fronts.{shown_parts, cut_ends, cut_blanks, keeps_none, keeps_or_puts, puts_none, with_front, front_same, front_fits, front_holds, front_goes}
use Rattle.gitconf_layout.proofs.AgainEntries.{Stays, moved, stays_key, valued, stays_value, stays_empty, closed_stays}
use Rattle.gitconf_state.specs.Writing.{may_stand_behind, Open, Closed, OpenValue, OpenComment, after_blanks, after_entry, after}

-- the same, and where blanks are kept before it, it begins with a comment
pub record Again (o : Options) (e : List ℕ) (s : Bool) (b : Before) (r : Option ℕ) (set : List Shown) (text : List ℕ) : Type 0 where
  pub stays : Stays o e s b r text
  pub comment : keeps_blanks o s b set ≡ true → (begins_comment (shown_parts stays.parts) ≡ true) × (begins is_blank text ≡ false)

-- what begins with no comment
pub uncommented : (o : Options) (e : List ℕ) (s : Bool) (b : Before) (r : Option ℕ) (set : List Shown) (text : List ℕ) → begins_comment set ≡ false → Stays o e s b r text → Again o e s b r set text
uncommented o e s b r set text none stays = record { stays = stays; comment = λ k. absurd (let x : true ≡ false = sym k ∙ keeps_none o s b set none in cc) }

keeps_same : (o : Options) (s : Bool) (b : Before) (xs ys : List Shown) → keeps_blanks o s b xs ≡ true → begins_comment ys ≡ true → keeps_blanks o s b ys ≡ true
keeps_same o s b xs ys k h = let q = both_true (is_nothing b && not s && is_none o.root_comment_indent) (begins_comment xs) k in rw (q.0, h) refl

-- blanks that are kept, or none
pub stays_blanks : (o : Options) (e : List ℕ) (s : Bool) (b : Before) (r : Option ℕ) (run : List ℕ) (set : List Shown) (text : List ℕ) → 0 < length run → list_all is_blank run ≡ true → Again o e s b r set text
    → (k : Bool) → keeps_blanks o s b set ≡ k → Stays o e s b r ((if k then run else []) ++ text)
unfolding set_tokens ends_text ends_place
stays_blanks o e s b r run set text some all later false k = later.stays
stays_blanks o e s b r run set text some all later true k =
    let f = later.stays in
    let c = later.comment k in
    record {
      parts = ItemPart (BlanksItem run) ∷ f.parts;
      same = ap (λ t. run ++ t) f.same;
      fits = ((some, all, subst (λ t. begins is_blank t ≡ false) (sym (append-nil (spelled f.parts) ∙ f.same)) c.1), f.fits);
      again = rw (keeps_same o s b set (shown_parts f.parts) k c.0) (ap (λ t. run ++ t) f.again);
      holds = (tt, f.holds);
    }

-- line endings, or none
pub stays_ends : (o : Options) (e : List ℕ) → is_line_end e ≡ true → (s : Bool) (b : Before) (r : Option ℕ) (run text : List ℕ)
    → (let q = ends_place o (at_place s b r) run in Stays o e q.in_section q.before q.room text)
    → Stays o e s b r (ends_text o e (at_place s b r) run ++ text)
unfolding set_tokens
stays_ends o e line s b r run text later = elim (ends_run o e line p run) [
  | inl none ↦ record {
    parts = later.parts;
    same = later.same ∙ ap (λ t. t ++ text) (sym none);
    fits = later.fits;
    again = ap (λ x. set_tokens o e x (shown_parts later.parts)) (sym (no_ends o e line p run none)) ∙ later.again ∙ ap (λ t. t ++ text) (sym none);
    holds = later.holds;
  }
  | inr some ↦ joined some.0 some.1
]
  where
    p : Place
    p = at_place s b r

    q : Place
    q = ends_place o p run

    x : List ℕ
    x = ends_text o e p run

    joined : 0 < length x → are_line_ends x ≡ true → Stays o e s b r (x ++ text)
    joined some all =
        let c = cut_ends o e q.in_section q.before q.room later.parts later.fits in
        let ag = ends_again o e line p run in
        let rest = shown_parts c.rest in
        let filled : 0 < length (x ++ c.run) = rw length-append (let a = some in omega arith) in
        let h = c.holds later.holds in
        record {
          parts = ItemPart (LineEndsItem (x ++ c.run)) ∷ c.rest;
          same = append_assoc x c.run (spelled c.rest) ∙ ap (λ t. x ++ t) (sym c.whole ∙ later.same);
          fits = ((filled, line_ends-append x c.run all c.passes, c.stops), c.fits);
          again = ap (λ t. t ++ set_tokens o e (ends_place o p (x ++ c.run)) rest) (ends_text-append o e p x c.run)
              ∙ ap (λ y. (ends_text o e p x ++ ends_text o e (ends_place o p x) c.run) ++ set_tokens o e y rest) (ends_place-append o p x c.run)
              ∙ ap (λ y. (ends_text o e p x ++ ends_text o e y c.run) ++ set_tokens o e (ends_place o y c.run) rest) ag.place
              ∙ ap (λ t. (t ++ ends_text o e q c.run) ++ set_tokens o e (ends_place o q c.run) rest) ag.text
              ∙ append_assoc x (ends_text o e q c.run) _
              ∙ ap (λ t. x ++ t) (sym c.again ∙ later.again);
          holds = (holds_both e x c.run filled (made_ends o e p run) h.0, h.1);
        }

-- a text that doesn't end with a CR
no_cr : (text : List ℕ) → ends (λ b. b == 13) text ≡ false → without_cr text ≡ text
no_cr [] h = refl
no_cr (b ∷ []) h = let k : (b == 13) ≡ false = h in rw k refl
no_cr (b ∷ c ∷ text) h = ap (λ t. b ∷ t) (no_cr (c ∷ text) h)

pub words_same : (text : List ℕ) (rest : List Shown) → ends (λ b. b == 13) text ≡ false → comment_text text rest ≡ text
words_same text rest h = go (begins_newline rest) refl
  where
    go : (t : Bool) → begins_newline rest ≡ t → comment_text text rest ≡ text
    go true k = rw (k, comment_text) (no_cr text h)
    go false k = rw (k, comment_text) refl

-- a comment may come before a line ending, and at the end
pub closed_ends : (text : List ℕ) → ends (λ b. b == 13) text ≡ false → (rest : List ℕ) → is_line_closed rest ≡ true → ends_comment text rest ≡ true
closed_ends text h [] closed = refl
closed_ends text h (b ∷ rest) closed = line_end_cases (λ t. ends_comment text t ≡ true) (λ rest. rw h refl) (λ rest. refl) (b ∷ rest) closed

-- what is set after a comment begins with a line ending, or is nothing
pub set_closed_line : (o : Options) (e : List ℕ) → is_line_end e ≡ true → (s : Bool) (r : Option ℕ) → (parts : List Part) → AreFit parts [] → is_line_closed (spelled parts) ≡ true → is_line_closed (set_from o e s Other r parts) ≡ true
unfolding set_tokens
set_closed_line o e line s r [] fits closed = refl
set_closed_line o e line s r (ItemPart (LineEndsItem run) ∷ parts) fits closed =
    let first = content_ends o e (at_place s Other r) refl run fits.0.0 fits.0.1 in
    let more = set_tokens o e (ends_place o (at_place s Other r) run) (shown_parts parts) in
    subst (λ t. is_line_closed (t ++ more) ≡ true) (sym first.1) (one_line_end (λ e. is_line_closed ((e ++ first.0) ++ more) ≡ true) refl refl e line)
set_closed_line o e line s r (ItemPart (BlanksItem run) ∷ parts) fits closed = absurd (let k = (only_line_ends (BlanksItem run) (spelled parts) (first_fits (ItemPart (BlanksItem run)) parts fits) closed).1 in cc)
set_closed_line o e line s r (ItemPart (CommentItem tag words) ∷ parts) fits closed =
    absurd (let k = (only_line_ends (CommentItem tag words) (spelled parts) (first_fits (ItemPart (CommentItem tag words)) parts fits) closed).1 in cc)
set_closed_line o e line s r (ItemPart (EntryItem en) ∷ parts) fits closed = absurd (let k = (only_line_ends (EntryItem en) (spelled parts) (first_fits (ItemPart (EntryItem en)) parts fits) closed).1 in cc)
set_closed_line o e line s r (HeaderPart (PlainHeader name) ∷ parts) fits closed = absurd (cc)
set_closed_line o e line s r (HeaderPart (DottedHeader name subsection) ∷ parts) fits closed = absurd (cc)
set_closed_line o e line s r (HeaderPart (QuotedHeader name blanks spelling) ∷ parts) fits closed = absurd (cc)

-- a comment after its indent
pub again_comment : (o : Options) (e : List ℕ) (s : Bool) (b : Before) (r : Option ℕ) (tag : ℕ) (words : List ℕ) (set : List Shown) (text : List ℕ) → is_mark tag ≡ true → list_all (λ b. not (b == 10)) words ≡ true → ends (λ b. b == 13) words ≡ false
    → ends_comment words text ≡ true → Stays o e s Other r text → Again o e s b r set ((before_comment o s b ++ (tag ∷ words)) ++ text)
unfolding set_tokens ends_text ends_place
again_comment o e s b r tag words set text mark lines cr ended later = record {
  stays = record {
    parts = with_front front part later.parts;
    same = front_same front part later.parts ∙ ap (λ t. front ++ (tag ∷ (words ++ t))) later.same ∙ sym (append_assoc front (tag ∷ words) text);
    fits = front_fits front part later.parts (comment_blank o s b) (mark_no_blank tag mark) (mark, lines, subst (λ t. ends_comment words t ≡ true) (sym (append-nil (spelled later.parts) ∙ later.same)) ended) later.fits;
    again = front_goes o e s b r front part later.parts (λ puts. keeps_or_puts o s b (shown_parts (part ∷ later.parts)) puts)
        ∙ ap (λ w. (front ++ (tag ∷ w)) ++ set_from o e s Other r later.parts) (words_same words (shown_parts later.parts) cr)
        ∙ ap (λ t. (front ++ (tag ∷ words)) ++ t) later.again;
    holds = front_holds e front part later.parts (tt, later.holds);
  };
  comment = λ k. subst (λ front. (begins_comment (shown_parts (with_front front part later.parts)) ≡ true) × (begins is_blank ((front ++ (tag ∷ words)) ++ text) ≡ false))
      (sym (puts_none o s b set k)) (refl, mark_no_blank tag mark);
}
  where
    front : List ℕ
    front = before_comment o s b

    part : Part
    part = ItemPart (CommentItem tag words)

pub reworded : (o : Options) (e : List ℕ) (s : Bool) (b : Before) (r : Option ℕ) (set : List Shown) (text other : List ℕ) → text ≡ other → Again o e s b r set text → Again o e s b r set other
reworded o e s b r set text other same a = record {
  stays = moved o e s b r text other same a.stays;
  comment = λ k. ((a.comment k).0, ap (begins is_blank) (sym same) ∙ (a.comment k).1);
}

-- a header
pub stays_header : (o : Options) (e : List ℕ) (s : Bool) (b : Before) (r : Option ℕ) (h : Header) (text : List ℕ) → (fits : AreFit (HeaderPart h ∷ []) []) → Stays o e true Other r text → Stays o e s b r (written (shown_token (HeaderToken h)) ++ text)
unfolding set_tokens ends_text ends_place
stays_header o e s b r h text fits later =
    let is = set_header h fits.0 in
    record {
      parts = HeaderPart is.header ∷ later.parts;
      same = ap (λ t. t ++ spelled later.parts) is.same ∙ ap (λ t. written (shown_token (HeaderToken h)) ++ t) later.same;
      fits = (is.fits, later.fits);
      again = ap (λ t. t ++ set_from o e true Other r later.parts) is.again ∙ ap (λ t. written (shown_token (HeaderToken h)) ++ t) later.again;
      holds = (tt, later.holds);
    }

-- What is set after parts, for all places that meet what is left open.
abbrev pub AgainBehind : Options → (e : List ℕ) → List Part → Type 0
AgainBehind o e parts = (state : Open) (s : Bool) (b : Before) (r : Option ℕ) → meets state b ≡ true → AreFit parts [] → Follows state (spelled parts) → has_no_cr parts ≡ true
    → Again o e s b r (shown_parts parts) (set_from o e s b r parts)

-- the value of an entry, which has its line endings
pub stays_closed : (o : Options) (e : List ℕ) → is_line_end e ≡ true → (s : Bool) (b : Before) (r : Option ℕ) (name : List ℕ) (pieces : List Piece) (last : List ℕ) (rest text : List ℕ) → is_value_name name ≡ true
    → (let v : ValueOf = record { pieces = pieces; last = last } in FitsValue v rest → (list_all (λ (p : Piece). is_line_end p.line_end) (set_value e v).pieces ≡ true) → ends is_white last ≡ false
    → may_follow_value text ≡ true → Stays o e s (before_behind_value pieces) (room_behind o pieces r) text
    → Stays o e s b r (before_name o s b ++ (spelled_item (EntryItem (valued o e name (gap o) v)) ++ text)))
stays_closed o e line s b r name [] [] rest text named fits closed white follows f = stays_empty o e line s b r name text named follows f (cut_blanks o e s r f.parts f.fits)
stays_closed o e line s b r name [] (c ∷ last) rest text named fits closed white follows f =
    let v : ValueOf = record { pieces = []; last = c ∷ last } in
    stays_value o e line s b r name v text named f (closed_stays o e v c last refl (set_closed o e v rest fits closed white) (spelled f.parts) (subst (λ t. may_follow_value t ≡ true) (sym f.same) follows))
stays_closed o e line s b r name (p ∷ pieces) last rest text named fits closed white follows f = go (spelled_value (set_value e v)) refl
  where
    v : ValueOf
    v = record { pieces = p ∷ pieces; last = last }

    piece_text : (x y z w : List ℕ) → ((x ++ 92 ∷ y) ++ z) ++ w ≡ [] → ⊥
    piece_text [] y z w h = absurd (cc)
    piece_text (b ∷ x) y z w h = absurd (cc)

    go : (value : List ℕ) → spelled_value (set_value e v) ≡ value → Stays o e s b r (before_name o s b ++ (spelled_item (EntryItem (valued o e name (gap o) v)) ++ text))
    go [] h = absurd (piece_text p.text _ _ last h)
    go (c ∷ value) h = stays_value o e line s b r name v text named f (closed_stays o e v c value h (set_closed o e v rest fits closed white) (spelled f.parts) (subst (λ t. may_follow_value t ≡ true) (sym f.same) follows))

-- nothing after parts
pub stays_none : (o : Options) (e : List ℕ) (s : Bool) (b : Before) (r : Option ℕ) (parts : List Part) → parts ≡ [] → Stays o e s b r (set_from o e s b r parts)
unfolding set_tokens
stays_none o e s b r parts none = record { parts = []; same = ap (set_from o e s b r) (sym none); fits = tt; again = ap (set_from o e s b r) (sym none); holds = tt }

again_entry : (o : Options) (e : List ℕ) → is_line_end e ≡ true → (name blanks : List ℕ) (assigned : Option Assigned) (parts : List Part) → AgainBehind o e parts
    → AgainBehind o e (ItemPart (EntryItem (record { name = name; blanks = blanks; assigned = assigned })) ∷ parts)
unfolding stays_none
again_entry o e line name blanks None parts later state s b r m fits follows none =
    let en : Entry = record { name = name; blanks = blanks; assigned = None } in
    let set = shown_parts (ItemPart (EntryItem en) ∷ parts) in
    let first = first_fits (ItemPart (EntryItem en)) parts fits in
    let n = behind_item state (EntryItem en) (spelled parts) first follows in
    let key = tight_key state en n.0 blanks in
    let text = set_from o e s Value r parts in
    let next = later (after_entry state blanks None) s Value r key.1 fits.1 n.1 none in
    let behind = subst (λ q. may_follow q text ≡ true) key.0 ((laid o e line parts (after_entry state blanks None) s Value r key.1 fits.1 n.1).follows) in
    uncommented o e s b r set (set_from o e s b r (ItemPart (EntryItem en) ∷ parts)) refl
    (moved o e s b r (before_name o s b ++ ((name ++ ([] ++ [])) ++ text)) (set_from o e s b r (ItemPart (EntryItem en) ∷ parts)) (sym (entry_text o e s b r en parts tt))
    (stays_key o e s b r name text first.0 behind next.stays (cut_blanks o e s r next.stays.parts next.stays.fits)))
again_entry o e line name blanks (Some a) parts later state s b r m fits follows none =
    uncommented o e s b r (shown_parts (ItemPart (EntryItem en) ∷ parts)) (set_from o e s b r (ItemPart (EntryItem en) ∷ parts)) refl
    (moved o e s b r (before_name o s b ++ (spelled_item (EntryItem (valued o e name (gap o) a.value)) ++ text)) (set_from o e s b r (ItemPart (EntryItem en) ∷ parts))
    (sym (entry_text o e s b r en parts (piece_ends a.value.pieces a.value.last (spelled parts) value.end)))
    (go (ways e line a.value.pieces a.value.last (spelled parts) value.end)))
  where
    en : Entry
    en = record { name = name; blanks = blanks; assigned = Some a }

    first : FitsItem (EntryItem en) (spelled parts)
    first = first_fits (ItemPart (EntryItem en)) parts fits

    value : FitsValue a.value (spelled parts)
    value = first.2.1

    n : (may_stand_behind state (EntryItem en) ≡ true) × Follows (after state (EntryItem en)) (spelled parts)
    n = behind_item state (EntryItem en) (spelled parts) first follows

    opened : Follows OpenValue (spelled parts)
    opened = subst (λ q. Follows q (spelled parts)) (after_value state en n.0 blanks a) n.1

    text : List ℕ
    text = set_from o e s (before_behind_value a.value.pieces) (room_behind o a.value.pieces r) parts

    next : Again o e s (before_behind_value a.value.pieces) (room_behind o a.value.pieces r) (shown_parts parts) text
    next = later OpenValue s (before_behind_value a.value.pieces) (room_behind o a.value.pieces r) (behind_is a.value.pieces) fits.1 opened none

    behind : may_follow_value text ≡ true
    behind = (laid o e line parts OpenValue s (before_behind_value a.value.pieces) (room_behind o a.value.pieces r) (behind_is a.value.pieces) fits.1 opened).follows

    go : Ways e a.value.pieces a.value.last (spelled parts) → Stays o e s b r (before_name o s b ++ (spelled_item (EntryItem (valued o e name (gap o) a.value)) ++ text))
    go (inl closed) = stays_closed o e line s b r name a.value.pieces a.value.last (spelled parts) text first.0 value closed.0 closed.1 behind next.stays
    go (inr bare) = stays_value o e line s b r name a.value text first.0 (stays_none o e s (before_behind_value a.value.pieces) (room_behind o a.value.pieces r) parts (no_parts parts fits.1 bare.0))
        (set_bare e a.value (spelled parts) value bare.1)

-- What one pass writes stays.
pub again : (o : Options) (e : List ℕ) → is_line_end e ≡ true → (parts : List Part) → AgainBehind o e parts
unfolding set_tokens ends_text ends_place
again o e line [] state s b r m fits follows none = uncommented o e s b r [] [] refl (record { parts = []; same = refl; fits = tt; again = refl; holds = tt })
again o e line (ItemPart (BlanksItem run) ∷ parts) state s b r m fits follows none =
    let n = behind_item state (BlanksItem run) (spelled parts) (first_fits (ItemPart (BlanksItem run)) parts fits) follows in
    let later = again o e line parts (after_blanks run state) s b r (meets_blanks run state b m) fits.1 n.1 none in
    uncommented o e s b r (shown_parts (ItemPart (BlanksItem run) ∷ parts)) (set_from o e s b r (ItemPart (BlanksItem run) ∷ parts)) refl
    (stays_blanks o e s b r run (shown_parts parts) (set_from o e s b r parts) fits.0.0 fits.0.1 later (keeps_blanks o s b (shown_parts parts)) refl)
again o e line (ItemPart (LineEndsItem run) ∷ parts) state s b r m fits follows none =
    let q = ends_place o (at_place s b r) run in
    let later = again o e line parts Closed q.in_section q.before q.room refl fits.1 tt none in
    uncommented o e s b r (shown_parts (ItemPart (LineEndsItem run) ∷ parts)) (set_from o e s b r (ItemPart (LineEndsItem run) ∷ parts)) refl
    (stays_ends o e line s b r run (set_from o e q.in_section q.before q.room parts) later.stays)
again o e line (ItemPart (CommentItem tag words) ∷ parts) state s b r m fits follows none =
    let first = first_fits (ItemPart (CommentItem tag words)) parts fits in
    let n = behind_item state (CommentItem tag words) (spelled parts) first follows in
    let q = both_true (not (ends (λ b. b == 13) words)) (has_no_cr parts) none in
    let cr = false_not (ends (λ b. b == 13) words) q.0 in
    let text = set_from o e s Other r parts in
    let later = again o e line parts OpenComment s Other r refl fits.1 n.1 q.1 in
    reworded o e s b r (shown_parts (ItemPart (CommentItem tag words) ∷ parts)) ((before_comment o s b ++ (tag ∷ words)) ++ text) (set_from o e s b r (ItemPart (CommentItem tag words) ∷ parts))
    (ap (λ w. (before_comment o s b ++ (tag ∷ w)) ++ text) (sym (words_same words (shown_parts parts) cr)))
    (again_comment o e s b r tag words (shown_parts (ItemPart (CommentItem tag words) ∷ parts)) text fits.0.0 fits.0.1 cr (closed_ends words cr text (set_closed_line o e line s r parts fits.1 n.1)) later.stays)
again o e line (ItemPart (EntryItem en) ∷ parts) state s b r m fits follows none = again_entry o e line en.name en.blanks en.assigned parts (again o e line parts) state s b r m fits follows none
again o e line (HeaderPart h ∷ parts) state s b r m fits follows none =
    let later = again o e line parts Closed true Other r refl fits.1 tt none in
    uncommented o e s b r (shown_parts (HeaderPart h ∷ parts)) (set_from o e s b r (HeaderPart h ∷ parts)) refl (stays_header o e s b r h (set_from o e true Other r parts) (fits.0, tt) later.stays)
