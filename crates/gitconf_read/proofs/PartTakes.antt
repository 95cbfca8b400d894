-- What is read as a part is one, and if none is read none is.
use Rattle.std.proofs.Common.{◌≡◌, ℕ, zero, suc, ◌+◌, Bool, true, false, List, [], ◌∷◌, ◌++◌, length, drop, Option, Some, None, Ok, Err, refl, ap, sym, subst, ◌∙◌, arith, append_assoc, length-append, inl, inr}
use Rattle.std.specs.Prelude.{◌==◌, ◌⊎◌, if◌then◌else◌}
use Rattle.std.specs.List.{list_all}
use Rattle.std.specs.Char.{is_ascii_alphabetic}
use Rattle.std.proofs.lemmas.Bool.{eqb-true}
use Rattle.gitconf_text.specs.Bytes.{is_blank, is_name_byte}
use Rattle.gitconf_text.specs.Text.{begins, begins_line_end}
use Rattle.gitconf_text.specs.Unit.{Class, LineFeed, Quote, Mark, Backslash, White, Other, class_of, is_mark}
use Rattle.gitconf_text.specs.Value.{Value, spelled_value, are_paired}
use Rattle.gitconf_text.specs.Names.{is_value_name}
use Rattle.gitconf_text.specs.Part.{Assigned, BlanksItem, LineEndsItem, CommentItem, EntryItem, Part, ItemPart, HeaderPart, spelled_assigned, spelled_part, FitsAssigned, FitsPart}
use Rattle.gitconf_text.specs.Stuck.{IsAssignment, spelled_assignment, NoValue, NoPart}
use Rattle.gitconf_items.specs.declared.event.Event.{Event}
use Rattle.gitconf_items.specs.declared.event.Event.TheVariants as kinds
use Rattle.gitconf_items.specs.declared.event.Header.{Header as Spans}
use Rattle.gitconf_read.specs.declared.reading.Fault.{Fault}
use Rattle.gitconf_read.specs.declared.reading.Expected.{Expected}
use Rattle.gitconf_read.specs.declared.reading.Expected.TheVariants as expected
use Rattle.gitconf_read.specs.declared.reading.part.Opening.{Opening}
use Rattle.gitconf_read.specs.declared.reading.part.Opening.TheVariants as openings
use Rattle.gitconf_read.specs.Reading.{end_of_run, with_blanks, opening_of, value_from, value_at, value_end, Behind, NothingBehind, LineFeedBehind, CrLfBehind, EscapeBehind, OtherBehind, behind, assigned_at, entry_at, header_at, part_at}
use Rattle.gitconf_text.proofs.CommentEnds.{is_comment_text}
use Rattle.gitconf_read.proofs.RunLaws.{Run, run_takes, places_all, stops_begins, places_line_ends, stops_line_end, places_comment, places_ended}
use Rattle.gitconf_read.proofs.At.{behind_front, behind_byte}
use Rattle.gitconf_text.proofs.Tests.{both_true}
use Rattle.gitconf_read.proofs.ValueAgain.{pieces_text-is, pieces_units-is}
use Rattle.gitconf_read.proofs.ValueTakes.{ValueShape, value_takes}
use Rattle.gitconf_read.proofs.HeaderTakes.{begins_byte, header_takes}
use Rattle.gitconf_read.proofs.PartAgain.{value_again, part_again, letter_opens}
pub use Rattle.gitconf_read.specs.Stretches.{ValueFaultShape}

-- a text that begins with a part
pub record PartShape (text : List ℕ) : Type 0 where
  pub part : Part
  pub rest : List ℕ
  pub whole : text ≡ spelled_part part ++ rest
  pub fits : FitsPart part rest

-- how a text opens, by what it opens
abbrev pub IsOpening : Opening → List ℕ → Type 0
IsOpening openings.Blanks text = (b : ℕ) × (rest : List ℕ) × (text ≡ b ∷ rest) × (is_blank b ≡ true)
IsOpening openings.LineEnds text = (b : ℕ) × (rest : List ℕ) × (text ≡ b ∷ rest) × (begins_line_end (b ∷ rest) ≡ true)
IsOpening openings.Comment text = (b : ℕ) × (rest : List ℕ) × (text ≡ b ∷ rest) × (is_mark b ≡ true)
IsOpening openings.Header text = (rest : List ℕ) × (text ≡ 91 ∷ rest)
IsOpening openings.Entry text = (b : ℕ) × (rest : List ℕ) × (text ≡ b ∷ rest) × (is_ascii_alphabetic b ≡ true)
IsOpening openings.Nothing text = Unit {0}

pub opening_is : (text : List ℕ) → IsOpening (opening_of text) text
opening_is [] = tt
opening_is (b ∷ rest) = blank (is_blank b) refl
  where
    letter : (t : Bool) → is_ascii_alphabetic b ≡ t → IsOpening (if t then openings.Entry else openings.Nothing) (b ∷ rest)
    letter true e = (b, rest, refl, e)
    letter false e = tt

    bracket : (t : Bool) → (b == 91) ≡ t → IsOpening (if t then openings.Header else if is_ascii_alphabetic b then openings.Entry else openings.Nothing) (b ∷ rest)
    bracket true e = (rest, ap (λ x. x ∷ rest) (eqb-true b 91 e))
    bracket false e = letter (is_ascii_alphabetic b) refl

    mark : (t : Bool) → is_mark b ≡ t → IsOpening (if t then openings.Comment else if b == 91 then openings.Header else if is_ascii_alphabetic b then openings.Entry else openings.Nothing) (b ∷ rest)
    mark true e = (b, rest, refl, e)
    mark false e = bracket (b == 91) refl

    line_end : (t : Bool) → begins_line_end (b ∷ rest) ≡ t → IsOpening (if t then openings.LineEnds else if is_mark b then openings.Comment else if b == 91 then openings.Header else if is_ascii_alphabetic b then openings.Entry else openings.Nothing) (b ∷ rest)
    line_end true e = (b, rest, refl, e)
    line_end false e = mark (is_mark b) refl

    blank : (t : Bool) → is_blank b ≡ t → IsOpening (if t then openings.Blanks else if begins_line_end (b ∷ rest) then openings.LineEnds else if is_mark b then openings.Comment else if b == 91 then openings.Header else if is_ascii_alphabetic b then openings.Entry else openings.Nothing) (b ∷ rest)
    blank true e = (b, rest, refl, e)
    blank false e = line_end (begins_line_end (b ∷ rest)) refl

-- what is assigned after a name and its blanks, and what follows
pub record AssignedShape (blanks text : List ℕ) : Type 0 where
  pub assigned : Option Assigned
  pub rest : List ℕ
  pub whole : text ≡ spelled_assigned assigned ++ rest
  pub fits : FitsAssigned blanks assigned rest

-- a value after `=` and blanks
value_shape : (blanks between text : List ℕ) → list_all is_blank between ≡ true → begins is_blank text ≡ false → ValueShape false text → AssignedShape blanks (61 ∷ (between ++ text))
value_shape blanks between text all unblank s =
    let v : Value = record { pieces = s.pieces; last = s.last } in
    let same : spelled_value v ++ s.rest ≡ text = pieces_text-is s.pieces s.last s.rest ∙ sym s.whole in
    record {
      assigned = Some (record { blanks = between; value = v });
      rest = s.rest;
      whole = rw (← same) (simp append_assoc);
      fits = (
        all,
        record {
          front = ap (begins is_blank) same ∙ unblank;
          units = ap (are_paired false) (pieces_units-is s.pieces s.last) ∙ s.paired;
          end = s.ended;
        },
      );
    }

pub assigned_takes : (blanks input : List ℕ) (events more : List Event) (n end : ℕ) → begins is_name_byte (blanks ++ drop n input) ≡ false → begins is_blank (drop n input) ≡ false
    → assigned_at input n events ≡ Ok (more, end) → AssignedShape blanks (drop n input)
unfolding assigned_at
assigned_takes blanks input events more n end no_name no_blank read = go (begins (λ b. b == 61) (drop n input)) refl
  where
    go : (t : Bool) → begins (λ b. b == 61) (drop n input) ≡ t → AssignedShape blanks (drop n input)
    go false e = record { assigned = None; rest = drop n input; whole = refl; fits = (no_name, no_blank, e) }
    go true e =
        let b = begins_byte 61 (drop n input) e in
        let r = run_takes (begins is_blank) (n + 1) (drop (n + 1) input) in
        let here : drop (n + 1) input ≡ b.0 = behind_byte input 61 b.0 n b.1 in
        valued b.0 b.1 here r (rw (e, assigned_at) at read)
      where
        E : ℕ
        E = end_of_run (begins is_blank) (n + 1) (drop (n + 1) input)

        valued : (rest : List ℕ) → drop n input ≡ 61 ∷ rest → drop (n + 1) input ≡ rest → (r : Run (begins is_blank) (n + 1) (drop (n + 1) input))
            → value_at E (with_blanks (events ++ kinds.KeyValueSeparator ∷ []) (n + 1) E) (drop E input) ≡ Ok (more, end) → AssignedShape blanks (drop n input)
        valued rest stands here r read =
            let there : drop E input ≡ r.rest = rw r.end (behind_front input r.front r.rest (n + 1) r.whole) in
            let whole : 61 ∷ (r.front ++ r.rest) ≡ drop n input = ap (λ t. 61 ∷ t) (sym r.whole ∙ here) ∙ sym stands in
            let shape : ValueShape false (drop E input) = value_takes (drop E input) E _ false E E false E 0 more end read (omega arith) in
            subst (λ t. AssignedShape blanks t) whole (value_shape blanks r.front r.rest (places_all is_blank r.front r.rest r.places) (stops_begins is_blank r.rest r.stops)
            (subst (λ t. ValueShape false t) there shape))

-- the end of a run that is at the offset n
pub run_rest : (test : List ℕ → Bool) (input : List ℕ) (n : ℕ) (r : Run test n (drop n input)) → drop (end_of_run test n (drop n input)) input ≡ r.rest
run_rest test input n r = rw r.end (behind_front input r.front r.rest n r.whole)

-- where an entry's name ends, and the blanks after it
abbrev pub name_end : (input : List ℕ) → ℕ → ℕ
name_end input n = end_of_run (begins is_name_byte) (n + 1) (drop (n + 1) input)

abbrev pub blanks_end : (input : List ℕ) → ℕ → ℕ
blanks_end input n = end_of_run (begins is_blank) (name_end input n) (drop (name_end input n) input)

-- a name and blanks, before what is left at the offset after them
pub record NameShape (input : List ℕ) (n : ℕ) : Type 0 where
  pub name : List ℕ
  pub blanks : List ℕ
  pub whole : drop n input ≡ name ++ (blanks ++ drop (blanks_end input n) input)
  pub end : blanks_end input n ≡ n + length name + length blanks
  pub name_is : is_value_name name ≡ true
  pub blanks_are : list_all is_blank blanks ≡ true
  pub no_name : begins is_name_byte (blanks ++ drop (blanks_end input n) input) ≡ false
  pub no_blank : begins is_blank (drop (blanks_end input n) input) ≡ false

blanks_name : (blanks rest text : List ℕ) → list_all is_blank blanks ≡ true → text ≡ blanks ++ rest → begins is_name_byte text ≡ false → begins is_name_byte (blanks ++ rest) ≡ false
blanks_name blanks rest text all same stops = ap (begins is_name_byte) (sym same) ∙ stops

pub name_takes : (input : List ℕ) (n b : ℕ) (rest : List ℕ) → drop n input ≡ b ∷ rest → is_ascii_alphabetic b ≡ true → NameShape input n
name_takes input n b rest stands letter =
    go (run_takes (begins is_name_byte) (n + 1) (drop (n + 1) input)) (run_takes (begins is_blank) (name_end input n) (drop (name_end input n) input))
  where
    go : Run (begins is_name_byte) (n + 1) (drop (n + 1) input) → Run (begins is_blank) (name_end input n) (drop (name_end input n) input) → NameShape input n
    go r s =
        let here : drop (n + 1) input ≡ rest = behind_byte input b rest n stands in
        let there : drop (name_end input n) input ≡ r.rest = run_rest (begins is_name_byte) input (n + 1) r in
        let left : drop (blanks_end input n) input ≡ s.rest = run_rest (begins is_blank) input (name_end input n) s in
        let names : list_all is_name_byte r.front ≡ true = places_all is_name_byte r.front r.rest r.places in
        let whole2 : drop (name_end input n) input ≡ s.front ++ drop (blanks_end input n) input = s.whole ∙ ap (λ t. s.front ++ t) (sym left) in
        record {
          name = b ∷ r.front;
          blanks = s.front;
          whole = stands ∙ ap (λ t. b ∷ t) (sym here ∙ r.whole ∙ ap (λ t. r.front ++ t) (sym there ∙ whole2));
          end = (let a = r.end in let c = s.end in let l : length (b ∷ r.front) ≡ length r.front + 1 = omega arith in omega (arith, a, c, l));
          name_is = rw (letter, names) refl;
          blanks_are = places_all is_blank s.front s.rest s.places;
          no_name = ap (begins is_name_byte) (sym whole2 ∙ there) ∙ stops_begins is_name_byte r.rest r.stops;
          no_blank = ap (begins is_blank) left ∙ stops_begins is_blank s.rest s.stops;
        }

-- what is read as an entry is one
pub entry_takes : (input : List ℕ) (n : ℕ) (events more : List Event) (end : ℕ) → NameShape input n → entry_at input n events ≡ Ok (more, end) → PartShape (drop n input)
unfolding entry_at
entry_takes input n events more end s read =
    let a = assigned_takes s.blanks input _ more (blanks_end input n) end s.no_name s.no_blank read in
    record {
      part = ItemPart (EntryItem (record { name = s.name; blanks = s.blanks; assigned = a.assigned }));
      rest = a.rest;
      whole = s.whole ∙ ap (λ t. s.name ++ (s.blanks ++ t)) a.whole ∙ (simp append_assoc);
      fits = (s.name_is, s.blanks_are, a.fits);
    }

-- What is read as a part is one.
pub part_takes : (input : List ℕ) (n : ℕ) (wanted : Expected) (events more : List Event) (end : ℕ) → part_at input n wanted events ≡ Ok (more, end) → PartShape (drop n input)
unfolding part_at
part_takes input n wanted events more end read = go (opening_of (drop n input)) refl (opening_is (drop n input))
  where
    headed : (rest : List ℕ) → drop n input ≡ 91 ∷ rest → opening_of (drop n input) ≡ openings.Header → (o : Option (Spans × ℕ)) → header_at input n ≡ o → PartShape (drop n input)
    headed rest stands e None h = absurd (let x = rw h at (rw (e, part_at) at read) in cc)
    headed rest stands e (Some found) h =
        let s = header_takes input rest n found stands h in
        record { part = HeaderPart s.header; rest = s.rest; whole = stands ∙ s.whole; fits = s.fits }

    blank : (b : ℕ) (rest : List ℕ) → drop n input ≡ b ∷ rest → is_blank b ≡ true → PartShape (drop n input)
    blank b rest stands h =
        let r = run_takes (begins is_blank) 0 rest in
        record {
          part = ItemPart (BlanksItem (b ∷ r.front));
          rest = r.rest;
          whole = stands ∙ ap (λ t. b ∷ t) r.whole;
          fits = (omega arith, rw h (places_all is_blank r.front r.rest r.places), stops_begins is_blank r.rest r.stops);
        }

    line_end : (b : ℕ) (rest : List ℕ) → drop n input ≡ b ∷ rest → begins_line_end (b ∷ rest) ≡ true → PartShape (drop n input)
    line_end b rest stands h =
        let r = run_takes begins_line_end 0 rest in
        let h2 = subst (λ t. begins_line_end (b ∷ t) ≡ true) r.whole h in
        record {
          part = ItemPart (LineEndsItem (b ∷ r.front));
          rest = r.rest;
          whole = stands ∙ ap (λ t. b ∷ t) r.whole;
          fits = (omega arith, places_line_ends (b ∷ r.front) r.rest (h2, r.places) r.stops, stops_line_end r.rest r.stops);
        }

    comment : (b : ℕ) (rest : List ℕ) → drop n input ≡ b ∷ rest → is_mark b ≡ true → PartShape (drop n input)
    comment b rest stands h =
        let r = run_takes is_comment_text 0 rest in
        record {
          part = ItemPart (CommentItem b r.front);
          rest = r.rest;
          whole = stands ∙ ap (λ t. b ∷ t) r.whole;
          fits = (h, places_comment r.front r.rest r.places, places_ended r.front r.rest r.places r.stops);
        }

    go : (k : Opening) → opening_of (drop n input) ≡ k → IsOpening k (drop n input) → PartShape (drop n input)
    go openings.Blanks e is = blank is.0 is.1 is.2 is.3
    go openings.LineEnds e is = line_end is.0 is.1 is.2 is.3
    go openings.Comment e is = comment is.0 is.1 is.2 is.3
    go openings.Header e is = headed is.0 is.1 e (header_at input n) refl
    go openings.Entry e is = entry_takes input n events more end (name_takes input n is.0 is.1 is.2 is.3) (rw (e, part_at) at read)
    go openings.Nothing e is = absurd (let x = rw (e, part_at) at read in cc)

-- a value's only fault is told at its beginning
end_fault : (first : ℕ) (events : List Event) (joined : Bool) (from kept : ℕ) (quoted : Bool) (f : Fault) → value_end first events joined from kept quoted ≡ Err f → record { at = first; expected = expected.Value } ≡ f
end_fault first events joined from kept true f read = cc
end_fault first events joined from kept false f read = absurd (let x = read in cc)

value_fault_is : (text : List ℕ) (first : ℕ) (events : List Event) (joined : Bool) (from kept : ℕ) (quoted : Bool) (n skip : ℕ) (f : Fault)
    → value_from first events joined from kept quoted n skip text ≡ Err f → record { at = first; expected = expected.Value } ≡ f
unfolding value_from
value_fault_is [] first events joined from kept quoted n skip f read = end_fault first events joined from kept quoted f read
value_fault_is (b ∷ text) first events joined from kept quoted n (suc skip) f read = value_fault_is text first events joined from kept quoted (n + 1) skip f read
value_fault_is (b ∷ text) first events joined from kept quoted n zero f read =
    go (class_of b) refl (λ events joined from kept quoted n skip. value_fault_is text first events joined from kept quoted n skip f)
  where
    Later : Type 0
    Later = (events : List Event) (joined : Bool) (from kept : ℕ) (quoted : Bool) (n skip : ℕ)
        → value_from first events joined from kept quoted n skip text ≡ Err f → record { at = first; expected = expected.Value } ≡ f

    mark : (q : Bool) → quoted ≡ q → class_of b ≡ Mark → Later → record { at = first; expected = expected.Value } ≡ f
    mark true eq e later = later _ _ _ _ _ _ 0 (rw eq at (rw (e, value_from) at read))
    mark false eq e later = end_fault first events joined from kept false f (rw eq at (rw (e, value_from) at read))

    nothing : (q : Bool) → quoted ≡ q → class_of b ≡ Backslash → behind text ≡ NothingBehind → record { at = first; expected = expected.Value } ≡ f
    nothing true eq e h = let x = rw eq at (rw h at (rw (e, value_from) at read)) in cc
    nothing false eq e h = absurd (let x = rw eq at (rw h at (rw (e, value_from) at read)) in cc)

    slash : (k : Behind) → behind text ≡ k → class_of b ≡ Backslash → Later → record { at = first; expected = expected.Value } ≡ f
    slash NothingBehind h e later = nothing quoted refl e h
    slash LineFeedBehind h e later = later _ _ _ _ _ _ 1 (rw h at (rw (e, value_from) at read))
    slash CrLfBehind h e later = later _ _ _ _ _ _ 2 (rw h at (rw (e, value_from) at read))
    slash EscapeBehind h e later = later _ _ _ _ _ _ 1 (rw h at (rw (e, value_from) at read))
    slash OtherBehind h e later = let x = rw h at (rw (e, value_from) at read) in cc

    go : (c : Class) → class_of b ≡ c → Later → record { at = first; expected = expected.Value } ≡ f
    go LineFeed e later = end_fault first events joined from kept quoted f (rw (e, value_from) at read)
    go Quote e later = later _ _ _ _ _ _ 0 (rw (e, value_from) at read)
    go Mark e later = mark quoted refl e later
    go White e later = later _ _ _ _ _ _ 0 (rw (e, value_from) at read)
    go Other e later = later _ _ _ _ _ _ 0 (rw (e, value_from) at read)
    go Backslash e later = slash (behind text) refl e later

-- where a fault is told, no value can be read to events
value_missing : (input : List ℕ) (n : ℕ) (events : List Event) (f : Fault) → value_at n events (drop n input) ≡ Err f → NoValue (drop n input)
value_missing input n events f read v behind whole fits = let x = value_again v behind input events n whole fits in cc

-- `=`, blanks and no value
assigned_fault : (name blanks input : List ℕ) (events : List Event) (start n : ℕ) (f : Fault) → is_value_name name ≡ true → list_all is_blank blanks ≡ true
    → drop start input ≡ name ++ (blanks ++ drop n input) → n ≡ start + length name + length blanks
    → assigned_at input n events ≡ Err f → ValueFaultShape input start f
unfolding assigned_at
assigned_fault name blanks input events start n f named all whole n_is read = go (begins (λ b. b == 61) (drop n input)) refl
  where
    go : (t : Bool) → begins (λ b. b == 61) (drop n input) ≡ t → ValueFaultShape input start f
    go false e = absurd (let x = rw (e, assigned_at) at read in cc)
    go true e =
        let b = begins_byte 61 (drop n input) e in
        told b.0 b.1 (behind_byte input 61 b.0 n b.1) (run_takes (begins is_blank) (n + 1) (drop (n + 1) input)) (rw (e, assigned_at) at read)
      where
        E : ℕ
        E = end_of_run (begins is_blank) (n + 1) (drop (n + 1) input)

        told : (rest : List ℕ) → drop n input ≡ 61 ∷ rest → drop (n + 1) input ≡ rest → (r : Run (begins is_blank) (n + 1) (drop (n + 1) input))
            → value_at E (with_blanks (events ++ kinds.KeyValueSeparator ∷ []) (n + 1) E) (drop E input) ≡ Err f → ValueFaultShape input start f
        told rest stands here r read =
            let is : record { at = E; expected = expected.Value } ≡ f = value_fault_is (drop E input) E _ false E E false E 0 f read in
            let there : drop E input ≡ r.rest = run_rest (begins is_blank) input (n + 1) r in
            let between : 61 ∷ (r.front ++ drop E input) ≡ drop n input = ap (λ t. 61 ∷ t) (ap (λ t. r.front ++ t) there ∙ sym r.whole ∙ here) ∙ sym stands in
            subst (λ f. ValueFaultShape input start f) is (record {
              name = name;
              blanks = blanks;
              between = r.front;
              assignment = record { name_is = named; blanks_are = all; behind_are = places_all is_blank r.front r.rest r.places };
              whole = whole ∙ ap (λ t. name ++ (blanks ++ t)) (sym between) ∙ (simp append_assoc);
              at_is = (let end = r.end in simp length-append (omega (arith, end, n_is)));
              unblank = ap (begins is_blank) there ∙ stops_begins is_blank r.rest r.stops;
              nothing = value_missing input E _ f read;
              kind_is = refl;
            })

entry_fault : (input : List ℕ) (n : ℕ) (events : List Event) (f : Fault) → NameShape input n → entry_at input n events ≡ Err f → ValueFaultShape input n f
unfolding entry_at
entry_fault input n events f s read = assigned_fault s.name s.blanks input _ n (blanks_end input n) f s.name_is s.blanks_are s.whole s.end read

-- where a text opens otherwise, no key is
no_entry : (text : List ℕ) (k : Opening) → opening_of text ≡ k → (k ≡ openings.Entry → ⊥) → (name blanks behind : List ℕ) → IsAssignment name blanks [] → text ≡ spelled_assignment name blanks behind → ⊥
no_entry text k e other [] blanks behind is whole = let x = IsAssignment.name_is is in cc
no_entry text k e other (b ∷ name) blanks behind is whole =
    let letter = (both_true (is_ascii_alphabetic b) (list_all is_name_byte name) (IsAssignment.name_is is)).0 in
    other (sym e ∙ ap opening_of whole ∙ letter_opens b (name ++ (blanks ++ 61 ∷ behind)) letter)

-- A refusal is told if no part is, or if no value is.
pub part_fault : (input : List ℕ) (n : ℕ) (wanted : Expected) (events : List Event) (f : Fault) → part_at input n wanted events ≡ Err f
    → ((record { at = n; expected = wanted } ≡ f) × NoPart (drop n input)) ⊎ ValueFaultShape input n f
unfolding part_at
part_fault input n wanted events f read = go (opening_of (drop n input)) refl (opening_is (drop n input))
  where
    no_part : (p : Part) (behind : List ℕ) → drop n input ≡ spelled_part p ++ behind → FitsPart p behind → ⊥
    no_part p behind whole fits = let x = part_again p behind input n wanted events whole fits in cc

    none : (k : Opening) → opening_of (drop n input) ≡ k → (k ≡ openings.Entry → ⊥) → NoPart (drop n input)
    none k e other = record { part = no_part; assignment = no_entry (drop n input) k e other }

    headed : opening_of (drop n input) ≡ openings.Header → (o : Option (Spans × ℕ)) → header_at input n ≡ o → ((record { at = n; expected = wanted } ≡ f) × NoPart (drop n input)) ⊎ ValueFaultShape input n f
    headed e None h = inl ((let x = rw h at (rw (e, part_at) at read) in cc), none openings.Header e (λ k. cc))
    headed e (Some found) h = absurd (let x = rw h at (rw (e, part_at) at read) in cc)

    go : (k : Opening) → opening_of (drop n input) ≡ k → IsOpening k (drop n input) → ((record { at = n; expected = wanted } ≡ f) × NoPart (drop n input)) ⊎ ValueFaultShape input n f
    go openings.Blanks e is = absurd (let x = rw (e, part_at) at read in cc)
    go openings.LineEnds e is = absurd (let x = rw (e, part_at) at read in cc)
    go openings.Comment e is = absurd (let x = rw (e, part_at) at read in cc)
    go openings.Header e is = headed e (header_at input n) refl
    go openings.Entry e is = inr (entry_fault input n events f (name_takes input n is.0 is.1 is.2 is.3) (rw (e, part_at) at read))
    go openings.Nothing e is = inl ((let x = rw (e, part_at) at read in cc), none openings.Nothing e (λ k. cc))
