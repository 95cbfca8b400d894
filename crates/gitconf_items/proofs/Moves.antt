-- What follows other bytes says what it said.
use Rattle.std.proofs.Common.{◌≡◌, ℕ, zero, suc, ◌+◌, ◌<◌, List, [], ◌∷◌, ◌++◌, length, map, take, drop, get_or, set, Some, None, refl, ap, sym, subst, ◌∙◌, arith}
use Rattle.std.specs.List.{AllByRecursion, refill}
use Rattle.std.proofs.Math.Seq.{drop-append-add, drop-length, take-length}
use Rattle.std.proofs.lemmas.List.{append-nil}
use Rattle.gitconf_text.specs.Part as parts
use Rattle.gitconf_items.specs.declared.event.Copied.{Copied}
use Rattle.gitconf_items.specs.declared.event.Span.{Span}
use Rattle.gitconf_items.specs.declared.entry.Assigned.TheVariants as forms
use Rattle.gitconf_items.specs.declared.entry.Continued.{Continued}
use Rattle.gitconf_items.specs.declared.entry.EntryParts.{EntryParts}
use Rattle.gitconf_items.specs.declared.entry.Line.{Line}
use Rattle.gitconf_items.specs.declared.entry.Form.TheVariants as held
use Rattle.gitconf_items.specs.declared.items.Item.TheVariants as items
use Rattle.gitconf_items.specs.declared.entry.Piece.{Piece}
use Rattle.gitconf_items.specs.declared.entry.Value.{Value}
use Rattle.gitconf_items.specs.Events.{bytes_of, OptionFits, SpanFits}
use Rattle.gitconf_items.specs.Items.{piece_of, value_of, assigned_of, entry_of, item_of}
use Rattle.gitconf_items.specs.ItemsFit.{PieceFits, ValueFits, AssignedFits, EntryFits, ItemFits}
use Rattle.gitconf_items.specs.Forms.{parts_in}
use Rattle.gitconf_items.specs.ShownEvents.{CopyFits}
use Rattle.gitconf_items.specs.Moves.{continued_of, copy_of, option_bytes_of, pieces_of, ContinuedFits, IsMoved, PiecesFit}

-- bytes after others
behind_others : (before buffer : List ℕ) (by start len : ℕ) → length before ≡ by → take len (drop (by + start) (before ++ buffer)) ≡ take len (drop start buffer)
behind_others before buffer by start len is = ap (λ n. take len (drop (n + start) (before ++ buffer))) (sym is) ∙ ap (take len) (drop-append-add before buffer start)

pub span_moved : (by : ℕ) (s : Span) → IsMoved bytes_of SpanFits by s (record { start = by + s.start; len = s.len })
span_moved by s = record {
  same = λ before buffer is. behind_others before buffer by s.start s.len is;
  within = λ limit fits. omega (arith, fits);
}

span_moved_to : (by : ℕ) (s t : Span) → t.start ≡ by + s.start → t.len ≡ s.len → IsMoved bytes_of SpanFits by s t
span_moved_to by s t start len =
    subst (IsMoved bytes_of SpanFits by s) (λ i. record { start = sym start i; len = sym len i }) (span_moved by s)

pub some_moved : (by : ℕ) (s t : Span) → IsMoved bytes_of SpanFits by s t → IsMoved option_bytes_of OptionFits by (Some s) (Some t)
some_moved by s t m = record { same = λ before buffer is. ap Some (m.same before buffer is); within = m.within }

pub none_moved : (by : ℕ) → IsMoved option_bytes_of OptionFits by None None
none_moved by = record { same = λ before buffer is. refl; within = λ limit fits. tt }

pub copy_moved : (by : ℕ) (c : Copied) → IsMoved copy_of CopyFits by (Some c) (Some (record { start = by + c.start; len = c.len }))
copy_moved by c = record {
  same = λ before buffer is. ap Some (behind_others before buffer by c.start c.len is);
  within = λ limit fits. omega (arith, fits);
}

pub no_copy_moved : (by : ℕ) → IsMoved copy_of CopyFits by None None
no_copy_moved by = record { same = λ before buffer is. refl; within = λ limit fits. tt }

pub piece_moved : (by : ℕ) (p : Piece) (text line_end : Span) → IsMoved bytes_of SpanFits by p.text text → IsMoved bytes_of SpanFits by p.line_end line_end
    → IsMoved piece_of PieceFits by p (record { text = text; line_end = line_end })
piece_moved by p text line_end m n = record {
  same = λ before buffer is. λ i. record { text = m.same before buffer is i; line_end = n.same before buffer is i };
  within = λ limit fits. (m.within limit fits.0, n.within limit fits.1);
}

-- a list whose elements were all put again
pub refilled : {A : Type 0} (xs ys : List A) → length ys ≡ length xs → refill (length xs) xs ys ≡ ys
refilled xs ys is =
    ap (λ n. take (length xs) (ys ++ drop n xs)) is ∙ ap (λ zs. take (length xs) (ys ++ zs)) (drop-length xs)
    ∙ ap (take (length xs)) (append-nil ys) ∙ ap (λ n. take n ys) (sym is) ∙ take-length ys

pub value_moved : (by : ℕ) (v moved : Value) → IsMoved pieces_of PiecesFit by v.pieces.items moved.pieces.items → IsMoved bytes_of SpanFits by v.last moved.last → IsMoved value_of ValueFits by v moved
value_moved by v moved m n = record {
  same = λ before buffer is. λ i. record { pieces = m.same before buffer is i; last = n.same before buffer is i };
  within = λ limit fits. (m.within limit fits.0, n.within limit fits.1);
}

pub continued_moved : (by : ℕ) (c moved : Continued) → IsMoved bytes_of SpanFits by c.blanks moved.blanks → IsMoved value_of ValueFits by c.value moved.value → IsMoved continued_of ContinuedFits by c moved
continued_moved by c moved m n = record {
  same = λ before buffer is. λ i. record { blanks = m.same before buffer is i; value = n.same before buffer is i };
  within = λ limit fits. (m.within limit fits.0, n.within limit fits.1);
}

pub nothing_moved : (by : ℕ) → IsMoved assigned_of AssignedFits by forms.Nothing forms.Nothing
nothing_moved by = record { same = λ before buffer is. refl; within = λ limit fits. tt }

pub plain_moved : (by : ℕ) (blanks value b v : Span) → IsMoved bytes_of SpanFits by blanks b → IsMoved bytes_of SpanFits by value v → IsMoved assigned_of AssignedFits by (forms.Plain blanks value) (forms.Plain b v)
plain_moved by blanks value b v m n = record {
  same = λ before buffer is. λ i. Some (record { blanks = m.same before buffer is i; value = record { pieces = []; last = n.same before buffer is i } });
  within = λ limit fits. (m.within limit fits.0, n.within limit fits.1);
}

pub continues_moved : (by : ℕ) (c moved : Continued) → IsMoved continued_of ContinuedFits by c moved → IsMoved assigned_of AssignedFits by (forms.Continued c) (forms.Continued moved)
continues_moved by c moved m = record {
  same = λ before buffer is. ap Some (m.same before buffer is);
  within = λ limit fits. m.within limit fits;
}

pub entry_moved : (by : ℕ) (e moved : EntryParts) → IsMoved bytes_of SpanFits by e.name moved.name → IsMoved bytes_of SpanFits by e.blanks moved.blanks
    → IsMoved assigned_of AssignedFits by e.assigned moved.assigned → IsMoved entry_of EntryFits by e moved
entry_moved by e moved m n a = record {
  same = λ before buffer is. λ i. record { name = m.same before buffer is i; blanks = n.same before buffer is i; assigned = a.same before buffer is i };
  within = λ limit fits. (m.within limit fits.0, n.within limit fits.1, a.within limit fits.2);
}

pub name_moved : (by : ℕ) (name moved : Span) (blanks : ℕ) → moved.start ≡ by + name.start → moved.len ≡ name.len
    → IsMoved entry_of EntryFits by (parts_in (held.Name name blanks)) (parts_in (held.Name moved blanks))
name_moved by name moved blanks start len =
    entry_moved by (parts_in (held.Name name blanks)) (parts_in (held.Name moved blanks)) (span_moved_to by _ _ start len)
    (span_moved_to by _ _ (omega (arith, start, len)) refl) (nothing_moved by)

pub line_moved : (by : ℕ) (l moved : Line) → moved ≡ record { start = by + l.start; name = l.name; before = l.before; behind = l.behind; value = l.value }
    → IsMoved entry_of EntryFits by (parts_in (held.Line l)) (parts_in (held.Line moved))
line_moved by l moved is =
    rw is (entry_moved by (parts_in (held.Line l)) (parts_in (held.Line (record { start = by + l.start; name = l.name; before = l.before; behind = l.behind; value = l.value })))
    (span_moved_to by _ _ refl refl) (span_moved_to by _ _ (omega arith) refl)
    (plain_moved by _ _ _ _ (span_moved_to by _ _ (omega arith) refl) (span_moved_to by _ _ (omega arith) refl)))

pub bare_moved : (by : ℕ) (l moved : Line) → moved ≡ record { start = by + l.start; name = l.name; before = l.before; behind = l.behind; value = l.value }
    → IsMoved entry_of EntryFits by (parts_in (held.Bare l)) (parts_in (held.Bare moved))
bare_moved by l moved is =
    rw is (entry_moved by (parts_in (held.Bare l)) (parts_in (held.Bare (record { start = by + l.start; name = l.name; before = l.before; behind = l.behind; value = l.value })))
    (span_moved_to by _ _ refl refl) (nowhere_moved by)
    (plain_moved by _ _ _ _ (nowhere_moved by) (span_moved_to by _ _ (omega arith) refl)))
  where
    nowhere : Span
    nowhere = record { start = 0; len = 0 }

    nowhere_moved : (by : ℕ) → IsMoved bytes_of SpanFits by nowhere nowhere
    nowhere_moved by = record { same = λ before buffer is. refl; within = λ limit fits. omega arith }

pub blanks_moved : (by : ℕ) (s t : Span) → IsMoved bytes_of SpanFits by s t → IsMoved item_of ItemFits by (items.Blanks s) (items.Blanks t)
blanks_moved by s t m = record { same = λ before buffer is. ap parts.BlanksItem (m.same before buffer is); within = m.within }

pub line_ends_moved : (by : ℕ) (s t : Span) → IsMoved bytes_of SpanFits by s t → IsMoved item_of ItemFits by (items.LineEnds s) (items.LineEnds t)
line_ends_moved by s t m = record { same = λ before buffer is. ap parts.LineEndsItem (m.same before buffer is); within = m.within }

pub comment_moved : (by tag : ℕ) (s t : Span) → IsMoved bytes_of SpanFits by s t → IsMoved item_of ItemFits by (items.Comment tag s) (items.Comment tag t)
comment_moved by tag s t m = record { same = λ before buffer is. ap (parts.CommentItem tag) (m.same before buffer is); within = m.within }

pub entry_item_moved : (by : ℕ) (e moved : EntryParts) → IsMoved entry_of EntryFits by e moved → IsMoved item_of ItemFits by (items.Entry e) (items.Entry moved)
entry_item_moved by e moved m = record { same = λ before buffer is. ap parts.EntryItem (m.same before buffer is); within = m.within }

pub ruleset moving = (
  refilled,
  span_moved,
  some_moved,
  none_moved,
  copy_moved,
  no_copy_moved,
  piece_moved,
  value_moved,
  continued_moved,
  nothing_moved,
  plain_moved,
  continues_moved,
  entry_moved,
  name_moved,
  line_moved,
  bare_moved,
  blanks_moved,
  line_ends_moved,
  comment_moved,
  entry_item_moved,
)

-- The first elements were changed, and the others are as they were.
abbrev pub AreChanged : {A : Type 0} → (change : A → A → Type 0) → (count : ℕ) → (old new : List A) → Type 0
AreChanged change zero old new = new ≡ old
AreChanged change (suc count) [] new = new ≡ []
AreChanged change (suc count) (x ∷ old) [] = ⊥
AreChanged change (suc count) (x ∷ old) (y ∷ new) = change x y × AreChanged change count old new

module _ {A : Type 0} (change : A → A → Type 0) where
  -- the next one is as it was
  pub next_same : (count : ℕ) (old new : List A) (d : A) → AreChanged change count old new → get_or new count d ≡ get_or old count d
  next_same zero old new d are = ap (λ xs. get_or xs 0 d) are
  next_same (suc count) [] new d are = ap (λ xs. get_or xs (suc count) d) are
  next_same (suc count) (x ∷ old) [] d are = elim are [ ]
  next_same (suc count) (x ∷ old) (y ∷ new) d are = next_same count old new d are.1

  -- it is changed
  pub next_changed : (count : ℕ) (old new : List A) (d z : A) → AreChanged change count old new → count < length old → d ≡ get_or old count d → change d z → AreChanged change (suc count) old (set new count z)
  next_changed count [] new d z are within is changed = absurd (omega (arith, within))
  next_changed zero (x ∷ old) new d z are within is changed =
      subst (λ xs. AreChanged change 1 (x ∷ old) (set xs 0 z)) (sym are) (subst (λ w. change w z) is changed, refl)
  next_changed (suc count) (x ∷ old) [] d z are within is changed = elim are [ ]
  next_changed (suc count) (x ∷ old) (y ∷ new) d z are within is changed = (are.0, next_changed count old new d z are.1 (omega (arith, within)) is changed)

  pub changed_length : (count : ℕ) (old new : List A) → AreChanged change count old new → length new ≡ length old
  changed_length zero old new are = ap length are
  changed_length (suc count) [] new are = ap length are
  changed_length (suc count) (x ∷ old) [] are = elim are [ ]
  changed_length (suc count) (x ∷ old) (y ∷ new) are = ap suc (changed_length count old new are.1)

-- all were moved
pub all_moved : {A B : Type 0} (says : List ℕ → A → B) (ends : ℕ → A → Type 0) (by : ℕ) (old new : List A) → AreChanged (IsMoved says ends by) (length old) old new
    → IsMoved (λ buffer. map (says buffer)) (λ limit. AllByRecursion (ends limit)) by old new
all_moved says ends by [] new are = rw are (record { same = λ before buffer is. refl; within = λ limit fits. tt })
all_moved says ends by (x ∷ old) [] are = elim are [ ]
all_moved says ends by (x ∷ old) (y ∷ new) are =
    let others = all_moved says ends by old new are.1 in
    record {
      same = λ before buffer is. λ i. are.0.same before buffer is i ∷ others.same before buffer is i;
      within = λ limit fits. (are.0.within limit fits.0, others.within limit fits.1);
    }

-- what holds of all holds of the one at a place
pub all_at : {A : Type 0} (P : A → Type 0) (xs : List A) (at : ℕ) (d : A) → at < length xs → d ≡ get_or xs at d → AllByRecursion P xs → P d
all_at P [] at d within is all = absurd (omega (arith, within))
all_at P (x ∷ xs) zero d within is all = subst P (sym is) all.0
all_at P (x ∷ xs) (suc at) d within is all = all_at P xs at d (omega (arith, within)) is all.1

-- an element that is put twice
pub set_twice : {A : Type 0} (xs : List A) (at : ℕ) (x y : A) → set (set xs at x) at y ≡ set xs at y
set_twice [] at x y = refl
set_twice (z ∷ xs) zero x y = refl
set_twice (z ∷ xs) (suc at) x y = ap (λ ys. z ∷ ys) (set_twice xs at x y)
