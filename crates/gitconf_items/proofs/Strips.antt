-- What is left of an entry without the blanks and the line endings in it.
use Rattle.std.proofs.Common.{◌≡◌, ℕ, List, [], ◌∷◌, ◌++◌, length, map, Some, None, refl, ap, sym, subst, ◌∙◌, arith, append_assoc}
use Rattle.std.specs.Prelude.{filter, Option}
use Rattle.std.specs.List.{flat_map, AllByRecursion}
use Rattle.std.specs.Option.{option_map}
use Rattle.gitconf_text.specs.Part as parts
use Rattle.gitconf_text.specs.Value as grammar
use Rattle.gitconf_text.specs.Token.{Token, NameToken, SeparatorToken, ValueToken, WhitespaceToken, NewlineToken, ValueNotDoneToken, ValueDoneToken, filled, piece_tokens, value_tokens, item_tokens}
use Rattle.gitconf_items.specs.declared.event.Span.{Span}
use Rattle.gitconf_items.specs.declared.entry.Assigned.TheVariants as forms
use Rattle.gitconf_items.specs.declared.entry.Continued.{Continued}
use Rattle.gitconf_items.specs.declared.entry.EntryParts.{EntryParts}
use Rattle.gitconf_items.specs.declared.entry.Line.{Line}
use Rattle.gitconf_items.specs.declared.entry.Form.TheVariants as held
use Rattle.gitconf_items.specs.declared.entry.Piece.{Piece}
use Rattle.gitconf_items.specs.Events.{bytes_of, SpanFits}
use Rattle.gitconf_items.specs.EventList.{keeps_token}
use Rattle.gitconf_items.specs.Items.{piece_of, assigned_of, entry_of}
use Rattle.gitconf_items.specs.ItemsFit.{PieceFits, AssignedFits, EntryFits}
use Rattle.gitconf_items.specs.Forms.{parts_in}
use Rattle.gitconf_items.specs.Moves.{continued_of, pieces_of, ContinuedFits, PiecesFit}
use Rattle.gitconf_items.specs.Stripped.{stripped_piece, stripped_assigned, stripped_entry, IsStripped}
use Rattle.gitconf_items.specs.TokenDocument.{keeps_meaning}
use Rattle.gitconf_items.proofs.Moves.{refilled, AreChanged}

-- no bytes
abbrev nothing : Span
nothing = record { start = 0; len = 0 }

pub piece_stripped : (p : Piece) → IsStripped piece_of stripped_piece PieceFits p (record { text = p.text; line_end = nothing })
piece_stripped p = record { same = λ buffer. refl; within = λ limit fits. (fits.0, omega arith) }

pub continued_stripped : (c new : Continued) → new.blanks ≡ nothing → IsStripped pieces_of (map stripped_piece) PiecesFit c.value.pieces.items new.value.pieces.items → new.value.last ≡ c.value.last
    → IsStripped continued_of stripped_assigned ContinuedFits c new
continued_stripped c new blanks m last = record {
  same = λ buffer. λ i. record { blanks = bytes_of buffer (blanks i); value = record { pieces = m.same buffer i; last = bytes_of buffer (last i) } };
  within = λ limit fits. (
    subst (SpanFits limit) (sym blanks) (omega arith),
    (m.within limit fits.1.0, subst (SpanFits limit) (sym last) fits.1.1),
  );
}

pub nothing_stripped : IsStripped assigned_of (option_map stripped_assigned) AssignedFits forms.Nothing forms.Nothing
nothing_stripped = record { same = λ buffer. refl; within = λ limit fits. tt }

pub plain_stripped : (blanks value : Span) → IsStripped assigned_of (option_map stripped_assigned) AssignedFits (forms.Plain blanks value) (forms.Plain nothing value)
plain_stripped blanks value = record { same = λ buffer. refl; within = λ limit fits. (omega arith, fits.1) }

pub continues_stripped : (c new : Continued) → IsStripped continued_of stripped_assigned ContinuedFits c new
    → IsStripped assigned_of (option_map stripped_assigned) AssignedFits (forms.Continued c) (forms.Continued new)
continues_stripped c new m = record { same = λ buffer. ap Some (m.same buffer); within = λ limit fits. m.within limit fits }

pub parts_stripped : (e new : EntryParts) → new.name ≡ e.name → new.blanks ≡ nothing → IsStripped assigned_of (option_map stripped_assigned) AssignedFits e.assigned new.assigned
    → IsStripped entry_of stripped_entry EntryFits e new
parts_stripped e new name blanks a = record {
  same = λ buffer. λ i. record { name = bytes_of buffer (name i); blanks = bytes_of buffer (blanks i); assigned = a.same buffer i };
  within = λ limit fits. (
    subst (SpanFits limit) (sym name) fits.0,
    subst (SpanFits limit) (sym blanks) (omega arith),
    a.within limit fits.2,
  );
}

pub name_stripped : (name : Span) (blanks : ℕ) → IsStripped entry_of stripped_entry EntryFits (parts_in (held.Name name blanks)) (parts_in (held.Name name 0))
name_stripped name blanks = record { same = λ buffer. refl; within = λ limit fits. (let f = fits.0 in (f, omega (arith, f), tt)) }

pub line_stripped : (l : Line) → IsStripped entry_of stripped_entry EntryFits (parts_in (held.Line l)) (parts_in (held.Bare l))
line_stripped l = record { same = λ buffer. refl; within = λ limit fits. (fits.0, omega arith, (omega arith, fits.2.1)) }

pub bare_stripped : (l : Line) → IsStripped entry_of stripped_entry EntryFits (parts_in (held.Bare l)) (parts_in (held.Bare l))
bare_stripped l = record { same = λ buffer. refl; within = λ limit fits. fits }

pub ruleset stripping = (
  refilled,
  piece_stripped,
  continued_stripped,
  nothing_stripped,
  plain_stripped,
  continues_stripped,
  parts_stripped,
  name_stripped,
  line_stripped,
  bare_stripped,
)

-- all were stripped
pub all_stripped : {A B : Type 0} (says : List ℕ → A → B) (strip : B → B) (ends : ℕ → A → Type 0) (old new : List A) → AreChanged (IsStripped says strip ends) (length old) old new
    → IsStripped (λ buffer. map (says buffer)) (map strip) (λ limit. AllByRecursion (ends limit)) old new
all_stripped says strip ends [] new are = rw are (record { same = λ buffer. refl; within = λ limit fits. tt })
all_stripped says strip ends (x ∷ old) [] are = elim are [ ]
all_stripped says strip ends (x ∷ old) (y ∷ new) are =
    let others = all_stripped says strip ends old new are.1 in
    record {
      same = λ buffer. λ i. are.0.same buffer i ∷ others.same buffer i;
      within = λ limit fits. (are.0.within limit fits.0, others.within limit fits.1);
    }

-- the tokens that have a meaning
abbrev pub meant : List Token → List Token
meant tokens = filter (keeps_token keeps_meaning) tokens

no_blanks : (bytes : List ℕ) (behind : List Token) → meant (filled WhitespaceToken bytes ++ behind) ≡ meant behind
no_blanks [] behind = refl
no_blanks (b ∷ bytes) behind = refl

no_line_end : (bytes : List ℕ) (behind : List Token) → meant (filled NewlineToken bytes ++ behind) ≡ meant behind
no_line_end [] behind = refl
no_line_end (b ∷ bytes) behind = refl

pieces_meant : (pieces : List grammar.Piece) (behind : List Token) → meant (flat_map piece_tokens pieces ++ behind) ≡ flat_map piece_tokens (map stripped_piece pieces) ++ meant behind
pieces_meant [] behind = refl
pieces_meant (p ∷ pieces) behind =
    ap meant (append_assoc (piece_tokens p) (flat_map piece_tokens pieces) behind)
    ∙ ap (λ t. ValueNotDoneToken p.text ∷ t) (no_line_end p.line_end (flat_map piece_tokens pieces ++ behind) ∙ pieces_meant pieces behind)

value_meant : (pieces : List grammar.Piece) (last : List ℕ) → meant (value_tokens pieces last) ≡ value_tokens (map stripped_piece pieces) last
value_meant [] last = refl
value_meant (p ∷ pieces) last = pieces_meant (p ∷ pieces) (ValueDoneToken last ∷ [])

-- An entry that is stripped has the tokens of the whole one that have a meaning.
entry_meant : (e : parts.Entry) → item_tokens (parts.EntryItem (stripped_entry e)) ≡ meant (item_tokens (parts.EntryItem e))
entry_meant e = go e.assigned
  where
    go : (a : Option parts.Assigned) → item_tokens (parts.EntryItem (stripped_entry (record { name = e.name; blanks = e.blanks; assigned = a }))) ≡ meant (item_tokens (parts.EntryItem (record { name = e.name; blanks = e.blanks; assigned = a })))
    go None = ap (λ t. NameToken e.name ∷ t) (sym (no_blanks e.blanks (ValueToken [] ∷ [])))
    go (Some a) =
        let behind = filled WhitespaceToken a.blanks ++ value_tokens a.value.pieces a.value.last in
        ap (λ t. NameToken e.name ∷ t) (sym (no_blanks e.blanks (SeparatorToken ∷ behind)
        ∙ ap (λ t. SeparatorToken ∷ t) (no_blanks a.blanks (value_tokens a.value.pieces a.value.last) ∙ value_meant a.value.pieces a.value.last)))

pub key_and_meaning : (buffer : List ℕ) (e new : EntryParts) → IsStripped entry_of stripped_entry EntryFits e new → item_tokens (parts.EntryItem (entry_of buffer new)) ≡ meant (item_tokens (parts.EntryItem (entry_of buffer e)))
key_and_meaning buffer e new m = ap (λ e. item_tokens (parts.EntryItem e)) (m.same buffer) ∙ entry_meant (entry_of buffer e)
