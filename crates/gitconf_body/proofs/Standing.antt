-- Items that stand in a buffer stand there still when it grows.
use Rattle.std.proofs.Common.{◌≡◌, ℕ, List, [], ◌∷◌, ◌++◌, length, Some, refl, ap, sym, subst, ◌∙◌}
use Rattle.std.proofs.lemmas.List.{map-append}
use Rattle.gitconf_text.specs.Part as parts
use Rattle.gitconf_items.specs.declared.event.Span.{Span}
use Rattle.gitconf_items.specs.declared.items.Item.{Item}
use Rattle.gitconf_items.specs.declared.items.Item.TheVariants as items
use Rattle.gitconf_items.specs.declared.entry.EntryParts.{EntryParts as Entry}
use Rattle.gitconf_items.specs.Events.{bytes_of, SpanFits}
use Rattle.gitconf_items.specs.Items.{entry_of, item_of, items_of}
use Rattle.gitconf_items.specs.ItemsFit.{AreItemsWithin, EntryFits, ItemFits}
use Rattle.gitconf_items.specs.ShownEvents.{IsExtended}
use Rattle.gitconf_body.specs.Buffers.{StandsAt}
use Rattle.gitconf_body.specs.Editors.{around_in, AroundFits}
use Rattle.gitconf_body.specs.Standing.{Stand}
use Rattle.gitconf_body.specs.declared.editor.Around.{Around}
use Rattle.gitconf_body.specs.declared.editor.Around.TheVariants as arounds
use Rattle.gitconf_body.proofs.Buffers.{stands_more, extended_fit, extended_items}
use Rattle.gitconf_body.proofs.EntryLemmas.{all_both}

pub none_stand : (buffer : List ℕ) → Stand buffer [] []
none_stand buffer = record { shown_are = refl; within = tt }

pub blanks_stand : (buffer : List ℕ) (s : Span) (run : List ℕ) → StandsAt buffer s run → Stand buffer (items.Blanks s ∷ []) (parts.BlanksItem run ∷ [])
blanks_stand buffer s run stands = record { shown_are = ap (λ b. parts.BlanksItem b ∷ []) stands.is; within = (stands.fits, tt) }

pub line_ends_stand : (buffer : List ℕ) (s : Span) (run : List ℕ) → StandsAt buffer s run → Stand buffer (items.LineEnds s ∷ []) (parts.LineEndsItem run ∷ [])
line_ends_stand buffer s run stands = record { shown_are = ap (λ b. parts.LineEndsItem b ∷ []) stands.is; within = (stands.fits, tt) }

pub comment_stands : (buffer : List ℕ) (s t : Span) (run text : List ℕ) → StandsAt buffer s run → StandsAt buffer t text
    → Stand buffer (items.Blanks s ∷ items.Comment 35 t ∷ []) (parts.BlanksItem run ∷ parts.CommentItem 35 text ∷ [])
comment_stands buffer s t run text first second = record {
  shown_are = λ i. parts.BlanksItem (first.is i) ∷ parts.CommentItem 35 (second.is i) ∷ [];
  within = (first.fits, (second.fits, tt));
}

-- An entry of a value that has one piece.
pub entry_stands : (buffer : List ℕ) (e : Entry) (name before behind value : Span) (key first second text : List ℕ)
    → entry_of buffer e ≡ record {
      name = bytes_of buffer name;
      blanks = bytes_of buffer before;
      assigned = Some (record { blanks = bytes_of buffer behind; value = record { pieces = []; last = bytes_of buffer value } });
    }
    → ((limit : ℕ) → SpanFits limit name → SpanFits limit before → SpanFits limit behind → SpanFits limit value → EntryFits limit e)
    → StandsAt buffer name key → StandsAt buffer before first → StandsAt buffer behind second → StandsAt buffer value text
    → Stand buffer (items.Entry e ∷ [])
    (parts.EntryItem (record { name = key; blanks = first; assigned = Some (record { blanks = second; value = record { pieces = []; last = text } }) }) ∷ [])
entry_stands buffer e name before behind value key first second text told fits n b h v = record {
  shown_are = ap (λ e. parts.EntryItem e ∷ []) (told
      ∙ (λ i. record { name = n.is i; blanks = b.is i; assigned = Some (record { blanks = h.is i; value = record { pieces = []; last = v.is i } }) }));
  within = (fits (length buffer) n.fits b.fits h.fits v.fits, tt);
}

-- in a buffer with more bytes
pub stand_more : (old new : List ℕ) (is : List Item) (shown : List parts.Item) → IsExtended old new → Stand old is shown → Stand new is shown
stand_more old new is shown grown stand = record {
  shown_are = extended_items old new is grown stand.within ∙ stand.shown_are;
  within = extended_fit old new is grown stand.within;
}

-- some behind others
pub stand_both : (buffer : List ℕ) (is js : List Item) (shown others : List parts.Item) → Stand buffer is shown → Stand buffer js others
    → Stand buffer (is ++ js) (shown ++ others)
stand_both buffer is js shown others first second = record {
  shown_are = map-append (item_of buffer) is js ∙ (λ i. first.shown_are i ++ second.shown_are i);
  within = all_both (ItemFits (length buffer)) is js first.within second.within;
}

-- the blanks around `=` stay
pub around_fits_more : (old new : List ℕ) (a : Around) → IsExtended old new → AroundFits (length old) a → AroundFits (length new) a
around_fits_more old new arounds.Spaces grown fits = tt
around_fits_more old new (arounds.Given before behind) grown fits = tt
around_fits_more old new (arounds.Stored before behind) grown fits =
    ((stands_more old new before _ grown (record { fits = fits.0; is = refl })).fits, (stands_more old new behind _ grown (record { fits = fits.1; is = refl })).fits)

pub around_more : (old new : List ℕ) (a : Around) → IsExtended old new → AroundFits (length old) a → around_in new a ≡ around_in old a
around_more old new arounds.Spaces grown fits = refl
around_more old new (arounds.Given before behind) grown fits = refl
around_more old new (arounds.Stored before behind) grown fits =
    λ i. ((stands_more old new before _ grown (record { fits = fits.0; is = refl })).is i, (stands_more old new behind _ grown (record { fits = fits.1; is = refl })).is i)

pub ruleset standing = (none_stand, blanks_stand, line_ends_stand, comment_stands, stand_more, stand_both, around_fits_more)

-- items behind those of a body, in a buffer that grew
pub pushed_stand : (old new : List ℕ) (is js ks : List Item) (shown : List parts.Item) → IsExtended old new → AreItemsWithin (length old) is → Stand new js shown
    → ks ≡ is ++ js → Stand new ks (items_of old is ++ shown)
pushed_stand old new is js ks shown grown within stand made =
    subst (λ t. Stand new t (items_of old is ++ shown)) (sym made)
    (stand_both new is js (items_of old is) shown (stand_more old new is (items_of old is) grown (record { shown_are = refl; within = within })) stand)
