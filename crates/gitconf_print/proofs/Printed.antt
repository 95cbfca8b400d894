-- What is written of a section is what its state prints.
use Rattle.std.proofs.Common.{◌≡◌, ℕ, true, false, List, [], ◌∷◌, ◌++◌, map, refl, ap, ◌∙◌}
use Rattle.std.specs.Prelude.{flat_map}
use Rattle.std.proofs.lemmas.Grind.{flat_map-append}
use Rattle.std.proofs.lemmas.List.Folds.{flat_map-map}
use Rattle.gitconf_text.specs.Header.{spelled_header}
use Rattle.gitconf_text.specs.Part.{Item, ItemPart, spelled_item, spelled_part, spelled}
use Rattle.gitconf_state.specs.State.{SectionState}
use Rattle.gitconf_state.specs.LineEnds.{section_line_end, ends_line}
use Rattle.gitconf_state.specs.Printing.{printed_items, unless, behind_header, printed_body, held_items, ends_with_line, printed_section}
use Rattle.gitconf_state.proofs.Printing.Written.{items_written}
use Rattle.gitconf_print.specs.LineEnds.{both_end_line}
use Rattle.gitconf_print.specs.Texts.{section_text, held_text}

-- items as parts are spelled as items
pub spelled-items : (items : List Item) → spelled (map ItemPart items) ≡ flat_map spelled_item items
spelled-items items = flat_map-map spelled_part ItemPart items

pub printed_section-is : (s : SectionState) → printed_section s ≡ section_text s.header s.items
printed_section-is s =
    let line_end = section_line_end s in
    ap (λ t. spelled_header s.header ++ t)
    (spelled-items (printed_body s) ∙ (flat_map-append spelled_item (behind_header line_end s.items) (printed_items true line_end [] s.items)
    ∙ ap (λ is. flat_map spelled_item (behind_header line_end s.items) ++ flat_map spelled_item is) (items_written true line_end s.items)))

held_text-is : (line_end : List ℕ) (s : SectionState) (held : List Item) → s.held ≡ held
    → flat_map spelled_item (held_items line_end s) ≡ held_text line_end s.items held
held_text-is line_end s [] is = rw is refl
held_text-is line_end s (i ∷ held) is =
    rw is (flat_map-append spelled_item (unless (ends_line line_end s.items) line_end) (printed_items false line_end [] (i ∷ held))
    ∙ ap (λ is. flat_map spelled_item (unless (ends_line line_end s.items) line_end) ++ flat_map spelled_item is) (items_written false line_end (i ∷ held)))

pub held_items-text : (line_end : List ℕ) (s : SectionState) → flat_map spelled_item (held_items line_end s) ≡ held_text line_end s.items s.held
held_items-text line_end s = held_text-is line_end s s.held refl

both_end_line-is : (line_end : List ℕ) (s : SectionState) (held : List Item) → s.held ≡ held → ends_with_line line_end s ≡ both_end_line line_end s.items held
both_end_line-is line_end s [] is = rw is refl
both_end_line-is line_end s (i ∷ held) is = rw is refl

pub ends_with_line-both : (line_end : List ℕ) (s : SectionState) → ends_with_line line_end s ≡ both_end_line line_end s.items s.held
ends_with_line-both line_end s = both_end_line-is line_end s s.held refl
