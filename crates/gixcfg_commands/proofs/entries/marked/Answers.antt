use Rattle.std.proofs.Common.{◌≡◌, ◌++◌, [], map, ap, sym, ◌∙◌, append-nil, inl, inr}
use Rattle.std.specs.Iterator.Adapters.{zip_first, zip_second}
use Rattle.std.specs.Slice.Iter.{iter_rest}
use Rattle.std.specs.Vec.Iter.{into_iter_items}
use Rattle.std.proofs.lemmas.List.{nil_from_length}
use Rattle.gixcfg_core.specs.Entries.{plain_found}
use Rattle.gixcfg_commands.specs.Entries.{marked}
use Rattle.gixcfg_commands.proofs.Marking.{none_marked}
use Rattle.gixcfg_commands.proofs.entries.marked.Goals as goal

pub returns : goal.returns
returns c =
    let marks = iter_rest (zip_second c.loop-entry.entry-iterator) in
    let left = into_iter_items (zip_first c.loop-entry.entry-iterator) in
    let nothing : marked marks (map plain_found left) ≡ []
    = elim c.in-None.ensures.steps [
      | inl end ↦ none_marked marks (map plain_found left) (ap (map plain_found) (nil_from_length left (sym c.loop-entry.entry-iterator.a.rest.ok.0 ∙ end.1.0)))
      | inr end ↦ ap (λ ms. marked ms (map plain_found left)) (nil_from_length marks end.1.0)
    ] in
    sym (append-nil (map plain_found c.loop-entry.found.items)) ∙ ap (λ fs. map plain_found c.loop-entry.found.items ++ fs) (sym nothing) ∙ c.loop-entry.invariant
