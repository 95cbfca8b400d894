use Rattle.std.proofs.Common.{◌≡◌, ◌∙◌, ◌++◌, [], ap, append-nil, inl, inr, map, sym}
use Rattle.std.specs.Iterator.Adapters.{zip_first, zip_second}
use Rattle.std.specs.Option.{option_map}
use Rattle.std.specs.Slice.Iter.{iter_rest}
use Rattle.std.proofs.lemmas.List.{nil_from_length}
use Rattle.bstr.specs.Owned.{bstring_bytes}
use Rattle.gixcfg_commands.specs.Meant.{marks_with}
use Rattle.gixcfg_commands.proofs.MeantLemmas.{none_left, none_with}
use Rattle.gixcfg_commands.proofs.meant.marks_of_entries.Goals as goal

pub returns : goal.returns
returns c =
    let values = iter_rest (zip_first c.loop-value.value-iterator) in
    let marks = iter_rest (zip_second c.loop-value.value-iterator) in
    let nothing : marks_with c.args.is_missing_meant (map (option_map bstring_bytes) values) marks ≡ []
    = elim c.in-None.ensures.steps [
      | inl end ↦ none_with c.args.is_missing_meant (map (option_map bstring_bytes) values) marks (ap (map (option_map bstring_bytes)) (nil_from_length values end.1.0))
      | inr end ↦ none_left c.args.is_missing_meant (map (option_map bstring_bytes) values) marks (nil_from_length marks end.1.0)
    ] in
    sym (append-nil c.loop-value.all.items) ∙ ap (λ ms. c.loop-value.all.items ++ ms) (sym nothing) ∙ c.loop-value.invariant
