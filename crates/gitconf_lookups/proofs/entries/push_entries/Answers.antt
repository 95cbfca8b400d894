use Rattle.std.proofs.Common.{rules, ◌≡◌, ◌++◌, true, [], ◌∷◌, map, ap, ◌∙◌}
use Rattle.std.proofs.lemmas.List.{map-append}
use Rattle.gitconf_text.specs.Document.{document_entry}
use Rattle.gitconf_text.specs.Names.{is_same_name}
use Rattle.gitconf_items.specs.declared.items.Item.TheVariants as kinds
use Rattle.gitconf_items.specs.Items.{entry_of}
use Rattle.gitconf_views.specs.declared.section.SectionRef.{SectionRef}
use Rattle.gitconf_lookups.specs.Finding.{Place, place_of, places_in}
use Rattle.gitconf_views.specs.Views.{shown}
use Rattle.gitconf_lookups.proofs.Placing.{first_entry, taken_more}
use Rattle.gitconf_lookups.proofs.entries.push_entries.Goals as goal

pub loop-item-preserved-in_ok-put : goal.loop-item-preserved-in_ok-put
loop-item-preserved-in_ok-put c =
    let s = c.args.section.now in
    let b = s.buffer.now in
    let key = c.args.key.now in
    let e = c.in-Entry.entry in
    let place : Place = (shown s, document_entry (entry_of b e)) in
    let before = map place_of c.args.found.now.items in
    let found = map place_of c.loop-item.found.items in
    let more = map place_of c.put.new.list.items in
    let is : c.loop-item.rest.now ≡ kinds.Entry e ∷ c.in-Some.behind.now = search rules in
    let same : is_same_name key (entry_of b e).name ≡ true = search rules in
    let put : more ≡ found ++ place ∷ [] =
    ap (map place_of) c.in_ok-put.ensures.ok ∙ map-append place_of c.loop-item.found.items _ ∙ ap (λ (v : SectionRef). found ++ (shown v, document_entry (entry_of v.buffer.now e)) ∷ []) c.copied.ensures in
    taken_more before found more _ _ (places_in key (shown s)) place c.loop-item.invariant (first_entry b key (shown s) c.loop-item.rest.now c.in-Some.behind.now e is same) put
