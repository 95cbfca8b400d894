use Rattle.std.proofs.Common.{◌∙◌, refl, subst, sym}
use Rattle.gitconf_items.proofs.GroupLaws.{selected_items}
use Rattle.gitconf_views.specs.Loading.{IsLoading}
use Rattle.gitconf_state.specs.Made.{IsMade}
use Rattle.gitconf_store.proofs.Texts.Parsed.{read_made, selected_clean, selected_document, selected_sound, whole_clean, whole_exact, whole_inserted}
use Rattle.gitconf_store.proofs.store.Store.from_events.Goals as goal

pub into_sections-requires-clause-entries : goal.into_sections-requires-clause-entries
into_sections-requires-clause-entries c = let s = c.keeps_entries.ensures.text in selected_items s.0 c.args.events s.1 c.requires

pub into_sections-requires-clause-keeps : goal.into_sections-requires-clause-keeps
into_sections-requires-clause-keeps c = λ buffer.
    let l = c.new-loading.result in
    (l, (refl, subst (λ m. IsLoading buffer m l.copies.items l.sections) (sym c.new-loading.ensures.meta) (c.new-loading.ensures.loading buffer)))

pub of_loading-requires-clause-loading : goal.of_loading-requires-clause-loading
of_loading-requires-clause-loading c =
    let l = c.new-loading.result in
    let b = c.in_ok-buffer.buffer.items in
    (c.in_ok-buffer.ensures.keeps l (refl, subst (λ m. IsLoading b m l.copies.items l.sections) (sym c.new-loading.ensures.meta) (c.new-loading.ensures.loading b))).1

pub of_loading-requires-clause-items : goal.of_loading-requires-clause-items
of_loading-requires-clause-items c =
    let l = c.new-loading.result in
    let n = c.into_sections.new.sections in
    let b = c.in_ok-buffer.buffer.items in
    let kept = c.in_ok-buffer.ensures.keeps l (refl, subst (λ m. IsLoading b m l.copies.items l.sections) (sym c.new-loading.ensures.meta) (c.new-loading.ensures.loading b)) in
    let s = c.keeps_entries.ensures.text in
    selected_sound s.0 c.args.events n.meta.value s.1 c.requires _
    (read_made c.args.events b c.in_ok-buffer.front.items n.meta.value n.meta.value n.copies.items n.sections refl c.in_ok-buffer.ensures.used c.in_ok-buffer.ensures.tokens kept.1)

pub returns-clause-made : goal.returns-clause-made
returns-clause-made c =
    let l = c.new-loading.result in
    let n = c.into_sections.new.sections in
    let b = c.in_ok-buffer.buffer.items in
    let kept = c.in_ok-buffer.ensures.keeps l (refl, subst (λ m. IsLoading b m l.copies.items l.sections) (sym c.new-loading.ensures.meta) (c.new-loading.ensures.loading b)) in
    subst (λ s. IsMade c.args.events.tokens c.args.meta.value c.args.events.used s) (sym c.of_loading.ensures)
    (read_made c.args.events b c.in_ok-buffer.front.items c.args.meta.value n.meta.value n.copies.items n.sections (kept.0 ∙ c.new-loading.ensures.meta)
    c.in_ok-buffer.ensures.used c.in_ok-buffer.ensures.tokens kept.1)

pub returns-clause-document : goal.returns-clause-document
returns-clause-document c = λ text is. selected_document text c.args.events c.args.meta.value is c.requires _ (returns-clause-made c)

pub returns-clause-clean : goal.returns-clause-clean
returns-clause-clean c = let s = c.keeps_entries.ensures.text in selected_clean s.0 c.args.events c.args.meta.value s.1 c.requires _ (returns-clause-made c)

pub returns-clause-whole_clean : goal.returns-clause-whole_clean
returns-clause-whole_clean c = λ text is. whole_clean text c.args.events c.args.meta.value is _ (returns-clause-made c)

pub returns-clause-inserted : goal.returns-clause-inserted
returns-clause-inserted c = λ text parts is. whole_inserted text c.args.events c.args.meta.value is _ (returns-clause-made c) parts

pub returns-clause-byte_for_byte : goal.returns-clause-byte_for_byte
returns-clause-byte_for_byte c = λ text parts is. whole_exact text c.args.events c.args.meta.value is _ (returns-clause-made c) parts
