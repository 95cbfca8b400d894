use Rattle.std.proofs.Common.{◌∙◌, length, refl, subst, sym}
use Rattle.gitconf_items.specs.ItemsFit.{AreItemsWithin}
use Rattle.gitconf_views.specs.Loading.{IsLoading}
use Rattle.gitconf_store.proofs.Texts.Parsed.{read_state}
use Rattle.gitconf_store.proofs.store.Store.of_text.Goals as goal

pub read_sections-requires-clause-keeps : goal.read_sections-requires-clause-keeps
read_sections-requires-clause-keeps c =
    let l = c.in_ok-loading.loading in
    let b = c.deref-2.result.now in
    (l, (refl, subst (λ m. IsLoading b m l.copies.items l.sections) (sym c.in_ok-loading.ensures.meta) (c.in_ok-loading.ensures.loading b)))

pub of_loading-requires-clause-front : goal.of_loading-requires-clause-front
of_loading-requires-clause-front c = subst (λ b. AreItemsWithin (length b) c.in_ok-front.front.items) c.deref-2.ensures.value c.in_ok-front.ensures.within

pub of_loading-requires-clause-loading : goal.of_loading-requires-clause-loading
of_loading-requires-clause-loading c =
    let l = c.in_ok-loading.loading in
    let b = c.deref-2.result.now in
    let n = c.read_sections.new.sections in
    let first = subst (λ m. IsLoading b m l.copies.items l.sections) (sym c.in_ok-loading.ensures.meta) (c.in_ok-loading.ensures.loading b) in
    subst (λ b. IsLoading b n.meta.value n.copies.items n.sections) c.deref-2.ensures.value (c.in_ok-front.ensures.keeps l (refl, first)).1

pub of_loading-requires-clause-items : goal.of_loading-requires-clause-items
of_loading-requires-clause-items c =
    let l = c.in_ok-loading.loading in
    let b = c.deref-2.result.now in
    let n = c.read_sections.new.sections in
    let first = subst (λ m. IsLoading b m l.copies.items l.sections) (sym c.in_ok-loading.ensures.meta) (c.in_ok-loading.ensures.loading b) in
    let kept = c.in_ok-front.ensures.keeps l (refl, first) in
    (read_state c.args.keep c.args.text.items b c.in_ok-front.front.items c.args.meta.value n.meta.value n.copies.items n.sections _ c.deref-2.ensures.value (kept.0 ∙ c.in_ok-loading.ensures.meta)
    c.in_ok-front.ensures.found kept.1 refl).items

pub returns-clause-made : goal.returns-clause-made
returns-clause-made c =
    let l = c.in_ok-loading.loading in
    let b = c.deref-2.result.now in
    let n = c.read_sections.new.sections in
    let first = subst (λ m. IsLoading b m l.copies.items l.sections) (sym c.in_ok-loading.ensures.meta) (c.in_ok-loading.ensures.loading b) in
    let kept = c.in_ok-front.ensures.keeps l (refl, first) in
    (read_state c.args.keep c.args.text.items b c.in_ok-front.front.items c.args.meta.value n.meta.value n.copies.items n.sections c.of_loading.result c.deref-2.ensures.value (kept.0 ∙ c.in_ok-loading.ensures.meta)
    c.in_ok-front.ensures.found kept.1 c.of_loading.ensures).made
