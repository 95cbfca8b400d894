-- An empty handle is null, and owns nothing but the heap, which has no bytes.
use Rattle.gix_config_c.proofs.Steps.{◌≡◌, List, [], ◌∷◌, ◌++◌, refl, sym, subst, Val, vnull, SProp, ent, emp, id⊢, ftrue, WpFn, ‵, raw, ◌⊛◌, ◌$◌, ◌∵◌, !, qed, by, move, keep, split, fsplit, fjoin, suffices, use0, lit, no_more, and_then, returns, enter, alloc_all, pass_all, free_all, look_at, get, sets, agg, fact, fact_i, tables, owns, types_at, plain, null_ptr, nothing, Stays, stay_dropped, walk_of, Goes-dropped, Option, None, handle_tells, proved_at, leaves, lit<}
use Rattle.gix_config_c.proofs.Words.{Heap, the_heap, two, two_fit}
use Rattle.gix_config_c.proofs.Owners.{Object, empty_made}
use Rattle.gix_config_c.specs.contracts.slot.Slot.empty as f
use Rattle.gix_config_c.proofs.slot.Slot.empty.Statement.{statement}
use Rattle.gix_config_c.proofs.slot.Slot.empty.Code as code

abbrev stayed : Stays f.ended.signature.params f.ended.kept
stayed = (stay_dropped (plain (λ _. Heap)) f.ended.kept.0, tt)

pub empty_spec : {M : Type 1} → statement M
empty_spec 𝓤 𝓛 𝓜 𝓡 wired =
    let 𝓣 = tables 𝓤 𝓛.H 𝓜 𝓡 𝓡.env in let c = f.clauses 𝓛 𝓜.mem 𝓡.returns in let W = walk_of 𝓛 f.ended stayed c in
    let nothing_held : Option Object.Denot = None in
    proved_at 𝓛 f.ended stayed c 𝓜 𝓡 (Goes-dropped 𝓛 0 (plain (λ _. Heap)) f.ended.kept.0 (λ κs x e. refl), tt)
    f.Key.name code.function (code.unfolded 𝓤 𝓛.H 𝓜 𝓡 wired) (λ y are.
    let alloc = y.0.3.0 in let Runs : List Val → SProp 𝓤 = λ words. WpFn 𝓤 𝓛.H 𝓣.C 𝓣.Λ code.function words (W.post y) in
    qed 𝓛 ((‵ ftrue ⊛ ‵ (owns (types_at f.ended.signature.params y.0.0) y.0.3 y.0.4)) ∷ raw ((c y.0.0 y.0.3).requires y.1) ∷ []) ∵
    split ! $ move ! (1 ∷ []) $ fsplit ! $ handle_tells the_heap ! alloc y.0.4.0 (λ held is fits.
    suffices ! (Runs (held ∷ [])) (subst (λ (words : List Val). ent 𝓤 (Runs (held ∷ [])) (Runs words)) (sym (λ i. is i ++ [])) (id⊢ 𝓤 (Runs (held ∷ [])))) $
    enter ! _ _ _ _ _ $ alloc_all ! (λ l. pass_all ! refl (fits, tt) $
    sets ! (agg ! (and_then ! (lit ! tt) (and_then ! (get ! refl) (no_more !)))) refl (two_fit vnull held (record { fits = lit< tt }) fits) $
    empty_made ! held alloc $ use0 𝓛 (raw (fact 𝓤 (nothing_held ≡ nothing_held))) (fact_i 𝓤 (nothing_held ≡ nothing_held) (emp 𝓤) refl) $
    nothing ! $ nothing ! $ fjoin ! $ nothing ! $ returns ! (look_at ! 0 refl) $ free_all ! refl $ keep ! (0 ∷ 1 ∷ 3 ∷ 2 ∷ []) $
    by ! (leaves 𝓛 f.ended stayed c y (two vnull held) (record { at = null_ptr; alloc = alloc; it = None }) (tt, tt) (tt, tt)))))
