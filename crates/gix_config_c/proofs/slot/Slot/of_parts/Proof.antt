-- The handle gets the parts' pointer and heap, and so owns what they owned.
use Rattle.gix_config_c.proofs.Steps.{◌≡◌, List, [], ◌∷◌, ◌++◌, refl, sym, subst, Val, vptr, SProp, ent, emp, id⊢, ftrue, WpFn, ‵, raw, ◌⊛◌, ◌$◌, ◌∵◌, !, qed, by, move, keep, split, fsplit, fjoin, suffices, use0, stop, fld, of_opd, no_more, and_then, returns, enter, alloc_all, pass_all, free_all, look_at, get, get_in, sets, agg, sub, whole, fact, fact_i, tables, yes, owns, types_at, plain, block_ptr, nothing, Stays, stay_dropped, walk_of, Goes-dropped, Some, proved_at, leaves}
use Rattle.gix_config_c.proofs.Words.{two, two_fit}
use Rattle.gix_config_c.proofs.Owners.{Object, Parts, parts_opened, full_made}
use Rattle.gix_config_c.specs.contracts.slot.Slot.of_parts as f
use Rattle.gix_config_c.proofs.slot.Slot.of_parts.Statement.{statement}
use Rattle.gix_config_c.proofs.slot.Slot.of_parts.Code as code

abbrev stayed : Stays f.ended.signature.params f.ended.kept
stayed = (stay_dropped (plain (λ _. Parts Object)) yes, tt)

pub of_parts_spec : {M : Type 1} → statement M
of_parts_spec 𝓤 𝓛 𝓜 𝓡 wired =
    let 𝓣 = tables 𝓤 𝓛.H 𝓜 𝓡 𝓡.env in let c = f.clauses 𝓛 𝓜.mem 𝓡.returns in let W = walk_of 𝓛 f.ended stayed c in
    proved_at 𝓛 f.ended stayed c 𝓜 𝓡 (Goes-dropped 𝓛 0 (plain (λ _. Parts Object)) yes (λ κs x e. refl), tt)
    f.Key.name code.function (code.unfolded 𝓤 𝓛.H 𝓜 𝓡 wired) (λ y are.
    let parts = y.0.3.0 in let Runs : List Val → SProp 𝓤 = λ words. WpFn 𝓤 𝓛.H 𝓣.C 𝓣.Λ code.function words (W.post y) in
    qed 𝓛 ((‵ ftrue ⊛ ‵ (owns (types_at f.ended.signature.params y.0.0) y.0.3 y.0.4)) ∷ raw ((c y.0.0 y.0.3).requires y.1) ∷ []) ∵
    split ! $ move ! (1 ∷ []) $ fsplit ! $ parts_opened Object ! parts y.0.4.0 (λ b o held at is fits.
    let word : Val = two (vptr b o) held in let typed = two_fit (vptr b o) held tt fits in
    suffices ! (Runs (word ∷ [])) (subst (λ (words : List Val). ent 𝓤 (Runs (word ∷ [])) (Runs words)) (sym (λ i. is i ++ [])) (id⊢ 𝓤 (Runs (word ∷ [])))) $
    enter ! _ _ _ _ _ $ alloc_all ! (λ l. pass_all ! refl (typed, tt) $
    sets ! (of_opd ! (get_in ! (fld ! refl (stop !)) (sub ! 0 refl (whole !)))) refl (tt, tt) $
    sets ! (of_opd ! (get_in ! (fld ! refl (stop !)) (sub ! 1 refl (whole !)))) refl fits $
    sets ! (of_opd ! (get ! refl)) refl (tt, tt) $
    sets ! (agg ! (and_then ! (get ! refl) (and_then ! (get ! refl) (no_more !)))) refl typed $
    full_made ! b o held parts.alloc parts.value $
    use0 𝓛 (raw (fact 𝓤 (Some parts.value ≡ Some parts.value))) (fact_i 𝓤 (Some parts.value ≡ Some parts.value) (emp 𝓤) refl) $
    nothing ! $ nothing ! $ fjoin ! $ nothing ! $ returns ! (look_at ! 0 refl) $ free_all ! refl $ keep ! (0 ∷ 1 ∷ 3 ∷ 2 ∷ []) $
    by ! (leaves 𝓛 f.ended stayed c y word (record { at = block_ptr b o; alloc = parts.alloc; it = Some parts.value }) (tt, tt) (tt, tt)))))
