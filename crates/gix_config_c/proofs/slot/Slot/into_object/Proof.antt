-- Null is no object; else the block is made a box again.
use Rattle.gix_config_c.proofs.Steps.{◌∙◌, ◌≡◌, List, [], ◌∷◌, ◌++◌, refl, sym, ap, subst, lit<, Val, vptr, vnull, vcons, vnil, full_share, SProp, ent, emp, id⊢, ftrue, flft, WpFn, ‵, raw, ◌⊛◌, some, later, at_ret, ◌$◌, ◌∵◌, !, qed, by, move, keep, drop, split, split3, join, fsplit, fjoin, pick, suffices, use0, use1, await, rewrite, feq_i, stop, fld, lit, of_opd, bin, no_more, and_then, first, blocks, branches, skips, exec, returns, returns_within, enter, alloc_all, pass_all, free_all, look_at, get, get_in, sets, lands_last, env, agg, sub, whole, live, fact, fact_i, ◌⊑◌, tables, yes, layout, glues, RattleType, owns, block_ptr, tests_null, types_at, type_at, plain, nothing, only, heard, calls_at_last, Lasts, lasts, triple_of, framed, Stays, stay_dropped, walk_of, Goes-dropped, Some, None, after, Good, and_tt, ghosts, dict, proved_at, leaves}
use Rattle.std.proofs.option.Made.{Some-of, none_of}
use Rattle.std.proofs.BoxSteps.Form as box
use Rattle.std.proofs.BoxSteps.Steps.{box_out, box_in}
use Rattle.std.proofs.impls.GlobalAllocator.TheImpl.Met as allocator
use Rattle.std.specs.contracts.boxed.Box as boxes
use Rattle.std.specs.contracts.boxed.Box.from_raw as callee
use Rattle.std.proofs.boxed.Box.from_raw.Met.{met}
use Rattle.std.proofs.alloc.Global.TheLaws as heap_laws
use Rattle.gix_config_c.proofs.object.Object.TheLaws as object_laws
use Rattle.gix_config_c.proofs.Words.{Heap, Passed, passed_laws, passed_drops, two, two_fit}
use Rattle.gix_config_c.proofs.Owners.{Object, PassedObject, passed_object_laws, Slot, slot_opened}
use Rattle.gix_config_c.specs.contracts.slot.Slot.into_object as f
use Rattle.gix_config_c.proofs.slot.Slot.into_object.Statement.{statement}
use Rattle.gix_config_c.proofs.slot.Slot.into_object.Code as code

abbrev stayed : Stays f.ended.signature.params f.ended.kept
stayed = (stay_dropped (plain (λ _. Slot)) yes, tt)

abbrev Boxed : RattleType
Boxed = boxes.the_row Object Heap ghosts

abbrev of_box : box.Bx
of_box = record { row = PassedObject; laws = passed_object_laws; al = record { row = Passed; laws = passed_laws; g = ghosts; d = dict; drops = passed_drops } }

pub into_object_spec : {M : Type 1} → statement M
unfolding Rattle.gix_config_c.proofs.Destruct++none.drop.Code.code
into_object_spec {M} 𝓤 𝓛 𝓜 𝓡 wired =
    let 𝓣 = tables 𝓤 𝓛.H 𝓜 𝓡 𝓡.env in let c = f.clauses 𝓛 𝓜.mem 𝓡.returns in let W = walk_of 𝓛 f.ended stayed c in let fn = code.function in
    let called = triple_of 𝓛 (callee.signature PassedObject Passed ghosts dict passed_drops) (callee.spec PassedObject Passed ghosts dict passed_drops 𝓛 𝓜.mem 𝓡.returns) in
    let ended' = callee.ended PassedObject Passed ghosts dict passed_drops in
    proved_at 𝓛 f.ended stayed c 𝓜 𝓡 (Goes-dropped 𝓛 0 (plain (λ _. Slot)) yes (λ κs x e. refl), tt)
    f.Key.name fn (code.unfolded 𝓤 𝓛.H 𝓜 𝓡 wired) (λ y are.
    let slot = y.0.3.0 in let Post : Val → SProp 𝓤 = W.post y in let Runs : List Val → SProp 𝓤 = λ words. WpFn 𝓤 𝓛.H 𝓣.C 𝓣.Λ fn words Post in
    let Out : RattleType = type_at f.ended.signature.result y.0.0 in
    qed 𝓛 ((‵ ftrue ⊛ ‵ (owns (types_at f.ended.signature.params y.0.0) y.0.3 y.0.4)) ∷ raw ((c y.0.0 y.0.3).requires y.1) ∷ []) ∵
    split ! $ move ! (1 ∷ []) $ fsplit ! $ slot_opened ! slot y.0.4.0
    (λ held at none is fits. let word : Val = two vnull held in let typed = two_fit vnull held (record { fits = lit< tt }) fits in
    suffices ! (Runs (word ∷ [])) (subst (λ (words : List Val). ent 𝓤 (Runs (word ∷ [])) (Runs words)) (sym (λ i. is i ++ [])) (id⊢ 𝓤 (Runs (word ∷ [])))) $
    enter ! _ _ _ _ _ $ alloc_all ! (λ l. pass_all ! refl (typed, tt) $
    sets ! (of_opd ! (get_in ! (fld ! refl (stop !)) (sub ! 0 refl (whole !)))) refl (tt, record { fits = lit< tt }) $
    sets ! (of_opd ! (get_in ! (fld ! refl (stop !)) (sub ! 1 refl (whole !)))) refl fits $
    sets ! (of_opd ! (get ! refl)) refl (tt, record { fits = lit< tt }) $
    sets ! (bin ! (get ! refl) (lit ! tt) tt) refl (tt, tt) $ first ! $ branches ! (get ! refl)
    (λ _. sets ! (agg ! (and_then ! (lit ! tt) (no_more !))) refl (tt, (record { fits = lit< tt }, tt)) $
    returns_within ! Post refl (look_at ! 0 refl) $ free_all ! refl $
    -- [the heap; nothing; nothing; the requires]
    use0 𝓛 (‵ (Out.own_val None (live 0 vnil ∷ []))) (none_of 𝓛 Boxed) $
    use0 𝓛 (raw (fact 𝓤 (None ≡ slot.it))) (fact_i 𝓤 (None ≡ slot.it) (emp 𝓤) (sym none)) $ nothing ! $ nothing ! $ fjoin ! $ nothing ! $
    keep ! (0 ∷ 1 ∷ 3 ∷ 2 ∷ []) $ by ! (leaves 𝓛 f.ended stayed c y (live 0 vnil) None (tt, tt) (tt, tt)))
    (λ wrong. absurd wrong)))
    (λ b o held x some' tests is fits. let word : Val = two (vptr b o) held in let typed = two_fit (vptr b o) held tt fits in
    let z : called.Ghost = ((([], ([], tt)), (full_share, (full_share, tt)), tt, (slot.alloc, (block_ptr b o, tt)), (held ∷ [], (vptr b o ∷ [], tt))), x) in
    -- [what the box owned; the heap; nothing; nothing; the requires]
    use0 𝓛 (raw (fact 𝓤 ([] ⊑ Heap.lives))) (fact_i 𝓤 ([] ⊑ Heap.lives) (emp 𝓤) (heap_laws.the_within [])) $ join ! $
    use0 𝓛 (raw (fact 𝓤 ([] ⊑ Object.lives))) (fact_i 𝓤 ([] ⊑ Object.lives) (emp 𝓤) (object_laws.the_within [])) $ join ! $
    move ! (2 ∷ []) $ feq_i ! (List Val) (vptr b o ∷ []) (vptr b o ∷ []) refl $ fjoin ! $ move ! (2 ∷ 0 ∷ []) $ fjoin ! $
    nothing ! $ use0 𝓛 (‵ (flft [] full_share)) (𝓛.lfts.lft-nil full_share) $ join ! $ use0 𝓛 (‵ (flft [] full_share)) (𝓛.lfts.lft-nil full_share) $ join ! $
    join ! $ join ! $ use1 𝓛 (raw (called.pre z)) (id⊢ 𝓤 _) $
    suffices ! (Runs (word ∷ [])) (subst (λ (words : List Val). ent 𝓤 (Runs (word ∷ [])) (Runs words)) (sym (λ i. is i ++ [])) (id⊢ 𝓤 (Runs (word ∷ [])))) $
    enter ! 𝓣.C 𝓣.Λ fn (word ∷ []) Post $ alloc_all ! (λ l. pass_all ! refl (typed, tt) $ let here = env fn.locals l in
    sets ! (of_opd ! (get_in ! (fld ! refl (stop !)) (sub ! 0 refl (whole !)))) refl (tt, tt) $
    sets ! (of_opd ! (get_in ! (fld ! refl (stop !)) (sub ! 1 refl (whole !)))) refl fits $
    sets ! (of_opd ! (get ! refl)) refl (tt, tt) $
    sets ! (bin ! (get ! refl) (lit ! tt) (tests_null (block_ptr b o) tests)) refl (tt, tt) $ first ! $ branches ! (get ! refl) (λ wrong. absurd wrong) (λ _.
    skips ! $ exec ! 𝓣.C 𝓣.Λ here (after 5 fn.body) (at_ret here Post) $ first ! $ blocks ! $
    sets ! (of_opd ! (get ! refl)) refl fits $ sets ! (of_opd ! (get ! refl)) refl (tt, tt) $ sets ! (of_opd ! (get ! refl)) refl (tt, tt) $
    calls_at_last ! (framed 𝓤 𝓛.H 𝓜 𝓣) called
    (met 𝓤 𝓛 𝓜 𝓡 (code.calls-std_alloc::boxed::Box::from_raw 𝓡.env wired) PassedObject Passed passed_object_laws passed_laws ghosts dict passed_drops
    (allocator.passed 𝓡.env (code.calls-std_heap::GlobalAllocator::allocate 𝓡.env wired) (code.calls-std_heap::GlobalAllocator::deallocate 𝓡.env wired)
    (code.calls-std_heap::GlobalAllocator::grow 𝓡.env wired) (code.calls-std_heap::GlobalAllocator::shrink 𝓡.env wired) M 𝓤 𝓛 𝓜 𝓡)
    (glues "gix_config_c::Destruct++none::drop" 𝓡.env (code.calls-gix_config_c::Destruct++none::drop 𝓡.env wired) Passed passed_laws M 𝓤 𝓛 𝓜 𝓡))
    z (and_then ! (get ! refl) (and_then ! (get ! refl) (no_more !))) (λ v.
    use1 𝓛 (later (some (λ (r : (box.B of_box).Denot). ((‵ (flft [] full_share) ⊛ ‵ (flft [] full_share) ⊛ ‵ ftrue) ⊛ ‵ ((box.B of_box).own_val r (v ∷ [])))
    ⊛ some (λ (ends : Lasts ended' z.0.0 z.0.3). ‵ (lasts ended' z.0.0 z.0.3 ends) ⊛ (raw (fact 𝓤 (r.value ≡ x)) ⊛ raw (fact 𝓤 (r.alloc ≡ slot.alloc))))))) (id⊢ 𝓤 _) $
    await ! tt $ pick ! (λ r. split ! $ move ! (1 ∷ []) $ pick ! (λ ends. split3 ! $ drop ! $ heard ! (r.value ≡ x) (λ same. drop ! $ split ! $ drop ! $
    box_out of_box ! r (v ∷ []) (λ b' o' held' at' is' fits'. box_in of_box ! r b' o' r.value at' refl $
    rewrite ! 0 (λ (words : List Val). ‵ ((box.B of_box).own_val r words)) (sym is') refl $
    -- [the box; nothing; the requires]
    let good : Good (layout Boxed) v = subst (Good (layout Boxed)) (sym (ap only is')) (two_fit (vptr b' o') held' tt fits') in
    let chosen : Val = live 1 (vcons v vnil) in
    let good' : Good (layout Out) chosen = (and_tt _ good.0, (record { fits = lit< tt }, (good.1, tt))) in
    lands_last ! refl good $ exec ! 𝓣.C 𝓣.Λ here (after 6 fn.body) (at_ret here Post) $
    sets ! (of_opd ! (get ! refl)) refl good $ sets ! (agg ! (and_then ! (lit ! tt) (and_then ! (get ! refl) (no_more !)))) refl good' $
    use1 𝓛 (‵ (Out.own_val (Some r) (chosen ∷ []))) (Some-of 𝓛 Boxed r v) $
    use0 𝓛 (raw (fact 𝓤 (Some r.value ≡ slot.it))) (fact_i 𝓤 (Some r.value ≡ slot.it) (emp 𝓤) (ap Some same ∙ sym some')) $ nothing ! $ nothing ! $ fjoin ! $ nothing ! $
    returns ! (look_at ! 0 refl) $ free_all ! refl $ keep ! (0 ∷ 1 ∷ 3 ∷ 2 ∷ []) $
    by ! (leaves 𝓛 f.ended stayed c y chosen (Some r) (tt, tt) (tt, tt)))))))))))
