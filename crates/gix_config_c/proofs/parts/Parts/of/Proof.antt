-- A box is taken apart by the call that gives its pointer, with what the box owned, and its heap.
use Rattle.gix_config_c.proofs.Steps.{◌≡◌, List, [], ◌∷◌, ◌++◌, refl, sym, ap, ◌∙◌, subst, a_type, dcons, dnil, bare, Val, vptr, vstruct, of_list, inst_fn, full_share, SProp, ent, emp, never, id⊢, fst∗, ftrue, flft, WpFn, sem, ‵, raw, ◌⊛◌, some, later, ◌$◌, ◌∵◌, !, qed, by, move, keep, drop, split, split3, join, fsplit, fjoin, fpick, pick, suffices, use0, use1, await, rewrite, feq_l, stop, fld, of_opd, no_more, and_then, returns, enter, alloc_all, pass_all, free_all, look_at, get, get_in, sets, lands_as, agg, sub, whole, fact, fact_i, tables, RawPtr, no, layout, param, bounded, glues, RattleType, owns, Ptr, block_ptr, null_ptr, ptr_val, in_a_block, types_at, plain, nothing, only, heard, Tuple, Lasts, lasts, ◌⊑◌, dict, Global, calls_at, triple_of, framed, Stays, stay_dropped, walk_of, Goes-blank, handle_tells, box_owns, ghosts, proved_at, leaves}
use Rattle.std.proofs.BoxSteps.Form as box
use Rattle.std.proofs.BoxSteps.Steps.{box_out, box_in}
use Rattle.std.proofs.impls.GlobalAllocator.TheImpl.Met as allocator
use Rattle.std.specs.contracts.boxed.Box as boxes
use Rattle.std.specs.contracts.boxed.Box.into_raw_with_allocator as callee
use Rattle.std.proofs.boxed.Box.into_raw_with_allocator.Met.{met}
use Rattle.std.proofs.alloc.Global.TheLaws as heap_laws
use Rattle.gix_config_c.proofs.Words.{Heap, Passed, passed_laws, passed_drops, the_heap, two, two_fit}
use Rattle.gix_config_c.proofs.Owners.{parts_made}
use Rattle.gix_config_c.specs.contracts.parts.Parts.of as f
use Rattle.gix_config_c.proofs.parts.Parts.of.Statement.{statement}
use Rattle.gix_config_c.proofs.parts.Parts.of.Code as code

pub of_spec : {M : Type 1} → statement M
unfolding Rattle.gix_config_c.proofs.Destruct++none.drop.Code.code
of_spec {M} 𝓤 𝓛 𝓜 𝓡 wired T L drops dropped =
    let R : RattleType = param 0 T in let H' : RattleType = param 1 Passed in let E : box.Bx = record { row = T; laws = L; al = the_heap } in
    let ended = f.ended T drops in let c = f.clauses T drops 𝓛 𝓜.mem 𝓡.returns in let 𝓣 = tables 𝓤 𝓛.H 𝓜 𝓡 𝓡.env in
    let at_T = bounded (a_type ∷ []) (T, tt) (dcons drops dnil) in let fn = inst_fn at_T code.function in
    let stayed : Stays ended.signature.params ended.kept = (stay_dropped (plain (λ _. boxes.the_row R Heap ghosts)) no, tt) in
    let W = walk_of 𝓛 ended stayed c in
    let ended' = callee.ended T Passed ghosts dict passed_drops drops in
    let called = triple_of 𝓛 (callee.signature T Passed ghosts dict passed_drops drops) (callee.spec T Passed ghosts dict passed_drops drops 𝓛 𝓜.mem 𝓡.returns) in
    proved_at 𝓛 ended stayed c 𝓜 𝓡 (Goes-blank 𝓛 1 (plain (λ _. boxes.the_row R Heap ghosts)) no (λ κs x e. tt), tt)
    (f.Key.name at_T) fn (code.unfolded 𝓤 𝓛.H 𝓜 𝓡 wired (T, tt) drops) (λ y are.
    let κ = y.0.0.0 in let q = y.0.1.0 in let boxed = y.0.3.0 in let alloc = boxed.alloc in
    let Runs : List Val → SProp 𝓤 = λ words. WpFn 𝓤 𝓛.H 𝓣.C 𝓣.Λ fn words (W.post y) in
    qed 𝓛 (((‵ (flft κ q) ⊛ ‵ ftrue) ⊛ ‵ (owns (types_at ended.signature.params y.0.0) y.0.3 y.0.4)) ∷ (raw (fact 𝓤 (κ ⊑ T.lives)) ⊛ ‵ ftrue) ∷ []) ∵
    split ! $ move ! (2 ∷ []) $ split ! $ heard ! (κ ⊑ T.lives) (λ within. drop ! $ split ! $ move ! (2 ∷ []) $ fsplit ! $
    box_out E ! boxed y.0.4.0 (λ b o held at is fits. box_in E ! boxed b o boxed.value at refl $
    -- [the box; nothing; the token of T; nothing]
    let word : Val = two (vptr b o) held in let typed = two_fit (vptr b o) held tt fits in
    let z : called.Ghost = (((κ, ([], tt)), (q, (full_share, tt)), tt, (boxed, tt), (word ∷ [], tt)), tt) in
    fjoin ! $ nothing ! $ use0 𝓛 (raw (fact 𝓤 ([] ⊑ Heap.lives))) (fact_i 𝓤 ([] ⊑ Heap.lives) (emp 𝓤) (heap_laws.the_within [])) $ join ! $
    use0 𝓛 (raw (fact 𝓤 (κ ⊑ T.lives))) (fact_i 𝓤 (κ ⊑ T.lives) (emp 𝓤) within) $ join ! $
    move ! (3 ∷ []) $ use0 𝓛 (‵ (flft [] full_share)) (𝓛.lfts.lft-nil full_share) $ join ! $ move ! (3 ∷ 0 ∷ []) $ join ! $
    move ! (0 ∷ 2 ∷ 1 ∷ []) $ join ! $ join ! $ use1 𝓛 (raw (called.pre z)) (id⊢ 𝓤 _) $
    suffices ! (Runs (word ∷ [])) (subst (λ (words : List Val). ent 𝓤 (Runs (word ∷ [])) (Runs words)) (sym (λ i. is i ++ [])) (id⊢ 𝓤 (Runs (word ∷ [])))) $
    enter ! _ _ _ _ _ $ alloc_all ! (λ l. pass_all ! refl (typed, tt) $ sets ! (of_opd ! (get ! refl)) refl typed $
    calls_at ! (framed 𝓤 𝓛.H 𝓜 𝓣) called
    (met 𝓤 𝓛 𝓜 𝓡 (code.calls-std_alloc::boxed::Box::into_raw_with_allocator 𝓡.env wired) T Passed L passed_laws ghosts dict passed_drops drops
    (allocator.passed 𝓡.env (code.calls-std_heap::GlobalAllocator::allocate 𝓡.env wired) (code.calls-std_heap::GlobalAllocator::deallocate 𝓡.env wired)
    (code.calls-std_heap::GlobalAllocator::grow 𝓡.env wired) (code.calls-std_heap::GlobalAllocator::shrink 𝓡.env wired) M 𝓤 𝓛 𝓜 𝓡)
    (glues "gix_config_c::Destruct++none::drop" 𝓡.env (code.calls-gix_config_c::Destruct++none::drop 𝓡.env wired) Passed passed_laws M 𝓤 𝓛 𝓜 𝓡)
    dropped) z (and_then ! (get ! refl) (no_more !)) (λ v.
    use1 𝓛 (later (some (λ (r : Ptr × Global). ((‵ (flft κ q) ⊛ ‵ (flft [] full_share) ⊛ ‵ ftrue) ⊛ ‵ ((Tuple (RawPtr ∷ H' ∷ [])).own_val r (v ∷ [])))
    ⊛ some (λ (ends : Lasts ended' z.0.0 z.0.3). ‵ (lasts ended' z.0.0 z.0.3 ends) ⊛ (raw (fact 𝓤 (r.1 ≡ alloc)) ⊛ ‵ (box_owns (ghosts.dealloc_token alloc) R r.0 boxed.value)))))) (id⊢ 𝓤 _) $
    await ! tt $ pick ! (λ r. split ! $ move ! (1 ∷ []) $ pick ! (λ ends. split3 ! $ drop ! $ heard ! (r.1 ≡ alloc) (λ from.
    in_a_block ! r.0 (λ p. box_owns (ghosts.dealloc_token alloc) R p boxed.value) (fst∗ 𝓤 (never 𝓤) (sem 𝓛 (ghosts.dealloc_token alloc (bare (layout T)) null_ptr))) (λ b' o' at'.
    -- [what the box owned; the tokens with the pair]
    move ! (1 ∷ []) $ split ! $ move ! (1 ∷ []) $ fpick ! (λ each. fsplit ! $ feq_l ! (λ all. fsplit ! $ feq_l ! (λ pointer. fsplit ! $
    rewrite ! 0 (λ (a : Global). ‵ (Heap.own_val a each.1.0)) from refl $ handle_tells the_heap ! alloc each.1.0 (λ held' second fits'.
    -- [the heap; nothing; the tokens; what the box owned]
    let typed' = two_fit (vptr b' o') held' tt fits' in
    lands_as ! (ap only (all ∙ (λ i. vstruct (of_list ((pointer ∙ ap (λ p. ptr_val p ∷ []) at') i ++ (second i ++ []))) ∷ []))) refl typed' $
    sets ! (of_opd ! (get_in ! (fld ! refl (stop !)) (sub ! 0 refl (whole !)))) refl (tt, tt) $
    sets ! (of_opd ! (get_in ! (fld ! refl (stop !)) (sub ! 1 refl (whole !)))) refl fits' $
    sets ! (agg ! (and_then ! (get ! refl) (and_then ! (get ! refl) (no_more !)))) refl typed' $
    move ! (3 ∷ 0 ∷ []) $ parts_made R ! b' o' held' alloc boxed.value $
    -- [the parts; nothing; the tokens]
    move ! (2 ∷ []) $ split3 ! $ move ! (1 ∷ []) $ drop ! $ join ! $
    use0 𝓛 (raw (fact 𝓤 (boxed.value ≡ boxed.value))) (fact_i 𝓤 (boxed.value ≡ boxed.value) (emp 𝓤) refl) $ nothing ! $ nothing ! $ fjoin ! $
    returns ! (look_at ! 0 refl) $ free_all ! refl $ keep ! (2 ∷ 0 ∷ 3 ∷ 1 ∷ []) $
    by ! (leaves 𝓛 ended stayed c y (two (vptr b' o') held') (record { at = block_ptr b' o'; alloc = alloc; value = boxed.value }) (tt, tt) (tt, tt)))))))))))))))
