-- A struct of a pointer and the heap is one machine value: two words, the second of which has no bytes. `Parts` and `Slot` are such structs.
use Rattle.gix_config_c.proofs.Steps.{◌≡◌, List, [], ◌∷◌, ◌++◌, refl, ◌∙◌, Ura, true, ◌&&◌, T, Sym, Lifetime, impl, tnil, tcons, dnil, Val, vstruct, vcons, vnil, of_list, has_ty, WT, Logic, Item, Goal, Seq, Step, step, ‵, ◌$◌, move, drop, fsplit, fjoin, fpick, fpack, feq_i, feq_l, RawPtr, layout, Laws, RattleType, Valss, Ptr, ptr_val, nothing, Struct, within, Al, handle_tells, Good, and_tt, Global, ghosts, dict}
use denote.Param.{arg}
use denote.Param.Laws.{arg_laws}
use Rattle.gix_config_c.proofs.Steps.{bare, no, Dict}
use Rattle.std.specs.contracts.alloc.Global as heap
use Rattle.std.proofs.alloc.Global.TheLaws as heap_laws

abbrev pub Heap : RattleType
Heap = heap.the_row

-- the heap, as what allocates
abbrev pub the_heap : Al
the_heap = record { row = Heap; laws = heap_laws.the_row_laws; g = ghosts; d = dict; drops = impl [] tnil dnil }

-- the heap, as it is handed to a call for a type parameter, with what is passed beside it
abbrev pub Passed : RattleType
Passed = arg (bare (layout Heap)) no Heap

abbrev pub passed_laws : Laws Passed
passed_laws = arg_laws (bare (layout Heap)) no Heap heap_laws.the_row_laws refl

abbrev pub passed_drops : Dict
passed_drops = impl ("gix_config_c::Destruct++none::drop" ∷ []) (tcons (layout Passed) tnil) dnil

abbrev pub Fits : Val → Type 0
Fits = Good (layout Heap)

abbrev pub two : Val → Val → Val
two first second = vstruct (vcons first (vcons second vnil))

pub two_fit : (pointer held : Val) → WT pointer → Fits held → T (has_ty (layout Heap) held && true) × WT (two pointer held)
two_fit pointer held typed fits = (and_tt (has_ty (layout Heap) held) fits.0, (typed, (fits.1, tt)))

module _ (name : Sym) (args : List Lifetime) (types : List RattleType) where
  abbrev Of : RattleType
  Of = Struct (record { name = name; args = args; types = types; fields = RawPtr ∷ heap.the_field.row ∷ [] })

  module _ {M : Type 1} {𝓤 : Ura M} {𝓛 : Logic 𝓤} {K : Type 0} {Γ : List (Item 𝓤)} {G : Goal 𝓤 𝓛.H} where
    -- its machine value is known, and the heap is at hand
    pub opened : K → (at : Ptr) (alloc : Global) (words : List Val)
        → ((held : Val) → words ≡ two (ptr_val at) held ∷ [] → Fits held → Seq K 𝓛 (‵ (Heap.own_val alloc (held ∷ [])) ∷ Γ) G)
        → Seq K 𝓛 (‵ (Of.own_val (at, (heap.the_field.into alloc, tt)) words) ∷ Γ) G
    opened t at alloc words next =
        fpick t (λ each. fsplit t $ feq_l t (λ all. fsplit t $ feq_l t (λ pointer. fsplit t $
        handle_tells the_heap t alloc each.1.0 (λ held second fits. move t (1 ∷ []) $ drop t $
        next held (all ∙ (λ i. vstruct (of_list (pointer i ++ (second i ++ []))) ∷ [])) fits))))

    -- and it is made of them
    pub made : K → (at : Ptr) (alloc : Global) (held : Val)
        → Step K 𝓛 (‵ (Of.own_val (at, (heap.the_field.into alloc, tt)) (two (ptr_val at) held ∷ [])) ∷ Γ) G (‵ (Heap.own_val alloc (held ∷ [])) ∷ Γ) G
    made t at alloc held = step (λ rest. let word : List Val = two (ptr_val at) held ∷ [] in
        nothing t $ move t (1 ∷ 0 ∷ []) $ fjoin t $
        feq_i t (List Val) (ptr_val at ∷ []) (ptr_val at ∷ []) refl $ fjoin t $
        feq_i t (List Val) word word refl $ fjoin t $
        fpack t (Valss (RawPtr ∷ heap.the_field.row ∷ []))
        (within (record { name = name; args = args; types = types; fields = RawPtr ∷ heap.the_field.row ∷ [] }) (at, (heap.the_field.into alloc, tt)) word) (ptr_val at ∷ [], (held ∷ [], tt)) $ rest)
