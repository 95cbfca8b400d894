-- What `Parts` and `Slot` own, taken apart and put together.
use Rattle.gix_config_c.proofs.Steps.{◌≡◌, ℕ, List, [], ◌∷◌, refl, ap, ◌∙◌, Ura, Val, vptr, vnull, bare, ent, never, via, fst∗, snd∗, guard, guard_i, never_e, Logic, sem, Item, Goal, Seq, Step, step, ‵, given, ◌$◌, by, move, keep, drop, fsplit, fjoin, use1, learn, fact_use, lone, Laws, RattleType, Ptr, block_ptr, null_ptr, ptr_val, in_a_block, Testable, nothing, shape, box_owns, Global, Option, None, Some, ghosts, full_share, lies_at}
use Rattle.std.proofs.GlobalToken.{dealloc_token-Testable}
use Rattle.gix_config_c.specs.Held.{is_held}
use denote.Param.{arg}
use denote.Param.Laws.{arg_laws}
use Rattle.gix_config_c.proofs.Steps.{layout, no}
use Rattle.gix_config_c.specs.contracts.object.Object as object
use Rattle.gix_config_c.proofs.object.Object.TheLaws as object_laws
use Rattle.gix_config_c.specs.contracts.parts.Parts as parts
use Rattle.gix_config_c.specs.contracts.slot.Slot as slot
use Rattle.gix_config_c.proofs.Words as words
use Rattle.gix_config_c.proofs.Words.{Heap, Fits, two}

module _ (R : RattleType) where
  abbrev pub Parts : RattleType
  Parts = parts.the_row R

  module _ {M : Type 1} {𝓤 : Ura M} {𝓛 : Logic 𝓤} {K : Type 0} {Γ : List (Item 𝓤)} {G : Goal 𝓤 𝓛.H} where
    -- parts point to a block
    pub parts_opened : K → (d : Parts.Denot) (all : List Val)
        → ((b o : ℕ) (held : Val) → d.at ≡ block_ptr b o → all ≡ two (vptr b o) held ∷ [] → Fits held
        → Seq K 𝓛 (‵ (box_owns (ghosts.dealloc_token d.alloc) R (block_ptr b o) d.value) ∷ ‵ (Heap.own_val d.alloc (held ∷ [])) ∷ Γ) G)
        → Seq K 𝓛 (‵ (Parts.own_val d all) ∷ Γ) G
    parts_opened t d all next =
        let s = shape (parts.the_type R) in
        fsplit t $ words.opened s.name s.args s.types t d.at d.alloc all (λ held is fits. move t (1 ∷ []) $
        in_a_block t d.at (λ p. box_owns (ghosts.dealloc_token d.alloc) R p d.value) (fst∗ 𝓤 (never 𝓤) (sem 𝓛 (ghosts.dealloc_token d.alloc (bare (lone R.mir)) null_ptr)))
        (λ b o at. next b o held at (is ∙ ap (λ p. two (ptr_val p) held ∷ []) at) fits))

    pub parts_made : K → (b o : ℕ) (held : Val) (alloc : Global) (value : R.Denot)
        → Step K 𝓛 (‵ (Parts.own_val (record { at = block_ptr b o; alloc = alloc; value = value }) (two (vptr b o) held ∷ [])) ∷ Γ) G
        (‵ (box_owns (ghosts.dealloc_token alloc) R (block_ptr b o) value) ∷ ‵ (Heap.own_val alloc (held ∷ [])) ∷ Γ) G
    parts_made t b o held alloc value = step (λ rest. let s = shape (parts.the_type R) in
        move t (1 ∷ []) $ words.made s.name s.args s.types t (block_ptr b o) alloc held $ fjoin t $ rest)

abbrev pub Object : RattleType
Object = object.the_row

-- an object, as it is handed to a call for a type parameter
abbrev pub PassedObject : RattleType
PassedObject = arg (bare (layout Object)) no Object

abbrev pub passed_object_laws : Laws PassedObject
passed_object_laws = arg_laws (bare (layout Object)) no Object object_laws.the_row_laws refl

abbrev pub Slot : RattleType
Slot = slot.the_row

-- a block that may be freed can be told from null
module _ {M : Type 1} {𝓤 : Ura M} (𝓛 : Logic 𝓤) (alloc : Global) where
  told : (p : Ptr) (x : Object.Denot) → let block = sem 𝓛 (box_owns (ghosts.dealloc_token alloc) Object p x) in ent 𝓤 block (guard 𝓤 (Testable p) block)
  told p x = let block = sem 𝓛 (box_owns (ghosts.dealloc_token alloc) Object p x) in
      fact_use 𝓤 (Testable p) (via 𝓤 _ (snd∗ 𝓤 (sem 𝓛 (lies_at Object full_share p x)) (sem 𝓛 (ghosts.dealloc_token alloc (bare (lone Object.mir)) p))) (dealloc_token-Testable 𝓛 alloc (bare (lone Object.mir)) p)) (guard_i 𝓤 (Testable p) block)

module _ {M : Type 1} {𝓤 : Ura M} {𝓛 : Logic 𝓤} {K : Type 0} {Γ : List (Item 𝓤)} {G : Goal 𝓤 𝓛.H} where
  -- a handle is empty and null, or full and no null; nothing else can be owned
  by_case : K → (alloc : Global) (at : Ptr) (it : Option Object.Denot)
      → (at ≡ null_ptr → it ≡ None → Seq K 𝓛 Γ G)
      → ((b o : ℕ) (x : Object.Denot) → at ≡ block_ptr b o → it ≡ Some x → Testable (block_ptr b o) → Seq K 𝓛 (‵ (box_owns (ghosts.dealloc_token alloc) Object (block_ptr b o) x) ∷ Γ) G)
      → Seq K 𝓛 (‵ (is_held Object alloc at it) ∷ Γ) G
  by_case t alloc null_ptr None empty full = drop t $ empty refl refl
  by_case t alloc null_ptr (Some x) empty full = keep t (0 ∷ []) $ by t (never_e 𝓤 _)
  by_case t alloc (block_ptr b o) None empty full = keep t (0 ∷ []) $ by t (never_e 𝓤 _)
  by_case t alloc (block_ptr b o) (Some x) empty full =
      use1 𝓛 (given (Testable (block_ptr b o)) (‵ (box_owns (ghosts.dealloc_token alloc) Object (block_ptr b o) x))) (told 𝓛 alloc (block_ptr b o) x) $ learn t (λ tests. full b o x refl refl tests)

module _ {M : Type 1} {𝓤 : Ura M} {𝓛 : Logic 𝓤} {K : Type 0} {Γ : List (Item 𝓤)} {G : Goal 𝓤 𝓛.H} where
  pub slot_opened : K → (d : Slot.Denot) (all : List Val)
      → ((held : Val) → d.at ≡ null_ptr → d.it ≡ None → all ≡ two vnull held ∷ [] → Fits held → Seq K 𝓛 (‵ (Heap.own_val d.alloc (held ∷ [])) ∷ Γ) G)
      → ((b o : ℕ) (held : Val) (x : Object.Denot) → d.it ≡ Some x → Testable (block_ptr b o) → all ≡ two (vptr b o) held ∷ [] → Fits held
      → Seq K 𝓛 (‵ (box_owns (ghosts.dealloc_token d.alloc) Object (block_ptr b o) x) ∷ ‵ (Heap.own_val d.alloc (held ∷ [])) ∷ Γ) G)
      → Seq K 𝓛 (‵ (Slot.own_val d all) ∷ Γ) G
  slot_opened t d all empty full =
      let s = shape slot.the_type in
      fsplit t $ words.opened s.name s.args s.types t d.at d.alloc all (λ held is fits. move t (1 ∷ []) $
      let at : (p : Ptr) → d.at ≡ p → all ≡ two (ptr_val p) held ∷ [] = λ p e. is ∙ ap (λ p'. two (ptr_val p') held ∷ []) e in
      by_case t d.alloc d.at d.it (λ e none. empty held e none (at null_ptr e) fits) (λ b o x e some tests. full b o held x some tests (at (block_ptr b o) e) fits))

  pub full_made : K → (b o : ℕ) (held : Val) (alloc : Global) (x : Object.Denot)
      → Step K 𝓛 (‵ (Slot.own_val (record { at = block_ptr b o; alloc = alloc; it = Some x }) (two (vptr b o) held ∷ [])) ∷ Γ) G
      (‵ (box_owns (ghosts.dealloc_token alloc) Object (block_ptr b o) x) ∷ ‵ (Heap.own_val alloc (held ∷ [])) ∷ Γ) G
  full_made t b o held alloc x = step (λ rest. let s = shape slot.the_type in
      move t (1 ∷ []) $ words.made s.name s.args s.types t (block_ptr b o) alloc held $ fjoin t $ rest)

  pub empty_made : K → (held : Val) (alloc : Global)
      → Step K 𝓛 (‵ (Slot.own_val (record { at = null_ptr; alloc = alloc; it = None }) (two vnull held ∷ [])) ∷ Γ) G (‵ (Heap.own_val alloc (held ∷ [])) ∷ Γ) G
  empty_made t held alloc = step (λ rest. let s = shape slot.the_type in
      nothing t $ move t (1 ∷ []) $ words.made s.name s.args s.types t null_ptr alloc held $ fjoin t $ rest)
