-- How the changes of a folder are made by acts.
use Rattle.std.proofs.Common.{◌≡◌, ◌⊎◌, inl, inr, ℕ, Bool, true, false, List, [], ◌∷◌, ◌++◌, Option, None, Some, IfSome, Result, Ok, Err, IsErr, option_map, is_some, refl, sym, ◌∙◌, ap, subst, append_assoc, if◌then◌else◌}
use Rattle.std.specs.Str.{bytes_eq}
use Rattle.std.proofs.lemmas.Slice.Eq.{bytes_eq-Decides}
use Rattle.std.specs.declared.io.Error.{Error}
use Rattle.gixcfg_replacing.specs.Changes.{Change, Making, Sharing, Writing, Syncing, Renaming, Removing, SyncingNames, if_done, if_made}
use Rattle.gixcfg_replacing.specs.Edit.{editing}
use Rattle.gixcfg_files.specs.declared.rights.Identity.{Identity}
use Rattle.gixcfg_files.specs.declared.rights.Original.{Original}
use Rattle.gixcfg_files.specs.declared.made.Made.{Made}
use Rattle.gixcfg_files.specs.Acts.{Path, Known, Act, told_after, told_done, told_since, Grows, Has, IsMade, IsAgain, IsEditing, Renames}
use Rattle.gixcfg_files.specs.Acts.Act.{Looked, Wrote, WroteDown, Renamed, WroteDownNames}
use Rattle.gixcfg_files.specs.Replacing.{drafted, replaced, IsFilled, IsRenamed, IsReplaced, Work, AreMade, HasMade}
use Rattle.gixcfg_files.proofs.Acting.{Stays, still, has_stays, each}

if_some_stays : {A : Type 0} (P : A → List Act → Type 0) → ((a : A) → Stays (P a)) → (it : Option A) → Stays (λ acts. IfSome it (λ a. P a acts))
if_some_stays P stays None since acts is = tt
if_some_stays P stays (Some a) since acts is = stays a since acts is

filled_stays : (is_synced : Bool) (file : Identity) (it : List ℕ × Bool) → Stays (λ acts. IsFilled is_synced file acts it)
filled_stays is_synced file (text, down) since acts (wrote, was_down) = (has_stays _ since acts wrote, λ synced is. has_stays _ since acts (was_down synced is))

renamed_stays : (path folder : Path) (found : Option Known) (is_synced : Bool) (file : List ℕ × Bool × Bool) → Stays (λ acts. IsRenamed path folder found is_synced acts file)
renamed_stays path folder found is_synced file since acts is = record {
  draft = is.draft;
  from = is.from;
  lock = is.lock;
  earlier = is.earlier;
  later = since ++ is.later;
  renamed = ap (λ (l : List Act). since ++ l) is.renamed ∙ sym (append_assoc since is.later (Renamed is.from path ∷ Looked is.from (Some is.draft) ∷ is.earlier));
  made = is.made;
  filled = is.filled;
  again = is.again;
  settled = λ synced down. has_stays _ since is.later (is.settled synced down);
}

has_first : (act : Act) (since later : List Act) → Has act since → Has act (since ++ later)
has_first act [] later has = absurd has
has_first act (last ∷ more) later (inl it) = inl it
has_first act (last ∷ more) later (inr has) = inr (has_first act more later has)

module _ (work : Work) (changes : List Change) where
  are_made_stays : (draft : Option Identity) → Stays (AreMade work draft changes)
  are_made_stays draft since acts is = record {
    filled = if_some_stays (λ file acts. IfSome (drafted work.lock changes) (IsFilled work.is_synced file acts))
        (λ file. if_some_stays (λ it acts. IsFilled work.is_synced file acts it) (λ it. filled_stays work.is_synced file it) (drafted work.lock changes)) draft since acts is.filled;
    renamed = if_some_stays (λ file acts. IsRenamed work.path work.folder work.found work.is_synced acts file) (λ file. renamed_stays work.path work.folder work.found work.is_synced file) (replaced work.lock changes) since acts is.renamed;
  }

  -- what was made is, after more acts
  pub made_on : (draft : Option Identity) (old new : Option (List Act)) → Grows old new → IfSome old (AreMade work draft changes) → IfSome new (AreMade work draft changes)
  made_on draft old new grows is = still (AreMade work draft changes) (are_made_stays draft) old new grows is

  none_filled : (draft : Option Identity) (acts : List Act) → IfSome draft (λ file. IfSome None (IsFilled work.is_synced file acts))
  none_filled None acts = tt
  none_filled (Some file) acts = tt

  -- a draft that is gone, and one that isn't filled yet
  pub undrafted : (draft : Option Identity) (told : Option (List Act)) → IfSome told (AreMade work draft changes) → IfSome told (AreMade work None changes)
  undrafted draft told is = each (AreMade work draft changes) _ (λ acts m. record { filled = tt; renamed = m.renamed }) told is

  made_draft : (before : Option Identity) (name : Path) (draft : Option Identity) → bytes_eq name work.lock ≡ false → (told : Option (List Act)) → IfSome told (AreMade work before changes)
      → IfSome told (AreMade work draft (Making name ∷ changes))
  made_draft before name draft other told is =
      each (AreMade work before changes) _
      (λ acts m. record {
        filled = subst (λ b. IfSome draft (λ file. IfSome (if b then drafted work.lock changes else None) (IsFilled work.is_synced file acts))) (sym other) (none_filled draft acts);
        renamed = m.renamed;
      }) told is

  made_lock : (draft : Option Identity) (name : Path) → bytes_eq name work.lock ≡ true → (told : Option (List Act)) → IfSome told (AreMade work draft changes) → IfSome told (AreMade work draft (Making name ∷ changes))
  made_lock draft name same told is =
      each (AreMade work draft changes) _
      (λ acts m. record {
        filled = subst (λ b. IfSome draft (λ file. IfSome (if b then drafted work.lock changes else None) (IsFilled work.is_synced file acts))) (sym same) m.filled;
        renamed = m.renamed;
      }) told is

  pub made_if_locked : (draft : Option Identity) (name : Path) (told : Option (List Act)) (made : Bool) → bytes_eq name work.lock ≡ true → IfSome told (AreMade work draft changes)
      → IfSome told (AreMade work draft (if_made (Ok made) name ++ changes))
  made_if_locked draft name told true same is = made_lock draft name same told is
  made_if_locked draft name told false same is = is

  pub made_if_drafted : {F : Type 0} (before : Option Identity) (identity : F → Identity) (name : Path) (told : Option (List Act)) (draft : Option F) (made : Bool) → made ≡ is_some draft → bytes_eq name work.lock ≡ false
      → IfSome told (AreMade work before changes) → IfSome told (AreMade work (option_map identity draft) (if_made (Ok made) name ++ changes))
  made_if_drafted before identity name told draft true some other is = made_draft before name (option_map identity draft) other told is
  made_if_drafted before identity name told None false some other is = undrafted before told is
  made_if_drafted before identity name told (Some file) false some other is = absurd (cc some)

  pub made_sharing : (draft : Option Identity) (from to : Path) (told : Option (List Act)) → IfSome told (AreMade work draft changes) → IfSome told (AreMade work draft (Sharing from to ∷ changes))
  made_sharing draft from to told is = each (AreMade work draft changes) _ (λ acts m. record { filled = m.filled; renamed = m.renamed }) told is

  made_removing : (draft : Option Identity) (name : Path) (told : Option (List Act)) → IfSome told (AreMade work draft changes) → IfSome told (AreMade work draft (Removing name ∷ changes))
  made_removing draft name told is = each (AreMade work draft changes) _ (λ acts m. record { filled = none_filled draft acts; renamed = m.renamed }) told is

  pub made_if_removed : (draft : Option Identity) (name : Path) (old new : Option (List Act)) (result : Result (Unit {0}) Error) → Grows old new → IfSome old (AreMade work draft changes)
      → IfSome new (AreMade work draft (if_done result (Removing name) ++ changes))
  made_if_removed draft name old new (Ok done) grows made = made_removing draft name new (made_on draft old new grows made)
  made_if_removed draft name old new (Err error) grows made = made_on draft old new grows made

  -- a text was written to the draft
  wrote_draft : (draft : Option Identity) (name : Path) (text : List ℕ) (file : Identity) → draft ≡ Some file → (acts : List Act) → AreMade work draft changes acts
      → AreMade work draft (Writing name text ∷ changes) (Wrote file text ∷ acts)
  wrote_draft draft name text file is acts made = record {
    filled = subst (λ d. IfSome d (λ it. IsFilled work.is_synced it (Wrote file text ∷ acts) (text, false))) (sym is) (inl refl, λ synced down. absurd (cc down));
    renamed = (are_made_stays draft (Wrote file text ∷ []) acts made).renamed;
  }

  pub made_writing : (draft : Option Identity) (name : Path) (text : List ℕ) (file : Identity) → draft ≡ Some file → (old new : Option (List Act)) (result : Result (Unit {0}) Error) → new ≡ told_done old result (Wrote file text)
      → IfSome old (AreMade work draft changes) → IfSome new (AreMade work draft (if_done result (Writing name text) ++ changes))
  made_writing draft name text file is None new result told made = subst (λ (t : Option (List Act)). IfSome t (AreMade work draft (if_done result (Writing name text) ++ changes))) (sym told) tt
  made_writing draft name text file is (Some acts) new (Ok done) told made =
      subst (λ (t : Option (List Act)). IfSome t (AreMade work draft (Writing name text ∷ changes))) (sym told) (wrote_draft draft name text file is acts made)
  made_writing draft name text file is (Some acts) new (Err error) told made = subst (λ (t : Option (List Act)). IfSome t (AreMade work draft changes)) (sym told) made

  -- the text of the draft was written down, where edits are
  down_filled : (file : Identity) (acts : List Act) (it : Option (List ℕ × Bool)) → (work.is_synced ≡ true → Has (WroteDown file) acts) → IfSome it (IsFilled work.is_synced file acts)
      → IfSome (option_map (λ it. (it.0, true)) it) (IsFilled work.is_synced file acts)
  down_filled file acts None down is = tt
  down_filled file acts (Some (text, was)) down (wrote, before) = (wrote, λ synced now. down synced)

  down_draft : (acts : List Act) (draft : Option Identity) → IfSome draft (λ file. work.is_synced ≡ true → Has (WroteDown file) acts)
      → IfSome draft (λ file. IfSome (drafted work.lock changes) (IsFilled work.is_synced file acts))
      → IfSome draft (λ file. IfSome (option_map (λ it. (it.0, true)) (drafted work.lock changes)) (IsFilled work.is_synced file acts))
  down_draft acts None down is = tt
  down_draft acts (Some file) down is = down_filled file acts (drafted work.lock changes) down is

  synced_draft : (draft : Option Identity) (name : Path) (acts : List Act) → IfSome draft (λ file. work.is_synced ≡ true → Has (WroteDown file) acts) → AreMade work draft changes acts → AreMade work draft (Syncing name ∷ changes) acts
  synced_draft draft name acts down made = record { filled = down_draft acts draft down made.filled; renamed = made.renamed }

  pub made_syncing : (draft : Option Identity) (name : Path) (file : Identity) → draft ≡ Some file → (old new : Option (List Act)) (result : Result (Unit {0}) Error) → new ≡ told_done old result (WroteDown file)
      → IfSome old (AreMade work draft changes) → IfSome new (AreMade work draft (if_done result (Syncing name) ++ changes))
  made_syncing draft name file is None new result told made = subst (λ (t : Option (List Act)). IfSome t (AreMade work draft (if_done result (Syncing name) ++ changes))) (sym told) tt
  made_syncing draft name file is (Some acts) new (Ok done) told made =
      subst (λ (t : Option (List Act)). IfSome t (AreMade work draft (Syncing name ∷ changes))) (sym told)
      (synced_draft draft name (WroteDown file ∷ acts)
      (subst (λ d. IfSome d (λ it. work.is_synced ≡ true → Has (WroteDown it) (WroteDown file ∷ acts))) (sym is) (λ synced. inl refl))
      (are_made_stays draft (WroteDown file ∷ []) acts made))
  made_syncing draft name file is (Some acts) new (Err error) told made = subst (λ (t : Option (List Act)). IfSome t (AreMade work draft changes)) (sym told) made

  not_down : (draft : Option Identity) (acts : List Act) → (work.is_synced ≡ true → draft ≡ None) → IfSome draft (λ file. work.is_synced ≡ true → Has (WroteDown file) acts)
  not_down None acts none = tt
  not_down (Some file) acts none = λ synced. absurd (let is = none synced in cc is)

  -- nothing is written down without a draft, or where edits aren't
  pub made_unsynced : (draft : Option Identity) (name : Path) (told : Option (List Act)) → (work.is_synced ≡ true → draft ≡ None) → IfSome told (AreMade work draft changes) → IfSome told (AreMade work draft (Syncing name ∷ changes))
  made_unsynced draft name told none is = each (AreMade work draft changes) _ (λ acts m. synced_draft draft name acts (not_down draft acts none) m) told is

  -- the names were written down, where edits are
  settled_file : (acts since : List Act) → (work.is_synced ≡ true → Has (WroteDownNames work.folder) since) → (file : Option (List ℕ × Bool × Bool))
      → IfSome file (IsRenamed work.path work.folder work.found work.is_synced acts) → IfSome (option_map (λ it. (it.0, it.1, true)) file) (IsRenamed work.path work.folder work.found work.is_synced (since ++ acts))
  settled_file acts since down None is = tt
  settled_file acts since down (Some file) is = record {
    draft = is.draft;
    from = is.from;
    lock = is.lock;
    earlier = is.earlier;
    later = since ++ is.later;
    renamed = ap (λ (l : List Act). since ++ l) is.renamed ∙ sym (append_assoc since is.later (Renamed is.from work.path ∷ Looked is.from (Some is.draft) ∷ is.earlier));
    made = is.made;
    filled = is.filled;
    again = is.again;
    settled = λ synced now. has_first (WroteDownNames work.folder) since is.later (down synced);
  }

  pub made_settling : (draft : Option Identity) (old new : Option (List Act)) (result : Result (Unit {0}) Error) → new ≡ told_done old result (WroteDownNames work.folder)
      → IfSome old (AreMade work draft changes) → IfSome new (AreMade work draft (if_done result SyncingNames ++ changes))
  made_settling draft None new result told made = subst (λ (t : Option (List Act)). IfSome t (AreMade work draft (if_done result SyncingNames ++ changes))) (sym told) tt
  made_settling draft (Some acts) new (Ok done) told made =
      subst (λ (t : Option (List Act)). IfSome t (AreMade work draft (SyncingNames ∷ changes))) (sym told)
      (record {
        filled = (are_made_stays draft (WroteDownNames work.folder ∷ []) acts made).filled;
        renamed = settled_file acts (WroteDownNames work.folder ∷ []) (λ synced. inl refl) (replaced work.lock changes) made.renamed;
      })
  made_settling draft (Some acts) new (Err error) told made = subst (λ (t : Option (List Act)). IfSome t (AreMade work draft changes)) (sym told) made

  pub made_unsettled : (draft : Option Identity) (told : Option (List Act)) → work.is_synced ≡ false → IfSome told (AreMade work draft changes) → IfSome told (AreMade work draft (SyncingNames ∷ changes))
  made_unsettled draft told un is =
      each (AreMade work draft changes) _
      (λ acts m. record { filled = m.filled; renamed = settled_file acts [] (λ synced. absurd (cc (synced, un))) (replaced work.lock changes) m.renamed }) told is

  -- the draft was renamed over the file
  renamed_file : (from lock : Path) (there : Original) (file : Identity) (acts : List Act) → there.identity ≡ file → IsMade file acts → IsAgain work.path lock work.found acts → (it : Option (List ℕ × Bool))
      → IfSome it (IsFilled work.is_synced file acts)
      → IfSome (option_map (λ it. (it.0, it.1, false)) it) (IsRenamed work.path work.folder work.found work.is_synced (Renamed from work.path ∷ Looked from (Some there) ∷ acts))
  renamed_file from lock there file acts same made again None is = tt
  renamed_file from lock there file acts same made again (Some it) is = record {
    draft = there;
    from = from;
    lock = lock;
    earlier = acts;
    later = [];
    renamed = refl;
    made = subst (λ i. IsMade i acts) (sym same) made;
    filled = subst (λ i. IsFilled work.is_synced i acts (it.0, it.1)) (sym same) is;
    again = again;
    settled = λ synced down. absurd (cc down);
  }

  pub renamed_draft : (draft : Option Identity) (from a b lock : Path) (there : Original) (file : Identity) (acts : List Act) → there.identity ≡ file → draft ≡ Some file → IsMade file acts → IsAgain work.path lock work.found acts
      → AreMade work draft changes acts → AreMade work None (Renaming a b ∷ changes) (Renamed from work.path ∷ Looked from (Some there) ∷ acts)
  renamed_draft draft from a b lock there file acts same is made again m = record {
    filled = tt;
    renamed = renamed_file from lock there file acts same made again (drafted work.lock changes) (subst (λ d. IfSome d (λ it. IfSome (drafted work.lock changes) (IsFilled work.is_synced it acts))) is m.filled);
  }

  -- with the draft that is the same
  pub redrafted : (draft after : Option Identity) → draft ≡ after → (told : Option (List Act)) → IfSome told (AreMade work draft changes) → IfSome told (AreMade work after changes)
  redrafted draft after is told made = subst (λ d. IfSome told (AreMade work d changes)) is made

  -- nothing was made by a call that failed
  pub made_failed : (draft : Option Identity) (change : Change) (told : Option (List Act)) (result : Result (Unit {0}) Error) → IsErr result → IfSome told (AreMade work draft changes) → IfSome told (AreMade work draft (if_done result change ++ changes))
  made_failed draft change told (Ok done) err is = absurd (cc err)
  made_failed draft change told (Err error) err is = is

  pub made_none : (draft : Option Identity) (name : Path) (told : Option (List Act)) (result : Result Bool Error) → IsErr result → IfSome told (AreMade work draft changes) → IfSome told (AreMade work draft (if_made result name ++ changes))
  made_none draft name told (Ok made) err is = absurd (cc err)
  made_none draft name told (Err error) err is = is

-- the draft was renamed
pub made_renaming : {F : Type 0} (holds : Bool) (drafts locked : Option (Made F)) (same : Bool) (work : Work) (changes : List Change) (a b : Path) (file : Made F) → drafts ≡ Some file → same ≡ true
    → (draft : Option Identity) → draft ≡ Some file.file.original.identity → (old new : Option (List Act)) → Renames old new file.file.original.identity work.path
    → IfSome old (IsEditing work.path work.lock work.found holds drafts locked same) → IfSome old (AreMade work draft changes) → IfSome new (AreMade work None (Renaming a b ∷ changes))
made_renaming holds drafts locked same work changes a b file is found draft drafted_is None new (there, from, it, told) editing made =
    subst (λ (t : Option (List Act)). IfSome t (AreMade work None (Renaming a b ∷ changes))) (sym told) tt
made_renaming {F} holds drafts locked same work changes a b file is found draft drafted_is (Some acts) new (there, from, it, told) editing made =
    let known = subst (λ (d : Option (Made F)). IsEditing work.path work.lock work.found holds d locked same acts) is editing in
    subst (λ (t : Option (List Act)). IfSome t (AreMade work None (Renaming a b ∷ changes))) (sym told)
    (renamed_draft work changes draft from a b work.lock there file.file.original.identity acts it drafted_is known.draft.ours.made (known.again found) made)

-- an edit whose changes were made has replaced its file
edited_file : (work : Work) (path text draft lock : List ℕ) → lock ≡ work.lock → replaced work.lock (editing path text draft lock ++ []) ≡ Some (text, true, true)
edited_file work path text draft lock is = rw ((bytes_eq-Decides lock work.lock).1 is) refl

is_replaced : (path folder : Path) (found : Option Known) (is_synced : Bool) (text : List ℕ) (acts : List Act) → IsRenamed path folder found is_synced acts (text, true, true) → IsReplaced path folder found is_synced text acts
is_replaced path folder found is_synced text acts is = record {
  draft = is.draft;
  from = is.from;
  lock = is.lock;
  earlier = is.earlier;
  later = is.later;
  renamed = is.renamed;
  made = is.made;
  wrote = is.filled.0;
  again = is.again;
  down = λ synced. is.filled.1 synced refl;
  settled = λ synced. is.settled synced refl;
}

pub made_replaced : (work : Work) (drafted_now : Option Identity) (path text draft lock : List ℕ) → lock ≡ work.lock → (told : Option (List Act)) → IfSome told (AreMade work drafted_now (editing path text draft lock ++ []))
    → IfSome told (IsReplaced work.path work.folder work.found work.is_synced text)
made_replaced work drafted_now path text draft lock is told made =
    each (AreMade work drafted_now (editing path text draft lock ++ [])) (IsReplaced work.path work.folder work.found work.is_synced text)
    (λ acts m. is_replaced work.path work.folder work.found work.is_synced text acts
    (subst (λ file. IfSome file (IsRenamed work.path work.folder work.found work.is_synced acts)) (edited_file work path text draft lock is) m.renamed)) told made

pub replaced_on : (path folder : Path) (found : Option Known) (is_synced : Bool) (text : List ℕ) (old new : Option (List Act)) → Grows old new → IfSome old (IsReplaced path folder found is_synced text)
    → IfSome new (IsReplaced path folder found is_synced text)
replaced_on path folder found is_synced text old new grows is =
    still (IsReplaced path folder found is_synced text)
    (λ since acts r. record {
      draft = r.draft;
      from = r.from;
      lock = r.lock;
      earlier = r.earlier;
      later = since ++ r.later;
      renamed = ap (λ (l : List Act). since ++ l) r.renamed ∙ sym (append_assoc since r.later (Renamed r.from path ∷ Looked r.from (Some r.draft) ∷ r.earlier));
      made = r.made;
      wrote = r.wrote;
      again = r.again;
      down = r.down;
      settled = λ synced. has_stays _ since r.later (r.settled synced);
    }) old new grows is

pub edit_done : (start now : Option (List Act) × Work × Option Identity) (work : Work) (told : Option (List Act)) (path text draft lock : List ℕ) → start.1 ≡ work → lock ≡ work.lock
    → HasMade start now (editing path text draft lock ++ []) → told ≡ now.0 → IfSome told (IsReplaced work.path work.folder work.found work.is_synced text)
edit_done start (acts, kept, drafted_now) work told path text draft lock same is (fixed, made) told_is =
    subst (λ (t : Option (List Act)). IfSome t (IsReplaced work.path work.folder work.found work.is_synced text)) (sym told_is)
    (made_replaced work drafted_now path text draft lock is acts
    (subst (λ w. IfSome acts (AreMade w drafted_now (editing path text draft lock ++ []))) (fixed ∙ same) made))
