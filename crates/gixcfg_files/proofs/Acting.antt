-- What is told of acts stays told.
use Rattle.std.specs.declared.alloc.Global.{Global}
use Rattle.std.proofs.Common.{Vec, ◌≡◌, ◌⊎◌, inl, inr, ⊎_elim, ℕ, Bool, true, false, List, [], ◌∷◌, ◌++◌, Option, None, Some, IfSome, Result, Ok, Err, refl, sym, ◌∙◌, ap, subst, append_assoc, string_bytes, option_map, OnOk}
use Rattle.std.specs.declared.io.Error.{Error}
use Rattle.gixcfg_files.specs.declared.rights.Identity.{Identity}
use Rattle.gixcfg_files.specs.declared.rights.Rights.{Rights}
use Rattle.gixcfg_files.specs.declared.rights.Original.{Original}
use Rattle.gixcfg_files.specs.declared.calls.Look.{Look}
use Rattle.gixcfg_files.specs.declared.calls.Open.{Open}
use Rattle.gixcfg_files.specs.declared.made.Made.{Made}
use Rattle.gixcfg_files.specs.Acts.{Path, Known, Act, told_after, told_since, told_look, told_open, told_read, told_make, told_hold, told_done, Grows, LooksFor, Has, IsMade, Puts, WasPut, HasUnder, IsAgain, IsOurs, IsPut, IsHeld, IsDraft, IsEditing, IsReady, Sees, SeesOpened, MayRename, MayRemove, MayGive, Renames}
use Rattle.gixcfg_files.specs.Acts.Act.{Began, Looked, Unseen, Opened, ReadText, Created, Linked, Held, GaveGroup, GaveOwner, Allowed, Wrote, Renamed, Removed}

-- nothing more is told
pub same_grows : (old new : Option (List Act)) → new ≡ old → Grows old new
same_grows None new is = record { since = []; is = is }
same_grows (Some acts) new is = record { since = []; is = is }

-- one act more is
pub act_grows : (old new : Option (List Act)) (act : Act) → new ≡ told_after old act → Grows old new
act_grows None new act is = record { since = []; is = is }
act_grows (Some acts) new act is = record { since = act ∷ []; is = is }

pub grows_on : (a b c : Option (List Act)) → Grows a b → Grows b c → Grows a c
grows_on None b c ab bc = record { since = []; is = bc.is ∙ ap (told_since bc.since) ab.is }
grows_on (Some acts) b c ab bc = record { since = bc.since ++ ab.since; is = bc.is ∙ ap (told_since bc.since) ab.is ∙ ap Some (sym (append_assoc bc.since ab.since acts)) }

pub look_grows : (old new : Option (List Act)) (path : Path) (result : Result (Option Look) Error) → new ≡ told_look old path result → Grows old new
look_grows old new path (Ok there) is = act_grows old new _ is
look_grows old new path (Err error) is = act_grows old new _ is

pub open_grows : {F : Type 0} (old new : Option (List Act)) (path : Path) (result : Result (Open F) Error) → new ≡ told_open old path result → Grows old new
open_grows old new path (Ok file) is = act_grows old new _ is
open_grows old new path (Err error) is = same_grows old new is

pub make_grows : {F : Type 0} (old new : Option (List Act)) (path : Path) (result : Result (Open F) Error) → new ≡ told_make old path result → Grows old new
make_grows old new path (Ok file) is = act_grows old new _ is
make_grows old new path (Err error) is = same_grows old new is

pub hold_grows : (old new : Option (List Act)) (file : Identity) (result : Result Bool Error) → new ≡ told_hold old file result → Grows old new
hold_grows old new file (Ok true) is = act_grows old new _ is
hold_grows old new file (Ok false) is = same_grows old new is
hold_grows old new file (Err error) is = same_grows old new is

pub looks_grow : (old new : Option (List Act)) (path : Path) (file : Identity) (result : Result Bool Error) → LooksFor old new path file result → Grows old new
looks_grow old new path file (Ok true) (there, it, is) = act_grows old new _ is
looks_grow old new path file (Ok false) (there, is) = act_grows old new _ is
looks_grow old new path file (Err error) is = act_grows old new _ is

-- what was looked for, found and renamed
pub renames_done : (old seen new : Option (List Act)) (file : Identity) (from to : Path) (b : Bool) → b ≡ true → LooksFor old seen from file (Ok b) → (result : Result (Unit {0}) Error)
    → new ≡ told_done seen result (Renamed from to) → OnOk result (Renames old new file to)
renames_done old seen new file from to true found (there, it, looked) (Ok done) is = (there, from, it, is ∙ told_so seen ∙ ap (λ t. told_after t (Renamed from to)) looked)
  where
    told_so : (t : Option (List Act)) → told_done t (Ok done) (Renamed from to) ≡ told_after t (Renamed from to)
    told_so None = refl
    told_so (Some acts) = refl
renames_done old seen new file from to true found looks (Err error) is = tt
renames_done old seen new file from to false found looks result is = absurd (cc found)

-- what holds of acts holds after more of them
abbrev pub Stays : (List Act → Type 0) → Type 0
Stays P = (since acts : List Act) → P acts → P (since ++ acts)

pub still : (P : List Act → Type 0) → Stays P → (old new : Option (List Act)) → Grows old new → IfSome old P → IfSome new P
still P stays None new grows holds = subst (λ (told : Option (List Act)). IfSome told P) (sym grows.is) tt
still P stays (Some acts) new grows holds = subst (λ (told : Option (List Act)). IfSome told P) (sym grows.is) (stays grows.since acts holds)

pub has_stays : (act : Act) → Stays (Has act)
has_stays act [] acts has = has
has_stays act (last ∷ since) acts has = inr (has_stays act since acts has)

pub put_stays : (at : Path) → Stays (WasPut at)
put_stays at [] acts put = put
put_stays at (last ∷ since) acts put = inr (put_stays at since acts put)

pub under_stays : (lock : Path) (act : Act) → Stays (HasUnder lock act)
under_stays lock act [] acts has = has
under_stays lock act (last ∷ since) acts has = inr (under_stays lock act since acts has)

pub made_stays : (file : Identity) → Stays (IsMade file)
made_stays file since acts (path, has) = (path, has_stays (Created path file) since acts has)

pub give_stays : (file : Identity) (rights : Rights) → Stays (MayGive file rights)
give_stays file rights since acts may = record {
  path = may.path;
  lock = may.lock;
  found = may.found;
  text = may.text;
  holds = may.holds;
  same = may.same;
  began = has_stays _ since acts may.began;
  made = made_stays file since acts may.made;
}

pub ours_stays : {F : Type 0} (file : Made F) → Stays (IsOurs file)
ours_stays file since acts ours = record { made = made_stays file.file.original.identity since acts ours.made; put = put_stays (string_bytes file.path) since acts ours.put }

-- what was just told
pub has_now : (old new : Option (List Act)) (act : Act) → new ≡ told_after old act → IfSome new (Has act)
has_now None new act is = subst (λ (told : Option (List Act)). IfSome told (Has act)) (sym is) tt
has_now (Some acts) new act is = subst (λ (told : Option (List Act)). IfSome told (Has act)) (sym is) (inl refl)

-- a file of ours may be removed after a look that found it, or failed
pub may_remove_seen : {F : Type 0} (made : Made F) (path : Path) → string_bytes made.path ≡ path → (old new : Option (List Act)) → IfSome old (IsOurs made)
    → (there : Original) → there.identity ≡ made.file.original.identity → new ≡ told_after old (Looked path (Some there)) → IfSome new (MayRemove path)
may_remove_seen made path at None new ours there it is = subst (λ (told : Option (List Act)). IfSome told (MayRemove path)) (sym is) tt
may_remove_seen made path at (Some acts) new ours there it is =
    subst (λ (told : Option (List Act)). IfSome told (MayRemove path)) (sym is) (refl, inl (subst (λ file. IsMade file acts) (sym it) ours.made))

pub may_remove_unseen : {F : Type 0} (made : Made F) (path : Path) → string_bytes made.path ≡ path → (old new : Option (List Act)) → IfSome old (IsOurs made)
    → new ≡ told_after old (Unseen path) → IfSome new (MayRemove path)
may_remove_unseen made path at None new ours is = subst (λ (told : Option (List Act)). IfSome told (MayRemove path)) (sym is) tt
may_remove_unseen made path at (Some acts) new ours is =
    subst (λ (told : Option (List Act)). IfSome told (MayRemove path)) (sym is) (refl, subst (λ p. WasPut p acts) at ours.put)

-- so it may after each look that didn't find another one there
pub may_remove_made : {F : Type 0} (made : Made F) (path : Path) → string_bytes made.path ≡ path → (old new : Option (List Act)) → IfSome old (IsOurs made) → (result : Result Bool Error)
    → (result ≡ Ok false → ⊥) → LooksFor old new path made.file.original.identity result → IfSome new (MayRemove path)
may_remove_made made path at old new ours (Ok true) other (there, it, is) = may_remove_seen made path at old new ours there it is
may_remove_made made path at old new ours (Ok false) other looks = absurd (other refl)
may_remove_made made path at old new ours (Err error) other is = may_remove_unseen made path at old new ours is

-- what follows from two facts of what is told
pub both : (P Q R : List Act → Type 0) → ((acts : List Act) → P acts → Q acts → R acts) → (told : Option (List Act)) → IfSome told P → IfSome told Q → IfSome told R
both P Q R from None p q = tt
both P Q R from (Some acts) p q = from acts p q

pub each : (P R : List Act → Type 0) → ((acts : List Act) → P acts → R acts) → (told : Option (List Act)) → IfSome told P → IfSome told R
each P R from None p = tt
each P R from (Some acts) p = from acts p

pub read_grows : (old new : Option (List Act)) (file : Original) (result : Result (Vec ℕ Global) Error) → new ≡ told_read old file result → Grows old new
read_grows old new file (Ok text) is = act_grows old new _ is
read_grows old new file (Err error) is = same_grows old new is

pub done_grows : (old new : Option (List Act)) (result : Result (Unit {0}) Error) (act : Act) → new ≡ told_done old result act → Grows old new
done_grows None new result act is = same_grows None new is
done_grows (Some acts) new (Ok done) act is = act_grows (Some acts) new act is
done_grows (Some acts) new (Err error) act is = same_grows (Some acts) new is

pub held_stays : {F : Type 0} (at : Path) (file : Made F) → Stays (IsHeld at file)
held_stays at file since acts is =
    record { is_put = record { ours = ours_stays file since acts is.is_put.ours; there = is.is_put.there }; held = has_stays _ since acts is.held }

pub is_put_stays : {F : Type 0} (at : Path) (file : Made F) → Stays (IsPut at file)
is_put_stays at file since acts is = record { ours = ours_stays file since acts is.ours; there = is.there }

pub draft_stays : {F : Type 0} (holds : Bool) (file : Made F) → Stays (IsDraft holds file)
draft_stays holds file since acts is = record { ours = ours_stays file since acts is.ours; held = λ h. has_stays _ since acts (is.held h) }

pub again_stays : (path lock : Path) (found : Option Known) → Stays (IsAgain path lock found)
again_stays path lock None since acts is = under_stays lock _ since acts is
again_stays path lock (Some (file, text)) since acts (opened, read) = (under_stays lock _ since acts opened, under_stays lock _ since acts read)

if_stays : {F : Type 0} (P : Made F → List Act → Type 0) → ((file : Made F) → Stays (P file)) → (made : Option (Made F)) → Stays (λ acts. IfSome made (λ file. P file acts))
if_stays P stays None since acts is = tt
if_stays P stays (Some file) since acts is = stays file since acts is

-- a file that was just made
pub put_now : {F : Type 0} (old new : Option (List Act)) (path : Path) (file : Made F) → string_bytes file.path ≡ path → new ≡ told_make old path (Ok file.file) → IfSome new (IsPut path file)
put_now None new path file at is = subst (λ (told : Option (List Act)). IfSome told (IsPut path file)) (sym is) tt
put_now (Some acts) new path file at is =
    subst (λ (told : Option (List Act)). IfSome told (IsPut path file)) (sym is) (record { ours = record { made = (path, inl refl); put = inl (sym at) }; there = at })

-- the file was found again
pub again_file : (old seen new : Option (List Act)) (path lock : Path) (there file : Original) (text : List ℕ) (vec : Vec ℕ Global) → seen ≡ told_after (told_after old (Looked path (Some there))) (Opened path file)
    → new ≡ told_read seen file (Ok vec) → vec.items ≡ text → IfSome old (WasPut lock) → IfSome new (IsAgain path lock (Some (file, text)))
again_file None seen new path lock there file text vec sees reads same put =
    subst (λ (told : Option (List Act)). IfSome told (IsAgain path lock (Some (file, text)))) (sym (reads ∙ ap (λ t. told_read t file (Ok vec)) sees)) tt
again_file (Some acts) seen new path lock there file text vec sees reads same put =
    subst (λ (told : Option (List Act)). IfSome told (IsAgain path lock (Some (file, text)))) (sym (reads ∙ ap (λ t. told_read t file (Ok vec)) sees))
    (inr (inl (refl, inr put)), inl (ap (ReadText file) same, inr (inr put)))

pub again_none : (old new : Option (List Act)) (path lock : Path) → new ≡ told_after old (Looked path None) → IfSome old (WasPut lock) → IfSome new (IsAgain path lock None)
again_none None new path lock is put = subst (λ (told : Option (List Act)). IfSome told (IsAgain path lock None)) (sym is) tt
again_none (Some acts) new path lock is put = subst (λ (told : Option (List Act)). IfSome told (IsAgain path lock None)) (sym is) (inl (refl, put))

-- an edit that begins
pub editing_begins : (F : Type 0) (old new : Option (List Act)) (path lock : Path) (found : Option Known) (holds : Bool) → new ≡ told_after old (Began path lock found holds)
    → IfSome new (IsEditing {F = F} path lock found holds None None false)
editing_begins F None new path lock found holds is = subst (λ (told : Option (List Act)). IfSome told (IsEditing {F = F} path lock found holds None None false)) (sym is) tt
editing_begins F (Some acts) new path lock found holds is =
    subst (λ (told : Option (List Act)). IfSome told (IsEditing {F = F} path lock found holds None None false)) (sym is) (record { began = inl refl; draft = tt; own_lock = tt; again = λ same. absurd (cc same) })

module _ {F : Type 0} (path lock : Path) (found : Option Known) (holds : Bool) where
  -- what is known of an edit
  abbrev pub Editing : Option (Made F) → Option (Made F) → Bool → List Act → Type 0
  Editing drafted locked same = IsEditing path lock found holds drafted locked same

  pub editing_stays : (drafted locked : Option (Made F)) (same : Bool) → Stays (Editing drafted locked same)
  editing_stays drafted locked same since acts is = record {
    began = has_stays _ since acts is.began;
    draft = if_stays (IsDraft holds) (draft_stays holds) drafted since acts is.draft;
    own_lock = if_stays (IsPut lock) (is_put_stays lock) locked since acts is.own_lock;
    again = λ e. again_stays path lock found since acts (is.again e);
  }

  pub editing_on : (drafted locked : Option (Made F)) (same : Bool) (old new : Option (List Act)) → Grows old new → IfSome old (Editing drafted locked same) → IfSome new (Editing drafted locked same)
  editing_on drafted locked same old new grows is = still _ (editing_stays drafted locked same) old new grows is

  -- with another draft, or lock
  pub with_draft : (drafted after locked : Option (Made F)) (same : Bool) (told : Option (List Act)) → IfSome after (λ file. IfSome told (IsDraft holds file)) → IfSome told (Editing drafted locked same)
      → IfSome told (Editing after locked same)
  with_draft drafted after locked same None made is = tt
  with_draft drafted None locked same (Some acts) made is = record { began = is.began; draft = tt; own_lock = is.own_lock; again = is.again }
  with_draft drafted (Some file) locked same (Some acts) made is = record { began = is.began; draft = made; own_lock = is.own_lock; again = is.again }

  pub with_lock : (drafted locked after : Option (Made F)) (same : Bool) (told : Option (List Act)) → IfSome after (λ file. IfSome told (IsPut lock file)) → IfSome told (Editing drafted locked same)
      → IfSome told (Editing drafted after same)
  with_lock drafted locked after same None made is = tt
  with_lock drafted locked None same (Some acts) made is = record { began = is.began; draft = is.draft; own_lock = tt; again = is.again }
  with_lock drafted locked (Some file) same (Some acts) made is = record { began = is.began; draft = is.draft; own_lock = made; again = is.again }

  -- where the file was looked at, or isn't known to be the same
  pub with_same : (drafted locked : Option (Made F)) (same after : Bool) (told : Option (List Act)) → (after ≡ true → IfSome told (IsAgain path lock found)) → IfSome told (Editing drafted locked same)
      → IfSome told (Editing drafted locked after)
  with_same drafted locked same after None again is = tt
  with_same drafted locked same after (Some acts) again is = record { began = is.began; draft = is.draft; own_lock = is.own_lock; again = again }

  pub lock_put : (drafted locked : Option (Made F)) (same : Bool) (told : Option (List Act)) → IfSome told (Editing drafted locked same) → (file : Made F) → locked ≡ Some file → IfSome told (WasPut lock)
  lock_put drafted locked same told is file locked_is =
      each (Editing drafted (Some file) same) (WasPut lock) (λ acts e. subst (λ p. WasPut p acts) e.own_lock.there e.own_lock.ours.put) told
      (subst (λ l. IfSome told (Editing drafted l same)) locked_is is)

  -- the draft may be renamed over the file, once it was found
  pub ready : (drafted locked : Option (Made F)) (same : Bool) (told : Option (List Act)) → IfSome told (Editing drafted locked same) → (file : Made F) → drafted ≡ Some file → same ≡ true → IfSome told (IsReady path file)
  ready drafted locked same told is file drafted_is same_is =
      each (Editing (Some file) locked same) (IsReady path file) (λ acts e. record { lock = lock; found = found; holds = holds; began = e.began; draft = e.draft; again = e.again same_is }) told
      (subst (λ d. IfSome told (Editing d locked same)) drafted_is is)

  -- something was written to the draft
  pub draft_again : (drafted locked : Option (Made F)) (same : Bool) (old new : Option (List Act)) (a b : Made F) → Grows old new → b.file.original ≡ a.file.original → b.path ≡ a.path → drafted ≡ Some a
      → IfSome old (Editing drafted locked same) → IfSome new (Editing (Some b) locked same)
  draft_again drafted locked same old new a b grows file path is editing =
      each (Editing (Some a) locked same) (Editing (Some b) locked same)
      (λ acts e. record {
        began = e.began;
        draft = record {
          ours = record { made = subst (λ (i : Original). IsMade i.identity acts) (sym file) e.draft.ours.made; put = subst (λ p. WasPut p acts) (ap string_bytes (sym path)) e.draft.ours.put };
          held = λ h. subst (λ (i : Original). Has (Held i.identity) acts) (sym file) (e.draft.held h);
        };
        own_lock = e.own_lock;
        again = e.again;
      }) new (editing_on (Some a) locked same old new grows (subst (λ d. IfSome old (Editing d locked same)) is editing))

  pub lock_ours : (drafted locked : Option (Made F)) (same : Bool) (told : Option (List Act)) → IfSome told (Editing drafted locked same) → IfSome locked (λ file. IfSome told (IsOurs file))
  lock_ours drafted None same told is = tt
  lock_ours drafted (Some file) same told is = each _ (IsOurs file) (λ acts e. e.own_lock.ours) told is

  pub draft_ours : (drafted locked : Option (Made F)) (same : Bool) (told : Option (List Act)) → IfSome told (Editing drafted locked same) → IfSome drafted (λ file. IfSome told (IsOurs file))
  draft_ours None locked same told is = tt
  draft_ours (Some file) locked same told is = each _ (IsOurs file) (λ acts e. e.draft.ours) told is

pub may_rename : {F : Type 0} (to from : Path) (file : Made F) (old new : Option (List Act)) → IfSome old (IsReady to file) → (there : Original) → there.identity ≡ file.file.original.identity
    → new ≡ told_after old (Looked from (Some there)) → IfSome new (MayRename from to)
may_rename to from file None new is there it looked = subst (λ (told : Option (List Act)). IfSome told (MayRename from to)) (sym looked) tt
may_rename to from file (Some acts) new is there it looked =
    subst (λ (told : Option (List Act)). IfSome told (MayRename from to)) (sym looked)
    (record {
      lock = is.lock;
      found = is.found;
      holds = is.holds;
      began = inr is.began;
      draft = there;
      earlier = acts;
      looked = refl;
      made = (is.draft.ours.made.0, inr (subst (λ i. Has (Created is.draft.ours.made.0 i) acts) (sym it) is.draft.ours.made.1));
      held = λ h. inr (subst (λ i. Has (Held i) acts) (sym it) (is.draft.held h));
      again = again_stays to is.lock is.found (Looked from (Some there) ∷ []) acts is.again;
    })

pub may_rename_found : {F : Type 0} (to from : Path) (file : Made F) (old new : Option (List Act)) → IfSome old (IsReady to file) → (b : Bool) → b ≡ true → LooksFor old new from file.file.original.identity (Ok b)
    → IfSome new (MayRename from to)
may_rename_found to from file old new is true e (there, it, looked) = may_rename to from file old new is there it looked
may_rename_found to from file old new is false e looks = absurd (cc e)

-- the draft may be given the rights of the file
pub may_give : {F R : Type 0} (known : R → Known) (path lock : Path) (found : Option R) (holds : Bool) (drafted locked : Option (Made F)) (same : Bool) (told : Option (List Act))
    → IfSome told (IsEditing path lock (option_map known found) holds drafted locked same) → (r : R) → found ≡ Some r → (draft : Made F) → drafted ≡ Some draft
    → IfSome told (MayGive draft.file.original.identity (known r).0.rights)
may_give known path lock found holds drafted locked same told is r found_is draft drafted_is =
    each (IsEditing path lock (Some (known r)) holds (Some draft) locked same) (MayGive draft.file.original.identity (known r).0.rights)
    (λ acts e. record { path = path; lock = lock; found = (known r).0; text = (known r).1; holds = holds; began = e.began; same = refl; made = e.draft.ours.made }) told
    (subst (λ d. IfSome told (IsEditing path lock (Some (known r)) holds d locked same)) drafted_is
    (subst (λ f. IfSome told (IsEditing path lock (option_map known f) holds drafted locked same)) found_is is))

pub link_puts : (old new : Option (List Act)) (from to : Path) (result : Result (Unit {0}) Error) → new ≡ told_done old result (Linked from to) → OnOk result (IfSome new (WasPut to))
link_puts None new from to (Ok done) is = subst (λ (told : Option (List Act)). IfSome told (WasPut to)) (sym is) tt
link_puts (Some acts) new from to (Ok done) is = subst (λ (told : Option (List Act)). IfSome told (WasPut to)) (sym is) (inl refl)
link_puts old new from to (Err error) is = tt

-- a file of ours is one after more acts, also when something was written to it
pub ours_after : {F : Type 0} (a b : Made F) → b.file.original ≡ a.file.original → b.path ≡ a.path → (old new : Option (List Act)) → Grows old new → IfSome old (IsOurs a) → IfSome new (IsOurs b)
ours_after a b file path old new grows is =
    still (IsOurs b) (ours_stays b) old new grows
    (each (IsOurs a) (IsOurs b)
    (λ acts o. record { made = subst (λ (i : Original). IsMade i.identity acts) (sym file) o.made; put = subst (λ p. WasPut p acts) (ap string_bytes (sym path)) o.put }) old is)

-- a file that was linked is at that path
pub put_linked : {F : Type 0} (a b : Made F) (path : Path) → b.file.original ≡ a.file.original → string_bytes b.path ≡ path → (old new : Option (List Act)) → Grows old new → IfSome old (IsOurs a)
    → IfSome new (WasPut path) → IfSome new (IsPut path b)
put_linked a b path file at old new grows is linked =
    both (IsMade a.file.original.identity) (WasPut path) (IsPut path b)
    (λ acts made put. record { ours = record { made = subst (λ (i : Original). IsMade i.identity acts) (sym file) made; put = subst (λ p. WasPut p acts) (sym at) put }; there = at }) new
    (still _ (made_stays a.file.original.identity) old new grows (each (IsOurs a) (IsMade a.file.original.identity) (λ acts o. o.made) old is)) linked

pub held_so : {F : Type 0} (path : Path) (file : Made F) (old new : Option (List Act)) → Grows old new → IfSome old (IsPut path file) → IfSome new (Has (Held file.file.original.identity)) → IfSome new (IsHeld path file)
held_so path file old new grows is held =
    both (IsPut path file) (Has (Held file.file.original.identity)) (IsHeld path file) (λ acts p h. record { is_put = p; held = h }) new (still _ (is_put_stays path file) old new grows is) held

pub put_ours : {F : Type 0} (path : Path) (file : Made F) (old new : Option (List Act)) → Grows old new → IfSome old (IsPut path file) → IfSome new (IsOurs file)
put_ours path file old new grows is = still _ (ours_stays file) old new grows (each (IsPut path file) (IsOurs file) (λ acts p. p.ours) old is)

pub linked_still : (at : Path) (result : Result (Unit {0}) Error) (old new : Option (List Act)) → Grows old new → OnOk result (IfSome old (WasPut at)) → OnOk result (IfSome new (WasPut at))
linked_still at (Ok done) old new grows linked = still (WasPut at) (put_stays at) old new grows linked
linked_still at (Err error) old new grows linked = tt
