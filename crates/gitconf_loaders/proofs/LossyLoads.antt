-- A lossy load says what a full one does.
use Rattle.std.proofs.Common.{◌≡◌, ℕ, ◌+◌, Bool, true, false, List, [], ◌∷◌, ◌++◌, length, Option, Some, None, Result, Ok, Err, inl, inr, refl, sym, ap, subst, ◌∙◌}
use Rattle.std.specs.Prelude.{◌||◌, if◌then◌else◌, map}
use Rattle.std.proofs.lemmas.List.{map-append}
use Rattle.std.proofs.lemmas.List.Concat.{flat_map-append}
use Rattle.gitconf_text.specs.Part.{Item, LineEndsItem}
use Rattle.gitconf_sources.specs.Metadata.{Meta}
use Rattle.gitconf_sources.specs.Reports.{FileReport, read_of}
use Rattle.gitconf_sources.specs.declared.fault.FileFault.{FileFault}
use Rattle.gitconf_state.specs.Edits.{Append, appended, apply, begins_with, between, held_behind_last, joined, numbered_from}
use Rattle.gitconf_state.specs.LineEnds.{ends_line, file_line_end}
use Rattle.gitconf_state.specs.Lookup.{listing}
use Rattle.gitconf_state.specs.State.{entries_of, item_entries, SectionState, State}
use Rattle.gitconf_includes.specs.Expansion.{Ended, IsLoaded, On}
use Rattle.gitconf_includes.specs.Laws.{asks_with, SayTheSame}
use Rattle.gitconf_includes.specs.Rules.{Rules}
use Rattle.gitconf_includes.proofs.Lossy.{listed_held, loaded_alike, same_length, same_numbered, say_the_same}
use Rattle.gitconf_loaders.specs.Paths.{AreFilesLoaded, has_room_behind, IsAppendedTo, IsFileLoaded, IsLoadOfPaths, IsMadeBehind, IsMetaLoaded, IsTextTaken, Joins, once, taken}
use Rattle.gitconf_loaders.specs.Refused.{NoRoom, Refused, Unmade}
use Rattle.gitconf_loaders.proofs.Around.{around_made}
use Rattle.gitconf_loaders.specs.Resolving.{IsMadeOf}
use Rattle.gitconf_store.specs.Appends.{appended_bytes}

-- a line ending between has no entries
none_between : (line_end : List ℕ) (items others : List Item) → entries_of (between line_end items others) ≡ []
none_between line_end [] others = refl
none_between line_end (i ∷ items) others = go (ends_line line_end (i ∷ items) || begins_with line_end others)
  where
    go : (needless : Bool) → entries_of (if needless then [] else LineEndsItem line_end ∷ []) ≡ []
    go true = refl
    go false = refl

entries_joined : (line_end : List ℕ) (items others : List Item) → entries_of (joined line_end items others) ≡ entries_of items ++ entries_of others
entries_joined line_end items others =
    flat_map-append item_entries items (between line_end items others ++ others)
    ∙ ap (λ es. entries_of items ++ es) (flat_map-append item_entries (between line_end items others) others ∙ ap (λ es. es ++ entries_of others) (none_between line_end items others))

-- a file after another one
appended_alike : (full lossy done now : State) → SayTheSame full lossy → SayTheSame done now → SayTheSame (appended full done) (appended lossy now)
appended_alike full lossy done now others same = record {
  front = front done.sections now.sections same.sections;
  sections =
      map-append listing (held_behind_last (file_line_end done) full.front done.sections) (numbered_from done.next full.sections)
      ∙ (λ i. before i ++ behind i)
      ∙ sym (map-append listing (held_behind_last (file_line_end now) lossy.front now.sections) (numbered_from now.next lossy.sections));
  next = λ i. same.next i + same_length full.sections lossy.sections others.sections i;
}
  where
    front : (ss ts : List SectionState) → map listing ss ≡ map listing ts
        → entries_of (elim ss as (λ _. List Item) [ [] ↦ joined (file_line_end done) done.front full.front | s ∷ sections ↦ done.front ])
        ≡ entries_of (elim ts as (λ _. List Item) [ [] ↦ joined (file_line_end now) now.front lossy.front | t ∷ sections ↦ now.front ])
    front [] [] listed =
        entries_joined (file_line_end done) done.front full.front ∙ (λ i. same.front i ++ others.front i) ∙ sym (entries_joined (file_line_end now) now.front lossy.front)
    front [] (t ∷ ts) listed = absurd (cc)
    front (s ∷ ss) [] listed = absurd (cc)
    front (s ∷ ss) (t ∷ ts) listed = same.front

    before : map listing (held_behind_last (file_line_end done) full.front done.sections) ≡ map listing (held_behind_last (file_line_end now) lossy.front now.sections)
    before = listed_held (file_line_end done) full.front done.sections ∙ same.sections ∙ sym (listed_held (file_line_end now) lossy.front now.sections)

    behind : map listing (numbered_from done.next full.sections) ≡ map listing (numbered_from now.next lossy.sections)
    behind = same_numbered done.next full.sections lossy.sections others.sections ∙ ap (λ n. map listing (numbered_from n lossy.sections)) same.next

put_behind_alike : (full lossy done now all some : State) → SayTheSame full lossy → SayTheSame done now → IsAppendedTo done full all → IsAppendedTo now lossy some → SayTheSame all some
put_behind_alike full lossy done now all some others same is too =
    let alike = appended_alike full lossy done now others same in
    subst (λ s. SayTheSame s some) (sym is) (subst (SayTheSame (record (appended full done) { used = done.used + appended_bytes full done })) (sym too)
    (record { front = alike.front; sections = alike.sections; next = alike.next }))

-- files, or none, that say the same
abbrev SameOrNone : (one other : Option State) → Type 0
SameOrNone None None = Unit {0}
SameOrNone None (Some other) = ⊥
SameOrNone (Some one) None = ⊥
SameOrNone (Some one) (Some other) = SayTheSame one other

module _ (rules : Rules) (files : List ℕ → FileReport) where
  pub made_alike : {E : Type 0} (tells : E → Refused) (text : List ℕ) (place : Meta) (full lossy : State) → IsMadeOf tells (asks_with false rules files) text place (Ok full)
      → IsMadeOf tells (asks_with true rules files) text place (Ok lossy) → SayTheSame full lossy
  made_alike tells text place full lossy (Err n, load, makes) too = absurd makes
  made_alike tells text place full lossy (Ok one, load, makes) (Err n, load_too, makes_too) = absurd makes_too
  made_alike tells text place full lossy (Ok one, load, (Ended n file, expands, makes)) too = absurd makes
  made_alike tells text place full lossy (Ok one, load, (On done, expands, makes)) (Ok other, load_too, (Ended n file, expands_too, makes_too)) = absurd makes_too
  made_alike tells text place full lossy (Ok one, load, (On done, expands, makes)) (Ok other, load_too, (On now, expands_too, makes_too)) =
      subst (λ s. SayTheSame s lossy) (sym makes) (subst (SayTheSame done) (sym makes_too)
      (say_the_same rules files rules.max_depth None None one other done now tt (loaded_alike text place one other load load_too) expands expands_too))

  joins_alike : (path : List ℕ) (target other : Option State) (made made_too : State) (now then_now : Option State) → SameOrNone target other → SayTheSame made made_too → Joins path target made (Ok now) → Joins path other made_too (Ok then_now)
      → SameOrNone now then_now
  joins_alike path None None made made_too now then_now same files_same is too = subst (λ s. SameOrNone s then_now) (sym (some_of is)) (subst (SameOrNone (Some made)) (sym (some_of too)) files_same)
    where
      some_of : {one other : Option State} → ◌≡◌ {A = Result (Option State) Refused} (Ok one) (Ok other) → one ≡ other
      some_of is = cc
  joins_alike path None (Some other) made made_too now then_now same files_same is too = absurd same
  joins_alike path (Some target) None made made_too now then_now same files_same is too = absurd same
  joins_alike path (Some target) (Some other) made made_too now then_now same files_same is too = go (has_room_behind target made) (has_room_behind other made_too) is too
    where
      go : (room room_too : Bool) → elim room as (λ _. Type 0) [ true ↦ (s : State) × IsAppendedTo target made s × (◌≡◌ {A = Result (Option State) Refused} (Ok now) (Ok (Some s))) | false ↦ ◌≡◌ {A = Result (Option State) Refused} (Ok now) (Err (Unmade path (NoRoom 3))) ]
          → elim room_too as (λ _. Type 0) [ true ↦ (s : State) × IsAppendedTo other made_too s × (◌≡◌ {A = Result (Option State) Refused} (Ok then_now) (Ok (Some s))) | false ↦ ◌≡◌ {A = Result (Option State) Refused} (Ok then_now) (Err (Unmade path (NoRoom 3))) ]
          → SameOrNone now then_now
      go false room_too is too = absurd (cc)
      go true false is too = absurd (cc)
      go true true (s, behind, is) (t, behind_too, too) =
          let one : now ≡ Some s = cc in
          let other_one : then_now ≡ Some t = cc in
          subst (λ x. SameOrNone x then_now) (sym one) (subst (SameOrNone (Some s)) (sym other_one) (put_behind_alike made made_too target other s t files_same same behind behind_too))

  -- one file
  file_alike : (must_exist ignores : Bool) (meta : Meta) (path : List ℕ) (target other now then_now : Option State) → SameOrNone target other
      → IsFileLoaded must_exist ignores (asks_with false rules files) meta path target (Ok now) → IsFileLoaded must_exist ignores (asks_with true rules files) meta path other (Ok then_now) → SameOrNone now then_now
  file_alike must_exist ignores meta path target other now then_now same (inl wanting) too = absurd (cc)
  file_alike must_exist ignores meta path target other now then_now same (inr is) (inl wanting) = absurd (cc)
  file_alike must_exist ignores meta path target other now then_now same (inr (text, (answer, told, is), made)) (inr (text_too, (answer_too, told_too, is_too), made_too)) =
      let texts : text_too ≡ text = is_too ∙ ap (taken must_exist ignores path) (told_too ∙ sym told) ∙ sym is in
      go text made (subst (λ t. IsMadeBehind (asks_with true rules files) meta path other t (Ok then_now)) texts made_too)
    where
      as_before : ◌≡◌ {A = Result (Option State) Refused} (Ok now) (Ok target) → ◌≡◌ {A = Result (Option State) Refused} (Ok then_now) (Ok other) → SameOrNone now then_now
      as_before is too =
          let one : now ≡ target = cc in
          let other_one : then_now ≡ other = cc in
          subst (λ x. SameOrNone x then_now) (sym one) (subst (SameOrNone target) (sym other_one) same)

      go : (text : Result (Option (List ℕ)) Refused) → IsMadeBehind (asks_with false rules files) meta path target text (Ok now) → IsMadeBehind (asks_with true rules files) meta path other text (Ok then_now) → SameOrNone now then_now
      go (Err n) is too = absurd (cc)
      go (Ok None) is too = as_before is too
      go (Ok (Some text)) (Err n, is_made, e) too = absurd (cc)
      go (Ok (Some text)) (Ok file, is_made, joins) (Err n, is_made_too, e) = absurd (cc)
      go (Ok (Some text)) (Ok file, is_made, joins) (Ok file_too, is_made_too, joins_too) =
          joins_alike path target other file file_too now then_now same
          (made_alike (λ (why : Refused). why) text meta file file_too (around_made (Unmade path) (IsMadeOf (λ why. why) (asks_with false rules files) text meta) file is_made)
          (around_made (Unmade path) (IsMadeOf (λ why. why) (asks_with true rules files) text meta) file_too is_made_too)) joins joins_too

  meta_alike : (must_exist ignores : Bool) (meta : Meta) (target other now then_now : Option State) → SameOrNone target other
      → IsMetaLoaded must_exist ignores (asks_with false rules files) meta target (Ok now) → IsMetaLoaded must_exist ignores (asks_with true rules files) meta other (Ok then_now) → SameOrNone now then_now
  meta_alike must_exist ignores meta target other now then_now same is too = go meta.path is too
    where
      go : (path : Option (List ℕ))
          → elim path as (λ _. Type 0) [ None ↦ ◌≡◌ {A = Result (Option State) Refused} (Ok now) (Ok target) | Some p ↦ IsFileLoaded must_exist ignores (asks_with false rules files) meta p target (Ok now) ]
          → elim path as (λ _. Type 0) [ None ↦ ◌≡◌ {A = Result (Option State) Refused} (Ok then_now) (Ok other) | Some p ↦ IsFileLoaded must_exist ignores (asks_with true rules files) meta p other (Ok then_now) ] → SameOrNone now then_now
      go None is too =
          let one : now ≡ target = cc in
          let other_one : then_now ≡ other = cc in
          subst (λ x. SameOrNone x then_now) (sym one) (subst (SameOrNone target) (sym other_one) same)
      go (Some path) is too = file_alike must_exist ignores meta path target other now then_now same is too

  files_alike : (must_exist ignores : Bool) (metas : List Meta) (target other now then_now : Option State) → SameOrNone target other
      → AreFilesLoaded must_exist ignores (asks_with false rules files) metas target (Ok now) → AreFilesLoaded must_exist ignores (asks_with true rules files) metas other (Ok then_now) → SameOrNone now then_now
  files_alike must_exist ignores [] target other now then_now same is too =
      let one : now ≡ target = cc in
      let other_one : then_now ≡ other = cc in
      subst (λ x. SameOrNone x then_now) (sym one) (subst (SameOrNone target) (sym other_one) same)
  files_alike must_exist ignores (meta ∷ metas) target other now then_now same (Err n, is, later) too = absurd (cc)
  files_alike must_exist ignores (meta ∷ metas) target other now then_now same (Ok mid, is, later) (Err n, is_too, later_too) = absurd (cc)
  files_alike must_exist ignores (meta ∷ metas) target other now then_now same (Ok mid, is, later) (Ok mid_too, is_too, later_too) =
      files_alike must_exist ignores metas mid mid_too now then_now (meta_alike must_exist ignores meta target other mid mid_too same is is_too) later later_too

  pub paths_alike : (must_exist ignores : Bool) (metas : List Meta) (full lossy : State) → IsLoadOfPaths must_exist ignores (asks_with false rules files) metas (Ok (Some full))
      → IsLoadOfPaths must_exist ignores (asks_with true rules files) metas (Ok (Some lossy)) → SayTheSame full lossy
  paths_alike must_exist ignores metas full lossy (inl wanting) too = absurd (cc)
  paths_alike must_exist ignores metas full lossy (inr is) (inl wanting) = absurd (cc)
  paths_alike must_exist ignores metas full lossy (inr is) (inr too) = files_alike must_exist ignores (once [] metas) None None (Some full) (Some lossy) tt is too
