-- A tree of texts as the table in memory that it stands for.
use Rattle.std.proofs.Common.{◌≡◌, ℕ, Bool, true, false, cond, List, [], ◌∷◌, Option, Some, None, refl, ap, sym, ◌∙◌, string_bytes}
use Rattle.std.specs.Prelude.{is_some, unwrap_or}
use Rattle.std.specs.Option.{option_map}
use Rattle.std.specs.Ordering.{nat_cmp, is_eq, match_ordering}
use Rattle.std.specs.Cmp.Lexicographic.{slice_cmp}
use Rattle.std.specs.String.{string_cmp}
use Rattle.std.specs.Str.{bytes_eq}
use Rattle.std.specs.Map.{lookup}
use Rattle.std.specs.BTreeMap.{BTreeMap, insert_entry, is_at, UpdatesBy}
use Rattle.std.specs.declared.cmp.Ordering.{Ordering}
use Rattle.std.specs.declared.cmp.Ordering.TheVariants.{Less, Equal, Greater}
use Rattle.std.specs.declared.string.String.{String}
use Rattle.std.specs.declared.alloc.Global.{Global}
use Rattle.std.proofs.lemmas.Map.Text.{is_eq-slice_cmp, btree_map_updates_text}
use Rattle.gitconf_sources.specs.Reports.{NoFile, is_there}
use Rattle.gitconf_sources.specs.InMemory.{reported_entries, with_entry, entry_at, file_report}
use Rattle.gitconf_sources.specs.declared.mem_files.MemFile.{MemFile}
use Rattle.gitconf_sources.specs.declared.mem_files.MemFile.TheVariants.{Bytes, OpenFault, ReadFault}

-- what is told after a test
mapped : {A B : Type 0} (f : A → B) (b : Bool) (x y : Option A) → option_map f (cond b x y) ≡ cond b (option_map f x) (option_map f y)
mapped f true x y = refl
mapped f false x y = refl

-- a default after a test
unwrapped : {A : Type 0} (b : Bool) (x d : A) (o : Option A) → unwrap_or (cond b (Some x) o) d ≡ cond b x (unwrap_or o d)
unwrapped true x d o = refl
unwrapped false x d o = refl

-- the tree's entry of a key is that of the table
pub found_entry : {V W : Type 0} (told : V → W) (key : List ℕ) (entries : List (String Global × V))
    → option_map told (lookup (is_at (λ k. slice_cmp nat_cmp key (string_bytes k))) entries) ≡ lookup (bytes_eq key) (reported_entries told entries)
found_entry told key [] = refl
found_entry told key (e ∷ entries) =
    mapped told (is_eq (slice_cmp nat_cmp key (string_bytes e.0))) _ _
    ∙ (λ j. cond (is_eq-slice_cmp key (string_bytes e.0) j) (Some (told e.1)) (found_entry told key entries j))

-- what was found in the tree, or a default, is what the table says
pub told_at : {V W : Type 0} (told : V → W) (absent : W) (key : List ℕ) (entries : List (String Global × V)) (found : Option V)
    → found ≡ lookup (is_at (λ k. slice_cmp nat_cmp key (string_bytes k))) entries
    → unwrap_or (option_map told found) absent ≡ entry_at absent (reported_entries told entries) key
told_at told absent key entries found is =
    ap (λ o. unwrap_or (option_map told o) absent) is ∙ ap (λ o. unwrap_or o absent) (found_entry told key entries)

-- what is put into the tree is put into the table
pub put_entry : {V W : Type 0} (told : V → W) (key : String Global) (value : V) (entries : List (String Global × V))
    → reported_entries told (insert_entry string_cmp entries key value) ≡ with_entry (string_bytes key) (told value) (reported_entries told entries)
put_entry told key value [] = refl
put_entry told key value (e ∷ entries) = go (string_cmp key e.0) (put_entry told key value entries)
  where
    go : (o : Ordering) → reported_entries told (insert_entry string_cmp entries key value) ≡ with_entry (string_bytes key) (told value) (reported_entries told entries)
        → reported_entries told (match_ordering o ((key, value) ∷ e ∷ entries) ((e.0, value) ∷ entries) (e ∷ insert_entry string_cmp entries key value))
        ≡ match_ordering o ((string_bytes key, told value) ∷ reported_entries told (e ∷ entries)) ((string_bytes e.0, told value) ∷ reported_entries told entries)
        ((string_bytes e.0, told e.1) ∷ with_entry (string_bytes key) (told value) (reported_entries told entries))
    go Less later = refl
    go Equal later = refl
    go Greater later = ap (λ es. (string_bytes e.0, told e.1) ∷ es) later

-- after a change at one key each other has the entry that it had
pub last_entry : {V W : Type 0} (told : V → W) (absent : W) (key : List ℕ) (old new : BTreeMap (String Global) V) (value : V)
    → UpdatesBy string_cmp (λ k. slice_cmp nat_cmp key (string_bytes k)) old new (Some value)
    → (asked : List ℕ) → entry_at absent (reported_entries told new.entries) asked
    ≡ cond (bytes_eq key asked) (told value) (entry_at absent (reported_entries told old.entries) asked)
last_entry told absent key old new value changes asked =
    ap (λ o. unwrap_or o absent)
    (sym (found_entry told asked new.entries) ∙ ap (option_map told) (btree_map_updates_text key old new (Some value) changes asked)
    ∙ mapped told (bytes_eq key asked) _ _ ∙ ap (λ o. cond (bytes_eq key asked) (Some (told value)) o) (found_entry told asked old.entries))
    ∙ unwrapped (bytes_eq key asked) (told value) absent (lookup (bytes_eq asked) (reported_entries told old.entries))

-- a file was found where one is told
is_found : (found : Option MemFile) → is_some found ≡ is_there (unwrap_or (option_map file_report found) NoFile)
is_found None = refl
is_found (Some (Bytes bytes trust)) = refl
is_found (Some (OpenFault not_found)) = refl
is_found (Some ReadFault) = refl

pub is_entry_at : (path : List ℕ) (entries : List (String Global × MemFile))
    → is_some (lookup (is_at (λ k. slice_cmp nat_cmp path (string_bytes k))) entries) ≡ is_there (entry_at NoFile (reported_entries file_report entries) path)
is_entry_at path entries =
    is_found (lookup (is_at (λ k. slice_cmp nat_cmp path (string_bytes k))) entries)
    ∙ ap is_there (told_at file_report NoFile path entries (lookup (is_at (λ k. slice_cmp nat_cmp path (string_bytes k))) entries) refl)
