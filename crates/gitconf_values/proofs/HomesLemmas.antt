-- A tree of texts as the table of homes that it stands for.
use Rattle.std.proofs.Common.{◌≡◌, ℕ, Bool, true, false, cond, List, [], ◌∷◌, Option, Some, refl, ap, sym, ◌∙◌, string_bytes}
use Rattle.std.specs.Option.{option_map}
use Rattle.std.specs.Ordering.{nat_cmp, is_eq, match_ordering}
use Rattle.std.specs.Cmp.Lexicographic.{slice_cmp}
use Rattle.std.specs.String.{string_cmp}
use Rattle.std.specs.Str.{bytes_eq}
use Rattle.std.specs.Map.{lookup}
use Rattle.std.specs.BTreeMap.{BTreeMap, insert_entry, is_at, UpdatesBy}
use Rattle.std.specs.declared.cmp.Ordering.{Ordering}
use Rattle.std.specs.declared.cmp.Ordering.TheVariants.{Less, Equal, Greater}
use Rattle.std.specs.declared.string.String.{String}
use Rattle.std.specs.declared.alloc.Global.{Global}
use Rattle.std.proofs.lemmas.Map.Text.{is_eq-slice_cmp, btree_map_updates_text}
use Rattle.gitconf_values.specs.Homes.{homes_of, folder_of, with_home}

-- a text is mapped after a test
mapped : {A B : Type 0} (f : A → B) (b : Bool) (x y : Option A) → option_map f (cond b x y) ≡ cond b (option_map f x) (option_map f y)
mapped f true x y = refl
mapped f false x y = refl

-- the tree's folder of a user is that of the table
pub found_folder : (user : List ℕ) (entries : List (String Global × String Global))
    → option_map string_bytes (lookup (is_at (λ k. slice_cmp nat_cmp user (string_bytes k))) entries) ≡ folder_of user (homes_of entries)
found_folder user [] = refl
found_folder user (e ∷ entries) =
    mapped string_bytes (is_eq (slice_cmp nat_cmp user (string_bytes e.0))) _ _
    ∙ (λ j. cond (is_eq-slice_cmp user (string_bytes e.0) j) (Some (string_bytes e.1)) (found_folder user entries j))

-- what is put into the tree is put into the table
pub put_home : (user folder : String Global) (entries : List (String Global × String Global))
    → homes_of (insert_entry string_cmp entries user folder) ≡ with_home (string_bytes user) (string_bytes folder) (homes_of entries)
put_home user folder [] = refl
put_home user folder (e ∷ entries) = go (string_cmp user e.0) (put_home user folder entries)
  where
    go : (o : Ordering) → homes_of (insert_entry string_cmp entries user folder) ≡ with_home (string_bytes user) (string_bytes folder) (homes_of entries)
        → homes_of (match_ordering o ((user, folder) ∷ e ∷ entries) ((e.0, folder) ∷ entries) (e ∷ insert_entry string_cmp entries user folder))
        ≡ match_ordering o ((string_bytes user, string_bytes folder) ∷ homes_of (e ∷ entries)) ((string_bytes e.0, string_bytes folder) ∷ homes_of entries)
        ((string_bytes e.0, string_bytes e.1) ∷ with_home (string_bytes user) (string_bytes folder) (homes_of entries))
    go Less later = refl
    go Equal later = refl
    go Greater later = ap (λ hs. (string_bytes e.0, string_bytes e.1) ∷ hs) later

-- after a change at one user each other has the folder that it had
pub last_home : (user : List ℕ) (old new : BTreeMap (String Global) (String Global)) (folder : String Global)
    → UpdatesBy string_cmp (λ k. slice_cmp nat_cmp user (string_bytes k)) old new (Some folder)
    → (asked : List ℕ) → folder_of asked (homes_of new.entries) ≡ cond (bytes_eq user asked) (Some (string_bytes folder)) (folder_of asked (homes_of old.entries))
last_home user old new folder changes asked =
    sym (found_folder asked new.entries) ∙ ap (option_map string_bytes) (btree_map_updates_text user old new (Some folder) changes asked)
    ∙ mapped string_bytes (bytes_eq user asked) _ _ ∙ ap (λ f. cond (bytes_eq user asked) (Some (string_bytes folder)) f) (found_folder asked old.entries)
