-- Lookups without a filter depend on the documents of the sections alone.
use Rattle.std.proofs.Common.{◌≡◌, ◌&&◌, ℕ, Bool, true, false, List, [], ◌∷◌, ◌++◌, map, filter, Option, Some, None, refl, ap, sym, ◌∙◌}
use Rattle.std.specs.Prelude.{cond, filter_map, flat_map, option_map}
use Rattle.std.specs.List.{last_or}
use Rattle.std.specs.Option.{option_eq}
use Rattle.std.proofs.lemmas.List.{map-append}
use Rattle.std.specs.Str.{bytes_eq}
use Rattle.gitconf_text.specs.Names.{is_same_name}
use Rattle.gitconf_text.specs.Document.{DocumentEntry, DocumentSection}
use Rattle.gitconf_text.specs.Value.{plain}
use Rattle.gitconf_sources.specs.Key.{Key}
use Rattle.gitconf_sources.specs.Metadata.{Meta}
use Rattle.gitconf_state.specs.Lookup.{Listed, Said, deciding, is_named, listed, listing, meaning, said, said_by, said_of}
use Rattle.gitconf_state.specs.State.{SectionState, State, section_document}
use Rattle.gitconf_lookups.specs.Lookups.{implicit_at, value_at, values_at}

-- what a document's section says of a key: its entries, if there are some
abbrev group : List DocumentEntry → List (List DocumentEntry)
group [] = []
group (e ∷ es) = (e ∷ es) ∷ []

abbrev one_said : (name : List ℕ) → (subsection : Option (List ℕ)) → (key : List ℕ) → DocumentSection → List (List DocumentEntry)
one_said name subsection key d =
    cond (is_same_name name d.name && option_eq bytes_eq d.subsection subsection) (group (filter (λ e. is_same_name key e.name) d.entries)) []

grouped : (number : ℕ) (meta : Meta) (es : List DocumentEntry) → map (λ (s : Said). s.entries) (said_of number meta es) ≡ group es
grouped number meta [] = refl
grouped number meta (e ∷ es) = refl

said_is : (name : List ℕ) (subsection : Option (List ℕ)) (key : List ℕ) (ls : List Listed)
    → map (λ (s : Said). s.entries) (said name subsection key ls) ≡ flat_map (one_said name subsection key) (map (λ (l : Listed). l.document) ls)
said_is name subsection key [] = refl
said_is name subsection key (l ∷ ls) = go (is_named name subsection l) refl (said_is name subsection key ls)
  where
    go : (b : Bool) → is_named name subsection l ≡ b
        → map (λ (s : Said). s.entries) (said name subsection key ls) ≡ flat_map (one_said name subsection key) (map (λ (l : Listed). l.document) ls)
        → map (λ (s : Said). s.entries) (said name subsection key (l ∷ ls)) ≡ flat_map (one_said name subsection key) (map (λ (l : Listed). l.document) (l ∷ ls))
    go true is rest = rw is (
        map-append (λ (s : Said). s.entries) (said_by key l) (said name subsection key ls)
        ∙ ap (λ xs. xs ++ map (λ (s : Said). s.entries) (said name subsection key ls)) (grouped l.number l.meta (filter (λ e. is_same_name key e.name) l.document.entries))
        ∙ ap (λ ys. group (filter (λ e. is_same_name key e.name) l.document.entries) ++ ys) rest
        )
    go false is rest = rw is rest

-- no filter
kept : {A : Type 0} (xs : List A) → filter (λ x. true) xs ≡ xs
kept [] = refl
kept (x ∷ xs) = ap (λ ys. x ∷ ys) (kept xs)

mapped : {A B C : Type 0} (f : B → Option C) (g : A → B) (xs : List A) → filter_map (λ x. f (g x)) xs ≡ filter_map f (map g xs)
mapped f g [] = refl
mapped f g (x ∷ xs) = go (f (g x)) refl (mapped f g xs)
  where
    go : (o : Option _) → f (g x) ≡ o → filter_map (λ x. f (g x)) xs ≡ filter_map f (map g xs) → filter_map (λ x. f (g x)) (x ∷ xs) ≡ filter_map f (map g (x ∷ xs))
    go None is rest = rw is rest
    go (Some c) is rest = rw is (ap (λ ys. c ∷ ys) rest)

joined : {A B : Type 0} (g : A → List B) (xs : List A) → flat_map g xs ≡ flat_map (λ ys. ys) (map g xs)
joined g [] = refl
joined g (x ∷ xs) = ap (λ ys. g x ++ ys) (joined g xs)

documents : (ss : List SectionState) → map (λ (l : Listed). l.document) (map listing ss) ≡ map section_document ss
documents [] = refl
documents (s ∷ ss) = ap (λ ds. section_document s ∷ ds) (documents ss)

-- what the sections of a state say of a key, whatever they are from
abbrev all_said : Key → State → List Said
all_said key state = filter (λ (s : Said). true) (said key.section key.subsection key.name (listed state))

module _ (one other : State) (same : map section_document one.sections ≡ map section_document other.sections) (key : Key) where
  said_alike : map (λ (s : Said). s.entries) (all_said key one) ≡ map (λ (s : Said). s.entries) (all_said key other)
  said_alike =
      ap (map (λ (s : Said). s.entries)) (kept (said key.section key.subsection key.name (listed one)))
      ∙ said_is key.section key.subsection key.name (listed one)
      ∙ ap (flat_map (one_said key.section key.subsection key.name)) (documents one.sections ∙ same ∙ sym (documents other.sections))
      ∙ sym (said_is key.section key.subsection key.name (listed other))
      ∙ ap (map (λ (s : Said). s.entries)) (sym (kept (said key.section key.subsection key.name (listed other))))

  pub same_value : value_at key (λ _. true) one ≡ value_at key (λ _. true) other
  same_value =
      ap (λ vs. option_map plain (last_or None vs))
      (mapped (λ (es : List DocumentEntry). deciding es) (λ (s : Said). s.entries) (all_said key one) ∙ ap (filter_map deciding) said_alike ∙ sym (mapped deciding (λ (s : Said). s.entries) (all_said key other)))

  pub same_values : values_at key (λ _. true) one ≡ values_at key (λ _. true) other
  same_values = ap (map meaning) (joined (λ (s : Said). s.entries) (all_said key one) ∙ ap (flat_map (λ ys. ys)) said_alike ∙ sym (joined (λ (s : Said). s.entries) (all_said key other)))

  pub same_implicit : implicit_at key (λ _. true) one ≡ implicit_at key (λ _. true) other
  same_implicit =
      ap (λ es. option_map (λ (e : DocumentEntry). option_map plain e.raw) (last_or None es))
      (mapped (λ (es : List DocumentEntry). last_or None es) (λ (s : Said). s.entries) (all_said key one) ∙ ap (filter_map (λ (es : List DocumentEntry). last_or None es)) said_alike
      ∙ sym (mapped (λ (es : List DocumentEntry). last_or None es) (λ (s : Said). s.entries) (all_said key other)))
