-- What lookups find in one body, and what a walk over it gives, as functions of its entries.
use Rattle.std.specs.Prelude.{◌≡◌, ◌≢◌, ℕ, Bool, List, [], ◌∷◌, map, filter, Option, Some, None, Result, Ok, Err}
use Rattle.std.specs.Option.{option_map}
use Rattle.std.specs.List.{last_or, list_any}
use Rattle.std.specs.Borrow.{Bor}
use Rattle.std.specs.declared.vec.Vec.{Vec}
use Rattle.std.specs.declared.alloc.Global.{Global}
use Rattle.bstr.specs.declared.bstring.BString.{BString}
use Rattle.bstr.specs.Owned.{bstring_bytes}
use Rattle.gitconf_text.specs.Names.{is_same_name}
use Rattle.gitconf_text.specs.Value.{plain}
use Rattle.gitconf_text.specs.Document.{DocumentEntry}
use Rattle.gitconf_state.specs.Lookup.{deciding, meaning}

-- the entries of a key, in order
abbrev pub of_key : (key : List ℕ) → List DocumentEntry → List DocumentEntry
of_key key entries = filter (λ e. is_same_name key e.name) entries

-- whether there is an entry of the key
abbrev pub has_key : (key : List ℕ) → List DocumentEntry → Bool
has_key key entries = list_any (λ e. is_same_name key e.name) entries

-- the meaning of the key's last entry, if that entry has a value
abbrev pub value_in : (key : List ℕ) → List DocumentEntry → Option (List ℕ)
value_in key entries = option_map plain (deciding (of_key key entries))

-- nothing without an entry of the key; otherwise the meaning of the last entry's value, if it has one
abbrev pub implicit_value_in : (key : List ℕ) → List DocumentEntry → Option (Option (List ℕ))
implicit_value_in key entries = option_map (λ e. option_map plain e.raw) (last_or None (of_key key entries))

-- the meanings of all entries of the key, in order
abbrev pub values_in : (key : List ℕ) → List DocumentEntry → List (List ℕ)
values_in key entries = map meaning (of_key key entries)

-- What was found is the value, or that the entry has none, or that there is no entry. A refusal comes only if there is a value.
abbrev pub IsFoundImplicit : {E : Type 0} → Result (Option (Option BString)) E → Option (Option (List ℕ)) → Type 0
IsFoundImplicit (Ok found) value = option_map (option_map bstring_bytes) found ≡ value
IsFoundImplicit (Err refusal) value = (meaning : List ℕ) × (value ≡ Some (Some meaning))

-- What was found are the values. A refusal comes only if there are some.
abbrev pub AreFound : {E : Type 0} → Result (Vec BString Global) E → List (List ℕ) → Type 0
AreFound (Ok found) values = map bstring_bytes found.items ≡ values
AreFound (Err refusal) values = values ≢ []

-- The item is the entry: its name and its meaning, which is empty without `=`. A refusal skips the entry, and comes only if it has a value.
abbrev pub IsEntryItem : {E : Type 0} → Result (Bor (List ℕ) × BString) E → DocumentEntry → Type 0
IsEntryItem (Ok item) e = (item.0.now ≡ e.name) × (bstring_bytes item.1 ≡ meaning e)
IsEntryItem (Err refusal) e = e.raw ≢ None

-- A call gave the first of the entries and left the others, or gave nothing because there were none, and left none.
abbrev pub GivesEntry : {E : Type 0} → (before : List DocumentEntry) → Option (Result (Bor (List ℕ) × BString) E) → (behind : List DocumentEntry) → Type 0
GivesEntry before None behind = (before ≡ []) × (behind ≡ [])
GivesEntry before (Some item) behind = (e : DocumentEntry) × (before ≡ e ∷ behind) × IsEntryItem item e
