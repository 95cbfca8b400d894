-- Entries that variables say, by how the calls that put them end.
use Rattle.std.proofs.Common.{◌≡◌, ◌≢◌, ℕ, zero, suc, ◌+◌, ◌-◌, ◌<◌, ◌≤◌, ◌==◌, Bool, true, false, List, Option, Some, None, Result, Ok, Err, inl, inr, refl, sym, ap, ◌∙◌, subst, arith}
use Rattle.std.specs.Prelude.{IsErrAnd, codes, unwrap_or}
use Rattle.std.specs.Result.{result_map_both}
use Rattle.std.proofs.lemmas.Bool.{eqb-true}
use Rattle.gitconf_text.specs.declared.parse.section.header.Error.{Error as HeaderError}
use Rattle.gitconf_body.specs.Done as causes
use Rattle.gitconf_body.specs.Done.{Cause, first_cause, IsRefusedFor}
use Rattle.gitconf_body.specs.Refusals.{header_refusal, value_refusal}
use Rattle.gitconf_body.specs.declared.value.Error.{Error as ValueError}
use Rattle.gitconf_sources.specs.Key.{Key, parsed_key}
use Rattle.gitconf_sources.specs.Metadata.{api_meta, Meta}
use Rattle.gitconf_sources.specs.Reports.{FileReport, HasText, NoText, NotSet, VariableReport}
use Rattle.gitconf_sources.specs.declared.host.Places.{Places}
use Rattle.gitconf_includes.specs.declared.includes.Error.{Error as Includes}
use Rattle.gitconf_includes.specs.declared.includes.Error.TheVariants as includes
use Rattle.gitconf_includes.specs.Errors.{includes_number, says}
use Rattle.gitconf_state.specs.Edits.{Push}
use Rattle.gitconf_state.specs.Editors.{Editor}
use Rattle.gitconf_state.specs.State.{SectionState, State}
use Rattle.gitconf_loaders.specs.Errors.{env_number, env_of_header, env_of_includes, env_of_value, env_says}
use Rattle.gitconf_loaders.specs.Refused.{include_refused, BadCount, NoDot, NoKey, NotText, NoValue, OutOfMemory, Refused, refused_number}
use Rattle.gitconf_loaders.proofs.Around.{include_number}
use Rattle.gitconf_includes.specs.Expansion.{Asks, Ended, On}
use Rattle.gitconf_includes.specs.Outcomes.{CountsFault, is_file_number}
use Rattle.gitconf_loaders.specs.Resolving.{MakesOf}
use Rattle.gitconf_loaders.specs.Globals.{empty_file, home_rules}
use Rattle.gitconf_loaders.specs.Paths.{CountsLoad, left_by, telling, Then}
use Rattle.gitconf_loaders.proofs.Counts.{fault_load, refused_else, renumbered, same}
use Rattle.gitconf_loaders.specs.Variables.{IsAnswer, IsCount, IsKeyAt, IsValueAt, key_variable, reported_key, reported_value, value_variable}
use Rattle.gitconf_loaders.specs.declared.from_env.Error.{Error}
use Rattle.gitconf_store.specs.Edited.{causes as edit_causes, IsEdited}
use Rattle.gix_config.specs.Environment.{AreEntriesPut, Edited, env_meta, IsEntryPut, IsFromEnv, IsMadeOfEntries, IsOverrides, IsSome, IsValuePushed, IsValuePut, IsPutUnder, IsSectionFor}
use Rattle.gitconf_lookups.specs.Picks.{picked}
use Rattle.gix_config.specs.SectionEditors.{making_causes, IsFoundOrMade}
use Rattle.gix_config.proofs.Numbers.{told_err, told_ok}

-- what the refusal of an include says
pub includes_says : (e : Includes) → env_says (env_of_includes e) ≡ include_refused (says e)
includes_says (includes.CopyBuffer path fault) = refl
includes_says (includes.Io path fault) = refl
includes_says (includes.Parse path it) = refl
includes_says (includes.Span it) = refl
includes_says (includes.Interpolate it) = refl
includes_says (includes.IncludeDepthExceeded depth) = refl
includes_says includes.MissingConfigPath = refl
includes_says includes.MissingGitDir = refl
includes_says (includes.Realpath fault) = refl
includes_says includes.Memory = refl

-- a value that was pushed, or was refused
pub is_pushed : (index : ℕ) (name value : List ℕ) (edited : Edited) (pushed : Result Unit ValueError) (new : State) (r : Result State Refused)
    → IsEdited value_refusal (Push edited.1.0 edited.1.1 name (Some value) None) pushed edited.0 new → r ≡ left_by (λ e. env_says (env_of_value e)) pushed new → IsValuePushed index name (Some value) edited r
is_pushed index name value edited pushed new r is left = (pushed, new, is, left)

-- what was found or made, as it is shown
pub shown_section : {T : Type 0} (after : T → State) (shown : T → ℕ × Editor) (give : SectionState → ℕ × Editor) (name : List ℕ) (subsection : Option (List ℕ)) (keeps : Meta → Bool) (old : State)
    (result : Result T HeaderError) → IsFoundOrMade after shown give name subsection keeps old result
    → IsFoundOrMade (λ (m : Edited). m.0) (λ m. m.1) give name subsection keeps old (result_map_both (λ t. (after t, shown t)) (λ e. e) result)
shown_section {T} after shown give name subsection keeps old (Ok t) is = record {
  ok = is.ok;
  told = told_ok header_refusal (first_cause (making_causes name subsection (picked name subsection keeps old) old)) t (after t, shown t) is.told;
}
shown_section {T} after shown give name subsection keeps old (Err e) is = record {
  ok = is.ok;
  told = told_err T Edited header_refusal (first_cause (making_causes name subsection (picked name subsection keeps old) old)) e is.told;
}

-- no section was found or made
pub no_section : (index : ℕ) (key : Key) (value : Option (List ℕ)) (old : State) (e : HeaderError) (why : Refused) → IsSectionFor key old (Err e) → why ≡ env_says (env_of_header e)
    → IsValuePut index key value old (Err why)
no_section index key value old e why is said = (Err e, is, ap Err said)

-- one was, and what comes of it
pub in_section : (index : ℕ) (key : Key) (value : Option (List ℕ)) (old : State) (edited : Edited) (r : Result State Refused) → IsSectionFor key old (Ok edited) → IsValuePushed index key.name value edited r → IsValuePut index key value old r
in_section index key value old edited r is pushed = (Ok edited, is, pushed)

-- more entries are left: one is put, and then the rest
pub one_put : (variables : Option (List ℕ → VariableReport)) (count index : ℕ) (old mid : State) (r : Result State Refused) → index < count → IsEntryPut variables index old (Ok mid)
    → AreEntriesPut variables (count - (index + 1)) (index + 1) mid r → AreEntriesPut variables (count - index) index old r
one_put variables count index old mid r within put later = subst (λ left. AreEntriesPut variables left index old r) one (Ok mid, put, later)
  where
    one : suc (count - (index + 1)) ≡ count - index
    one = omega (arith, within)

pub one_refused : (variables : Option (List ℕ → VariableReport)) (count index : ℕ) (old : State) (why : Refused) → index < count → IsEntryPut variables index old (Err why)
    → AreEntriesPut variables (count - index) index old (Err why)
one_refused variables count index old why within put = subst (λ left. AreEntriesPut variables left index old (Err why)) one (Err why, put, refl)
  where
    one : suc (count - (index + 1)) ≡ count - index
    one = omega (arith, within)

pub none_left : (variables : Option (List ℕ → VariableReport)) (left index : ℕ) (old : State) → left ≡ 0 → AreEntriesPut variables left index old (Ok old)
none_left variables zero index old is = refl
none_left variables (suc left) index old is = absurd (omega (arith, is))

-- an entry whose key, or whose value, can't be told
pub key_refused : (variables : Option (List ℕ → VariableReport)) (index : ℕ) (old new : State) (e : Error) (result : Result Unit Error) → IsKeyAt variables index (Err (env_says e))
    → IsErrAnd result (λ r. r ≡ e) → IsEntryPut variables index old (left_by env_says result new)
key_refused variables index old new e (Ok done) is err = absurd err
key_refused variables index old new e (Err r) is err = (Err (env_says e), is, ap Err (ap env_says err))

pub value_refused : (variables : Option (List ℕ → VariableReport)) (index : ℕ) (text : List ℕ) (old new : State) (e : Error) (result : Result Unit Error) → IsKeyAt variables index (Ok text)
    → IsValueAt variables index (Err (env_says e)) → IsErrAnd result (λ r. r ≡ e) → IsEntryPut variables index old (left_by env_says result new)
value_refused variables index text old new e (Ok done) key is err = absurd err
value_refused variables index text old new e (Err r) key is err = (Ok text, key, (Err (env_says e), is, ap Err (ap env_says err)))

-- one that is put, or refused then
pub entry_put : (variables : Option (List ℕ → VariableReport)) (index : ℕ) (text : List ℕ) (value : Option (List ℕ)) (old : State) (r : Result State Refused) → IsKeyAt variables index (Ok text)
    → IsValueAt variables index (Ok value) → IsPutUnder index text (parsed_key text) value old r → IsEntryPut variables index old r
entry_put variables index text value old r key told put = (Ok text, key, (Ok value, told, inr put))

-- a refusal that is handed on
pub entry_refused : (variables : Option (List ℕ → VariableReport)) (count index : ℕ) (all old new : State) (e : Error) (result : Result Unit Error) → index < count
    → ((r : Result State Refused) → AreEntriesPut variables (count - index) index old r → AreEntriesPut variables count 0 all r) → IsEntryPut variables index old (Err (env_says e)) → IsErrAnd result (λ r. r ≡ e)
    → AreEntriesPut variables count 0 all (left_by env_says result new)
entry_refused variables count index all old new e (Ok done) within suffices is err = absurd err
entry_refused variables count index all old new e (Err r) within suffices is err =
    subst (λ x. AreEntriesPut variables count 0 all (Err (env_says x))) (sym err) (suffices (Err (env_says e)) (one_refused variables count index old (env_says e) within is))

-- all are put
pub all_put : (variables : Option (List ℕ → VariableReport)) (count index : ℕ) (all old : State) → count ≤ index
    → ((r : Result State Refused) → AreEntriesPut variables (count - index) index old r → AreEntriesPut variables count 0 all r) → AreEntriesPut variables count 0 all (Ok old)
all_put variables count index all old ends suffices = suffices (Ok old) (none_left variables (count - index) index old (none ends))
  where
    none : count ≤ index → count - index ≡ 0
    none ends = omega (arith, ends)

pub from_first : (variables : Option (List ℕ → VariableReport)) (count : ℕ) (all : State) (r : Result State Refused) → AreEntriesPut variables (count - 0) 0 all r → AreEntriesPut variables count 0 all r
from_first variables count all r is = subst (λ left. AreEntriesPut variables left 0 all r) same is
  where
    same : count - 0 ≡ count
    same = omega arith

-- the file of entries, with what it includes
of_entries : (variables : Option (List ℕ → VariableReport)) (asks : Asks) (count : ℕ) (r : Result (Option State) Refused) → count ≢ 0
    → Then (AreEntriesPut variables count 0 (empty_file env_meta)) (λ file. Then (λ r. MakesOf (λ why. why) asks r (Ok file)) IsSome) r → IsMadeOfEntries variables asks count r
of_entries variables asks count r some is = go (count == 0) refl
  where
    go : (none : Bool) → (count == 0) ≡ none → elim none as (λ _. Type 0) [
      | true ↦ r ≡ Ok None
      | false ↦ Then (AreEntriesPut variables count 0 (empty_file env_meta)) (λ file. Then (λ r. MakesOf (λ why. why) asks r (Ok file)) IsSome) r
    ]
    go true e = absurd (some (eqb-true count 0 e))
    go false e = is

pub no_entries : (variables : Option (List ℕ → VariableReport)) (asks : Asks) (count : ℕ) → count ≡ 0 → IsCount variables (Ok count) → IsFromEnv variables asks (Ok None)
no_entries variables asks count none counts = inr (Ok count, counts, made none)
  where
    made : count ≡ 0 → IsMadeOfEntries variables asks count (Ok None)
    made e = rw (e, IsMadeOfEntries) refl

pub count_refused : (variables : Option (List ℕ → VariableReport)) (asks : Asks) (e : Error) (result : Result (Option State) Error) → IsCount variables (Err (env_says e)) → IsErrAnd result (λ r. r ≡ e)
    → IsFromEnv variables asks (telling env_says result)
count_refused variables asks e (Ok made) counts err = absurd err
count_refused variables asks e (Err r) counts err = inr (Err (env_says e), counts, ap Err (ap env_says err))

pub entries_refused : (variables : Option (List ℕ → VariableReport)) (asks : Asks) (count : ℕ) (e : Error) (result : Result (Option State) Error) → count ≢ 0 → IsCount variables (Ok count)
    → AreEntriesPut variables count 0 (empty_file env_meta) (Err (env_says e)) → IsErrAnd result (λ r. r ≡ e) → IsFromEnv variables asks (telling env_says result)
entries_refused variables asks count e (Ok made) some counts put err = absurd err
entries_refused variables asks count e (Err r) some counts put err =
    inr (Ok count, counts, of_entries variables asks count (Err (env_says r)) some (Err (env_says e), put, ap Err (ap env_says err)))

-- what was expanded, or what is said of its refusal
pub expanded_words : (asks : Asks) (old : State) (result : Result State Includes) → MakesOf (λ e. include_refused (says e)) asks result (Ok old)
    → MakesOf (λ why. why) asks (telling (λ e. include_refused (says e)) result) (Ok old)
expanded_words asks old (Ok made) (On done, expands, is) = (On done, expands, is)
expanded_words asks old (Ok made) (Ended n file, expands, is) = absurd is
expanded_words asks old (Err e) (On done, expands, is) = absurd is
expanded_words asks old (Err e) (Ended n file, expands, is) = (Ended n file, expands, is)

pub includes_refused : (variables : Option (List ℕ → VariableReport)) (asks : Asks) (count : ℕ) (file : State) (e : Includes) (result : Result (Option State) Error) → count ≢ 0 → IsCount variables (Ok count)
    → AreEntriesPut variables count 0 (empty_file env_meta) (Ok file) → MakesOf (λ e. include_refused (says e)) asks (Err e) (Ok file) → IsErrAnd result (λ r. r ≡ env_of_includes e) → IsFromEnv variables asks (telling env_says result)
includes_refused variables asks count file e (Ok made) some counts put expands err = absurd err
includes_refused variables asks count file e (Err r) some counts put expands err =
    inr (
      Ok count,
      counts,
      of_entries variables asks count (Err (env_says r)) some
          (Ok file, put, (Err (include_refused (says e)), expanded_words asks file (Err e) expands, ap Err (ap env_says err ∙ includes_says e))),
    )

pub entries_made : (variables : Option (List ℕ → VariableReport)) (asks : Asks) (count : ℕ) (file full : State) → count ≢ 0 → IsCount variables (Ok count) → AreEntriesPut variables count 0 (empty_file env_meta) (Ok file)
    → MakesOf (λ e. include_refused (says e)) asks (Ok full) (Ok file) → IsFromEnv variables asks (Ok (Some full))
entries_made variables asks count file full some counts put expands =
    inr (Ok count, counts, of_entries variables asks count (Ok (Some full)) some (Ok file, put, (Ok full, expanded_words asks file (Ok full) expands, refl)))

-- how often a host's files failed where includes refuse
pub includes_count : {T : Type 0} (e : Includes) (result : Result T Error) (old new : Option ℕ) → IsErrAnd result (λ r. r ≡ env_of_includes e) → CountsFault (includes_number e) old new → CountsLoad (telling env_number result) old new
includes_count e (Ok made) old new err counts = absurd err
includes_count {T = T} e (Err r) old new err counts = renumbered T T (includes_number e) (env_number r) old new (ap env_number err ∙ ap refused_number (includes_says e) ∙ include_number (says e)) (fault_load T (includes_number e) old new counts)

-- none is of a file
value_of_no_file : (cause : Cause) → is_file_number (refused_number (env_says (env_of_value (value_refusal cause)))) ≡ false
value_of_no_file (causes.Missing miss) = refl
value_of_no_file causes.InvalidKey = refl
value_of_no_file causes.InvalidName = refl
value_of_no_file causes.InvalidSubsection = refl
value_of_no_file causes.TooLarge = refl
value_of_no_file causes.OutOfMemory = refl

header_of_no_file : (cause : Cause) → is_file_number (refused_number (env_says (env_of_header (header_refusal cause)))) ≡ false
header_of_no_file (causes.Missing miss) = refl
header_of_no_file causes.InvalidKey = refl
header_of_no_file causes.InvalidName = refl
header_of_no_file causes.InvalidSubsection = refl
header_of_no_file causes.TooLarge = refl
header_of_no_file causes.OutOfMemory = refl

-- so none of an entry is
same_file : (why told : Refused) → why ≡ told → is_file_number (refused_number told) ≡ false → is_file_number (refused_number why) ≡ false
same_file why told is none = ap (λ (w : Refused). is_file_number (refused_number w)) is ∙ none

value_no_file : (e : ValueError) (cause : Option Cause) → IsRefusedFor {T = Unit {0}} value_refusal cause (Err e) → is_file_number (refused_number (env_says (env_of_value e))) ≡ false
value_no_file e None is = ap (λ (f : ValueError). is_file_number (refused_number (env_says (env_of_value f)))) is ∙ value_of_no_file causes.OutOfMemory
value_no_file e (Some cause) is = ap (λ (f : ValueError). is_file_number (refused_number (env_says (env_of_value f)))) (error_in is) ∙ value_of_no_file cause
  where
    error_in : ◌≡◌ {A = Result (Unit {0}) ValueError} (Err e) (Err (value_refusal cause)) → e ≡ value_refusal cause
    error_in is = cc

header_no_file : (e : HeaderError) (cause : Option Cause) → IsRefusedFor {T = Edited} header_refusal cause (Err e) → is_file_number (refused_number (env_says (env_of_header e))) ≡ false
header_no_file e None is = ap (λ (f : HeaderError). is_file_number (refused_number (env_says (env_of_header f)))) is ∙ header_of_no_file causes.OutOfMemory
header_no_file e (Some cause) is = ap (λ (f : HeaderError). is_file_number (refused_number (env_says (env_of_header f)))) (error_in is) ∙ header_of_no_file cause
  where
    error_in : ◌≡◌ {A = Result Edited HeaderError} (Err e) (Err (header_refusal cause)) → e ≡ header_refusal cause
    error_in is = cc

-- what is said
abbrev said_in : {T : Type 0} → Result T Refused → Refused
said_in (Ok t) = OutOfMemory
said_in (Err why) = why

pushed_no_file : (index : ℕ) (name : List ℕ) (value : Option (List ℕ)) (edited : Edited) (why : Refused) → IsValuePushed index name value edited (Err why) → is_file_number (refused_number why) ≡ false
pushed_no_file index name None edited why is = same_file why (NotText index (codes "value")) (ap said_in is) refl
pushed_no_file index name (Some value) edited why (Ok done, new, is, left) = absurd (cc)
pushed_no_file index name (Some value) edited why (Err e, new, is, left) =
    same_file why (env_says (env_of_value e)) (ap said_in left) (value_no_file e (first_cause (edit_causes (Push edited.1.0 edited.1.1 name (Some value) None) edited.0)) is.told)

put_no_file : (index : ℕ) (key : Key) (value : Option (List ℕ)) (old : State) (why : Refused) → IsValuePut index key value old (Err why) → is_file_number (refused_number why) ≡ false
put_no_file index key value old why (Ok edited, found, pushed) = pushed_no_file index key.name value edited why pushed
put_no_file index key value old why (Err e, found, is) =
    same_file why (env_says (env_of_header e)) (ap said_in is)
    (header_no_file e (first_cause (making_causes key.section key.subsection (picked key.section key.subsection (λ _. true) old) old)) found.told)

under_no_file : (index : ℕ) (text : List ℕ) (key : Option Key) (value : Option (List ℕ)) (old : State) (why : Refused) → IsPutUnder index text key value old (Err why) → is_file_number (refused_number why) ≡ false
under_no_file index text None value old why is = same_file why (NoDot index text) (ap said_in is) refl
under_no_file index text (Some key) value old why is = put_no_file index key value old why is

asked_no_file : {T : Type 0} (variables : Option (List ℕ → VariableReport)) (name : List ℕ) (gives : VariableReport → Result T Refused) (why : Refused)
    → ((report : VariableReport) → gives report ≡ Err why → is_file_number (refused_number why) ≡ false) → IsAnswer variables name (λ told r. r ≡ gives told) (Err why) → is_file_number (refused_number why) ≡ false
asked_no_file variables name gives why none (inl wanting) = same_file why OutOfMemory (ap said_in wanting) refl
asked_no_file variables name gives why none (inr (report, told, is)) = none report (sym is)

key_no_file : (index : ℕ) (why : Refused) (report : VariableReport) → reported_key index report ≡ Err why → is_file_number (refused_number why) ≡ false
key_no_file index why (HasText text) is = absurd (cc)
key_no_file index why NotSet is = same_file why (NoKey index) (sym (ap said_in is)) refl
key_no_file index why NoText is = same_file why (NotText index (codes "key")) (sym (ap said_in is)) refl

given_no_file : (index : ℕ) (why : Refused) (report : VariableReport) → reported_value index report ≡ Err why → is_file_number (refused_number why) ≡ false
given_no_file index why (HasText text) is = absurd (cc)
given_no_file index why NotSet is = same_file why (NoValue index) (sym (ap said_in is)) refl
given_no_file index why NoText is = absurd (cc)

entry_no_file : (variables : Option (List ℕ → VariableReport)) (index : ℕ) (old : State) (why : Refused) → IsEntryPut variables index old (Err why) → is_file_number (refused_number why) ≡ false
entry_no_file variables index old why (Err key, asked, is) =
    same_file why key (ap said_in is) (asked_no_file variables (key_variable index) (reported_key index) key (key_no_file index key) asked)
entry_no_file variables index old why (Ok text, asked, (Err value, given, is)) =
    same_file why value (ap said_in is) (asked_no_file variables (value_variable index) (reported_value index) value (given_no_file index value) given)
entry_no_file variables index old why (Ok text, asked, (Ok value, given, inl wanting)) = same_file why OutOfMemory (ap said_in wanting) refl
entry_no_file variables index old why (Ok text, asked, (Ok value, given, inr put)) = under_no_file index text (parsed_key text) value old why put

pub no_file : (variables : Option (List ℕ → VariableReport)) (left index : ℕ) (old : State) (why : Refused) → AreEntriesPut variables left index old (Err why) → is_file_number (refused_number why) ≡ false
no_file variables zero index old why is = absurd (cc)
no_file variables (suc left) index old why (Ok mid, put, later) = no_file variables left (index + 1) mid why later
no_file variables (suc left) index old why (Err told, put, is) = same_file why told (ap said_in is) (entry_no_file variables index old told put)

-- so no file failed
none_failed : {T : Type 0} (e : Error) (result : Result T Error) (old new : Option ℕ) → IsErrAnd result (λ r. r ≡ e) → is_file_number (env_number e) ≡ false → new ≡ old → CountsLoad (telling env_number result) old new
none_failed e (Ok made) old new err none is = absurd err
none_failed {T = T} e (Err r) old new err none is = subst (λ x. CountsLoad {T = T} (Err (env_number x)) old new) (sym err) (refused_else T (env_number e) old new none (same old new is))

pub entries_count : {T : Type 0} (variables : Option (List ℕ → VariableReport)) (count : ℕ) (first : State) (e : Error) (result : Result T Error) (old new : Option ℕ) → IsErrAnd result (λ r. r ≡ e)
    → AreEntriesPut variables count 0 first (Err (env_says e)) → new ≡ old → CountsLoad (telling env_number result) old new
entries_count variables count first e result old new err put is = none_failed e result old new err (no_file variables count 0 first (env_says e) put) is

count_no_file : (variables : Option (List ℕ → VariableReport)) (why : Refused) → IsCount variables (Err why) → is_file_number (refused_number why) ≡ false
count_no_file variables why (inl wanting) = same_file why OutOfMemory (ap said_in wanting) refl
count_no_file variables why (inr (NotSet, asked, is)) = absurd (cc)
count_no_file variables why (inr (NoText, asked, is)) = absurd (cc)
count_no_file variables why (inr (HasText text, asked, is)) = same_file why (BadCount text) is.1 refl

pub count_count : {T : Type 0} (variables : Option (List ℕ → VariableReport)) (e : Error) (result : Result T Error) (old new : Option ℕ) → IsErrAnd result (λ r. r ≡ e) → IsCount variables (Err (env_says e)) → new ≡ old
    → CountsLoad (telling env_number result) old new
count_count variables e result old new err counts is = none_failed e result old new err (count_no_file variables (env_says e) counts) is

-- the overrides
pub overridden : (variables : Option (List ℕ → VariableReport)) (places : Places) (table : Option (List ℕ → FileReport)) (made : Option State) (file : State)
    → IsFromEnv variables (record { rules = home_rules places; table = table }) (Ok made) → file ≡ unwrap_or made (empty_file api_meta) → IsOverrides variables places table (Ok file)
overridden variables places table made file is told = inr (Ok made, is, ap Ok told)

pub not_overridden : (variables : Option (List ℕ → VariableReport)) (places : Places) (table : Option (List ℕ → FileReport)) (e : Error) (result : Result State Error)
    → IsFromEnv variables (record { rules = home_rules places; table = table }) (Err (env_says e)) → IsErrAnd result (λ r. r ≡ e) → IsOverrides variables places table (telling env_says result)
not_overridden variables places table e (Ok file) is err = absurd err
not_overridden variables places table e (Err r) is err = inr (Err (env_says e), is, ap Err (ap env_says err))
