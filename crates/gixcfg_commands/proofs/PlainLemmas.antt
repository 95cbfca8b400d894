-- How calls without options answer, from step to step.
use Rattle.std.proofs.Common.{◌≡◌, ◌⊎◌, ℕ, Bool, true, false, List, [], Option, Some, None, Result, Ok, Err, Bor, refl, sym, ap, ◌∙◌, subst, inl, inr}
use Rattle.std.specs.Prelude.{◌&&◌, not, IfSome, if◌then◌else◌, option_and_then}
use Rattle.std.specs.Io.KnownBytes.{Keeps}
use Rattle.gitconf_sources.specs.Key.{Key, key_of}
use Rattle.gitconf_sources.specs.declared.key.KeyRef.{KeyRef}
use Rattle.gixcfg_words.specs.Plain.{All, Bool as OfBool, Entries, Fmt, Get, Int, Load, Plain, Set, Unset, is_bare, plain_of_fmt, plain_of_get, plain_of_list, plain_of_set, plain_of_unset, values_asked, wanted_key}
use Rattle.gixcfg_words.specs.declared.command.Choice.{Choice}
use Rattle.gixcfg_words.specs.declared.command.Choice.TheVariants as choices
use Rattle.gixcfg_words.specs.declared.command.Files.{Files}
use Rattle.gixcfg_words.specs.declared.command.Files.TheVariants as files
use Rattle.gixcfg_words.specs.declared.command.Fmt.{Fmt as FmtCall}
use Rattle.gixcfg_words.specs.declared.command.Form.{Form}
use Rattle.gixcfg_words.specs.declared.command.Get.{Get as GetCall}
use Rattle.gixcfg_words.specs.declared.command.Indent.{Indent}
use Rattle.gixcfg_words.specs.declared.command.Newline.{Newline}
use Rattle.gixcfg_words.specs.declared.command.Placing.{Placing}
use Rattle.gixcfg_words.specs.declared.command.Placing.TheVariants as placings
use Rattle.gixcfg_words.specs.declared.command.Source.{Source}
use Rattle.gixcfg_words.specs.declared.command.Source.TheVariants as sources
use Rattle.gixcfg_words.specs.declared.command.Target.{Target}
use Rattle.gixcfg_words.specs.declared.command.Target.TheVariants as targets
use Rattle.gixcfg_words.specs.declared.command.Values.{Values}
use Rattle.gixcfg_words.specs.declared.command.Values.TheVariants as values
use Rattle.gixcfg_words.specs.declared.command.Wanted.{Wanted}
use Rattle.gixcfg_words.specs.declared.command.Wanted.TheVariants as wanted
use Rattle.gixcfg_words.specs.declared.kinds.Kind.{Kind}
use Rattle.gixcfg_words.specs.declared.kinds.Kind.TheVariants as kinds
use Rattle.gixcfg_core.proofs.Ending.{shown_by}
use Rattle.gixcfg_core.specs.Shown.{IsPut, IsShown, end_status}
use Rattle.gixcfg_core.specs.Troubles.{status_of}
use Rattle.gixcfg_core.specs.declared.trouble.Trouble.{Trouble}
use Rattle.gixcfg_core.specs.declared.trouble.Trouble.TheVariants.{Input, Memory}
use Rattle.gitconf_layout.specs.Layout.{default_options}
use Rattle.gixcfg_commands.specs.Layouts.{indent_asked, layout_asked, newline_asked}
use Rattle.gixcfg_commands.specs.Plainly.{Ends, EndsPlainly, Gives, GivesOfInput, IsOutcome, IsValues, Outcome, Prints, PutsOfInput, Misses, Refuses, Tells, ResultsIn, Shows, is_of_input, plain_asked, source_of}
use Rattle.gixcfg_commands.specs.declared.reads.Asked.{Asked}
use Rattle.gixcfg_commands.specs.declared.reads.Asked.TheVariants as asks

-- a stream that was told nothing has what it had
pub keeps_same : (known : Option (List ℕ)) → Keeps known known
keeps_same None = tt {0}
keeps_same (Some bytes) = refl

-- the same trouble
same : {A : Type 0} (trouble other : Trouble) → ◌≡◌ {A = Result A Trouble} (Err trouble) (Err other) → trouble ≡ other
same trouble other is = cc

-- a text that agrees with what is known
pub known_text : (input : Option (List ℕ)) → (text : List ℕ) × IfSome input (λ all. text ≡ all)
known_text None = ([], tt {0})
known_text (Some all) = (all, refl)

-- memory may run out before anything is read
pub wants_memory : {A : Type 0} (plainly : A → List ℕ) (is : (text : List ℕ) → Outcome → Type 0) (input : Option (List ℕ)) → GivesOfInput plainly is input (Err Memory)
wants_memory plainly is input = let known = known_text input in inr (known.0, known.1, inl refl)

-- standard input can't be read
pub unread : {A : Type 0} (plainly : A → List ℕ) (is : (text : List ℕ) → Outcome → Type 0) (input : Option (List ℕ)) (trouble : Trouble)
    → (trouble ≡ Memory) ⊎ (trouble ≡ Input) → GivesOfInput {A = A} plainly is input (Err trouble)
unread {A} plainly is input trouble (inl memory) = subst (λ t. GivesOfInput {A = A} plainly is input (Err t)) (sym memory) (wants_memory plainly is input)
unread plainly is input trouble (inr failed) = inl (ap Err failed)

-- a result of a text for what is known of it
pub of_known : {A : Type 0} (plainly : A → List ℕ) (is : (text : List ℕ) → Outcome → Type 0) (input : Option (List ℕ)) (text : List ℕ) (result : Result A Trouble)
    → IfSome input (λ all. text ≡ all) → Gives plainly (is text) result → GivesOfInput plainly is input result
of_known plainly is input text result known gives = inr (text, known, gives)

-- how an outcome without an answer ends
shows : {A : Type 0} (plainly : A → List ℕ) (trouble : Trouble) (outcome : Outcome) (old new : Option (List ℕ)) (status : ℕ)
    → ResultsIn plainly (Err trouble) outcome → status ≡ status_of trouble → Keeps old new → Shows outcome old new status
shows plainly trouble (Prints text) old new status is told keeps = absurd is
shows plainly trouble Misses old new status is told keeps = (told ∙ ap status_of is, keeps)
shows plainly trouble (Refuses number) old new status is told keeps = (told ∙ is, keeps)
shows plainly trouble (Tells other) old new status is told keeps = (told ∙ ap status_of is, keeps)

-- an answer of a text that was shown
shown_of : {A : Type 0} (plainly : A → List ℕ) (is : (text : List ℕ) → Outcome → Type 0) (input old new : Option (List ℕ)) (answer : Result A Trouble) (status : ℕ) (text : List ℕ)
    → IfSome input (λ all. text ≡ all) → Gives plainly (is text) answer → IsShown plainly answer old new status → Ends is input old new status
shown_of plainly is input old new (Ok made) status text known (inl memory) shown = absurd (cc)
shown_of plainly is input old new (Ok made) status text known (inr gives) shown =
    inr (inr (text, known, Prints (plainly made), subst (is text) gives.2 gives.1, shown))
shown_of plainly is input old new (Err trouble) status text known (inl memory) shown = inr (inl (shown.0 ∙ ap status_of (same trouble Memory memory), shown.1))
shown_of plainly is input old new (Err trouble) status text known (inr gives) shown =
    inr (inr (text, known, gives.0, gives.1, shows plainly trouble gives.0 old new status gives.2 shown.0 shown.1))

-- an answer that was shown
pub shown_as : {A : Type 0} (plainly : A → List ℕ) (is : (text : List ℕ) → Outcome → Type 0) (input old new : Option (List ℕ)) (answer : Result A Trouble) (status : ℕ)
    → GivesOfInput plainly is input answer → IsShown plainly answer old new status → Ends is input old new status
shown_as plainly is input old new answer status (inr gives) shown = shown_of plainly is input old new answer status gives.0 gives.1 gives.2 shown
shown_as plainly is input old new (Ok made) status (inl failed) shown = absurd (cc)
shown_as plainly is input old new (Err trouble) status (inl failed) shown = inl (shown.0 ∙ ap status_of (same trouble Input failed), shown.1)

pub shown_so : {A : Type 0} (plainly : A → List ℕ) (plain : Plain) (input old new : Option (List ℕ)) (answer : Result A Trouble) (status : ℕ)
    → GivesOfInput plainly (IsOutcome plain) input answer → IsShown plainly answer old new status → EndsPlainly plain input old new status
shown_so plainly plain = shown_as plainly (IsOutcome plain)

-- an answer that was given to a stream
pub put_so : {A : Type 0} (plainly : A → List ℕ) (is : (text : List ℕ) → Outcome → Type 0) (input old new : Option (List ℕ)) (answer : Result A Trouble) (result : Result (Unit {0}) Trouble)
    → GivesOfInput plainly is input answer → IsPut plainly answer result old new → PutsOfInput is input result old new
put_so plainly is input old new (Ok made) result (inl none) put = absurd (cc)
put_so plainly is input old new (Ok made) result (inr gives) put = (Ok (plainly made), inr (gives.0, gives.1, plain_text gives.2), put)
  where
    plain_text : Gives plainly (is gives.0) (Ok made) → Gives (λ text. text) (is gives.0) (Ok (plainly made))
    plain_text (inl none) = absurd (cc)
    plain_text (inr found) = inr found
put_so plainly is input old new (Err trouble) result (inl none) put = (Err trouble, inl (ap Err (same trouble Input none)), put)
put_so plainly is input old new (Err trouble) result (inr gives) put = (Err trouble, inr (gives.0, gives.1, no_text gives.2), put)
  where
    no_text : Gives plainly (is gives.0) (Err trouble) → Gives (λ text. text) (is gives.0) (Err trouble)
    no_text (inl memory) = inl (ap Err (same trouble Memory memory))
    no_text (inr found) = inr (found.0, found.1, results found.0 found.2)
      where
        results : (outcome : Outcome) → ResultsIn plainly (Err trouble) outcome → ResultsIn {A = List ℕ} (λ text. text) (Err trouble) outcome
        results (Prints text) told = absurd told
        results Misses told = told
        results (Refuses number) told = told
        results (Tells other) told = told

-- how a call ends whose answer was given to standard output
pub ends_so : (plain : Plain) (input old new : Option (List ℕ)) (result : Result (Unit {0}) Trouble) (status : ℕ) → PutsOfInput (IsOutcome plain) input result old new → status ≡ end_status result
    → EndsPlainly plain input old new status
ends_so plain input old new result status puts told =
    shown_so (λ text. text) plain input old new puts.0 status puts.1 (shown_by (λ text. text) puts.0 result old new status puts.2 told)

-- what is found is there
if_some : {A : Type 0} (test : Bool) (found : Option A) (x : A) → (if test then found else None) ≡ Some x → found ≡ Some x
if_some true found x is = is
if_some false found x is = absurd (cc)

and_then_some : {A B : Type 0} (f : A → Option B) (x : Option A) (y : B) → option_and_then f x ≡ Some y → (a : A) × (x ≡ Some a) × (f a ≡ Some y)
and_then_some f None y is = absurd (cc)
and_then_some f (Some a) y is = (a, refl, is)

-- the same call
pub same_call : (one other : Plain) → Some one ≡ Some other → one ≡ other
same_call one other is = cc

-- what a call of values asks for, of standard input
abbrev ValuesAre : Source → Choice → Option Kind → Key → Plain → Type 0
ValuesAre source choice kind key plain = (source ≡ sources.Target targets.Input) × ((text : List ℕ) (outcome : Outcome) → IsValues choice kind key text outcome → IsOutcome plain text outcome)

input_values : (choice : Choice) (kind : Option Kind) (key : Key) (plain : Plain) → values_asked (sources.Target targets.Input) (Some false) choice kind key ≡ Some plain
    → ValuesAre (sources.Target targets.Input) choice kind key plain
input_values choices.All None key plain is = (refl, λ text outcome told. subst (λ p. IsOutcome p text outcome) (same_call (All key) plain is) told)
input_values choices.All (Some kind) key plain is = absurd (cc)
input_values (choices.Last (Some given)) kind key plain is = absurd (cc)
input_values (choices.Last None) None key plain is = (refl, λ text outcome told. subst (λ p. IsOutcome p text outcome) (same_call (Get key) plain is) told)
input_values (choices.Last None) (Some kinds.Bool) key plain is = (refl, λ text outcome told. subst (λ p. IsOutcome p text outcome) (same_call (OfBool key) plain is) told)
input_values (choices.Last None) (Some kinds.Int) key plain is = (refl, λ text outcome told. subst (λ p. IsOutcome p text outcome) (same_call (Int key) plain is) told)
input_values (choices.Last None) (Some kinds.BoolOrInt) key plain is = absurd (cc)
input_values (choices.Last None) (Some kinds.BoolOrStr) key plain is = absurd (cc)
input_values (choices.Last None) (Some kinds.Path) key plain is = absurd (cc)
input_values (choices.Last None) (Some kinds.ExpiryDate) key plain is = absurd (cc)
input_values (choices.Last None) (Some kinds.Color) key plain is = absurd (cc)

-- a file is no standard input
not_loaded : (path : List ℕ) (key : Key) (plain : Plain) → Some (Load path key) ≡ Some plain → is_of_input plain ≡ true → ⊥
not_loaded path key plain is on = cc (ap is_of_input (same_call (Load path key) plain is))

values_are : (source : Source) (includes : Option Bool) (choice : Choice) (kind : Option Kind) (key : Key) (plain : Plain) → values_asked source includes choice kind key ≡ Some plain
    → is_of_input plain ≡ true → ValuesAre source choice kind key plain
values_are sources.Effective includes choice kind key plain is on = absurd (cc)
values_are (sources.Target (targets.Place place)) includes choice kind key plain is on = absurd (cc)
values_are (sources.Target targets.Default) includes choice kind key plain is on = absurd (cc)
values_are (sources.Target (targets.File path)) None choice kind key plain is on = absurd (cc)
values_are (sources.Target (targets.File path)) (Some false) choice kind key plain is on = absurd (cc)
values_are (sources.Target (targets.File path)) (Some true) choices.All kind key plain is on = absurd (cc)
values_are (sources.Target (targets.File path)) (Some true) (choices.Last (Some given)) kind key plain is on = absurd (cc)
values_are (sources.Target (targets.File path)) (Some true) (choices.Last None) (Some kind) key plain is on = absurd (cc)
values_are (sources.Target (targets.File path)) (Some true) (choices.Last None) None key plain is on = absurd (not_loaded path.now key plain is on)
values_are (sources.Target targets.Input) None choice kind key plain is on = absurd (cc)
values_are (sources.Target targets.Input) (Some true) choice kind key plain is on = absurd (cc)
values_are (sources.Target targets.Input) (Some false) choice kind key plain is on = input_values choice kind key plain is

-- the key that is wanted
key_is : (w : Wanted) (which : Values) (key : Key) (given : KeyRef) → w ≡ wanted.Key given → wanted_key w which ≡ Some key → key ≡ key_of given
key_is (wanted.Key other) values.Any key given is found = cc
key_is (wanted.Key other) (values.Equal text) key given is found = absurd (cc)
key_is (wanted.Key other) (values.Matching text) key given is found = absurd (cc)
key_is (wanted.Keys pattern) which key given is found = absurd (cc)
key_is (wanted.ForUrl url) which key given is found = absurd (cc)

-- what is asked of the values of a key
asked_of : (get : GetCall) (plain : Plain) → plain_of_get get ≡ Some plain
    → (key : Key) × (wanted_key get.wanted get.values ≡ Some key) × (values_asked get.reading.source get.reading.includes get.choice get.form.kind key ≡ Some plain)
asked_of get plain is =
    and_then_some (values_asked get.reading.source get.reading.includes get.choice get.form.kind) (wanted_key get.wanted get.values) plain
    (if_some (is_bare get.form && not get.form.has_names) _ plain is)

-- the values of a key are those that a call asks for
pub get_so : {A : Type 0} (plainly : A → List ℕ) (get : GetCall) (plain : Plain) (given : KeyRef) (input : Option (List ℕ)) (result : Result A Trouble)
    → plain_of_get get ≡ Some plain → is_of_input plain ≡ true → get.wanted ≡ wanted.Key given
    → GivesOfInput plainly (IsValues get.choice get.form.kind (key_of given)) input result → GivesOfInput plainly (IsOutcome plain) input result
get_so plainly get plain given input result is on named (inl failed) = inl failed
get_so plainly get plain given input result is on named (inr read) = inr (read.0, read.1, gives read.2) where
  asked : (key : Key) × (wanted_key get.wanted get.values ≡ Some key) × (values_asked get.reading.source get.reading.includes get.choice get.form.kind key ≡ Some plain)
  asked = asked_of get plain is

  are : ValuesAre get.reading.source get.choice get.form.kind asked.0 plain
  are = values_are get.reading.source get.reading.includes get.choice get.form.kind asked.0 plain asked.2 on

  gives : Gives plainly (IsValues get.choice get.form.kind (key_of given) read.0) result → Gives plainly (IsOutcome plain read.0) result
  gives (inl memory) = inl memory
  gives (inr told) = inr (told.0, are.1 read.0 told.0 (subst (λ k. IsValues get.choice get.form.kind k read.0 told.0) (sym (key_is get.wanted get.values asked.0 given named asked.1)) told.1), told.2)

-- a call without options asks for a key
pub not_keys : (get : GetCall) (plain : Plain) → plain_of_get get ≡ Some plain → (pattern : Bor (List ℕ)) → get.wanted ≡ wanted.Keys pattern → ⊥
not_keys get plain is pattern named = let asked = asked_of get plain is in none get.wanted get.values asked.0 named asked.1 where
  none : (w : Wanted) (which : Values) (key : Key) → w ≡ wanted.Keys pattern → wanted_key w which ≡ Some key → ⊥
  none (wanted.Key other) which key named found = cc
  none (wanted.Keys other) which key named found = cc
  none (wanted.ForUrl url) which key named found = cc

-- what reads standard input by the library's rules
list_source : (source : Source) (includes : Option Bool) (form : Form) (plain : Plain) → plain_of_list source includes form ≡ Some plain → (source ≡ sources.Target targets.Input) × (Entries ≡ plain)
list_source sources.Effective includes form plain is = absurd (cc)
list_source (sources.Target (targets.Place place)) includes form plain is = absurd (cc)
list_source (sources.Target (targets.File path)) includes form plain is = absurd (cc)
list_source (sources.Target targets.Default) includes form plain is = absurd (cc)
list_source (sources.Target targets.Input) None form plain is = absurd (cc)
list_source (sources.Target targets.Input) (Some true) form plain is = absurd (cc)
list_source (sources.Target targets.Input) (Some false) form plain is = (refl, same_call Entries plain (if_some _ (Some Entries) plain is))

pub list_is : (source : Source) (includes : Option Bool) (form : Form) (plain : Plain) → plain_of_list source includes form ≡ Some plain → Entries ≡ plain
list_is source includes form plain is = (list_source source includes form plain is).1

pub asked_source : (asked : Asked) (plain : Plain) → plain_asked asked ≡ Some plain → is_of_input plain ≡ true → source_of asked ≡ sources.Target targets.Input
asked_source (asks.Get get) plain is on =
    let asked = asked_of get.now plain is in
    (values_are get.now.reading.source get.now.reading.includes get.now.choice get.now.form.kind asked.0 plain asked.2 on).0
asked_source (asks.List list) plain is on = (list_source list.now.reading.source list.now.reading.includes list.now.form plain is).0
asked_source (asks.Color color) plain is on = absurd (cc)
asked_source (asks.Colorbool colorbool) plain is on = absurd (cc)
asked_source asks.Input plain is on = refl

-- an edit of standard input by the library's rules
pub set_is : (target : Target) (kind : Option Kind) (placing : Placing) (comment : Option (Bor (List ℕ))) (key : Key) (value : List ℕ) (plain : Plain)
    → plain_of_set target kind placing comment key value ≡ Some plain → (target ≡ targets.Input) × (Set key value ≡ plain)
set_is (targets.Place place) kind placing comment key value plain is = absurd (cc)
set_is (targets.File path) kind placing comment key value plain is = absurd (cc)
set_is targets.Default kind placing comment key value plain is = absurd (cc)
set_is targets.Input (Some kind) placing comment key value plain is = absurd (cc)
set_is targets.Input None placings.New comment key value plain is = absurd (cc)
set_is targets.Input None (placings.All which) comment key value plain is = absurd (cc)
set_is targets.Input None (placings.Only (values.Equal text)) comment key value plain is = absurd (cc)
set_is targets.Input None (placings.Only (values.Matching text)) comment key value plain is = absurd (cc)
set_is targets.Input None (placings.Only values.Any) (Some comment) key value plain is = absurd (cc)
set_is targets.Input None (placings.Only values.Any) None key value plain is = (refl, same_call (Set key value) plain is)

pub unset_is : (target : Target) (which : Values) (is_all : Bool) (key : Key) (plain : Plain) → plain_of_unset target which is_all key ≡ Some plain → (target ≡ targets.Input) × (Unset key ≡ plain)
unset_is (targets.Place place) which is_all key plain is = absurd (cc)
unset_is (targets.File path) which is_all key plain is = absurd (cc)
unset_is targets.Default which is_all key plain is = absurd (cc)
unset_is targets.Input (values.Equal text) is_all key plain is = absurd (cc)
unset_is targets.Input (values.Matching text) is_all key plain is = absurd (cc)
unset_is targets.Input values.Any true key plain is = absurd (cc)
unset_is targets.Input values.Any false key plain is = (refl, same_call (Unset key) plain is)

-- a layout of standard input
pub record IsPlainLayout (which : Files) (is_check : Bool) (indent : Option Indent) (newline : Option Newline) (plain : Plain) : Type 0 where
  pub target : which ≡ files.One targets.Input
  pub lays : is_check ≡ false
  pub indented : indent ≡ None
  pub ended : newline ≡ None
  pub call : Fmt ≡ plain

pub fmt_is : (which : Files) (is_check : Bool) (indent : Option Indent) (newline : Option Newline) (plain : Plain) → plain_of_fmt which is_check indent newline ≡ Some plain
    → IsPlainLayout which is_check indent newline plain
fmt_is (files.Paths paths) is_check indent newline plain is = absurd (cc)
fmt_is (files.One (targets.Place place)) is_check indent newline plain is = absurd (cc)
fmt_is (files.One (targets.File path)) is_check indent newline plain is = absurd (cc)
fmt_is (files.One targets.Default) is_check indent newline plain is = absurd (cc)
fmt_is (files.One targets.Input) true indent newline plain is = absurd (cc)
fmt_is (files.One targets.Input) false (Some indent) newline plain is = absurd (cc)
fmt_is (files.One targets.Input) false None (Some newline) plain is = absurd (cc)
fmt_is (files.One targets.Input) false None None plain is = record { target = refl; lays = refl; indented = refl; ended = refl; call = same_call Fmt plain is }

-- the layout by default
pub plain_layout : (fmt : FmtCall) → fmt.indent ≡ None → fmt.newline ≡ None → layout_asked fmt ≡ default_options
plain_layout fmt indented ended = λ i. record default_options { key_value_indent = indent_asked (indented i); newline = newline_asked (ended i) }
