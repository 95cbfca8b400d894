-- Edits of the section of a number: their bytes, why they are refused, and that the section stays.
use Rattle.std.proofs.Common.{◌≡◌, ◌⊎◌, ℕ, ◌+◌, ◌<◌, ◌≤◌, ◌^◌, ◌==◌, ◌||◌, Bool, true, false, not, List, [], ◌∷◌, length, map, filter, Option, Some, None, Result, Ok, Err, inl, inr, refl, ap, sym, subst, ◌∙◌, arith}
use Rattle.std.specs.Prelude.{if◌then◌else◌, IfSome, IsErr, IsErrOf, IsOk, OnErr, OnOk}
use Rattle.std.specs.List.{list_any}
use Rattle.gitconf_text.specs.Names.{is_value_name}
use Rattle.gitconf_text.specs.Part.{Item}
use Rattle.gitconf_text.specs.declared.memory.NoMemory.{NoMemory}
use Rattle.gitconf_state.specs.Edit.{with_used}
use Rattle.gitconf_state.specs.Edits.{Edit, PushLineEnd, apply, change_items, change_numbered, items_of_numbered, numbered}
use Rattle.gitconf_state.specs.State.{SectionState, State}
use Rattle.gitconf_body.specs.Done.{Cause, InvalidKey, IsRefusedFor, OutOfMemory, TooLarge, first_cause, is_full, key_causes, room_causes}
use Rattle.gitconf_body.specs.Growth.{UsedGrows}
use Rattle.gitconf_body.specs.Refusals.{span_refusal}
use Rattle.gitconf_body.proofs.Done.{key_err, key_ok, key_refused, room_err, room_ok}
use Rattle.gitconf_store.specs.declared.set_raw_value.Error.{Error}
use Rattle.gitconf_store.specs.Edited.{IsEdited, IsWritten, bytes_in, causes, has_number, put_bytes}
use Rattle.gitconf_store.specs.SetErrors.{of_span, set_refusal}

-- sections that are changed keep their numbers
numbers_kept : (id : ℕ) (change : SectionState → SectionState) → ((s : SectionState) → (change s).number ≡ s.number) → (ss : List SectionState)
    → list_any (λ (s : SectionState). s.number == id) (map change ss) ≡ list_any (λ (s : SectionState). s.number == id) ss
numbers_kept id change same [] = refl
numbers_kept id change same (s ∷ ss) = λ i. (same s i == id) || numbers_kept id change same ss i

pub items_keep_numbers : (id number : ℕ) (change : List Item → List Item) (state : State) → has_number id (change_items number change state) ≡ has_number id state
items_keep_numbers id number change state = numbers_kept id _ (λ s. go s (s.number == number)) state.sections
  where
    go : (s : SectionState) (t : Bool)
        → (if t then record { number = s.number; header = s.header; meta = s.meta; items = change s.items; held = s.held } else s).number ≡ s.number
    go s true = refl
    go s false = refl

pub sections_keep_numbers : (id number : ℕ) (change : SectionState → SectionState) → ((s : SectionState) → (change s).number ≡ s.number) → (state : State)
    → has_number id (change_numbered number change state) ≡ has_number id state
sections_keep_numbers id number change same state = numbers_kept id _ (λ s. go s (s.number == number)) state.sections
  where
    go : (s : SectionState) (t : Bool) → (if t then change s else s).number ≡ s.number
    go s true = same s
    go s false = refl

-- so the section still is
pub edited_stands : {T E : Type 0} (refusal : Cause → E) (edit : Edit) (result : Result T E) (old new : State) (id : ℕ) → has_number id (apply edit old) ≡ has_number id old
    → IsEdited refusal edit result old new → has_number id old ≡ true → has_number id new ≡ true
edited_stands refusal edit (Ok t) old new id keeps e stands = ap (has_number id) e.ok ∙ keeps ∙ stands
edited_stands refusal edit (Err t) old new id keeps e stands = ap (has_number id) e.err ∙ stands

pub either_stands : {T E : Type 0} (result : Result T E) (old new after : State) (id : ℕ) → has_number id after ≡ has_number id old
    → OnOk result (new ≡ after) → OnErr result (new ≡ old) → has_number id old ≡ true → has_number id new ≡ true
either_stands (Ok t) old new after id keeps ok err stands = ap (has_number id) ok ∙ keeps ∙ stands
either_stands (Err t) old new after id keeps ok err stands = ap (has_number id) err ∙ stands

-- the same count, by items
pub same_bytes_in : (id : ℕ) (count other : List Item → ℕ) (state : State) → ((items : List Item) → count items ≡ other items) → bytes_in id count state ≡ bytes_in id other state
same_bytes_in id count other state same = λ i. bytes_in id (λ items. same items i) state

-- How many bytes are put into the section of the number; none where there is none.
pub grows_in : {T : Type 0} (id : ℕ) (count : List Item → ℕ) (result : Result T ℕ) (old new : State) → old.used < 2 ^ 32
    → IfSome (numbered id old) (λ s. UsedGrows result (count s.items) old.used new.used) → (numbered id old ≡ None → new ≡ old) → (numbered id old ≡ None → IsOk result)
    → UsedGrows result (bytes_in id count old) old.used new.used
grows_in {T} id count result old new room there stays done = go (numbered id old) refl there
  where
    nothing : (r : Result T ℕ) → IsOk r → new ≡ old → UsedGrows {T = T} r 0 old.used new.used
    nothing (Ok t) is same = record {
      put = let used = ap (λ s. s.used) same in omega (arith, used);
      stays = tt;
      too_large = λ fault. absurd (cc);
      refused = λ due. absurd (let n : ℕ = old.used in omega (arith, due, room));
      known = tt;
    }
    nothing (Err e) is same = absurd (cc)

    go : (o : Option SectionState) → numbered id old ≡ o → IfSome o (λ s. UsedGrows {T = T} result (count s.items) old.used new.used)
        → UsedGrows {T = T} result (elim o as (λ _. ℕ) [ None ↦ 0 | Some s ↦ count s.items ]) old.used new.used
    go None is grows = nothing result (done is) (stays is)
    go (Some s) is grows = grows

-- where memory ran out there was room for them
pub no_memory_in : {T : Type 0} (id : ℕ) (count : List Item → ℕ) (old new : State) → (numbered id old ≡ None → ⊥)
    → IfSome (numbered id old) (λ s. old.used + count s.items < 2 ^ 32) → new ≡ old → UsedGrows {T = T} (Err 27) (bytes_in id count old) old.used new.used
no_memory_in {T} id count old new some fits same = record {
  put = tt;
  stays = ap (λ s. s.used) same;
  too_large = λ three. absurd (cc);
  refused = λ due. absurd (let n : ℕ = old.used + bytes_in id count old in let room = go (numbered id old) refl fits in omega (arith, due, room));
  known = inr refl;
}
  where
    go : (o : Option SectionState) → numbered id old ≡ o → IfSome o (λ s. old.used + count s.items < 2 ^ 32)
        → old.used + (elim o as (λ _. ℕ) [ None ↦ 0 | Some s ↦ count s.items ]) < 2 ^ 32
    go None is room = absurd (some is)
    go (Some s) is room = room

-- an entry was written
pub entry_ok : {T U : Type 0} {E : Type 0} (refusal : Cause → E) (edit : Edit) (key : List ℕ) (t : T) (u : U) (count : ℕ) (old new : State) → is_value_name key ≡ true
    → new ≡ with_used new.used (apply edit old) → UsedGrows (Ok t) count old.used new.used → IsWritten refusal key count edit (Ok u) old new
entry_ok refusal edit key t u count old new named is grows = record {
  ok = is ∙ ap (λ n. with_used n (apply edit old)) grows.put;
  err = tt;
  told = key_ok refusal t u key old.used new.used count named grows;
}

-- it was refused for its bytes, or for want of memory
pub entry_err : {T : Type 0} {E : Type 0} (U : Type 0) (refusal : Cause → E) (edit : Edit) (key : List ℕ) (n : ℕ) (e : E) (count : ℕ) (old new : State) → is_value_name key ≡ true
    → new ≡ old → UsedGrows {T = T} (Err n) count old.used new.used → (n ≡ 3 → e ≡ refusal TooLarge) → (n ≡ 27 → e ≡ refusal OutOfMemory)
    → IsWritten {T = U} refusal key count edit (Err e) old new
entry_err {T} U refusal edit key n e count old new named is grows large memory = record {
  ok = tt;
  err = is;
  told = key_err {T = T} U refusal n e key old.used new.used count named grows large memory;
}

-- for its name
pub entry_unnamed : {E : Type 0} (T : Type 0) (refusal : Cause → E) (edit : Edit) (key : List ℕ) (e : E) (count : ℕ) (old : State) → is_value_name key ≡ false
    → e ≡ refusal InvalidKey → IsWritten {T = T} refusal key count edit (Err e) old old
entry_unnamed T refusal edit key e count old none is = record { ok = tt; err = refl; told = key_refused T refusal key old.used count e none is }

-- What is known of an edit of the items of the section of a number that writes an entry: it was done,
pub entry_put : {T U E : Type 0} (refusal : Cause → E) (edit : Edit) (id : ℕ) (key : List ℕ) (result : Result T ℕ) (t : T) (u : U) (count told : List Item → ℕ) (old new : State) → result ≡ Ok t
    → is_value_name key ≡ true → ((items : List Item) → count items ≡ told items) → OnOk result (new ≡ with_used new.used (apply edit old)) → old.used < 2 ^ 32
    → IfSome (numbered id old) (λ s. UsedGrows result (count s.items) old.used new.used) → (numbered id old ≡ None → new ≡ old) → (numbered id old ≡ None → IsOk result)
    → IsWritten {T = U} refusal key (bytes_in id told old) edit (Ok u) old new
entry_put {T} refusal edit id key result t u count told old new is named same ok room grows missing done =
    let put = subst (λ n. UsedGrows result n old.used new.used) (same_bytes_in id count told old same) (grows_in id count result old new room grows missing done) in
    entry_ok refusal edit key t u (bytes_in id told old) old new named (let h = subst (λ r. OnOk r (new ≡ with_used new.used (apply edit old))) is ok in h) (subst (λ r. UsedGrows r (bytes_in id told old) old.used new.used) is put)

-- or refused for its bytes,
pub entry_unput : {T E : Type 0} (U : Type 0) (refusal : Cause → E) (edit : Edit) (id : ℕ) (key : List ℕ) (result : Result T ℕ) (n : ℕ) (e : E) (count told : List Item → ℕ) (old new : State) → result ≡ Err n
    → is_value_name key ≡ true → ((items : List Item) → count items ≡ told items) → OnErr result (new ≡ old) → old.used < 2 ^ 32
    → IfSome (numbered id old) (λ s. UsedGrows result (count s.items) old.used new.used) → (numbered id old ≡ None → new ≡ old) → (numbered id old ≡ None → IsOk result)
    → (n ≡ 3 → e ≡ refusal TooLarge) → (n ≡ 27 → e ≡ refusal OutOfMemory) → IsWritten {T = U} refusal key (bytes_in id told old) edit (Err e) old new
entry_unput {T} U refusal edit id key result n e count told old new is named same err room grows missing done large memory =
    let put = subst (λ n. UsedGrows result n old.used new.used) (same_bytes_in id count told old same) (grows_in id count result old new room grows missing done) in
    entry_err {T = T} U refusal edit key n e (bytes_in id told old) old new named (subst (λ r. OnErr r (new ≡ old)) is err) (subst (λ r. UsedGrows r (bytes_in id told old) old.used new.used) is put) large memory

-- or memory ran out.
pub entry_short : {A E : Type 0} (U : Type 0) (refusal : Cause → E) (edit : Edit) (id : ℕ) (key : List ℕ) (tried : Result A NoMemory) (e : E) (count told : List Item → ℕ) (old new : State) → IsErr tried
    → is_value_name key ≡ true → ((items : List Item) → count items ≡ told items) → OnErr tried (new ≡ old) → (numbered id old ≡ None → IsOk tried)
    → OnErr tried (IfSome (numbered id old) (λ s. old.used + count s.items < 2 ^ 32)) → e ≡ refusal OutOfMemory → IsWritten {T = U} refusal key (bytes_in id told old) edit (Err e) old new
entry_short U refusal edit id key (Ok a) e count told old new short named same err there begun is = absurd (cc)
entry_short U refusal edit id key (Err wanting) e count told old new short named same err there begun is =
    entry_err {T = U} U refusal edit key 27 e (bytes_in id told old) old new named err
    (subst (λ n. UsedGrows {T = U} (Err 27) n old.used new.used) (same_bytes_in id count told old same) (no_memory_in {T = U} id count old new (λ none. let no = there none in cc) begun err))
    (λ three. absurd (omega (arith, three))) (λ memory. is)

-- a line ending
pub line_end_ok : {T : Type 0} (edit : Edit) (t : T) (old new : State) → causes edit old ≡ room_causes old.used (put_bytes edit old)
    → new ≡ with_used new.used (apply edit old) → UsedGrows (Ok t) (put_bytes edit old) old.used new.used → IsEdited span_refusal edit (Ok t) old new
line_end_ok {T} edit t old new told is grows = record {
  ok = is ∙ ap (λ n. with_used n (apply edit old)) grows.put;
  err = tt;
  told = subst (λ cs. IsRefusedFor {T = T} span_refusal (first_cause cs) (Ok t)) (sym told) (room_ok span_refusal t t old.used new.used (put_bytes edit old) grows);
}

pub line_end_err : (T : Type 0) (edit : Edit) (n : ℕ) (old new : State) → causes edit old ≡ room_causes old.used (put_bytes edit old)
    → new ≡ old → UsedGrows {T = T} (Err n) (put_bytes edit old) old.used new.used → IsEdited {T = T} span_refusal edit (Err n) old new
line_end_err T edit n old new told is grows = record {
  ok = tt;
  err = is;
  told = subst (λ cs. IsRefusedFor {T = T} span_refusal (first_cause cs) (Err n)) (sym told)
      (room_err {T = T} T span_refusal n n old.used new.used (put_bytes edit old) grows (λ three. three) (λ memory. memory));
}

pub line_end_edited : {T : Type 0} (edit : Edit) (result : Result T ℕ) (old new : State) → causes edit old ≡ room_causes old.used (put_bytes edit old)
    → OnOk result (new ≡ with_used new.used (apply edit old)) → OnErr result (new ≡ old) → UsedGrows result (put_bytes edit old) old.used new.used → IsEdited span_refusal edit result old new
line_end_edited edit (Ok t) old new told ok err grows = line_end_ok edit t old new told ok grows
line_end_edited {T} edit (Err n) old new told ok err grows = line_end_err T edit n old new told err grows

-- an entry that is written, by its result
pub entry_written : {T : Type 0} (edit : Edit) (key : List ℕ) (result : Result T ℕ) (count : ℕ) (old new : State) → is_value_name key ≡ true
    → OnOk result (new ≡ with_used new.used (apply edit old)) → OnErr result (new ≡ old) → UsedGrows result count old.used new.used → IsWritten span_refusal key count edit result old new
entry_written edit key (Ok t) count old new named ok err grows = entry_ok span_refusal edit key t t count old new named ok grows
entry_written {T} edit key (Err n) count old new named ok err grows = entry_err {T = T} T span_refusal edit key n n count old new named err grows (λ three. three) (λ memory. memory)

-- The same edit by a call that tells its refusals otherwise: the name is known to be valid.
told_otherwise : (T : Type 0) (b : Bool) (n : ℕ) → IsRefusedFor {T = T} span_refusal (first_cause ((b, TooLarge) ∷ [])) (Err n)
    → IsRefusedFor {T = T} set_refusal (first_cause ((b, TooLarge) ∷ [])) (Err (of_span n))
told_otherwise T true n told = let three : n ≡ 3 = cc in ap (λ m. Err (of_span m)) three
told_otherwise T false n told = ap of_span told

pub set_again_ok : {T : Type 0} (edit : Edit) (key : List ℕ) (t : T) (count : ℕ) (old new : State) → IsWritten span_refusal key count edit (Ok t) old new
    → IsWritten {E = Error} set_refusal key count edit (Ok t) old new
set_again_ok {T} edit key t count old new e = record { ok = e.ok; err = tt; told = go (first_cause (key_causes key old.used count)) e.told }
  where
    go : (o : Option Cause) → IsRefusedFor {T = T} span_refusal o (Ok t) → IsRefusedFor {T = T} {E = Error} set_refusal o (Ok t)
    go None is = tt
    go (Some cause) is = absurd (cc)

pub set_again_err : {T : Type 0} (edit : Edit) (key : List ℕ) (n count : ℕ) (old new : State) → is_value_name key ≡ true → IsWritten {T = T} span_refusal key count edit (Err n) old new
    → IsWritten {T = T} {E = Error} set_refusal key count edit (Err (of_span n)) old new
set_again_err {T} edit key n count old new named e = record {
  ok = tt;
  err = e.err;
  told = subst (λ b. IsRefusedFor {T = T} {E = Error} set_refusal (first_cause ((not b, InvalidKey) ∷ room_causes old.used count)) (Err (of_span n))) (sym named)
      (told_otherwise T (is_full old.used count) n (subst (λ b. IsRefusedFor {T = T} span_refusal (first_cause ((not b, InvalidKey) ∷ room_causes old.used count)) (Err n)) named e.told));
}
