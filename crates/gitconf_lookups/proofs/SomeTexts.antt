-- A text of some of the sections, whatever a filter returns.
use Rattle.std.proofs.Common.{◌≡◌, ℕ, Bool, true, false, List, [], ◌∷◌, ◌++◌, Option, Result, refl, ap, sym, subst, ◌∙◌, append_assoc}
use Rattle.std.specs.Prelude.{IsErr}
use Rattle.gitconf_text.specs.Part.{Item}
use Rattle.gitconf_items.specs.Sink.{with_text, is_begun, Writes}
use Rattle.gitconf_items.proofs.SinkLaws.{with_text-with_text, with_text-empty}
use Rattle.gitconf_state.specs.State.{SectionState, State}
use Rattle.gitconf_state.specs.LineEnds.{file_line_end}
use Rattle.gitconf_print.proofs.Left.{left_all, left_behind, left_fault, left_first, left_last}
use Rattle.gitconf_views.specs.Texts.{front_text, line_end_unless, next_text, ended_behind, is_front_ended, IsTextOfSome, IsTextOfSomeSections}

-- what was written of such a text, and that any text of those that are left completes it
pub record IsSomeLeft (line_end : List ℕ) (ended : Bool) (all left : List SectionState) (old mid : Option (List ℕ)) : Type 0 where
  pub done : List ℕ
  pub told : mid ≡ with_text done old
  pub rest : (text : List ℕ) → IsTextOfSome line_end ended left text → IsTextOfSome line_end true all (done ++ text)

pub some_all : (line_end : List ℕ) (all : List SectionState) (old : Option (List ℕ)) → IsSomeLeft line_end true all all old old
some_all line_end all old = record { done = []; told = sym (with_text-empty old); rest = λ text h. h }

-- after the next section, kept or not
pub some_next : (line_end : List ℕ) (ended next : Bool) (all left : List SectionState) (s : SectionState) (sections : List SectionState) (kept : Bool) (old mid new : Option (List ℕ))
    → IsSomeLeft line_end ended all left old mid → left ≡ s ∷ sections → new ≡ with_text (next_text (λ _. kept) line_end ended s) mid
    → next ≡ ended_behind (λ _. kept) line_end ended s → IsSomeLeft line_end next all sections old new
some_next line_end ended next all left s sections kept old mid new i is written ends = record {
  done = i.done ++ next_text (λ _. kept) line_end ended s;
  told = written ∙ (ap (with_text (next_text (λ _. kept) line_end ended s)) i.told ∙ with_text-with_text (next_text (λ _. kept) line_end ended s) i.done old);
  rest = λ text h.
      subst (IsTextOfSome line_end true all) (sym (append_assoc i.done (next_text (λ _. kept) line_end ended s) text))
      (i.rest (next_text (λ _. kept) line_end ended s ++ text)
      (subst (λ ss. IsTextOfSome line_end ended ss (next_text (λ _. kept) line_end ended s ++ text)) (sym is)
      (kept, text, refl, subst (λ e. IsTextOfSome line_end e sections text) ends h)));
}

-- none of the sections
pub some_none : (line_end : List ℕ) (ended : Bool) (sections : List SectionState) → (text : List ℕ) × IsTextOfSome line_end ended sections text
some_none line_end ended [] = (line_end_unless ended line_end, refl)
some_none line_end ended (s ∷ sections) =
    let others = some_none line_end (ended_behind (λ _. false) line_end ended s) sections in
    (next_text (λ _. false) line_end ended s ++ others.0, (false, others.0, refl, others.1))

-- what an answer says of the whole text
abbrev pub Told : {T E : Type 0} → Result T E → (line_end : List ℕ) → List SectionState → (old new : Option (List ℕ)) → Type 0
Told r line_end all old new = (text : List ℕ) × IsTextOfSome line_end true all text × Writes r text old new

-- a fault in the next section
pub some_fault : {T E : Type 0} (r : Result T E) (line_end : List ℕ) (ended : Bool) (all left : List SectionState) (s : SectionState) (sections : List SectionState) (kept : Bool) (old mid new : Option (List ℕ))
    → IsErr r → IsSomeLeft line_end ended all left old mid → left ≡ s ∷ sections → is_begun (next_text (λ _. kept) line_end ended s) mid new ≡ true → Told r line_end all old new
some_fault r line_end ended all left s sections kept old mid new fault i is begun =
    let part = next_text (λ _. kept) line_end ended s in
    let others = some_none line_end (ended_behind (λ _. kept) line_end ended s) sections in
    let whole = i.done ++ (part ++ others.0) in (
      whole,
      i.rest (part ++ others.0) (subst (λ ss. IsTextOfSome line_end ended ss (part ++ others.0)) (sym is) (kept, others.0, refl, others.1)),
      left_fault r whole (part ++ others.0) part others.0 old mid new fault (record { done = i.done; whole = refl; told = i.told }) refl begun,
    )

-- after the last section
pub some_last : {T E : Type 0} (r : Result T E) (line_end : List ℕ) (ended : Bool) (all left : List SectionState) (old mid new : Option (List ℕ))
    → IsSomeLeft line_end ended all left old mid → left ≡ [] → Writes r (line_end_unless ended line_end) mid new → Told r line_end all old new
some_last r line_end ended all left old mid new i is written =
    let part = line_end_unless ended line_end in
    let whole = i.done ++ part in (
      whole,
      i.rest part (subst (λ ss. IsTextOfSome line_end ended ss part) (sym is) refl),
      left_last r whole part part old mid new (record { done = i.done; whole = refl; told = i.told }) refl written,
    )

-- what an answer says of the whole file
abbrev pub ToldWhole : {T E : Type 0} → Result T E → State → (old new : Option (List ℕ)) → Type 0
ToldWhole r state old new = (text : List ℕ) × IsTextOfSomeSections state text × Writes r text old new

-- whether a line ending may be missing after the front, for the same line ending, front and sections
pub ended_so : (line_end other : List ℕ) (front items : List Item) (left sections : List SectionState) (ended : Bool) → line_end ≡ other → front ≡ items → left ≡ sections
    → (is_front_ended (λ _. true) line_end front left ≡ true → ended ≡ true) → is_front_ended (λ _. true) other items sections ≡ true → ended ≡ true
ended_so line_end other front items left sections ended e f g told h =
    told (ap (λ l. is_front_ended (λ _. true) l front left) e ∙ ap (λ is. is_front_ended (λ _. true) other is left) f ∙ ap (λ ss. is_front_ended (λ _. true) other items ss) g ∙ h)

-- a fault in the front
pub some_front_fault : {T E : Type 0} (r : Result T E) (state : State) (front : List ℕ) (old new : Option (List ℕ))
    → IsErr r → front ≡ front_text state → is_begun front old new ≡ true → ToldWhole r state old new
some_front_fault r state front old new fault same begun =
    let line_end = file_line_end state in
    let others = some_none line_end true state.sections in
    let behind = line_end_unless true line_end ++ others.0 in
    let text = front_text state ++ behind in (
      text,
      (true, others.0, λ _. refl, refl, others.1),
      left_fault r text text (front_text state) behind old old new fault (left_all text old) refl (subst (λ t. is_begun t old new ≡ true) same begun),
    )

-- a fault after the front
pub some_behind_fault : {T E : Type 0} (r : Result T E) (state : State) (front line_end : List ℕ) (ended : Bool) (old mid new : Option (List ℕ))
    → IsErr r → (is_front_ended (λ _. true) (file_line_end state) state.front state.sections ≡ true → ended ≡ true) → line_end ≡ file_line_end state
    → front ≡ front_text state → mid ≡ with_text front old → is_begun (line_end_unless ended line_end) mid new ≡ true → ToldWhole r state old new
some_behind_fault r state front line_end ended old mid new fault ends same_end same written begun =
    let others = some_none (file_line_end state) true state.sections in
    let part = line_end_unless ended (file_line_end state) in
    let text = front_text state ++ (part ++ others.0) in (
      text,
      (ended, others.0, ends, refl, others.1),
      left_fault r text (part ++ others.0) part others.0 old mid new fault (left_first text (front_text state) (part ++ others.0) old mid refl (written ∙ ap (λ t. with_text t old) same)) refl
          (subst (λ l. is_begun (line_end_unless ended l) mid new ≡ true) same_end begun),
    )

-- after the front
pub some_sections : {T E : Type 0} (r : Result T E) (state : State) (front line_end : List ℕ) (ended : Bool) (left : List SectionState) (old mid behind new : Option (List ℕ))
    → (is_front_ended (λ _. true) (file_line_end state) state.front state.sections ≡ true → ended ≡ true) → line_end ≡ file_line_end state → left ≡ state.sections
    → front ≡ front_text state → mid ≡ with_text front old → behind ≡ with_text (line_end_unless ended line_end) mid → Told r line_end left behind new → ToldWhole r state old new
some_sections r state front line_end ended left old mid behind new ends same_end same_left same written written_end told =
    let part = line_end_unless ended (file_line_end state) in
    let text = front_text state ++ (part ++ told.0) in
    let at : IsTextOfSome (file_line_end state) true state.sections told.0 =
    subst (λ ss. IsTextOfSome (file_line_end state) true ss told.0) same_left (subst (λ l. IsTextOfSome l true left told.0) same_end told.1) in
    let first = left_first text (front_text state) (part ++ told.0) old mid refl (written ∙ ap (λ t. with_text t old) same) in (
      text,
      (ended, told.0, ends, refl, at),
      left_last r text told.0 told.0 old behind new
          (left_behind text (part ++ told.0) part told.0 old mid behind first refl (written_end ∙ ap (λ l. with_text (line_end_unless ended l) mid) same_end)) refl told.2,
    )
