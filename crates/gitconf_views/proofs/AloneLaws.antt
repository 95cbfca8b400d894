-- A section is edited alone as it is edited in a file.
use Rattle.std.proofs.Common.{◌≡◌, ℕ, ◌+◌, ◌==◌, false, List, [], ◌∷◌, ◌++◌, map, refl, ap, ◌∙◌, arith}
use Rattle.std.specs.Prelude.{if◌then◌else◌}
use Rattle.std.proofs.lemmas.Bool.{eq-eqb, ne_eqb}
use Rattle.std.proofs.lemmas.List.{map-append}
use Rattle.gitconf_state.specs.Edits.{Detached, PushSection, apply, change_numbered}
use Rattle.gitconf_state.specs.State.{AreNumbered, SectionState, State}

-- the sections that have other numbers stay
others_stay : (next : ℕ) (change : SectionState → SectionState) (ss : List SectionState) → AreNumbered next ss
    → map (λ (s : SectionState). if s.number == next then change s else s) ss ≡ ss
others_stay next change [] once = refl
others_stay next change (s ∷ ss) once =
    let other : (s.number == next) ≡ false = ne_eqb s.number next (λ same. let below = once.0 in omega (arith, same, below)) in
    rw other (ap (λ r. s ∷ r) (others_stay next change ss once.2))

last_changed : (next : ℕ) (change : SectionState → SectionState) (s : SectionState) → s.number ≡ next
    → map (λ (s : SectionState). if s.number == next then change s else s) (s ∷ []) ≡ change s ∷ []
last_changed next change s is = rw (eq-eqb s.number next is) refl

-- the section as it is put into a file
abbrev pub numbered_as : ℕ → SectionState → SectionState
numbered_as number s = record { number = number; header = s.header; meta = s.meta; items = s.items; held = s.held }

pub edited_behind : (change : SectionState → SectionState) (detached : Detached) (state : State) → AreNumbered state.next state.sections
    → change_numbered state.next change (apply (PushSection detached) state)
    ≡ record { front = state.front; meta = state.meta; next = state.next + 1; used = state.used; sections = state.sections ++ change (numbered_as state.next detached.section) ∷ [] }
edited_behind change detached state once =
    let s = numbered_as state.next detached.section in
    let all = map-append (λ (s : SectionState). if s.number == state.next then change s else s) state.sections (s ∷ [])
    ∙ ap (λ ss. ss ++ map (λ (s : SectionState). if s.number == state.next then change s else s) (s ∷ [])) (others_stay state.next change state.sections once)
    ∙ ap (λ ss. state.sections ++ ss) (last_changed state.next change s refl) in
    (λ i. record { front = state.front; meta = state.meta; next = state.next + 1; used = state.used; sections = all i })
