-- The parts one after the other: bytes that were read already are skipped.
use Rattle.std.proofs.Common.{◌≡◌, ℕ, zero, suc, ◌+◌, ◌-◌, ◌<◌, List, [], ◌∷◌, length, drop, get_or, Result, Ok, Err, refl, ap, sym, ◌∙◌, arith, add-zero}
use Rattle.std.proofs.lemmas.List.{drop-drop}
use Rattle.gitconf_items.specs.declared.event.Event.{Event}
use Rattle.gitconf_read.specs.declared.reading.Expected.{Expected}
use Rattle.gitconf_read.specs.declared.reading.Fault.{Fault}
use Rattle.gitconf_read.specs.declared.reading.ReadError.{ReadError}
use Rattle.gitconf_read.specs.declared.reading.ReadError.TheVariants as errors
use Rattle.gitconf_read.specs.Reading.{Read, Gives, GivesAll, part_at, wanted_behind, text_from}
use Rattle.gitconf_read.proofs.Runs.{cut_at}

-- skipping k bytes is dropping them
pub text_from-skip : (input : List ℕ) (wanted : Expected) (events : List Event) (n k : ℕ) (text : List ℕ)
    → text_from input wanted events n k text ≡ text_from input wanted events (n + k) 0 (drop k text)
unfolding text_from
text_from-skip input wanted events n zero text = ap (λ m. text_from input wanted events m 0 text) (sym (add-zero n))
text_from-skip input wanted events n (suc k) [] = refl
text_from-skip input wanted events n (suc k) (b ∷ rest) =
    let e : n + 1 + k ≡ n + suc k = omega arith in
    text_from-skip input wanted events (n + 1) k rest ∙ ap (λ m. text_from input wanted events m 0 (drop k rest)) e

-- if no byte is left, all is read
pub text_from-end : (input : List ℕ) (wanted : Expected) (events : List Event) (n : ℕ) → text_from input wanted events n 0 [] ≡ Ok events
unfolding text_from
text_from-end input wanted events n = refl

-- after a part the text goes on at its end
pub text_from-part : (input : List ℕ) (wanted : Expected) (events : List Event) (n : ℕ) (more : List Event) (end : ℕ)
    → n < length input → n < end → part_at input n wanted events ≡ Ok (more, end)
    → text_from input wanted events n 0 (drop n input) ≡ text_from input (wanted_behind (get_or input n 0) wanted) more end 0 (drop end input)
unfolding text_from
text_from-part input wanted events n more end within ahead read =
    let next = wanted_behind (get_or input n 0) wanted in
    let e : n + 1 + (end - (n + 1)) ≡ end = omega arith in
    rw (cut_at input n within, read, text_from) (
    text_from-skip input next more (n + 1) (end - (n + 1)) (drop (n + 1) input)
    ∙ ap (λ t. text_from input next more (n + 1 + (end - (n + 1))) 0 t) (drop-drop (end - (n + 1)) (n + 1) input)
    ∙ ap (λ m. text_from input next more m 0 (drop m input)) e)

-- where a part is refused, so is the text
pub text_from-fault : (input : List ℕ) (wanted : Expected) (events : List Event) (n : ℕ) (f : Fault)
    → n < length input → part_at input n wanted events ≡ Err f → text_from input wanted events n 0 (drop n input) ≡ Err f
unfolding text_from
text_from-fault input wanted events n f within read = rw (cut_at input n within, read, text_from) refl

-- a part's refusal, or running out of memory in it, is the text's
pub gives_all : (e : ReadError) (events : List Event) (read : Read) (all : Result (List Event) Fault)
    → Gives (Err e) events read → ((f : Fault) → read ≡ Err f → all ≡ Err f) → GivesAll (Err e) events all
gives_all errors.Memory events read all given passes = tt
gives_all (errors.Fault f) events read all given passes = passes f given
