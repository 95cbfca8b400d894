-- A text that a stream is given by pieces.
use Rattle.std.proofs.Common.{◌≡◌, ℕ, List, [], ◌∷◌, ◌++◌, Option, Result, Ok, Err, take, drop, refl, subst, sym, ap, ◌∙◌, append-nil, append_assoc, take-append-drop}
use Rattle.std.proofs.KnownBytes.{Appends-kept, Appends-nil, Appends-trans}
use Rattle.std.specs.Io.KnownBytes.{Appends, Keeps}
use Rattle.std.specs.Prelude.{IsErr, flat_map}
use Rattle.gixcfg_core.specs.Pieces.{HasBeginning, HasUpTo, IsGiven, IsGivenBut}

-- at first the stream has nothing of it
pub nothing_yet : (text : List ℕ) (known : Option (List ℕ)) → HasUpTo text text known known
nothing_yet text known = ([], refl, Appends-nil known)

-- the next bytes of what is left are written
pub some_more : (text left : List ℕ) (n : ℕ) (old now new : Option (List ℕ)) → HasUpTo text left old now → Appends now new (take n left) → HasUpTo text (drop n left) old new
some_more text left n old now new has more = (
  has.0 ++ take n left,
  has.1 ∙ ap (λ t. has.0 ++ t) (sym (take-append-drop n left)) ∙ sym (append_assoc has.0 (take n left) (drop n left)),
  Appends-trans old now new has.0 (take n left) has.2 more,
)

-- nothing is
pub none_more : (text left : List ℕ) (old now new : Option (List ℕ)) → HasUpTo text left old now → Keeps now new → HasUpTo text left old new
none_more text left old now new has keeps = (has.0, has.1, Appends-kept old now new has.0 has.2 keeps)

-- of what is left the first part is written but for what is held back
pub goes_on : (text left part behind held : List ℕ) (old now new : Option (List ℕ)) → HasUpTo text left old now → left ≡ part ++ behind → HasUpTo part held now new → HasUpTo text (held ++ behind) old new
goes_on text left part behind held old now new has parts more = (
  has.0 ++ more.0,
  has.1 ∙ ap (λ t. has.0 ++ t) (parts ∙ ap (λ t. t ++ behind) more.1 ∙ append_assoc more.0 held behind) ∙ sym (append_assoc has.0 more.0 (held ++ behind)),
  Appends-trans old now new has.0 more.0 has.2 more.2,
)

-- a beginning of that is
pub breaks_off : (text left part behind : List ℕ) (old now new : Option (List ℕ)) → HasUpTo text left old now → left ≡ part ++ behind → HasBeginning part now new → HasBeginning text old new
breaks_off text left part behind old now new has parts more = (more.0 ++ behind, goes_on text left part behind more.0 old now new has parts more.1)

-- where giving a text failed, the stream has a beginning of it
pub failed : {T E : Type 0} (text held : List ℕ) (result : Result T E) (old new : Option (List ℕ)) → IsErr result → HasBeginning text old new → IsGivenBut text held result old new
failed text held (Ok done) old new is has = absurd (cc)
failed text held (Err trouble) old new is has = has

-- another line of some is held back
pub line_added : {A : Type 0} (line_of : A → List ℕ) (all behind : List A) (e : A) (held added line : List ℕ) → all ≡ e ∷ behind → added ≡ held ++ line → line ≡ line_of e
    → held ++ flat_map line_of all ≡ added ++ flat_map line_of behind
line_added line_of all behind e held added line is more same =
    ap (λ es. held ++ flat_map line_of es) is
    ∙ sym (ap (λ t. t ++ flat_map line_of behind) (more ∙ ap (λ t. held ++ t) same) ∙ append_assoc held (line_of e) (flat_map line_of behind))

pub failed_whole : {T E : Type 0} (text : List ℕ) (result : Result T E) (old new : Option (List ℕ)) → IsErr result → HasBeginning text old new → IsGiven text result old new
failed_whole text (Ok done) old new is has = absurd (cc)
failed_whole text (Err trouble) old new is has = has

-- at last all that is left is written
pub put_rest : {T E : Type 0} (text left rest : List ℕ) (result : Result T E) (old now new : Option (List ℕ)) → HasUpTo text left old now → left ≡ rest → IsGiven rest result now new
    → IsGiven text result old new
put_rest text left rest (Ok done) old now new has same put = subst (Appends old new) (sym (has.1 ∙ ap (λ t. has.0 ++ t) same)) (Appends-trans old now new has.0 rest has.2 put)
put_rest text left rest (Err trouble) old now new has same put =
    breaks_off text left rest [] old now new has (same ∙ sym (append-nil rest)) put
