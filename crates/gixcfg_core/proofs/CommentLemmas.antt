-- What is put before a comment, and a text with one.
use Rattle.std.proofs.Common.{◌≡◌, ◌≤◌, ◌-◌, ◌++◌, ◌==◌, ℕ, Bool, true, false, List, [], ◌∷◌, take, drop, codes, refl, sym, ap, ◌∙◌, append_assoc, arith, if◌then◌else◌}
use Rattle.std.proofs.lemmas.List.{drop-drop, take-append-drop}
use Rattle.gitconf_text.specs.Bytes.{is_blank}
use Rattle.gixcfg_core.specs.Comments.{IsCommented, begins_with_hash, behind_blanks, lead_of}

-- what is put before a comment of which this is left, where that is put before `#`
abbrev pub lead_or : (lead left : List ℕ) → List ℕ
lead_or lead [] = codes " # "
lead_or lead (b ∷ bs) = if is_blank b then lead_or [] bs else if b == 35 then lead else codes " # "

behind_so : (bs : List ℕ) → lead_or [] bs ≡ (if begins_with_hash (behind_blanks bs) then [] else codes " # ")
behind_so [] = refl
behind_so (b ∷ bs) = go (is_blank b) refl (behind_so bs)
  where
    go : (blank : Bool) → is_blank b ≡ blank → lead_or [] bs ≡ (if begins_with_hash (behind_blanks bs) then [] else codes " # ")
        → lead_or [] (b ∷ bs) ≡ (if begins_with_hash (behind_blanks (b ∷ bs)) then [] else codes " # ")
    go true e later = rw e later
    go false e later = rw e refl

pub lead_so : (comment : List ℕ) → lead_or (codes " ") comment ≡ lead_of comment
lead_so [] = refl
lead_so (b ∷ bs) = go (b == 35) refl
  where
    blank : (blank : Bool) → is_blank b ≡ blank → (b == 35) ≡ false → lead_or (codes " ") (b ∷ bs) ≡ lead_of (b ∷ bs)
    blank true e other = rw (e, other) (behind_so bs)
    blank false e other = rw (e, other) refl

    go : (hash : Bool) → (b == 35) ≡ hash → lead_or (codes " ") (b ∷ bs) ≡ lead_of (b ∷ bs)
    go true e = let no : is_blank b ≡ false = grind arith in rw (no, e) refl
    go false e = blank (is_blank b) refl e

-- a text of which something between two places is left out, and a comment put there
pub commented_so : (text comment new : List ℕ) (value line : ℕ) → value ≤ line → new ≡ take value text ++ lead_of comment ++ comment ++ drop line text → IsCommented text comment new
commented_so text comment new value line within is =
    let behind : drop (line - value) (drop value text) ≡ drop line text = drop-drop (line - value) value text ∙ ap (λ n. drop n text) (omega arith) in (
      take value text,
      take (line - value) (drop value text),
      drop line text,
      sym (take-append-drop value text)
          ∙ ap (λ rest. take value text ++ rest) (sym (take-append-drop (line - value) (drop value text)) ∙ ap (λ rest. take (line - value) (drop value text) ++ rest) behind)
          ∙ sym (append_assoc (take value text) (take (line - value) (drop value text)) (drop line text)),
      is,
    )
