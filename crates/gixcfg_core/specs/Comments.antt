-- What a text becomes when a comment is put behind a value.
-- Source: the manual page of `git-config`, `--comment`.
use Rattle.std.specs.Prelude.{◌≡◌, ◌≤◌, ◌⊎◌, ◌==◌, ℕ, Bool, List, [], ◌∷◌, ◌++◌, codes, if◌then◌else◌}
use Rattle.gitconf_text.specs.Bytes.{is_blank}
use Rattle.gitconf_text.specs.Text.{begins}
use Rattle.gitconf_read.specs.ParseError.{Refusal}
use Rattle.gixcfg_core.specs.declared.comments.Ends.{Ends}
use Rattle.gixcfg_core.specs.declared.trouble.Trouble.{Trouble}
use Rattle.gixcfg_core.specs.declared.trouble.Trouble.TheVariants.{Memory, Uncommented}

-- what follows the blanks that a text begins with
abbrev pub behind_blanks : List ℕ → List ℕ
behind_blanks [] = []
behind_blanks (b ∷ bs) = if is_blank b then behind_blanks bs else b ∷ bs

-- a text begins with `#`
abbrev pub begins_with_hash : List ℕ → Bool
begins_with_hash text = begins (λ b. b == 35) text

-- what is put before a comment: a blank if it begins with `#`, nothing if it begins with blanks and `#`, else ` # `
abbrev pub lead_of : (comment : List ℕ) → List ℕ
lead_of comment = if begins_with_hash comment then codes " " else if begins_with_hash (behind_blanks comment) then [] else codes " # "

-- A text in which the comment, behind what is put before it, stands in place of something.
abbrev pub IsCommented : (text comment new : List ℕ) → Type 0
IsCommented text comment new = (front : List ℕ) × (between : List ℕ) × (back : List ℕ) × (text ≡ front ++ between ++ back) × (new ≡ front ++ lead_of comment ++ comment ++ back)

-- a comment isn't put into a text: for want of memory, or because the text has no place for it, or would mean something else
abbrev pub IsUncommented : Trouble → Type 0
IsUncommented trouble = (trouble ≡ Memory) ⊎ (trouble ≡ Uncommented)

-- the trouble that the refusal of a text with a comment is
abbrev pub trouble_of : Refusal → Trouble
trouble_of refusal = if refusal.number == 27 then Memory else Uncommented

-- a value ends no later than its line, and that no later than at a place
abbrev pub AreBefore : (at : ℕ) → Ends → Type 0
AreBefore at ends = (ends.value ≤ ends.line) × (ends.line ≤ at)
