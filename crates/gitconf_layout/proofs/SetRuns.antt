-- The line endings and the comments that are set.
use Rattle.std.proofs.Common.{◌≡◌, ◌<◌, ℕ, zero, suc, Bool, true, false, not, List, [], ◌∷◌, ◌++◌, length, Option, Some, None, inl, inr, refl, ap, sym, subst, ◌∙◌, append-nil, arith}
use Rattle.std.specs.Prelude.{◌⊎◌, ◌==◌, ◌&&◌, ◌||◌, replicate, if◌then◌else◌}
use Rattle.std.specs.List.{list_all}
use Rattle.std.proofs.lemmas.Bool.{eqb-true}
use Rattle.std.proofs.lemmas.List.{length-append}
use Rattle.gitconf_text.specs.Bytes.{is_blank}
use Rattle.gitconf_text.specs.Text.{begins, begins_line_end, are_line_ends, is_line_end}
use Rattle.gitconf_items.specs.EventRef.{Shown}
use Rattle.gitconf_text.proofs.Tests.{both_true}
use Rattle.gitconf_state.specs.Comments.{without_white_end}
use Rattle.gitconf_state.proofs.Printing.Fitted.{line_ends-append}
use Rattle.gitconf_layout.specs.declared.format.Indent.{Indent}
use Rattle.gitconf_layout.specs.declared.format.Indent.TheVariants.{Tabs, Spaces}
use Rattle.gitconf_layout.specs.declared.format.Options.{Options}
use Rattle.gitconf_layout.specs.declared.place.Before.{Before}
use Rattle.gitconf_layout.specs.declared.place.Before.TheVariants.{Nothing, Value, Other}
use Rattle.gitconf_layout.specs.declared.place.Place.{Place}
use Rattle.gitconf_layout.specs.Layout.{indent_text, is_nothing, before_name, before_comment, root_indent, without_cr, comment_text, begins_newline}
use Rattle.gitconf_layout.specs.Setting.{is_dropped, on_next_line, end_text, ends_text}
use Rattle.gitconf_layout.proofs.SetEntries.{one_line_end}

-- nothing, or a run of line endings
abbrev pub IsRun : List ℕ → Type 0
IsRun text = (text ≡ []) ⊎ ((0 < length text) × (are_line_ends text ≡ true))

run_append : (x y : List ℕ) → IsRun x → IsRun y → IsRun (x ++ y)
run_append x y r q = elim r [
  | inl none ↦ subst (λ x. IsRun (x ++ y)) (sym none) q
  | inr some ↦ elim q [
    | inl none ↦ subst (λ t. IsRun t) (sym (ap (λ y. x ++ y) none ∙ append-nil x)) (inr some)
    | inr more ↦ inr (rw length-append (let a = some.0 in omega arith), line_ends-append x y some.1 more.1)
  ]
]

line_end_run : (e : List ℕ) → is_line_end e ≡ true → IsRun e
line_end_run e line = inr (one_line_end (λ e. (0 < length e) × (are_line_ends e ≡ true)) (omega arith, refl) (omega arith, refl) e line)

end_run : (e : List ℕ) → is_line_end e ≡ true → (p : Place) → IsRun (end_text e p)
end_run e line p = go (is_dropped p) refl
  where
    go : (t : Bool) → is_dropped p ≡ t → IsRun (end_text e p)
    go true h = rw (h, end_text) (inl refl)
    go false h = rw (h, end_text) (line_end_run e line)

-- what a newline is set as
pub ends_run : (o : Options) (e : List ℕ) → is_line_end e ≡ true → (p : Place) (run : List ℕ) → IsRun (ends_text o e p run)
unfolding ends_text
ends_run o e line p [] = inl refl
ends_run o e line p (b ∷ run) = go (b == 10) refl (λ p. ends_run o e line p run)
  where
    go : (t : Bool) → (b == 10) ≡ t → ((p : Place) → IsRun (ends_text o e p run)) → IsRun (ends_text o e p (b ∷ run))
    go true h later = rw (h, ends_text) (run_append (end_text e p) (ends_text o e (on_next_line o p) run) (end_run e line p) (later (on_next_line o p)))
    go false h later = rw (h, ends_text) (later p)

not_empty : (e rest : List ℕ) → is_line_end e ≡ true → e ++ rest ≡ [] → ⊥
not_empty [] rest line h = absurd (cc)
not_empty (b ∷ e) rest line h = absurd (cc)

-- the line ending after content stays
pub ends_line : (o : Options) (e : List ℕ) → is_line_end e ≡ true → (p : Place) → is_nothing p.before ≡ false → (run : List ℕ) → 0 < length run → are_line_ends run ≡ true → ends_text o e p run ≡ [] → ⊥
unfolding ends_text
ends_line o e line p content [] some all none = absurd (omega arith)
ends_line o e line p content (b ∷ run) some all none = go (b == 10) refl (λ some none. ends_line o e line p content run some (both_true (begins_line_end (b ∷ run)) (are_line_ends run) all).1 none)
  where
    q : (begins_line_end (b ∷ run) ≡ true) × (are_line_ends run ≡ true)
    q = both_true (begins_line_end (b ∷ run)) (are_line_ends run) all

    stays : end_text e p ≡ e
    stays = rw (content, end_text) refl

    next : (run : List ℕ) → begins (λ c. c == 10) run ≡ true → 0 < length run
    next [] h = absurd (cc)
    next (c ∷ run) h = omega arith

    go : (t : Bool) → (b == 10) ≡ t → (0 < length run → ends_text o e p run ≡ [] → ⊥) → ⊥
    go true h later = not_empty e _ line (ap (λ t. t ++ ends_text o e (on_next_line o p) run) (sym stays) ∙ rw (h, ends_text) at none)
    go false h later =
        let k : (b == 13 && begins (λ c. c == 10) run) ≡ true = rw h at q.0 in
        later (next run (both_true (b == 13) _ k).1) (rw (h, ends_text) at none)

-- the same text without its white end
strip_step : ℕ → List ℕ → List ℕ
strip_step b text = elim text [ [] ↦ elim (is_blank b || b == 13) [ true ↦ [] | false ↦ b ∷ [] ] | c ∷ rest ↦ b ∷ c ∷ rest ]

stripped_cr : (text : List ℕ) → without_white_end (without_cr text) ≡ without_white_end text
unfolding strip_step
stripped_cr [] = refl
stripped_cr (b ∷ []) = go (b == 13) refl
  where
    go : (t : Bool) → (b == 13) ≡ t → without_white_end (without_cr (b ∷ [])) ≡ without_white_end (b ∷ [])
    go true h = rw (eqb-true b 13 h) refl
    go false h = rw (h, without_cr) refl
stripped_cr (b ∷ c ∷ text) = ap (strip_step b) (stripped_cr (c ∷ text))

pub stripped_comment : (text : List ℕ) (rest : List Shown) → without_white_end (comment_text text rest) ≡ without_white_end text
stripped_comment text rest = go (begins_newline rest) refl
  where
    go : (t : Bool) → begins_newline rest ≡ t → without_white_end (comment_text text rest) ≡ without_white_end text
    go true h = rw (h, comment_text) (stripped_cr text)
    go false h = rw (h, comment_text) refl

cr_in_line : (text : List ℕ) → list_all (λ b. not (b == 10)) text ≡ true → list_all (λ b. not (b == 10)) (without_cr text) ≡ true
cr_in_line [] h = refl
cr_in_line (b ∷ []) h = go (b == 13) refl
  where
    go : (t : Bool) → (b == 13) ≡ t → list_all (λ b. not (b == 10)) (without_cr (b ∷ [])) ≡ true
    go true e = rw (e, without_cr) refl
    go false e = rw (e, without_cr) h
cr_in_line (b ∷ c ∷ text) h =
    let p = both_true (not (b == 10)) (list_all (λ b. not (b == 10)) (c ∷ text)) h in
    rw p.0 (cr_in_line (c ∷ text) p.1)

pub comment_in_line : (text : List ℕ) (rest : List Shown) → list_all (λ b. not (b == 10)) text ≡ true → list_all (λ b. not (b == 10)) (comment_text text rest) ≡ true
comment_in_line text rest h = go (begins_newline rest) refl
  where
    go : (t : Bool) → begins_newline rest ≡ t → list_all (λ b. not (b == 10)) (comment_text text rest) ≡ true
    go true e = rw (e, comment_text) (cr_in_line text h)
    go false e = rw (e, comment_text) h

replicate_all : (p : ℕ → Bool) (b : ℕ) → p b ≡ true → (n : ℕ) → list_all p (replicate n b) ≡ true
replicate_all p b h zero = refl
replicate_all p b h (suc n) = rw h (replicate_all p b h n)

indent_blank : (i : Indent) → list_all is_blank (indent_text i) ≡ true
indent_blank (Tabs n) = replicate_all is_blank 9 refl n
indent_blank (Spaces n) = replicate_all is_blank 32 refl n

key_blank : (i : Indent) (s : Bool) (other : List ℕ) → list_all is_blank other ≡ true → list_all is_blank (if s then indent_text i else other) ≡ true
key_blank i true other h = indent_blank i
key_blank i false other h = h

root_blank : (i : Option Indent) → list_all is_blank (root_indent i) ≡ true
root_blank None = refl
root_blank (Some i) = indent_blank i

-- what comes before a name and before a comment are blanks
pub name_blank : (o : Options) (s : Bool) (b : Before) → list_all is_blank (before_name o s b) ≡ true
name_blank o s Nothing = key_blank o.key_value_indent s [] refl
name_blank o s Value = refl
name_blank o s Other = refl

pub comment_blank : (o : Options) (s : Bool) (b : Before) → list_all is_blank (before_comment o s b) ≡ true
comment_blank o s Nothing = key_blank o.key_value_indent s (root_indent o.root_comment_indent) (root_blank o.root_comment_indent)
comment_blank o s Value = refl
comment_blank o s Other = refl
