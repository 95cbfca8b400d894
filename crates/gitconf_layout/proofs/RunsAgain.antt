-- Line endings that are set stay as they are, and what one pass writes of a run is what it writes of its parts.
use Rattle.std.proofs.Common.{◌≡◌, ◌<◌, ℕ, ◌-◌, Bool, true, false, List, [], ◌∷◌, ◌++◌, length, Option, Some, None, refl, ap, sym, subst, ◌∙◌, append_assoc, append-nil, arith}
use Rattle.std.specs.Prelude.{◌==◌}
use Rattle.std.proofs.lemmas.Bool.{eqb-true}
use Rattle.gitconf_text.specs.Text.{begins_line_end, are_line_ends, is_line_end}
use Rattle.gitconf_text.proofs.Tests.{both_true}
use Rattle.gitconf_state.proofs.Printing.Follows.{line_end_cases}
use Rattle.gitconf_layout.specs.declared.format.Options.{Options}
use Rattle.gitconf_layout.specs.declared.place.Before.{Before}
use Rattle.gitconf_layout.specs.declared.place.Before.TheVariants.{Nothing, Value, Other}
use Rattle.gitconf_layout.specs.declared.place.Place.{Place}
use Rattle.gitconf_layout.specs.Layout.{is_nothing}
use Rattle.gitconf_layout.specs.Setting.{is_dropped, on_next_line, end_text, ends_text, ends_place}
use Rattle.gitconf_layout.proofs.SetEntries.{at_place, one_line_end}

-- a run in two
pub ends_text-append : (o : Options) (e : List ℕ) (p : Place) (x y : List ℕ) → ends_text o e p (x ++ y) ≡ ends_text o e p x ++ ends_text o e (ends_place o p x) y
unfolding ends_text ends_place
ends_text-append o e p [] y = refl
ends_text-append o e p (b ∷ x) y = go (b == 10) refl (λ p. ends_text-append o e p x y)
  where
    go : (t : Bool) → (b == 10) ≡ t → ((p : Place) → ends_text o e p (x ++ y) ≡ ends_text o e p x ++ ends_text o e (ends_place o p x) y)
        → ends_text o e p (b ∷ (x ++ y)) ≡ ends_text o e p (b ∷ x) ++ ends_text o e (ends_place o p (b ∷ x)) y
    go true h later = rw (h, ends_text, ends_place) (ap (λ t. end_text e p ++ t) (later (on_next_line o p)) ∙ sym (append_assoc (end_text e p) _ _))
    go false h later = rw (h, ends_text, ends_place) (later p)

pub ends_place-append : (o : Options) (p : Place) (x y : List ℕ) → ends_place o p (x ++ y) ≡ ends_place o (ends_place o p x) y
unfolding ends_place
ends_place-append o p [] y = refl
ends_place-append o p (b ∷ x) y = go (b == 10) refl (λ p. ends_place-append o p x y)
  where
    go : (t : Bool) → (b == 10) ≡ t → ((p : Place) → ends_place o p (x ++ y) ≡ ends_place o (ends_place o p x) y) → ends_place o p (b ∷ (x ++ y)) ≡ ends_place o (ends_place o p (b ∷ x)) y
    go true h later = rw (h, ends_place) (later (on_next_line o p))
    go false h later = rw (h, ends_place) (later p)

-- one line ending
pub text_once : (o : Options) (e : List ℕ) (p : Place) (run : List ℕ) → is_line_end run ≡ true → ends_text o e p run ≡ end_text e p
unfolding ends_text
text_once o e p run line = one_line_end (λ run. ends_text o e p run ≡ end_text e p) (append-nil (end_text e p)) (append-nil (end_text e p)) run line

pub place_once : (o : Options) (p : Place) (run : List ℕ) → is_line_end run ≡ true → ends_place o p run ≡ on_next_line o p
unfolding ends_place
place_once o p run line = one_line_end (λ run. ends_place o p run ≡ on_next_line o p) refl refl run line

-- after a blank line that goes is what came before it
dropped_stays : (o : Options) (s : Bool) (b : Before) (r : Option ℕ) → is_dropped (at_place s b r) ≡ true → on_next_line o (at_place s b r) ≡ at_place s b r
dropped_stays o s Nothing None h = absurd (cc)
dropped_stays o s Nothing (Some n) h = subst (λ n. at_place s Nothing (Some (n - 1)) ≡ at_place s Nothing (Some n)) (sym (eqb-true n 0 h)) refl
dropped_stays o s Value r h = absurd (cc)
dropped_stays o s Other r h = absurd (cc)

-- the line endings that are set, set again
pub record EndsAgain (o : Options) (e : List ℕ) (p : Place) (run : List ℕ) : Type 0 where
  pub text : ends_text o e p (ends_text o e p run) ≡ ends_text o e p run
  pub place : ends_place o p (ends_text o e p run) ≡ ends_place o p run

pub ends_again : (o : Options) (e : List ℕ) → is_line_end e ≡ true → (p : Place) (run : List ℕ) → EndsAgain o e p run
unfolding ends_text ends_place
ends_again o e line p [] = record { text = refl; place = refl }
ends_again o e line p (b ∷ run) = go (b == 10) refl (λ p. ends_again o e line p run)
  where
    q : Place
    q = on_next_line o p

    more : List ℕ
    more = ends_text o e q run

    ended : (t : Bool) → is_dropped p ≡ t → EndsAgain o e q run → (ends_text o e p (end_text e p ++ more) ≡ end_text e p ++ more) × (ends_place o p (end_text e p ++ more) ≡ ends_place o q run)
    ended true d later =
        let none : end_text e p ≡ [] = rw (d, end_text) refl in
        let same : q ≡ p = dropped_stays o p.in_section p.before p.room d in
        rw none (subst (λ q. ends_text o e q more ≡ more) same later.text, subst (λ x. ends_place o x more ≡ ends_place o q run) same later.place)
    ended false d later =
        let one : end_text e p ≡ e = rw (d, end_text) refl in
        let next : ends_place o p e ≡ q = place_once o p e line in
        rw one (
          ends_text-append o e p e more ∙ ap (λ t. t ++ ends_text o e (ends_place o p e) more) (text_once o e p e line ∙ one) ∙ ap (λ x. e ++ ends_text o e x more) next ∙ ap (λ t. e ++ t) later.text,
          ends_place-append o p e more ∙ ap (λ x. ends_place o x more) next ∙ later.place,
        )

    go : (t : Bool) → (b == 10) ≡ t → ((p : Place) → EndsAgain o e p run) → EndsAgain o e p (b ∷ run)
    go true h later =
        let both = ended (is_dropped p) refl (later q) in
        record { text = rw (h, ends_text) both.0; place = rw (h, ends_text, ends_place) both.1 }
    go false h later = record { text = rw (h, ends_text) ((later p).text); place = rw (h, ends_text, ends_place) ((later p).place) }

-- if no line ending is set the place stays
pub no_ends : (o : Options) (e : List ℕ) → is_line_end e ≡ true → (p : Place) (run : List ℕ) → ends_text o e p run ≡ [] → ends_place o p run ≡ p
unfolding ends_place
no_ends o e line p run none = sym ((ends_again o e line p run).place) ∙ ap (ends_place o p) none

-- if no blank line may stay no line ending is set
pub dropped_run : (o : Options) (e : List ℕ) (s : Bool) (b : Before) (r : Option ℕ) → is_dropped (at_place s b r) ≡ true → (run : List ℕ) → ends_text o e (at_place s b r) run ≡ []
unfolding ends_text
dropped_run o e s b r d [] = refl
dropped_run o e s b r d (c ∷ run) = go (c == 10) refl (dropped_run o e s b r d run)
  where
    none : end_text e (at_place s b r) ≡ []
    none = rw (d, end_text) refl

    go : (t : Bool) → (c == 10) ≡ t → ends_text o e (at_place s b r) run ≡ [] → ends_text o e (at_place s b r) (c ∷ run) ≡ []
    go true h later = rw (h, ends_text) (ap (λ t. t ++ ends_text o e (on_next_line o (at_place s b r)) run) none ∙ ap (λ p. ends_text o e p run) (dropped_stays o s b r d) ∙ later)
    go false h later = rw (h, ends_text) later

-- after content the first line ending of a run is set
pub content_ends : (o : Options) (e : List ℕ) (p : Place) → is_nothing p.before ≡ false → (run : List ℕ) → 0 < length run → are_line_ends run ≡ true → (rest : List ℕ) × (ends_text o e p run ≡ e ++ rest)
unfolding ends_text
content_ends o e p content [] some all = absurd (omega arith)
content_ends o e p content (b ∷ run) some all =
    line_end_cases (λ run. (rest : List ℕ) × (ends_text o e p run ≡ e ++ rest))
    (λ run. (ends_text o e (on_next_line o p) run, ap (λ t. t ++ ends_text o e (on_next_line o p) run) stays))
    (λ run. (ends_text o e (on_next_line o p) run, ap (λ t. t ++ ends_text o e (on_next_line o p) run) stays))
    (b ∷ run) (both_true (begins_line_end (b ∷ run)) (are_line_ends run) all).0
  where
    stays : end_text e p ≡ e
    stays = rw (content, end_text) refl
