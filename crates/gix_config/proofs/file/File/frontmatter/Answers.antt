use Rattle.std.proofs.Common.{rules, ◌≡◌, List, [], ◌∷◌, refl}
use Rattle.std.specs.Prelude.{map}
use Rattle.gitconf_items.specs.ShownEvents.{shown_token}
use Rattle.gitconf_items.specs.Items.{tokens_in}
use Rattle.gix_config.proofs.file.File.frontmatter.Goals as goal

of_none : {A B : Type 0} (f : A → B) (xs : List A) → map f xs ≡ [] → xs ≡ []
of_none f [] none = refl
of_none f (x ∷ xs) none = absurd (cc)

pub returns-in-None-clause-none : goal.returns-in-None-clause-none
returns-in-None-clause-none c =
    let none : map shown_token (tokens_in c.args.self.now.front) ≡ [] = search rules in
    (λ _. of_none shown_token (tokens_in c.args.self.now.front) none, λ _. refl)
