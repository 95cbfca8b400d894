use Rattle.std.proofs.Common.{◌≡◌, Some, codes, ap, subst, sym, ◌∙◌}
use Rattle.std.specs.Option.{option_map}
use Rattle.gixcfg_words.specs.Spelling.{behind, long, name_in, seen, Gives}
use Rattle.gixcfg_words.specs.declared.spelled.Next.TheVariants as next_words
use Rattle.gixcfg_words.proofs.spelled.read_option.Goals as goal

pub returns-in-Some : goal.returns-in-Some
returns-in-Some c =
    let named : behind (codes "--") (name_in c.args.word.now) ≡ Some c.in-Some.name.now =
    ap (behind (codes "--")) (sym c.name_in-shown.ensures) ∙ sym c.behind.ensures ∙ ap (option_map (λ rest. rest.now)) c.in-Some.is in
    subst (λ d. Gives (seen c.read_long.new.spelled) d c.read_long.result)
    (sym (rw named (ap (λ v. long c.args.verb c.in-Some.name.now v (seen c.args.spelled.now next_words.Any)) (sym c.value_in.ensures)))) c.read_long.ensures
