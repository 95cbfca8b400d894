use Rattle.std.proofs.Common.{◌≡◌, ℕ, ◌+◌, drop, ◌∙◌, sym, ap, arith}
use Rattle.gitconf_glob.specs.Counted.{close_from}
use Rattle.gitconf_glob.proofs.Closing.{close_behind, none_behind}
use Rattle.gitconf_glob.proofs.RowLemmas.{rest_is}
use Rattle.gitconf_glob.proofs.bracket.close_past.Goals as goal

pub count_anew-requires : goal.count_anew-requires
count_anew-requires c = sym (ap (close_from c.args.more) (rest_is c.args.text.now c.args.more)
    ∙ ap (λ k. close_from k (drop c.args.more c.args.text.now)) (no_more c.args.more)
    ∙ close_behind c.args.more 0 c.args.text.now c.in-Some.n (sym c.requires.close ∙ c.in-Some.is) (omega (arith, c.if-n-more.false)))
  where
    no_more : (n : ℕ) → n ≡ 0 + n
    no_more n = omega arith

pub returns-in-None : goal.returns-in-None
returns-in-None c = sym (none_behind c.args.more 0 0 c.args.text.now (sym c.requires.close ∙ c.in-None.is))
