use Rattle.std.proofs.Common.{◌≡◌, ◌∙◌, ap, sym, subst, true, length, drop, nat_eq, rules}
use Rattle.std.specs.List.{starts_with}
use Rattle.std.specs.Prelude.{Some}
use Rattle.std.specs.Str.{IsUtf8}
use Rattle.gixcfg_files.proofs.PathLemmas.{after_none, after_some}
use Rattle.gixcfg_files.proofs.paths.after.Goals as goal

pub returns-in-Ok : goal.returns-in-Ok
returns-in-Ok c =
    let line = c.args.line.now in
    let before = c.args.before.now in
    let starts : starts_with nat_eq line before ≡ true = search rules in
    let rest : c.split_at.result.1.now ≡ drop (length before) line = c.split_at.ensures.back in
    let utf8 : IsUtf8 (drop (length before) line) = subst IsUtf8 rest c.in-Ok.ensures.cases.1 in
    ap Some (c.in-Ok.ensures.cases.0 ∙ rest) ∙ after_some line before starts utf8

pub returns-in-Err : goal.returns-in-Err
returns-in-Err c =
    let line = c.args.line.now in
    let before = c.args.before.now in
    let rest : c.split_at.result.1.now ≡ drop (length before) line = c.split_at.ensures.back in
    after_none line before (λ u. c.in-Err.ensures.cases.0 (subst IsUtf8 (sym rest) u))
