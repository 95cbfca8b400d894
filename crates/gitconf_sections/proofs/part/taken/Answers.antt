use Rattle.std.proofs.Common.{rules, ◌≡◌, ◌≤◌, ◌∷◌, [], ◌++◌, length, take, drop, get_or, set, ap, sym, ◌∙◌, add-one, length-set}
use Rattle.std.specs.Prelude.{vec_capacity}
use Rattle.gitconf_sections.proofs.Parts.{next_taken}
use Rattle.gitconf_sections.proofs.part.taken.Goals as goal

pub loop-at-preserved : goal.loop-at-preserved
loop-at-preserved c =
    let l = c.loop-at in
    let old = c.args.items.now in
    let x : c.replace.result ≡ get_or l.items l.at c.replace.result = search rules in
    let put : c.push_reserved.new.self.items ≡ l.taken.items ++ c.replace.result ∷ [] = search rules in
    let room : length old ≤ vec_capacity c.push_reserved.new.self = search rules in
    let more = next_taken l.at old l.items c.replace.result c.replace.new.dest l.invariant.0 c.loop-at-test.true l.invariant.3 x in (
      length-set l.items l.at c.replace.new.dest ∙ l.invariant.0,
      room,
      put ∙ ap (λ xs. xs ++ c.replace.result ∷ []) l.invariant.2 ∙ sym more.0 ∙ ap (λ n. take n old) (sym (add-one l.at)),
      ap (λ n. drop n (set l.items l.at c.replace.new.dest)) (add-one l.at) ∙ more.1 ∙ ap (λ n. drop n old) (sym (add-one l.at)),
    )
