use Rattle.std.proofs.Common.{◌≡◌, ◌+◌, ◌-◌, ◌∷◌, List, [], length, map, drop, ap, arith, sym, subst, reverse, nat_cmp, ◌∙◌}
use Rattle.std.specs.BTreeMap.{is_at}
use Rattle.std.specs.Cmp.Lexicographic.{slice_cmp}
use Rattle.std.specs.List.{list_any}
use Rattle.std.proofs.Math.Seq.{drop-length}
use Rattle.std.proofs.lemmas.List.{drop_more}
use Rattle.gixcfg_names.proofs.Lists.{map_reverse}
use Rattle.gixcfg_names.specs.Findings.{findings, has_key, plain_finding, plain_setting}
use Rattle.gixcfg_names.specs.Rows.{plain}
use Rattle.gixcfg_names.specs.Seen.{Sees}
use Rattle.gixcfg_names.specs.declared.findings.Finding.{Finding}
use Rattle.gixcfg_names.specs.declared.findings.Setting.{Setting}
use Rattle.gixcfg_names.proofs.findings.findings.Goals as goal

pub loop-at-init : goal.loop-at-init
loop-at-init c =
    let none : drop (length c.args.settings.now) c.args.settings.now ≡ [] = drop-length c.args.settings.now in
    record {
      sees = λ key.
          ap (λ keys. list_any (is_at (λ k. slice_cmp nat_cmp key.now k.now)) keys) c.new-seen.ensures.empty
          ∙ ap (λ (ss : List Setting). list_any (has_key key.now) (map plain_setting ss)) (sym none);
      told = ap (λ (found : List Finding). reverse (map plain_finding found)) c.new-found.ensures.items
          ∙ ap (λ (ss : List Setting). findings (map plain c.args.rows.now) (map plain_setting ss)) (sym none);
      within = omega arith;
    }

pub loop-at-preserved : goal.loop-at-preserved
loop-at-preserved c =
    let back : c.loop-at.at - 1 + 1 ≡ c.loop-at.at = omega arith in
    let left : drop (c.loop-at.at - 1) c.args.settings.now ≡ c.setting_at.result ∷ drop c.loop-at.at c.args.settings.now
    = drop_more c.args.settings.now (c.loop-at.at - 1) c.setting_at.result (omega arith)
    ∙ (λ i. sym c.setting_at.ensures i ∷ drop (back i) c.args.settings.now) in
    let facts = c.in_ok-note.ensures (map plain_setting (drop c.loop-at.at c.args.settings.now)) c.loop-at.invariant.sees c.loop-at.invariant.told in
    record {
      sees = subst (λ (ss : List Setting). Sees c.note.new.seen (map plain_setting ss)) (sym left) facts.0;
      told = subst (λ (ss : List Setting). reverse (map plain_finding c.note.new.found.items) ≡ findings (map plain c.args.rows.now) (map plain_setting ss)) (sym left) facts.1;
      within = omega arith;
    }

pub returns : goal.returns
returns c =
    let zero : c.loop-at.at ≡ 0 = omega arith in
    ap (map plain_finding) c.reverse.ensures.items
    ∙ map_reverse plain_finding c.loop-at.found.items
    ∙ c.loop-at.invariant.told
    ∙ ap (λ n. findings (map plain c.args.rows.now) (map plain_setting (drop n c.args.settings.now))) zero
