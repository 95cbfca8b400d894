use Rattle.std.proofs.Common.{◌≡◌, ◌∙◌, [], ap, option_map, rules, string_bytes, subst}
use Rattle.std.specs.Prelude.{unwrap_or}
use Rattle.bstr.specs.Owned.{bstring_bytes}
use Rattle.gixcfg_commands.specs.InPlace.{IsNewText}
use Rattle.gixcfg_commands.proofs.InPlaceLemmas.{found_text, done_unchanged, done_replaced}
use Rattle.gixcfg_commands.proofs.edits.edit_once.Goals as goal

pub returns-in-None : goal.returns-in-None
returns-in-None g c = λ done.
    let before = unwrap_or (option_map (λ text. text.now) c.text.result) [] in
    done_unchanged c.args.edit c.args.outside.is_colored (string_bytes c.args.place.path) (string_bytes c.args.place.folder) c.args.place.found (g.D.EditCalls.told c.args.place.calls) before (ap (λ it. unwrap_or it []) c.text.ensures ∙ found_text c.args.place.found)
    (subst (IsNewText c.args.edit before c.args.outside.is_colored) c.in-None.is c.in_ok-text.ensures)

pub returns-in_ok-replace-in-Some : goal.returns-in_ok-replace-in-Some
returns-in_ok-replace-in-Some g c = λ done.
    let before = unwrap_or (option_map (λ text. text.now) c.text.result) [] in
    let put : c.deref-in-Some.result.now ≡ bstring_bytes c.in-Some.text = search rules in
    done_replaced c.args.edit c.args.outside.is_colored (string_bytes c.args.place.path) (string_bytes c.args.place.folder) c.args.place.found (g.D.EditCalls.told c.in_ok-replace-in-Some.field-0.0) before (ap (λ it. unwrap_or it []) c.text.ensures ∙ found_text c.args.place.found)
    c.in-Some.text (subst (IsNewText c.args.edit before c.args.outside.is_colored) c.in-Some.is c.in_ok-text.ensures) c.is_synced.result c.is_synced.ensures c.deref-in-Some.result.now put (c.in_ok-replace-in-Some.ensures done)
