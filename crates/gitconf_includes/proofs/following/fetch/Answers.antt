use Rattle.std.proofs.Common.{rules, ◌≡◌, ℕ, Ok, Err, sym, subst, ap, ◌∙◌}
use Rattle.std.specs.Prelude.{string_bytes}
use Rattle.gitconf_sources.specs.Metadata.{Meta}
use Rattle.gitconf_includes.specs.Errors.{says}
use Rattle.gitconf_includes.specs.Said.{fault_said, TooDeep}
use Rattle.gitconf_state.specs.Including.{whole}
use Rattle.gitconf_state.specs.State.{State}
use Rattle.gitconf_includes.proofs.Fetching.{Fetches, faulted, loaded, refused, too_deep}
use Rattle.gitconf_includes.specs.Expansion.{included_meta}
use Rattle.gitconf_includes.specs.Outcomes.{asks_of}
use Rattle.gitconf_includes.proofs.following.fetch.Goals as goal

pub returns-in-Err-clause-fetched : goal.returns-in-Err-clause-fetched
returns-in-Err-clause-fetched g c =
    let at : c.deref.result.now ≡ string_bytes c.args.path = search rules in
    let asks = asks_of c.args.options.now (g.F.Files.table c.args.files.now) in
    subst (λ p. Fetches asks c.args.from.now p (Err (says c.refusal.result))) at
    (faulted ℕ asks c.args.from.now c.deref.result.now c.in-Err.fault (says c.refusal.result) c.in-Err.ensures.told (c.refusal.ensures ∙ ap (λ p. fault_said p c.in-Err.fault) (sym at)))

pub returns-then-from-clause-fetched : goal.returns-then-from-clause-fetched
returns-then-from-clause-fetched g c =
    let at : c.deref.result.now ≡ string_bytes c.args.path = search rules in
    let asks = asks_of c.args.options.now (g.F.Files.table c.args.files.now) in
    subst (λ p. Fetches asks c.args.from.now p (Err (TooDeep c.args.options.now.includes.max_depth))) at (too_deep asks c.args.from.now c.deref.result.now c.in-Ok.text c.in-Ok.ensures.told (sym (ap (λ (m : Meta). m.level) c.from.view_is) ∙ c.if-from.true))

pub returns-in-Err-load-clause-fetched : goal.returns-in-Err-load-clause-fetched
returns-in-Err-load-clause-fetched g c =
    let at : c.deref.result.now ≡ string_bytes c.args.path = search rules in
    let named : c.deref-2.result.now ≡ string_bytes c.args.path = search rules in
    let asks = asks_of c.args.options.now (g.F.Files.table c.args.files.now) in
    subst (λ p. Fetches asks c.args.from.now p (Err (says c.refused.result))) at
    (refused asks c.args.from.now c.deref.result.now c.in-Ok.text c.in_ok-at.at c.in-Err-load.parse (λ (s : State). s) (Err c.refused.result) c.in-Ok.ensures.told (λ e. c.if-from.false (ap (λ (m : Meta). m.level) c.from.view_is ∙ e)) (c.in_ok-at.ensures ∙ named ∙ sym at) c.in-Err-load.ensures.refused c.refused.ensures)

pub returns-in-Ok-load-clause-fetched : goal.returns-in-Ok-load-clause-fetched
returns-in-Ok-load-clause-fetched g c =
    let at : c.deref.result.now ≡ string_bytes c.args.path = search rules in
    let asks = asks_of c.args.options.now (g.F.Files.table c.args.files.now) in
    let file = c.in-Ok-load.file in
    let state = whole (g.S.ConfigFile.done file) (g.S.ConfigFile.rest file) in
    subst (λ p. Fetches asks c.args.from.now p (Ok state)) at
    (loaded asks c.args.from.now c.in_ok-meta.meta.value c.deref.result.now c.in-Ok.text state c.in-Ok.ensures.told (λ e. c.if-from.false (ap (λ (m : Meta). m.level) c.from.view_is ∙ e)) (c.in_ok-meta.ensures ∙ c.included_meta.ensures ∙ ap (included_meta c.args.from.now) (sym at)) c.in-Ok-load.ensures.loaded)
