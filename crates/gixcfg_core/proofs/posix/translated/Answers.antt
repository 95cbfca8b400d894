use Rattle.std.proofs.Common.{◌++◌, ◌∙◌, Some, None, codes, string_bytes, ap, sym}
use Rattle.std.proofs.lemmas.Iterator.{YieldsList-from_chars}
use Rattle.std.proofs.lemmas.Iterator.Consumers.{YieldsList-end}
use Rattle.std.specs.Prelude.{if◌then◌else◌}
use mathlib.Core.List.{map-id}
use Rattle.gixcfg_core.specs.Posix.{is_end, last_place, next, spelled, told, translated}
use Rattle.gixcfg_core.specs.declared.posix.Place.TheVariants.{Start}
use Rattle.gixcfg_core.proofs.PosixLemmas.{last_behind, spelled_behind}
use Rattle.gixcfg_core.proofs.posix.translated.Goals as goal

pub loop-c-preserved : goal.loop-c-preserved
loop-c-preserved c =
    let before = c.loop-c.yielded in (
      c.in_ok-add.ensures
          ∙ ap (λ t. t ++ told c.loop-c.place c.in-Some.c) c.loop-c.invariant.0
          ∙ ap (λ p. codes "(?s)" ++ (spelled Start before ++ told p c.in-Some.c)) c.loop-c.invariant.1
          ∙ ap (λ t. codes "(?s)" ++ t) (sym (spelled_behind Start before c.in-Some.c)),
      c.next-place.ensures ∙ ap (λ p. next p c.in-Some.c) c.loop-c.invariant.1 ∙ sym (last_behind Start before c.in-Some.c),
    )

pub returns : goal.returns
returns c =
    let all = YieldsList-end (YieldsList-from_chars c.args.pattern.now c.utf8.pattern cc) c.loop-c.yielded _ c.loop-c.yielded_by _ _ c.in-None.is c.next.ensures.steps in
    c.whole.ensures
    ∙ ap (λ p. if is_end p then Some (string_bytes c.loop-c.source) else None) c.loop-c.invariant.1
    ∙ ap (λ t. if is_end (last_place Start c.loop-c.yielded) then Some t else None) c.loop-c.invariant.0
    ∙ ap translated (sym (map-id c.loop-c.yielded) ∙ all.0)
