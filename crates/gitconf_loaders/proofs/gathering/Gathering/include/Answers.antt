use Rattle.std.proofs.Common.{rules, ◌≡◌, ◌==◌, ◌-◌, ◌<◌, [], ◌∷◌, ◌++◌, length, ap, sym, subst, ◌∙◌, arith, IsErrOf}
use Rattle.std.specs.Prelude.{if◌then◌else◌, IfErr}
use Rattle.gitconf_text.specs.LineEnds.{bytes_of_line_end}
use Rattle.gitconf_state.specs.Including.{spliced, whole}
use Rattle.gitconf_state.specs.State.{State}
use Rattle.gitconf_store.specs.Appends.{included}
use Rattle.gitconf_loaders.specs.Gathering.{gathered, Gathered, GatheringFits}
use Rattle.gitconf_store.proofs.Files.AppendedFiles.{not_memory, not_refused}
use Rattle.gitconf_loaders.proofs.Gathered.{included_fits, included_state, long, room_is}
use Rattle.gitconf_loaders.proofs.GatheredLists.{run}
use Rattle.gitconf_loaders.proofs.gathering.Gathering.include.Goals as goal

pub returns-in_err-make_ready-clause-too_large : goal.returns-in_err-make_ready-clause-too_large
returns-in_err-make_ready-clause-too_large c =
    let g = c.self.inside in
    let fits = c.self.invariant in
    let other = c.into_store-other.result in
    let some = subst (λ (a : Gathered). 0 < length a.done.sections) (sym c.self.view_is) c.requires in
    let room = room_is g.count g.at g.ahead g.last g.runs.items g.line_end g.told g.store fits other some (IsErrOf c.make_ready.result 3) (whole c.args.other.done c.args.other.rest) c.args.self.now
    c.into_store-other.ensures c.self.view_is c.make_ready.ensures.too_large in
    let to : IsErrOf c.from_residual.result 3 → IsErrOf c.make_ready.result 3 = search rules in
    let from : IsErrOf c.make_ready.result 3 → IsErrOf c.from_residual.result 3 = search rules in
    (λ refused. room.0 (to refused), λ none. from (room.1 none))

pub returns-in_err-include-clause-too_large : goal.returns-in_err-include-clause-too_large
returns-in_err-include-clause-too_large c =
    let g = c.self.inside in
    let fits = c.self.invariant in
    let other = c.into_store-other.result in
    let some = subst (λ (a : Gathered). 0 < length a.done.sections) (sym c.self.view_is) c.requires in
    let room = room_is g.count g.at g.ahead g.last g.runs.items g.line_end g.told g.store fits other some (IsErrOf c.make_ready.result 3) (whole c.args.other.done c.args.other.rest) c.args.self.now
    c.into_store-other.ensures c.self.view_is c.make_ready.ensures.too_large in
    let same : IsErrOf c.from_residual-in_err-include.result 3 → IsErrOf c.include.result 3 = search rules in (
      λ refused. room.0 (c.make_ready.ensures.too_large.1 (c.include.ensures.too_large.0 (same refused))),
      λ none. absurd (not_refused c.make_ready.result c.in_ok-make_ready.field-0 c.in_ok-make_ready.was (room.1 none)),
    )

pub last_place-self-inside-requires : goal.last_place-self-inside-requires
last_place-self-inside-requires c =
    let g = c.self.inside in
    let fits = c.self.invariant in
    let other = c.into_store-other.result in
    let some = subst (λ (a : Gathered). 0 < length a.done.sections) (sym c.self.view_is) c.requires in
    let put : c.include.new.self ≡ included g.last (bytes_of_line_end g.line_end) other g.store = c.in_ok-include.ensures.ok in
    let count = ap (λ (s : State). length s.sections) put ∙ long g.count g.at g.ahead g.last g.runs.items g.line_end g.told g.store fits other some in
    omega (arith, count, c.section_count.ensures, c.section_count-count.ensures)

pub invariant_of-self-2 : goal.invariant_of-self-2
invariant_of-self-2 c =
    let g = c.self.inside in
    let fits = c.self.invariant in
    let other = c.into_store-other.result in
    let some = subst (λ (a : Gathered). 0 < length a.done.sections) (sym c.self.view_is) c.requires in
    let put : c.include.new.self ≡ included g.last (bytes_of_line_end g.line_end) other g.store = c.in_ok-include.ensures.ok in
    let runs : c.push_reserved.new.self.items ≡ g.runs.items ++ run g.ahead (length other.sections) ∷ [] =
    c.push_reserved.ensures.items ∙ (λ i. c.make_ready.ensures.items i ++ run g.ahead (c.section_count-count.ensures i) ∷ []) in
    let place : c.last_place-self-inside.result ≡ (if length other.sections == 0 then g.last else length (included g.last (bytes_of_line_end g.line_end) other g.store).sections - 1) =
    c.last_place-self-inside.ensures
    ∙ (λ i. if c.section_count-count.ensures i == 0 then g.last else (c.section_count.ensures ∙ ap (λ (s : State). length s.sections) put) i - 1) in
    subst (λ s. GatheringFits g.count g.at 0 c.last_place-self-inside.result c.push_reserved.new.self.items c.unwrap_or-self-inside.result c.is_told-self-inside.result s) (sym put)
    (subst (λ runs. GatheringFits g.count g.at 0 c.last_place-self-inside.result runs c.unwrap_or-self-inside.result c.is_told-self-inside.result (included g.last (bytes_of_line_end g.line_end) other g.store)) (sym runs)
    (included_fits g.count g.at g.ahead g.last g.runs.items g.line_end g.told g.store fits other some c.last_place-self-inside.result c.newly_told-found.result c.unwrap_or-self-inside.result c.is_told-self-inside.result
    place c.newly_told-found.ensures c.unwrap_or-self-inside.ensures c.is_told-self-inside.ensures))

pub returns-clause-ok : goal.returns-clause-ok
returns-clause-ok c =
    let g = c.self.inside in
    let fits = c.self.invariant in
    let other = c.into_store-other.result in
    let some = subst (λ (a : Gathered). 0 < length a.done.sections) (sym c.self.view_is) c.requires in
    let put : c.include.new.self ≡ included g.last (bytes_of_line_end g.line_end) other g.store = c.in_ok-include.ensures.ok in
    let runs : c.push_reserved.new.self.items ≡ g.runs.items ++ run g.ahead (length other.sections) ∷ [] =
    c.push_reserved.ensures.items ∙ (λ i. c.make_ready.ensures.items i ++ run g.ahead (c.section_count-count.ensures i) ∷ []) in
    (λ i. gathered g.count g.at (runs i) (put i))
    ∙ included_state g.count g.at g.ahead g.last g.runs.items g.line_end g.told g.store fits other some
    ∙ (λ i. let all : Gathered = c.self.view_is i in record { done = spliced (c.into_store-other.ensures i) all.rest all.done; rest = all.rest })

pub returns-clause-too_large : goal.returns-clause-too_large
returns-clause-too_large c =
    let g = c.self.inside in
    let fits = c.self.invariant in
    let other = c.into_store-other.result in
    let some = subst (λ (a : Gathered). 0 < length a.done.sections) (sym c.self.view_is) c.requires in
    let room = room_is g.count g.at g.ahead g.last g.runs.items g.line_end g.told g.store fits other some (IsErrOf c.make_ready.result 3) (whole c.args.other.done c.args.other.rest) c.args.self.now
    c.into_store-other.ensures c.self.view_is c.make_ready.ensures.too_large in
    (λ refused. absurd (cc), λ none. absurd (not_refused c.make_ready.result c.in_ok-make_ready.field-0 c.in_ok-make_ready.was (room.1 none)))
