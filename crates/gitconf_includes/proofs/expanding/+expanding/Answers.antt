use Rattle.std.proofs.Common.{rules, ◌≡◌, ◌⊎◌, ◌-◌, ◌<◌, true, Some, None, Ok, Err, refl, sym, ap, subst, ◌∙◌, length}
use Rattle.std.specs.Option.{option_copied, option_map, unwrap_or}
use Rattle.std.specs.Prelude.{IfSome, string_bytes}
use Rattle.bstr.specs.Owned.{bstring_bytes}
use Rattle.gitconf_sources.specs.Reports.{is_there}
use Rattle.gitconf_includes.specs.declared.includes.Error.TheVariants as refusals
use Rattle.gitconf_includes.specs.Paths.{file_named}
use Rattle.gitconf_includes.specs.Rules.{rules_of}
use Rattle.gitconf_includes.specs.Said.{OutOfMemory}
use Rattle.gitconf_state.specs.Including.{whole}
use Rattle.gitconf_state.specs.State.{State}
use Rattle.gitconf_includes.specs.Expansion.{Ended, Expands, Gives, IsFetched, On}
use Rattle.gitconf_includes.specs.Inclusion.{Includes, is_followed}
use Rattle.gitconf_includes.specs.Outcomes.{asks_of, told}
use Rattle.gitconf_includes.specs.Visits.{condition_of, paths_of, IsStep, IsVisited}
use Rattle.gitconf_includes.specs.declared.config_file.Visited.TheVariants as visits
use Rattle.gitconf_includes.proofs.Memory.{is_followed_only, named_only, none_counted}
use Rattle.gitconf_includes.proofs.Says.{told_judges, told_names}
use Rattle.gitconf_includes.proofs.OnePath.{FollowsTo, made, not_expanded, not_fetched, not_put, unnamed}
use Rattle.gitconf_includes.proofs.Steps.{expands, expands_no_more, gives_refused, leaves_refused, limited, none_of, some_spliced, visits_none, visits_plain, visits_refused, visits_wanting}
use Rattle.gitconf_includes.proofs.expanding.+expanding.Goals as goal

pub expand-returns-then-left-eq0-clause-expanded : goal.expand-returns-then-left-eq0-clause-expanded
expand-returns-then-left-eq0-clause-expanded g w c =
    let asks = asks_of c.args.options.now (g.F.Files.table c.args.files.now) in
    let parent = option_map (λ s. whole (g.S.ConfigFile.done s) (g.S.ConfigFile.rest s)) (option_copied c.args.parent) in
    let old = whole (g.S.ConfigFile.done c.args.file.now) (g.S.ConfigFile.rest c.args.file.now) in
    let end = limited c.args.options.now.includes.err_on_max_depth_exceeded c.args.options.now.includes.max_depth old c.at_the_limit.result c.at_the_limit.ensures in
    (end.0, expands_no_more c.args.left asks parent old end.0 c.if-left-eq0.true end.1, end.2)

pub expand-returns-in_err-section-clause-expanded : goal.expand-returns-in_err-section-clause-expanded
expand-returns-in_err-section-clause-expanded g w c =
    let asks = asks_of c.args.options.now (g.F.Files.table c.args.files.now) in
    let parent = option_map (λ s. whole (g.S.ConfigFile.done s) (g.S.ConfigFile.rest s)) (option_copied c.args.parent) in
    let done = g.S.ConfigFile.done c.loop-section.file in
    let rest = g.S.ConfigFile.rest c.loop-section.file in
    let file = whole done rest in (
      Ended OutOfMemory file,
      expands c.args.left asks parent (g.S.ConfigFile.done c.args.file.now) (g.S.ConfigFile.rest c.args.file.now) (Ended OutOfMemory file) c.if-left-eq0.false c.requires.fresh
          (c.loop-section.invariant.suffices (Ended OutOfMemory file) (visits_wanting (Expands (c.args.left - 1) asks) asks parent rest done c.in_err-section.ensures.more)),
      leaves_refused c.from_residual.result refusals.Memory OutOfMemory file (whole (g.S.ConfigFile.done c.visit.new.self) (g.S.ConfigFile.rest c.visit.new.self)) c.from_residual.ensures.1 refl
          (λ i. whole (c.in_err-section.ensures.err i) (c.in_err-section.ensures.err_rest i)),
    )

pub expand-returns-in_err-obey-clause-expanded : goal.expand-returns-in_err-obey-clause-expanded
expand-returns-in_err-obey-clause-expanded g w c =
    let asks = asks_of c.args.options.now (g.F.Files.table c.args.files.now) in
    let parent = option_map (λ s. whole (g.S.ConfigFile.done s) (g.S.ConfigFile.rest s)) (option_copied c.args.parent) in
    let done = g.S.ConfigFile.done c.loop-section.file in
    let rest = g.S.ConfigFile.rest c.loop-section.file in
    let now = g.S.ConfigFile.done c.visit.new.self in
    let left = g.S.ConfigFile.rest c.visit.new.self in
    let told : c.in_ok-section.field-0 ≡ Some (visits.Includes c.in-Includes.directive) = c.in-Some.is ∙ ap Some c.in-Includes.is in
    let step : IsStep (visits.Includes c.in-Includes.directive) done rest now left = subst (λ t. IsVisited t done rest now left) told c.in_ok-section.ensures.visited in
    let end = whole (g.S.ConfigFile.done c.obey.new.file) (g.S.ConfigFile.rest c.obey.new.file) in
    let given = c.in_err-obey.ensures.given in
    let gives = subst (λ t. Gives (Expands (c.args.left - 1) (asks_of c.args.options.now t)) (asks_of c.args.options.now t) parent c.in-Includes.directive.meta.value
    (Includes (condition_of c.in-Includes.directive) (paths_of c.in-Includes.directive)) left now given.0) c.loop-section.invariant.table given.1 in
    let refused = visits_refused (Expands (c.args.left - 1) asks) asks parent c.in-Includes.directive rest done left now end c.in_err-obey.field-0.0 c.from_residual-in_err-obey.result given.0 step gives given.2 c.from_residual-in_err-obey.ensures.1 in
    (given.0, expands c.args.left asks parent (g.S.ConfigFile.done c.args.file.now) (g.S.ConfigFile.rest c.args.file.now) given.0 c.if-left-eq0.false c.requires.fresh (c.loop-section.invariant.suffices given.0 refused.0), refused.1)

pub expand-loop-section-preserved : goal.expand-loop-section-preserved
expand-loop-section-preserved g w c =
    let asks = asks_of c.args.options.now (g.F.Files.table c.args.files.now) in
    let parent = option_map (λ s. whole (g.S.ConfigFile.done s) (g.S.ConfigFile.rest s)) (option_copied c.args.parent) in
    let done = g.S.ConfigFile.done c.loop-section.file in
    let rest = g.S.ConfigFile.rest c.loop-section.file in
    let now = g.S.ConfigFile.done c.visit.new.self in
    let left = g.S.ConfigFile.rest c.visit.new.self in
    let step : IsStep c.in-Some.section done rest now left = subst (λ t. IsVisited t done rest now left) c.in-Some.is c.in_ok-section.ensures.visited in
    record {
      table = c.loop-section.invariant.table;
      failures = c.loop-section.invariant.failures;
      deep = c.loop-section.invariant.deep;
      suffices = λ r later. c.loop-section.invariant.suffices r (visits_plain (Expands (c.args.left - 1) asks) asks parent c.in-Some.section rest done left now r step c.in_default-section.not-Includes later);
    }

pub expand-returns-clause-expanded : goal.expand-returns-clause-expanded
expand-returns-clause-expanded g w c =
    let asks = asks_of c.args.options.now (g.F.Files.table c.args.files.now) in
    let parent = option_map (λ s. whole (g.S.ConfigFile.done s) (g.S.ConfigFile.rest s)) (option_copied c.args.parent) in
    let done = g.S.ConfigFile.done c.loop-section.file in
    let rest = g.S.ConfigFile.rest c.loop-section.file in
    let now = g.S.ConfigFile.done c.visit.new.self in
    let left = g.S.ConfigFile.rest c.visit.new.self in
    let none : c.in_ok-section.field-0 ≡ None = none_of c.in_ok-section.field-0 c.in_default.not-Some in
    let r = On (whole now left) in (
      r,
      expands c.args.left asks parent (g.S.ConfigFile.done c.args.file.now) (g.S.ConfigFile.rest c.args.file.now) r c.if-left-eq0.false c.requires.fresh
          (c.loop-section.invariant.suffices r (visits_none (Expands (c.args.left - 1) asks) asks parent rest done left now (subst (λ t. IsVisited t done rest now left) none c.in_ok-section.ensures.visited))),
      refl,
    )

pub follow-returns-in_err-path-clause-followed : goal.follow-returns-in_err-path-clause-followed
follow-returns-in_err-path-clause-followed g w c =
    let asks = asks_of c.args.options.now (g.F.Files.table c.args.files.now) in
    unnamed (Expands (c.args.left - 1) asks) asks c.args.from.now (bstring_bytes c.args.path) (g.S.ConfigFile.rest c.args.file.now) (g.S.ConfigFile.done c.args.file.now)
    c.in_err-path.field-0.0 c.from_residual.result c.in_err-path.ensures c.from_residual.ensures.1

pub follow-returns-in_err-other-clause-followed : goal.follow-returns-in_err-other-clause-followed
follow-returns-in_err-other-clause-followed g w c =
    let asks = asks_of c.args.options.now (g.F.Files.table c.args.files.now) in
    let file = string_bytes c.in-Some.path in
    let named : file_named (rules_of c.args.options.now) c.args.from.now (bstring_bytes c.args.path) ≡ Ok (Some file) = c.in_ok-path.ensures ∙ ap (λ p. Ok (option_map string_bytes p)) c.in-Some.is in
    let there : c.is_file.result ≡ true = search rules in
    let at : c.deref.result.now ≡ file = search rules in
    let answered : IfSome (g.F.Files.table c.args.files.now) (λ files. true ≡ is_there (files file)) =
    subst (λ b. IfSome (g.F.Files.table c.args.files.now) (λ files. b ≡ is_there (files file))) there
    (subst (λ p. IfSome (g.F.Files.table c.args.files.now) (λ files. c.is_file.result ≡ is_there (files p))) at c.is_file.ensures.told) in
    not_fetched (Expands (c.args.left - 1) asks) asks c.args.from.now (bstring_bytes c.args.path) (g.S.ConfigFile.rest c.args.file.now) (g.S.ConfigFile.done c.args.file.now)
    file c.in_err-other.field-0.0 (λ (s : g.row.S.Denot). whole (g.S.ConfigFile.done s) (g.S.ConfigFile.rest s)) c.from_residual-in_err-other.result named answered
    (subst (λ t. (told (λ (s : g.row.S.Denot). whole (g.S.ConfigFile.done s) (g.S.ConfigFile.rest s)) (Err c.in_err-other.field-0.0) ≡ Err OutOfMemory) ⊎ IsFetched (asks_of c.args.options.now t) c.args.from.now file (told (λ (s : g.row.S.Denot). whole (g.S.ConfigFile.done s) (g.S.ConfigFile.rest s)) (Err c.in_err-other.field-0.0))) c.is_file.ensures.stays c.in_err-other.ensures.fetched) c.from_residual-in_err-other.ensures.1

pub follow-returns-in_err-expand-clause-followed : goal.follow-returns-in_err-expand-clause-followed
follow-returns-in_err-expand-clause-followed g w c =
    let asks = asks_of c.args.options.now (g.F.Files.table c.args.files.now) in
    let file = string_bytes c.in-Some.path in
    let named : file_named (rules_of c.args.options.now) c.args.from.now (bstring_bytes c.args.path) ≡ Ok (Some file) = c.in_ok-path.ensures ∙ ap (λ p. Ok (option_map string_bytes p)) c.in-Some.is in
    let there : c.is_file.result ≡ true = search rules in
    let at : c.deref.result.now ≡ file = search rules in
    let answered : IfSome (g.F.Files.table c.args.files.now) (λ files. true ≡ is_there (files file)) =
    subst (λ b. IfSome (g.F.Files.table c.args.files.now) (λ files. b ≡ is_there (files file))) there
    (subst (λ p. IfSome (g.F.Files.table c.args.files.now) (λ files. c.is_file.result ≡ is_there (files p))) at c.is_file.ensures.told) in
    let other = whole (g.S.ConfigFile.done c.in_ok-other.other) (g.S.ConfigFile.rest c.in_ok-other.other) in
    let fetches : IsFetched asks c.args.from.now file (Ok other) = subst (λ t. IsFetched (asks_of c.args.options.now t) c.args.from.now file (Ok other)) c.is_file.ensures.stays
    (made (λ (s : g.row.S.Denot). whole (g.S.ConfigFile.done s) (g.S.ConfigFile.rest s)) c.in_ok-other.other (IsFetched (asks_of c.args.options.now (g.F.Files.table c.is_file.new.self)) c.args.from.now file (Ok other)) c.in_ok-other.ensures.fetched) in
    let parent : State = whole (g.S.ConfigFile.done c.args.file.now) (g.S.ConfigFile.rest c.args.file.now) in
    let table = c.fetch.ensures.table ∙ c.is_file.ensures.stays in
    not_expanded (Expands (c.args.left - 1) asks) asks c.args.from.now (bstring_bytes c.args.path) (g.S.ConfigFile.rest c.args.file.now) (g.S.ConfigFile.done c.args.file.now)
    file other c.in_err-expand.field-0.0 c.from_residual-in_err-expand.result (whole (g.S.ConfigFile.done c.expand.new.file) (g.S.ConfigFile.rest c.expand.new.file)) named answered fetches c.in_err-expand.ensures.expanded.0
    (subst (λ t. Expands (c.args.left - 1) (asks_of c.args.options.now t) (Some parent) other c.in_err-expand.ensures.expanded.0) table c.in_err-expand.ensures.expanded.1) c.in_err-expand.ensures.expanded.2 c.from_residual-in_err-expand.ensures.1

pub follow-returns-in_err-include-clause-followed : goal.follow-returns-in_err-include-clause-followed
follow-returns-in_err-include-clause-followed g w c =
    let asks = asks_of c.args.options.now (g.F.Files.table c.args.files.now) in
    let file = string_bytes c.in-Some.path in
    let named : file_named (rules_of c.args.options.now) c.args.from.now (bstring_bytes c.args.path) ≡ Ok (Some file) = c.in_ok-path.ensures ∙ ap (λ p. Ok (option_map string_bytes p)) c.in-Some.is in
    let there : c.is_file.result ≡ true = search rules in
    let at : c.deref.result.now ≡ file = search rules in
    let answered : IfSome (g.F.Files.table c.args.files.now) (λ files. true ≡ is_there (files file)) =
    subst (λ b. IfSome (g.F.Files.table c.args.files.now) (λ files. b ≡ is_there (files file))) there
    (subst (λ p. IfSome (g.F.Files.table c.args.files.now) (λ files. c.is_file.result ≡ is_there (files p))) at c.is_file.ensures.told) in
    let other = whole (g.S.ConfigFile.done c.in_ok-other.other) (g.S.ConfigFile.rest c.in_ok-other.other) in
    let fetches : IsFetched asks c.args.from.now file (Ok other) = subst (λ t. IsFetched (asks_of c.args.options.now t) c.args.from.now file (Ok other)) c.is_file.ensures.stays
    (made (λ (s : g.row.S.Denot). whole (g.S.ConfigFile.done s) (g.S.ConfigFile.rest s)) c.in_ok-other.other (IsFetched (asks_of c.args.options.now (g.F.Files.table c.is_file.new.self)) c.args.from.now file (Ok other)) c.in_ok-other.ensures.fetched) in
    let parent : State = whole (g.S.ConfigFile.done c.args.file.now) (g.S.ConfigFile.rest c.args.file.now) in
    let table = c.fetch.ensures.table ∙ c.is_file.ensures.stays in
    let full = whole (g.S.ConfigFile.done c.expand.new.file) (g.S.ConfigFile.rest c.expand.new.file) in
    let now = g.S.ConfigFile.done c.include.new.self in
    let expanded = c.in_ok-expand.ensures.expanded in
    subst (λ l. FollowsTo (Expands (c.args.left - 1) asks) asks c.args.from.now (bstring_bytes c.args.path) (g.S.ConfigFile.rest c.args.file.now) (g.S.ConfigFile.done c.args.file.now) c.from_residual-in_err-include.result l now) (sym c.in_err-include.ensures.rest)
    (not_put (Expands (c.args.left - 1) asks) asks c.args.from.now (bstring_bytes c.args.path) (g.S.ConfigFile.rest c.args.file.now) (g.S.ConfigFile.done c.args.file.now)
    file other full now c.in_err-include.field-0.0 c.from_residual-in_err-include.result named answered fetches expanded.0
    (subst (λ t. Expands (c.args.left - 1) (asks_of c.args.options.now t) (Some parent) other expanded.0) table expanded.1) expanded.2
    (λ e. c.in_err-include.ensures.too_large.0 (ap Err e)) c.in_err-include.ensures.known c.in_err-include.ensures.err c.from_residual-in_err-include.ensures.1)

pub follow-returns-clause-some : goal.follow-returns-clause-some
follow-returns-clause-some g w c =
    let full = whole (g.S.ConfigFile.done c.expand.new.file) (g.S.ConfigFile.rest c.expand.new.file) in
    subst (λ (d : State). 0 < length d.sections) (sym c.in_ok-include.ensures.ok) (some_spliced full (g.S.ConfigFile.rest c.args.file.now) (g.S.ConfigFile.done c.args.file.now) c.requires.some)

pub obey-returns-in_err-is_followed-clause-given : goal.obey-returns-in_err-is_followed-clause-given
obey-returns-in_err-is_followed-clause-given g w c =
    let asks = asks_of c.args.options.now (g.F.Files.table c.args.files.now) in
    let parent = option_map (λ s. whole (g.S.ConfigFile.done s) (g.S.ConfigFile.rest s)) (option_copied c.args.parent) in
    gives_refused (Expands (c.args.left - 1) asks) asks parent c.args.directive.meta.value (condition_of c.args.directive) (paths_of c.args.directive) (g.S.ConfigFile.rest c.args.file.now) (g.S.ConfigFile.done c.args.file.now)
    c.in_err-is_followed.field-0.0 c.from_residual.result c.in_err-is_followed.ensures c.from_residual.ensures.1

pub follow-returns-in_err-path-clause-counted : goal.follow-returns-in_err-path-clause-counted
follow-returns-in_err-path-clause-counted g w c =
    let named = file_named (rules_of c.args.options.now) c.args.from.now (bstring_bytes c.args.path) in
    none_counted named c.in_err-path.field-0.0 c.from_residual.result (g.F.Files.failures c.args.files.now) (named_only (rules_of c.args.options.now) c.args.from.now (bstring_bytes c.args.path))
    (told_names c.in_err-path.field-0.0 named c.in_err-path.ensures) c.from_residual.ensures.1

pub obey-returns-in_err-is_followed-clause-counted : goal.obey-returns-in_err-is_followed-clause-counted
obey-returns-in_err-is_followed-clause-counted g w c =
    let parent = option_map (λ s. whole (g.S.ConfigFile.done s) (g.S.ConfigFile.rest s)) (option_copied c.args.parent) in
    let searched = unwrap_or parent (whole (g.S.ConfigFile.done c.args.file.now) (g.S.ConfigFile.rest c.args.file.now)) in
    let judged = is_followed (rules_of c.args.options.now) c.args.directive.meta.value searched (condition_of c.args.directive) in
    none_counted judged c.in_err-is_followed.field-0.0 c.from_residual.result (g.F.Files.failures c.args.files.now)
    (is_followed_only (rules_of c.args.options.now) c.args.directive.meta.value searched (condition_of c.args.directive))
    (told_judges c.in_err-is_followed.field-0.0 judged c.in_err-is_followed.ensures) c.from_residual.ensures.1
