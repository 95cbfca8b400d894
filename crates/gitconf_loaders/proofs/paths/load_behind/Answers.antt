use Rattle.std.proofs.Common.{rules, ◌≡◌, ◌⊎◌, Ok, Err, Some, None, sym, ap, ◌∙◌, subst, string_bytes}
use Rattle.gitconf_includes.specs.Outcomes.{asks_of}
use Rattle.gitconf_loaders.specs.Resolving.{IsMadeOf}
use Rattle.gitconf_loaders.specs.Errors.{init_says, paths_says}
use Rattle.gitconf_loaders.specs.Refused.{fault_refused, OutOfMemory}
use Rattle.gitconf_loaders.specs.Paths.{left_by, Joins, text_taken}
use Rattle.gitconf_loaders.proofs.Counts.{none_less, same}
use Rattle.gitconf_loaders.proofs.Several.{faulted, join_counts, Loads, made_counts, not_made_left, of_meta, passed, put, Takes}
use Rattle.gitconf_loaders.proofs.paths.load_behind.Goals as goal

pub returns-in-Ok-None-clause-loaded : goal.returns-in-Ok-None-clause-loaded
returns-in-Ok-None-clause-loaded g c =
    let table = g.F.Files.table c.args.files.now in
    let asks = asks_of c.args.options.now table in
    let ignores = c.args.options.now.ignore_io_errors in
    let path = string_bytes c.in-Some.path in
    let at : c.deref.result.now ≡ path = search rules in
    let has : c.args.meta.path ≡ Some path = search rules in
    let takes = subst (λ p. Takes c.args.must_exist ignores asks c.args.meta p c.args.target.now (Ok None)) at
    (subst (λ o. Takes c.args.must_exist ignores asks c.args.meta c.deref.result.now c.args.target.now (text_taken c.deref.result.now (Ok o))) c.in-Ok-None.field-0-is c.in-Ok-None.ensures.taken) in
    of_meta c.args.must_exist ignores asks c.args.meta path c.args.target.now (Ok c.args.target.now) has (passed c.args.must_exist ignores asks c.args.meta path c.args.target.now takes)

pub returns-in-Err-clause-loaded : goal.returns-in-Err-clause-loaded
returns-in-Err-clause-loaded g c =
    let table = g.F.Files.table c.args.files.now in
    let asks = asks_of c.args.options.now table in
    let ignores = c.args.options.now.ignore_io_errors in
    let path = string_bytes c.in-Some.path in
    let at : c.deref.result.now ≡ path = search rules in
    let has : c.args.meta.path ≡ Some path = search rules in
    let takes = subst (λ p. Takes c.args.must_exist ignores asks c.args.meta p c.args.target.now (Err (fault_refused p c.in-Err.fault))) at c.in-Err.ensures.taken in
    of_meta c.args.must_exist ignores asks c.args.meta path c.args.target.now (Err (paths_says c.refusal.result)) has
    (subst (λ n. Loads c.args.must_exist ignores asks c.args.meta path c.args.target.now (Err n)) (sym c.refusal.ensures)
    (faulted c.args.must_exist ignores asks c.args.meta path c.args.target.now (fault_refused path c.in-Err.fault) takes))

pub returns-in-Err-resolved_text-clause-loaded : goal.returns-in-Err-resolved_text-clause-loaded
returns-in-Err-resolved_text-clause-loaded g c =
    let table = g.F.Files.table c.args.files.now in
    let asks = asks_of c.args.options.now table in
    let ignores = c.args.options.now.ignore_io_errors in
    let path = string_bytes c.in-Some.path in
    let at : c.deref.result.now ≡ path = search rules in
    let named : c.deref-2.result.now ≡ path = search rules in
    let has : c.args.meta.path ≡ Some path = search rules in
    let takes = subst (λ p. Takes c.args.must_exist ignores asks c.args.meta p c.args.target.now (Ok (Some c.in-Ok-Some.text.items))) at
    (subst (λ o. Takes c.args.must_exist ignores asks c.args.meta c.deref.result.now c.args.target.now (text_taken c.deref.result.now (Ok o))) (c.in-Ok-Some.field-0-is ∙ ap Some c.in-Ok-Some.text-is) c.in-Ok-Some.ensures.taken) in
    let whole : c.in_ok-shared.field-0.value ≡ c.args.meta = search rules in
    let made = subst (λ m. IsMadeOf init_says asks c.in-Ok-Some.text.items m (Err c.in-Err-resolved_text.refusal)) whole
    (subst (λ t. IsMadeOf init_says (asks_of c.args.options.now t) c.in-Ok-Some.text.items c.in_ok-shared.field-0.value (Err c.in-Err-resolved_text.refusal)) c.text_of.ensures.table c.in-Err-resolved_text.ensures.made) in
    of_meta c.args.must_exist ignores asks c.args.meta path c.args.target.now (Err (paths_says c.of.result)) has
    (not_made_left c.args.must_exist ignores asks c.args.meta path c.in-Ok-Some.text.items c.args.target.now c.in_ok-at.at c.in-Err-resolved_text.refusal (Err c.of.result) (c.in_ok-at.ensures ∙ named) takes made c.of.ensures)

pub returns-in-Err-resolved_text-clause-counted : goal.returns-in-Err-resolved_text-clause-counted
returns-in-Err-resolved_text-clause-counted g c =
    made_counts c.args.target.now c.in_ok-at.at c.in-Err-resolved_text.refusal (Err c.of.result) (g.F.Files.failures c.args.files.now) (g.F.Files.failures c.text_of.new.files) (g.F.Files.failures c.resolved_text.new.files)
    c.of.ensures c.in-Ok-Some.ensures.counted c.in-Err-resolved_text.ensures.counted

pub returns-in-Ok-clause-loaded : goal.returns-in-Ok-clause-loaded
returns-in-Ok-clause-loaded g c =
    let table = g.F.Files.table c.args.files.now in
    let asks = asks_of c.args.options.now table in
    let ignores = c.args.options.now.ignore_io_errors in
    let path = string_bytes c.in-Some.path in
    let at : c.deref.result.now ≡ path = search rules in
    let named : c.deref-2.result.now ≡ path = search rules in
    let has : c.args.meta.path ≡ Some path = search rules in
    let takes = subst (λ p. Takes c.args.must_exist ignores asks c.args.meta p c.args.target.now (Ok (Some c.in-Ok-Some.text.items))) at
    (subst (λ o. Takes c.args.must_exist ignores asks c.args.meta c.deref.result.now c.args.target.now (text_taken c.deref.result.now (Ok o))) (c.in-Ok-Some.field-0-is ∙ ap Some c.in-Ok-Some.text-is) c.in-Ok-Some.ensures.taken) in
    let whole : c.in_ok-shared.field-0.value ≡ c.args.meta = search rules in
    let made = subst (λ m. IsMadeOf init_says asks c.in-Ok-Some.text.items m (Ok c.in-Ok.made)) whole
    (subst (λ t. IsMadeOf init_says (asks_of c.args.options.now t) c.in-Ok-Some.text.items c.in_ok-shared.field-0.value (Ok c.in-Ok.made)) c.text_of.ensures.table c.in-Ok.ensures.made) in
    let joins = subst (λ p. (left_by paths_says c.join.result c.join.new.target ≡ Err OutOfMemory) ⊎ Joins p c.args.target.now c.in-Ok.made (left_by paths_says c.join.result c.join.new.target)) (c.in_ok-at.ensures ∙ named) c.join.ensures.joined in
    of_meta c.args.must_exist ignores asks c.args.meta path c.args.target.now (left_by paths_says c.join.result c.join.new.target) has
    (put c.args.must_exist ignores asks c.args.meta path c.args.target.now c.in-Ok-Some.text.items c.in-Ok.made (left_by paths_says c.join.result c.join.new.target) takes made joins)

pub returns-in-Ok-clause-counted : goal.returns-in-Ok-clause-counted
returns-in-Ok-clause-counted g c =
    let old = g.F.Files.failures c.args.files.now in
    let mid = g.F.Files.failures c.text_of.new.files in
    let new = g.F.Files.failures c.resolved_text.new.files in
    join_counts (string_bytes c.in_ok-at.at) c.args.target.now c.in-Ok.made c.join.result c.join.new.target old new c.join.ensures.joined
    (none_less old mid new c.in-Ok-Some.ensures.counted (same mid new c.in-Ok.ensures.counted))
