use Rattle.std.proofs.Common.{◌≡◌, length, subst, arith}
use Rattle.std.proofs.lemmas.Result.{err_from_is_err_and}
use Rattle.gitconf_read.specs.Stretches.{IsReadOn}
use Rattle.gitconf_read.proofs.Stretches.{both_stretches, broken_behind, none_read, section_read}
use Rattle.gitconf_parse.proofs.loading.push_sections.Goals as goal

pub loop-at-init : goal.loop-at-init
loop-at-init g c = record {
  inside = c.requires.within;
  headed = c.requires.headed;
  read = none_read _ _ _ _;
  keeps = λ first k. k;
  scratch = c.requires.empty;
}

pub returns-in_err-header-clause-broken : goal.returns-in_err-header-clause-broken
returns-in_err-header-clause-broken g c =
    let p = err_from_is_err_and c.from_residual.result c.from_residual.ensures.1 in
    rw (p.1, p.2) (broken_behind _ _ _ _ _ _ _ c.loop-at.invariant.read.kept.stretch c.in_err-header.ensures.broken)

pub returns-in_err-at-clause-broken : goal.returns-in_err-at-clause-broken
returns-in_err-at-clause-broken g c =
    let p = err_from_is_err_and c.from_residual-in_err-at.result c.from_residual-in_err-at.ensures.1 in
    let headed = both_stretches _ _ _ _ _ _ _ _ _ c.loop-at.invariant.read.kept.stretch c.in_ok-header.ensures.read in
    rw (p.1, p.2) (broken_behind _ _ _ _ _ _ _ headed c.in_err-at.ensures.broken)

pub loop-at-preserved : goal.loop-at-preserved
loop-at-preserved g c = record {
  inside = c.in_ok-at.ensures.inside;
  headed = c.in_ok-at.ensures.headed;
  read = section_read _ _ _ _ _ _ _ _ _ _ _ c.in_ok-header.header c.loop-at.invariant.read c.in_ok-header.ensures.read c.in_ok-at.ensures.read c.in_ok-take.ensures.tokens;
  keeps = λ first k. c.in_ok-take.ensures.keeps first (c.loop-at.invariant.keeps first k);
  scratch = c.in_ok-take.ensures.taken;
}

pub returns-clause-read : goal.returns-clause-read
returns-clause-read g c =
    let end : c.loop-at.at ≡ length c.args.input.now = omega (arith, c.loop-at.invariant.inside, c.loop-at-test.false) in
    let tokens = g.S.SectionSink.tokens c.args.input.now in
    (c.loop-at.wanted, subst (λ n. IsReadOn c.args.keep c.args.input.now c.args.from n c.loop-at.wanted (tokens c.args.sections.now) (tokens c.loop-at.sections)) end c.loop-at.invariant.read)
