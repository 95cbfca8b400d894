use Rattle.std.proofs.Common.{rules, ◌≡◌, ◌+◌, ◌≤◌, ◌<◌, min, ap, ◌∙◌}
use Rattle.gitconf_items.specs.Events.{bytes_of}
use Rattle.gitconf_state.specs.Editors.{end_bytes}
use Rattle.gitconf_body.proofs.Gaps.{rest_stands, rest_none}
use Rattle.gitconf_body.proofs.push_below.cut_run.Goals.{then-cut-end, else-cut-end}
use Rattle.gitconf_body.proofs.push_below.cut_run.Goals as goal

pub returns-clause-behind : goal.returns-clause-behind
returns-clause-behind c =
    let b = c.args.buffer.now in
    let run = c.args.run in
    let n = end_bytes (bytes_of b run) in
    let cut : c.min-cut.result ≡ min (run.start + run.len) (run.start + n) =
    c.min-cut.ensures ∙ ap (λ k. min (run.start + run.len) (run.start + k)) (c.end_len.ensures ∙ ap end_bytes c.bytes_in.ensures) in
    elim c.if-cut-end.branch [
      | then-cut-end w ↦
          let inside : c.min-cut.result < run.start + run.len = search rules in
          rw w.behind-is (rest_stands b run w.between.result n c.min-cut.result c.requires.fits cut inside w.between.ensures.start w.between.ensures.len)
      | else-cut-end w ↦
          let past : run.start + run.len ≤ c.min-cut.result = search rules in
          rw w.behind-is (rest_none b run n c.min-cut.result c.requires.fits cut past)
    ]
