use Rattle.std.proofs.Common.{rules, ◌≡◌, [], ◌∷◌, ◌++◌}
use Rattle.gitconf_items.specs.declared.items.Item.TheVariants as kinds
use Rattle.gitconf_body.proofs.Buffers.{extended_fit}
use Rattle.gitconf_body.proofs.Standing.{line_ends_stand, pushed_stand}
use Rattle.gitconf_text.specs.LineEnds.{bytes_of_line_end}
use Rattle.gitconf_body.specs.Buffers.{StandsAt}
use Rattle.gitconf_body.proofs.push.push_newline.Goals as goal

pub returns-in_err-push-clause-within : goal.returns-in_err-push-clause-within
returns-in_err-push-clause-within c =
    let same : c.push.new.self.items ≡ c.args.items.now.items = search rules in
    rw same (extended_fit c.args.buffer.now.items c.append.new.buffer.items c.args.items.now.items c.append.ensures.grows.extended c.requires.within)

pub returns-clause-ok : goal.returns-clause-ok
returns-clause-ok c =
    let put : c.push.new.self.items ≡ c.args.items.now.items ++ kinds.LineEnds c.in_ok-run.run' ∷ [] = search rules in
    let stands : StandsAt c.append.new.buffer.items c.in_ok-run.run' (bytes_of_line_end c.args.editor.now.line_end) = search rules in
    (pushed_stand c.args.buffer.now.items c.append.new.buffer.items c.args.items.now.items _ _ _ c.append.ensures.grows.extended c.requires.within (line_ends_stand _ _ _ stands) put).shown_are

pub returns-clause-within : goal.returns-clause-within
returns-clause-within c =
    let put : c.push.new.self.items ≡ c.args.items.now.items ++ kinds.LineEnds c.in_ok-run.run' ∷ [] = search rules in
    let stands : StandsAt c.append.new.buffer.items c.in_ok-run.run' (bytes_of_line_end c.args.editor.now.line_end) = search rules in
    (pushed_stand c.args.buffer.now.items c.append.new.buffer.items c.args.items.now.items _ _ _ c.append.ensures.grows.extended c.requires.within (line_ends_stand _ _ _ stands) put).within
