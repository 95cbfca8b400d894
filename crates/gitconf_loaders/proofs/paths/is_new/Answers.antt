use Rattle.std.proofs.Common.{rules, ◌≡◌, string_bytes}
use Rattle.gitconf_loaders.proofs.Seen.{put}
use Rattle.gitconf_loaders.proofs.paths.is_new.Goals as goal

pub returns : goal.returns
returns c =
    let is : string_bytes c.in_ok-from_str.field-0 ≡ c.args.path.now = search rules in
    put c.args.seen.now c.insert.new.self c.in_ok-from_str.field-0 c.args.path.now c.in_ok-insert.field-0 is c.in_ok-insert.ensures.added c.in_ok-insert.ensures.updates c.in_ok-insert.ensures.unchanged
