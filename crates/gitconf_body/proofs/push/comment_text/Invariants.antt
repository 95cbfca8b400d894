use Rattle.std.proofs.Common.{◌≡◌, ◌++◌, drop, map}
use Rattle.std.specs.Prelude.{◌==◌, if◌then◌else◌}
use Rattle.gitconf_state.specs.Editors as state
use Rattle.gitconf_body.proofs.push.comment_text.Given as goal

abbrev pub invariant-loop-b : goal.invariant-loop-b
invariant-loop-b l = l.out.items ++ map (λ b. if b == 10 then 32 else b) (drop l.b-index l.text) ≡ state.comment_text l.text
