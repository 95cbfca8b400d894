use Rattle.std.proofs.Common.{refl}
use Rattle.gixcfg_words.specs.Given.{seen}
use Rattle.gixcfg_words.specs.Tasks.{InPlaceOf, Only, which_of}
use Rattle.gixcfg_words.proofs.Calls.{replaced}
use Rattle.gixcfg_words.proofs.of_git.replacing.Goals as goal

pub returns-in-Ok : goal.returns-in-Ok
returns-in-Ok c =
    replaced (seen c.args.given.now) c.args.key.now c.args.value.now c.args.is_all _ (which_of c.in-Ok.values) (InPlaceOf (which_of c.in-Ok.values)) c.setting.result
    c.in-Ok.ensures (rw c.if-is_all.true refl) c.setting.ensures

pub returns-in-Ok-2 : goal.returns-in-Ok-2
returns-in-Ok-2 c =
    replaced (seen c.args.given.now) c.args.key.now c.args.value.now c.args.is_all _ (which_of c.in-Ok.values) (Only (which_of c.in-Ok.values)) c.setting-in-Ok-2.result
    c.in-Ok.ensures (rw c.if-is_all.false refl) c.setting-in-Ok-2.ensures
