use Rattle.std.proofs.Common.{◌∙◌, Some, Vec, ap, option_map, refl, rules, sym, ℕ}
use Rattle.std.proofs.lemmas.List.{nil_from_length}
use Rattle.std.specs.declared.alloc.Global.{Global}
use Rattle.gixcfg_replacing.specs.Disk.{last_found}
use Rattle.folder_replay.proofs.in_memory.InMemoryFolderCalls.write.Goals as goal

pub write-requires-clause-empty : goal.write-requires-clause-empty
write-requires-clause-empty c =
    ap last_found ((c.read.ensures.alone c.args.name.now).kept refl).found
    ∙ sym (c.in_ok-found.ensures.text refl)
    ∙ ap (option_map (λ (text : Vec ℕ Global). text.items)) c.in-Some.is
    ∙ ap Some (nil_from_length c.in-Some.found.items (search rules))
