use Rattle.gix_config.specs.MultiValueEditors.{edited, key_of, places_of}
use Rattle.gix_config.specs.Targeted.{place_at}
use Rattle.gix_config_laws.proofs.CallSteps.{one_rewritten}
use Rattle.gix_config_laws.proofs.steps.values.set_string_at.Goals as goal

pub returns : goal.returns
returns c =
    let editor = c.args.editor.now in
    one_rewritten (key_of editor) (place_at (places_of editor) c.args.index) c.args.value.now c.set_string_at.result (edited editor) (edited c.set_string_at.new.self) c.set_string_at.ensures.done
