use Rattle.gix_config.proofs.MultiValueEditors.{one_moved_up}
use Rattle.gix_config.proofs.file.multi_value_mut.targets.move_up.Goals as goal

pub loop-place-preserved : goal.loop-place-preserved
loop-place-preserved c =
    one_moved_up c.args.gone.now c.args.places.now c.loop-place.places c.loop-place.place-index c.place-item.result c.moved_up-place.result
    c.loop-place-test.true c.loop-place.invariant c.moved_up-place.ensures
