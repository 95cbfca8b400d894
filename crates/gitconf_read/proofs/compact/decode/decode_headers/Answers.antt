use Rattle.std.proofs.Common.{◌<◌, length, arith}
use Rattle.gitconf_read.proofs.Compacts.{decoded_next, fits_next}
use Rattle.gitconf_read.proofs.compact.decode.decode_headers.Goals as goal

pub loop-place-preserved : goal.loop-place-preserved
loop-place-preserved c =
    let within : c.loop-place.place < length c.loop-place.headers.items = omega (arith, c.loop-place-test.true, c.len-place-end.ensures, c.args.headers.now.ok, c.loop-place.invariant.decoded.len) in
    record {
      decoded = decoded_next c.args.buffer.now c.loop-place.copies.items c.decode_at.new.copies.items c.args.headers.now.items c.loop-place.headers.items c.decode_at.new.headers.items c.loop-place.place within
          c.in_ok-decode_at.ensures c.loop-place.invariant.decoded;
      fits = fits_next c.args.buffer.now c.loop-place.copies.items c.decode_at.new.copies.items c.loop-place.headers.items c.decode_at.new.headers.items c.loop-place.place c.in_ok-decode_at.ensures c.loop-place.invariant.fits;
    }
