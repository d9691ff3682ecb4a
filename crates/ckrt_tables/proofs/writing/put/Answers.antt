use Rattle.std.proofs.Common.{◌≤◌, ◌+◌, ◌-◌, length, refl, arith}
use Rattle.std.proofs.lemmas.Slice.{take-put_mid, drop-put_mid}
use Rattle.ckrt_tables.proofs.writing.put.Goals as goal

pub returns : goal.returns
returns c =
    let old = c.args.out.now in
    let at = c.args.at in
    let bytes = c.args.bytes.now in
    let within : at ≤ length old = omega (arith, c.requires) in
    rw c.copy_from_slice.ensures.after record {
      size = refl;
      front = take-put_mid at (at + length bytes - at) old bytes (at + length bytes) refl within;
      back = drop-put_mid at (at + length bytes - at) old bytes (at + length bytes) (omega arith) within (omega arith);
    }
