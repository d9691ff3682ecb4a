-- The mask is 2 ^ count - 1, which leaves the remainder.
use Rattle.std.proofs.Common.{◌≡◌, ◌*◌, ◌/◌, ◌%◌, ◌^◌}
use Rattle.std.proofs.lemmas.Nat.{one_shl, and_mask}
use Rattle.ckrt_rv32i.proofs.decoding.field.Goals as goal

pub returns-clause-value : goal.returns-clause-value
returns-clause-value c =
    let mask : (1 * 2 ^ c.args.count) % 2 ^ 32 ≡ 2 ^ c.args.count = one_shl c.args.count 32 c.requires.count in
    rw mask (and_mask (c.args.word / 2 ^ c.args.low) c.args.count)
