use Rattle.std.proofs.Common.{◌≡◌, ◌<◌, true, length, get_or, arith, rules, sym}
use Rattle.ckrt_gdb_forms.specs.Requests.{is_byte}
use Rattle.ckrt_gdb_forms.proofs.PartLemmas.{after-none, after-rest, before-all, before-take}
use Rattle.ckrt_gdb_forms.proofs.parts.split_at.Goals as goal

pub returns-then-byte-value-clause-before : goal.returns-then-byte-value-clause-before
returns-then-byte-value-clause-before c =
    let s = c.args.bytes.now in
    let lt : c.loop-i.i < length s = omega arith in
    let found : is_byte c.args.value (get_or s c.loop-i.i 0) ≡ true = search rules in
    sym (before-take (is_byte c.args.value) s c.loop-i.i lt c.loop-i.invariant found)

pub returns-then-byte-value-clause-after : goal.returns-then-byte-value-clause-after
returns-then-byte-value-clause-after c =
    let s = c.args.bytes.now in
    let lt : c.loop-i.i < length s = omega arith in
    let found : is_byte c.args.value (get_or s c.loop-i.i 0) ≡ true = search rules in
    sym (after-rest (is_byte c.args.value) s c.loop-i.i lt c.loop-i.invariant found)

pub returns-clause-before : goal.returns-clause-before
returns-clause-before c = sym (before-all (is_byte c.args.value) c.args.bytes.now (λ k below. c.loop-i.invariant k (omega arith)))

pub returns-clause-after : goal.returns-clause-after
returns-clause-after c = sym (after-none (is_byte c.args.value) c.args.bytes.now (λ k below. c.loop-i.invariant k (omega arith)))
