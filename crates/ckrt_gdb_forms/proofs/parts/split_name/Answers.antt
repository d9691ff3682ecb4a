use Rattle.std.proofs.Common.{◌≡◌, ℕ, ◌<◌, true, List, [], length, get_or, Option, arith, rules, ap, sym}
use Rattle.std.specs.Prelude.{unwrap_or}
use Rattle.ckrt_gdb_forms.specs.Requests.{is_separator}
use Rattle.ckrt_gdb_forms.proofs.PartLemmas.{after-none, after-rest, before-all, before-take}
use Rattle.ckrt_gdb_forms.proofs.parts.split_name.Goals as goal

pub returns-then-byte-eq58-clause-before : goal.returns-then-byte-eq58-clause-before
returns-then-byte-eq58-clause-before c =
    let s = c.args.packet.now in
    let lt : c.loop-i.i < length s = omega arith in
    let found : is_separator (get_or s c.loop-i.i 0) ≡ true = search rules in
    sym (before-take is_separator s c.loop-i.i lt c.loop-i.invariant found)

pub returns-then-byte-eq58-clause-behind : goal.returns-then-byte-eq58-clause-behind
returns-then-byte-eq58-clause-behind c =
    let s = c.args.packet.now in
    let lt : c.loop-i.i < length s = omega arith in
    let found : is_separator (get_or s c.loop-i.i 0) ≡ true = search rules in
    sym (ap (λ (rest : Option (List ℕ)). unwrap_or rest []) (after-rest is_separator s c.loop-i.i lt c.loop-i.invariant found))

pub returns-clause-before : goal.returns-clause-before
returns-clause-before c = sym (before-all is_separator c.args.packet.now (λ k below. c.loop-i.invariant k (omega arith)))

pub returns-clause-behind : goal.returns-clause-behind
returns-clause-behind c =
    sym (ap (λ (rest : Option (List ℕ)). unwrap_or rest []) (after-none is_separator c.args.packet.now (λ k below. c.loop-i.invariant k (omega arith))))
