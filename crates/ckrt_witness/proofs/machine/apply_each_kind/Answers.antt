use Rattle.std.proofs.Common.{rules, ◌≡◌, true}
use Rattle.ckrt_witness.proofs.MachineLemmas.{all_met}
use Rattle.ckrt_witness.proofs.machine.apply_each_kind.Goals as goal

pub returns : goal.returns
returns c =
    let kinds : c.has_each_kind.result ≡ true = search rules in
    let all : c.reach.result ≡ true = search rules in
    let waits : c.has_all_waits.result ≡ true = search rules in
    all_met c.args.machine.now.state c.reach.new.machine.state c.args.events.now c.args.more.now c.args.other.now c.refusal_beside.result
    c.known.ensures.well_formed (c.has_each_kind.ensures kinds) (c.reach.ensures all) (c.has_all_waits.ensures waits) c.refusal_beside.ensures
