use Rattle.std.proofs.Common.{◌≡◌, ◌∙◌, ap, subst, sym, true≢false}
use Rattle.ckrt_thread.specs.State.{State}
use Rattle.ckrt_tables.specs.Decoding.{IsEncodingOf}
use Rattle.ckrt_tables.proofs.decoding.decode_tables.Goals as goal

-- a state that the bytes encode is the one that was read
pub returns-then-not-branch-clause-exact : goal.returns-then-not-branch-clause-exact
returns-then-not-branch-clause-exact c = λ s is.
    let count : c.in_ok-tables.tables.threads.hart_count ≡ c.args.harts = ap (λ (t : State). t.hart_count) c.in_ok-tables.ensures.threads in
    let same = c.read_tables.ensures.found s (subst (λ n. IsEncodingOf c.args.version n c.args.bytes.now s) (sym count) is) in
    let there : IsEncodingOf c.args.version c.args.harts c.args.bytes.now (record { tables = c.read_tables.new.tables; held = c.read_tables.new.held.items }) = rw (same.0, same.1) is in
    absurd (true≢false (sym (c.in_ok-are_encoded.ensures.1 there) ∙ c.if-not-branch.true))

pub returns-clause-exact : goal.returns-clause-exact
returns-clause-exact c = c.in_ok-are_encoded.ensures.0 c.if-not-branch.false
