use Rattle.std.proofs.Common.{arith, suc, ◌≡◌, ◌-◌, ◌∙◌, sym, subst, refl, false, Option, Some, None, is_some}
use Rattle.ckrt_rv32i.specs.Bursts.{is_next}
use Rattle.ckrt_rv32i.specs.declared.execution.Outcome.{Outcome}
use Rattle.ckrt_rv32i.specs.declared.execution.Outcome.TheVariants.{Next, Call, Fault}
use Rattle.ckrt_memory.proofs.StoredLemmas.{stores_nothing}
use Rattle.ckrt_machine.specs.declared.event.RunEnd.{RunEnd}
use Rattle.ckrt_machine.proofs.EffectLaws.{small_memory}
use Rattle.ckrt_machine.proofs.RunLaws.{Begins}
use Rattle.ckrt_machine.proofs.RunToLaws.{fewer_left, met_rest, same_burst, turned, turned_acting, turned_met, turned_out}
use Rattle.ckrt_machine.proofs.StoreLaws.{acting_stores, behind_stores, turn_stores}
use Rattle.ckrt_machine.proofs.run_to.turn_to.Goals as goal

not_next : (o : Outcome) → (o ≡ Next → ⊥) → is_next o ≡ false
not_next Next other = absurd (other refl)
not_next Call other = refl
not_next (Fault c) other = refl

none_of : (o : Option RunEnd) → is_some o ≡ false → o ≡ None
none_of None is = refl
none_of (Some how) is = absurd (cc)

pub returns-then-immediate-clause-run : goal.returns-then-immediate-clause-run
returns-then-immediate-clause-run g c =
    let left : c.args.limit ≡ suc (c.args.limit - 1) = (let n = c.requires.limit in omega arith) in
    rw c.stop.ensures
    (turned_acting (g.R.StopReason.meets c.args.reason.now) _ _ _ _ _ _ _ _ _ left (record { on = c.runner-thread.ensures.on; live = c.live-live.ensures.thread; going = c.requires.going }) c.requires.unmet (sym c.is_immediate-immediate.ensures ∙ c.if-immediate.true) c.act_on_request.ensures.tables)

pub returns-then-immediate-clause-follows : goal.returns-then-immediate-clause-follows
returns-then-immediate-clause-follows g c = stores_nothing _ _

pub returns-then-immediate-clause-rest : goal.returns-then-immediate-clause-rest
returns-then-immediate-clause-rest g c = λ none.
    let left : c.args.limit ≡ suc (c.args.limit - 1) = (let n = c.requires.limit in omega arith) in
    acting_stores _ _ _ _ _ _ _ _ _ left (record { on = c.runner-thread.ensures.on; live = c.live-live.ensures.thread; going = c.requires.going }) (sym c.is_immediate-immediate.ensures ∙ c.if-immediate.true) c.act_on_request.ensures.tables (subst (λ (o : Option RunEnd). is_some o ≡ false) c.stop.ensures none)

pub returns-then-left-eq0-clause-run : goal.returns-then-left-eq0-clause-run
returns-then-left-eq0-clause-run g c =
    turned_out (g.R.StopReason.meets c.args.reason.now) _ _ _ _ _ (record { on = c.runner-thread.ensures.on; live = c.live-live.ensures.thread; going = c.requires.going }) (sym c.is_immediate-immediate.ensures ∙ c.if-immediate.false)
    _ _ (small_memory _ c.known.ensures) _ _ _ _ c.burst_to-left.ensures.burst _ c.if-left-eq0.true c.put_back.ensures.tables

pub returns-then-left-eq0-clause-follows : goal.returns-then-left-eq0-clause-follows
returns-then-left-eq0-clause-follows g c = record {
  follows = c.burst_to-left.ensures.follows;
  only = λ area p low other. turn_stores _ _ _ _ _ _ _ (record { on = c.runner-thread.ensures.on; live = c.live-live.ensures.thread; going = c.requires.going }) (sym c.is_immediate-immediate.ensures ∙ c.if-immediate.false) (small_memory _ c.known.ensures) p (c.burst_to-left.ensures.only area p low other);
}

pub returns-in-Next-clause-less : goal.returns-in-Next-clause-less
returns-in-Next-clause-less g c = λ _.
    let begins : Begins c.args.hart c.runner-thread.result c.live-live.result.now c.args.tables.now c.args.output.now.items =
    record { on = c.runner-thread.ensures.on; live = c.live-live.ensures.thread; going = c.requires.going } in
    fewer_left (g.R.StopReason.meets c.args.reason.now) _ _ _ _ _ begins (sym c.is_immediate-immediate.ensures ∙ c.if-immediate.false)
    _ _ (small_memory _ c.known.ensures) _ _ _ _ c.burst_to-left.ensures.burst c.requires.limit c.in-Next.is c.requires.unmet

pub returns-in-Next-clause-follows : goal.returns-in-Next-clause-follows
returns-in-Next-clause-follows g c = record {
  follows = c.burst_to-left.ensures.follows;
  only = λ area p low other. turn_stores _ _ _ _ _ _ _ (record { on = c.runner-thread.ensures.on; live = c.live-live.ensures.thread; going = c.requires.going }) (sym c.is_immediate-immediate.ensures ∙ c.if-immediate.false) (small_memory _ c.known.ensures) p (c.burst_to-left.ensures.only area p low other);
}

pub returns-in-Next-clause-rest : goal.returns-in-Next-clause-rest
returns-in-Next-clause-rest g c = λ _.
    met_rest (g.R.StopReason.meets c.args.reason.now) _ _ _ _ _ (record { on = c.runner-thread.ensures.on; live = c.live-live.ensures.thread; going = c.requires.going }) (sym c.is_immediate-immediate.ensures ∙ c.if-immediate.false)
    _ _ _ _ _ _ _ (small_memory _ c.known.ensures) c.burst_to-left.ensures.burst c.in-Next.is c.put_back.ensures.tables

pub returns-in-Next-clause-run : goal.returns-in-Next-clause-run
returns-in-Next-clause-run g c =
    let left : c.burst_to-left.result.0 ≡ suc (c.burst_to-left.result.0 - 1) = (let n = c.if-left-eq0.false in omega arith) in
    turned_met (g.R.StopReason.meets c.args.reason.now) _ _ _ _ _ (record { on = c.runner-thread.ensures.on; live = c.live-live.ensures.thread; going = c.requires.going }) (sym c.is_immediate-immediate.ensures ∙ c.if-immediate.false)
    _ _ (small_memory _ c.known.ensures) _ _ _ _ c.burst_to-left.ensures.burst _ _ left c.in-Next.is c.put_back.ensures.tables

pub returns : goal.returns
returns g c =
    let meets = g.R.StopReason.meets c.args.reason.now in
    let left : c.burst_to-left.result.0 ≡ suc (c.burst_to-left.result.0 - 1) = (let n = c.if-left-eq0.false in omega arith) in
    let imm = sym c.is_immediate-immediate.ensures ∙ c.if-immediate.false in
    let begins : Begins c.args.hart c.runner-thread.result c.live-live.result.now c.args.tables.now c.args.output.now.items =
    record { on = c.runner-thread.ensures.on; live = c.live-live.ensures.thread; going = c.requires.going } in
    let over = not_next c.burst_to-left.result.1 c.in_default.not-Next in
    record {
      well_formed = c.end_burst-put.ensures.well_formed;
      less = λ _. (let w = c.burst_to-left.ensures.within in let n = c.if-left-eq0.false in omega arith);
      within = (let w = c.burst_to-left.ensures.within in omega arith);
      going = λ none. none_of _ (subst (λ (o : Option RunEnd). is_some o ≡ false) c.stop-2.ensures none);
      follows = record {
        follows = c.burst_to-left.ensures.follows;
        only = λ area p low other. turn_stores _ _ _ _ _ _ _ begins imm (small_memory _ c.known.ensures) p (c.burst_to-left.ensures.only area p low other);
      };
      rest = λ none.
          rw c.put_byte.ensures
          (behind_stores _ _ _ _ _ _ _ _ _ _ _ _ _ _ _ left begins imm (small_memory _ c.known.ensures)
          (same_burst meets _ _ _ _ _ begins imm _ _ (small_memory _ c.known.ensures) _ _ _ _ c.burst_to-left.ensures.burst over)
          c.put_back.ensures.tables (c.end_burst-put.ensures.tables _)
          (rw c.put_byte.ensures at (subst (λ (o : Option RunEnd). is_some o ≡ false) c.stop-2.ensures none)));
      run = rw (c.stop-2.ensures, c.put_byte.ensures)
          (turned meets _ _ _ _ _ begins imm
          _ _ (small_memory _ c.known.ensures) _ _ _ _ c.burst_to-left.ensures.burst _ _ _ _ left over c.put_back.ensures.tables (c.end_burst-put.ensures.tables _));
    }
