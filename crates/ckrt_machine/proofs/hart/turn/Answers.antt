use Rattle.std.proofs.Common.{arith, suc, ◌≡◌, ◌-◌, ◌∙◌, sym, subst, false, Option, is_some}
use Rattle.ckrt_machine.specs.declared.event.RunEnd.{RunEnd}
use Rattle.ckrt_machine.proofs.EffectLaws.{small_memory}
use Rattle.ckrt_memory.proofs.StoredLemmas.{stores_nothing}
use Rattle.ckrt_machine.proofs.RunLaws.{turned_out, turned, turned_acting}
use Rattle.ckrt_machine.proofs.StoreLaws.{acting_stores, behind_stores, turn_stores}
use Rattle.ckrt_machine.proofs.hart.turn.Goals as goal

pub returns-then-immediate-clause-run : goal.returns-then-immediate-clause-run
returns-then-immediate-clause-run c =
    let left : c.args.limit ≡ suc (c.args.limit - 1) = (let n = c.requires.limit in omega arith) in
    rw c.stop.ensures
    (turned_acting _ _ _ _ _ _ _ _ _ left (record { on = c.runner-thread.ensures.on; live = c.live-live.ensures.thread; going = c.requires.going }) (sym c.is_immediate-immediate.ensures ∙ c.if-immediate.true) c.act_on_request.ensures.tables)

pub returns-then-left-eq0-clause-run : goal.returns-then-left-eq0-clause-run
returns-then-left-eq0-clause-run c =
    turned_out _ _ _ _ _ _ _ _ _ _ _ _ (record { on = c.runner-thread.ensures.on; live = c.live-live.ensures.thread; going = c.requires.going }) (sym c.is_immediate-immediate.ensures ∙ c.if-immediate.false) (small_memory _ c.known.ensures) c.burst-left.ensures.burst c.if-left-eq0.true c.put_back.ensures.tables

pub returns-clause-less : goal.returns-clause-less
returns-clause-less c = λ _. (let w = c.burst-left.ensures.within in let n = c.if-left-eq0.false in omega arith)

pub returns-clause-within : goal.returns-clause-within
returns-clause-within c = (let w = c.burst-left.ensures.within in omega arith)

pub returns-clause-run : goal.returns-clause-run
returns-clause-run c =
    let left : c.burst-left.result.0 ≡ suc (c.burst-left.result.0 - 1) = (let n = c.if-left-eq0.false in omega arith) in
    rw (c.stop-2.ensures, c.put_byte.ensures)
    (turned _ _ _ _ _ _ _ _ _ _ _ _ _ _ _ left (record { on = c.runner-thread.ensures.on; live = c.live-live.ensures.thread; going = c.requires.going }) (sym c.is_immediate-immediate.ensures ∙ c.if-immediate.false) (small_memory _ c.known.ensures) c.burst-left.ensures.burst c.put_back.ensures.tables (c.end_burst-put.ensures.tables _))

pub returns-then-immediate-clause-follows : goal.returns-then-immediate-clause-follows
returns-then-immediate-clause-follows c = stores_nothing _ _

pub returns-then-immediate-clause-rest : goal.returns-then-immediate-clause-rest
returns-then-immediate-clause-rest c = λ none.
    let left : c.args.limit ≡ suc (c.args.limit - 1) = (let n = c.requires.limit in omega arith) in
    acting_stores _ _ _ _ _ _ _ _ _ left (record { on = c.runner-thread.ensures.on; live = c.live-live.ensures.thread; going = c.requires.going }) (sym c.is_immediate-immediate.ensures ∙ c.if-immediate.true) c.act_on_request.ensures.tables (subst (λ (o : Option RunEnd). is_some o ≡ false) c.stop.ensures none)

pub returns-then-left-eq0-clause-follows : goal.returns-then-left-eq0-clause-follows
returns-then-left-eq0-clause-follows c = record {
  follows = c.burst-left.ensures.follows;
  only = λ area p low other. turn_stores _ _ _ _ _ _ _ (record { on = c.runner-thread.ensures.on; live = c.live-live.ensures.thread; going = c.requires.going }) (sym c.is_immediate-immediate.ensures ∙ c.if-immediate.false) (small_memory _ c.known.ensures) p (c.burst-left.ensures.only area p low other);
}

pub returns-clause-follows : goal.returns-clause-follows
returns-clause-follows c = record {
  follows = c.burst-left.ensures.follows;
  only = λ area p low other. turn_stores _ _ _ _ _ _ _ (record { on = c.runner-thread.ensures.on; live = c.live-live.ensures.thread; going = c.requires.going }) (sym c.is_immediate-immediate.ensures ∙ c.if-immediate.false) (small_memory _ c.known.ensures) p (c.burst-left.ensures.only area p low other);
}

pub returns-clause-rest : goal.returns-clause-rest
returns-clause-rest c = λ none.
    let left : c.burst-left.result.0 ≡ suc (c.burst-left.result.0 - 1) = (let n = c.if-left-eq0.false in omega arith) in
    rw c.put_byte.ensures
    (behind_stores _ _ _ _ _ _ _ _ _ _ _ _ _ _ _ left (record { on = c.runner-thread.ensures.on; live = c.live-live.ensures.thread; going = c.requires.going }) (sym c.is_immediate-immediate.ensures ∙ c.if-immediate.false) (small_memory _ c.known.ensures) c.burst-left.ensures.burst c.put_back.ensures.tables (c.end_burst-put.ensures.tables _)
    (rw c.put_byte.ensures at (subst (λ (o : Option RunEnd). is_some o ≡ false) c.stop-2.ensures none)))
