use Rattle.std.proofs.Common.{◌≡◌, length, sym, ap, ◌∙◌, arith, refl}
use Rattle.ckrt_thread.specs.Deadlines.{due_waits}
use Rattle.ckrt_thread.proofs.DueWaits.{length_due, none_due, nothing_first}
use Rattle.ckrt_calls.proofs.Ticks.{due_first, due_timed, ends_first, ends_none}
use Rattle.ckrt_calls.proofs.due.end_due_waits.Goals as goal

pub loop-round-init : goal.loop-round-init
loop-round-init c = record {
  well_formed = c.requires.well_formed;
  few = omega arith;
  left = omega (arith, length_due c.args.now c.args.tables.now.threads.waits);
  counted = omega arith;
  ends = refl;
}

pub loop-round-preserved : goal.loop-round-preserved
loop-round-preserved c =
    let first = due_first c.args.now c.in-Some.wait c.loop-round.tables c.end_wait.new.tables c.end_wait.ensures.tables (sym c.in-Some.ensures.first) c.in-Some.ensures.found.0 in
    let less = ap length first in
    record {
      well_formed = c.end_wait.ensures.well_formed;
      few = omega (arith, c.loop-round.invariant.few);
      left = omega (arith, c.loop-round.invariant.left, less);
      counted = omega (arith, c.loop-round.invariant.counted, less);
      ends = ends_first c.args.now c.in-Some.wait c.loop-round.tables c.end_wait.new.tables c.end_wait.ensures.tables first ∙ c.loop-round.invariant.ends;
    }

pub returns-in_default-clause-ahead : goal.returns-in_default-clause-ahead
returns-in_default-clause-ahead c = none_due c.args.now c.loop-round.tables.threads.waits (nothing_first (due_waits c.args.now c.loop-round.tables.threads.waits) (sym c.earliest_due.ensures.first ∙ c.in_default.is))

pub returns-in_default-clause-tables : goal.returns-in_default-clause-tables
returns-in_default-clause-tables c = sym (ends_none c.args.now c.loop-round.tables (nothing_first (due_waits c.args.now c.loop-round.tables.threads.waits) (sym c.earliest_due.ensures.first ∙ c.in_default.is))) ∙ c.loop-round.invariant.ends

pub returns-in_default-clause-ended : goal.returns-in_default-clause-ended
returns-in_default-clause-ended c =
    let none : length (due_waits c.args.now c.loop-round.tables.threads.waits) ≡ 0 = nothing_first (due_waits c.args.now c.loop-round.tables.threads.waits) (sym c.earliest_due.ensures.first ∙ c.in_default.is) in
    omega (arith, c.loop-round.invariant.counted, none)

pub returns-clause-ahead : goal.returns-clause-ahead
returns-clause-ahead c =
    let none : length (due_waits c.args.now c.loop-round.tables.threads.waits) ≡ 0 = omega (arith, c.loop-round.invariant.left) in
    none_due c.args.now c.loop-round.tables.threads.waits none

pub returns-clause-tables : goal.returns-clause-tables
returns-clause-tables c =
    let none : length (due_waits c.args.now c.loop-round.tables.threads.waits) ≡ 0 = omega (arith, c.loop-round.invariant.left) in
    sym (ends_none c.args.now c.loop-round.tables none) ∙ c.loop-round.invariant.ends

pub returns-clause-ended : goal.returns-clause-ended
returns-clause-ended c =
    let none : length (due_waits c.args.now c.loop-round.tables.threads.waits) ≡ 0 = omega (arith, c.loop-round.invariant.left) in
    omega (arith, c.loop-round.invariant.counted, none)

pub end_wait-requires-clause-timed : goal.end_wait-requires-clause-timed
end_wait-requires-clause-timed c = due_timed c.args.now c.loop-round.tables.threads.waits c.in-Some.wait (sym c.in-Some.ensures.first)
