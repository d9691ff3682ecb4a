use Rattle.std.proofs.Common.{◌≡◌, true, arith, sym, ◌∙◌}
use Rattle.ckrt_calls.specs.WellFormed.{may_be_its_status}
use Rattle.ckrt_calls.proofs.Test.{some_live, none_due, live_at_fault, aligned_at_fault, status_met}
use Rattle.ckrt_calls.proofs.table.Tables.is_well_formed.Goals as goal

pub returns : goal.returns
returns c =
    let s = c.args.self.now in (
      (λ t.
          let status : may_be_its_status s.status s.clock s.threads ≡ true = sym c.may_be_its_status.ensures ∙ t in
          record {
            threads = c.known.ensures;
            mutexes = c.is_well_formed_with.ensures.0 c.if-not-is_well_formed_with.false;
            conditions = c.are_conditions_well_formed.ensures.0 c.if-not-are_conditions_well_formed.false;
            barriers = c.is_well_formed_with-2.ensures.0 c.if-not-is_well_formed_with-2.false;
            rwlocks = c.is_well_formed_with-3.ensures.0 c.if-not-is_well_formed_with-3.false;
            running = some_live s.clock s.threads s.status status;
            deadlines = none_due s.clock s.threads s.status status;
            readers = sym c.all_lack_input.ensures ∙ c.if-not-all_lack_input.false;
            clock = omega arith;
            input = c.known-2.ensures;
            fault = live_at_fault s.clock s.threads s.status status;
            fault_pc = aligned_at_fault s.clock s.threads s.status status;
          }),
      (λ h. c.may_be_its_status.ensures ∙ status_met s.clock s.threads s.status h.running h.deadlines h.fault h.fault_pc),
    )
