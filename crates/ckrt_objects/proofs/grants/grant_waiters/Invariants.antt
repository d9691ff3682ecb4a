use Rattle.std.proofs.Common.{◌≡◌, ◌-◌}
use Rattle.ckrt_thread.specs.Granting.{grant_up_to, grant_waiters}
use Rattle.ckrt_objects.specs.Granting.{rule_of}
use Rattle.ckrt_objects.proofs.grants.grant_waiters.Given as goal

abbrev pub invariant-loop : goal.invariant-loop
invariant-loop g l = record {
  left : grant_up_to (rule_of g.T.Grant.is_admissible g.T.Grant.granted l.object) (l.end - l.counter) l.value l.threads ≡ grant_waiters (rule_of g.T.Grant.is_admissible g.T.Grant.granted l.object) l.fn.value l.fn.threads;
  proper : g.T.Grant.IsProper l.value;
}
