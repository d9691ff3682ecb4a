-- The rule by which an object is granted to its waiters.
use Rattle.std.specs.Prelude.{Bool}
use Rattle.ckrt_thread.specs.declared.records.Wait.{Wait}
use Rattle.ckrt_thread.specs.declared.records.Object.{Object}
use Rattle.ckrt_thread.specs.Granting.{GrantRule}

-- `admits`: which first wait is admissible; `after`: what the object is when a waiter was granted it
abbrev pub rule_of : {O : Type 0} → (O → Wait → Bool) → (O → Wait → O) → Object → GrantRule O
rule_of admits after o = record { object = o; is_admissible = admits; granted = after }
