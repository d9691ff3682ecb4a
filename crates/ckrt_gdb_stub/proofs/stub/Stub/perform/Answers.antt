use Rattle.std.proofs.Common.{◌≡◌, ◌++◌, List, ℕ, sym, subst}
use Rattle.std.specs.Prelude.{IfOk}
use Rattle.ckrt_gdb_stub.specs.declared.command.Command.{Command}
use Rattle.ckrt_gdb_stub.specs.Monitor.{Does}
use Rattle.ckrt_gdb_stub.proofs.SessionLemmas.{never_refused, only_memory}
use Rattle.ckrt_gdb_stub.proofs.stub.Stub.perform.Goals as goal

pub returns-in-GoTo-clause-does : goal.returns-in-GoTo-clause-does
returns-in-GoTo-clause-does c =
    subst (λ (k : Command). IfOk c.go_to.result (λ stub. (console : List ℕ) × Does k c.args.self stub console × (c.go_to.new.out.items ≡ c.args.out.now.items ++ console)))
    (sym c.in-GoTo.is) c.go_to.ensures.does

pub returns-in-GoTo-clause-refused : goal.returns-in-GoTo-clause-refused
returns-in-GoTo-clause-refused c = c.go_to.ensures.refused

pub returns-in-GoTo-clause-fault : goal.returns-in-GoTo-clause-fault
returns-in-GoTo-clause-fault c = c.go_to.ensures.fault

pub returns-in-GoToEnd-clause-does : goal.returns-in-GoToEnd-clause-does
returns-in-GoToEnd-clause-does c =
    subst (λ (k : Command). IfOk c.go_to_end.result (λ stub. (console : List ℕ) × Does k c.args.self stub console × (c.go_to_end.new.out.items ≡ c.args.out.now.items ++ console)))
    (sym c.in-GoToEnd.is) c.go_to_end.ensures.does

pub returns-in-GoToEnd-clause-refused : goal.returns-in-GoToEnd-clause-refused
returns-in-GoToEnd-clause-refused c = c.go_to_end.ensures.refused

pub returns-in-GoToEnd-clause-fault : goal.returns-in-GoToEnd-clause-fault
returns-in-GoToEnd-clause-fault c = c.go_to_end.ensures.fault

pub returns-in-Until-clause-does : goal.returns-in-Until-clause-does
returns-in-Until-clause-does c =
    subst (λ (k : Command). IfOk c.stop_at.result (λ stub. (console : List ℕ) × Does k c.args.self stub console × (c.stop_at.new.out.items ≡ c.args.out.now.items ++ console)))
    (sym c.in-Until.is) c.stop_at.ensures.does

pub returns-in-Until-clause-refused : goal.returns-in-Until-clause-refused
returns-in-Until-clause-refused c = c.stop_at.ensures.refused

pub returns-in-Until-clause-fault : goal.returns-in-Until-clause-fault
returns-in-Until-clause-fault c = c.stop_at.ensures.fault

pub returns-in-Limit-clause-does : goal.returns-in-Limit-clause-does
returns-in-Limit-clause-does c =
    subst (λ (k : Command). IfOk c.limit.result (λ stub. (console : List ℕ) × Does k c.args.self stub console × (c.limit.new.out.items ≡ c.args.out.now.items ++ console)))
    (sym c.in-Limit.is) c.limit.ensures.does

pub returns-in-Limit-clause-refused : goal.returns-in-Limit-clause-refused
returns-in-Limit-clause-refused c = never_refused c.limit.result c.limit.ensures.fault

pub returns-in-Limit-clause-fault : goal.returns-in-Limit-clause-fault
returns-in-Limit-clause-fault c = only_memory c.limit.result c.limit.ensures.fault

pub returns-in-Events-clause-does : goal.returns-in-Events-clause-does
returns-in-Events-clause-does c =
    subst (λ (k : Command). IfOk c.tell_standing.result (λ stub. (console : List ℕ) × Does k c.args.self stub console × (c.tell_standing.new.out.items ≡ c.args.out.now.items ++ console)))
    (sym c.in-Events.is) c.tell_standing.ensures.does

pub returns-in-Events-clause-refused : goal.returns-in-Events-clause-refused
returns-in-Events-clause-refused c = never_refused c.tell_standing.result c.tell_standing.ensures.fault

pub returns-in-Events-clause-fault : goal.returns-in-Events-clause-fault
returns-in-Events-clause-fault c = only_memory c.tell_standing.result c.tell_standing.ensures.fault

pub returns-in-Inspect-clause-does : goal.returns-in-Inspect-clause-does
returns-in-Inspect-clause-does c =
    subst (λ (k : Command). IfOk c.tell_listing.result (λ stub. (console : List ℕ) × Does k c.args.self stub console × (c.tell_listing.new.out.items ≡ c.args.out.now.items ++ console)))
    (sym c.in-Inspect.is) c.tell_listing.ensures.does

pub returns-in-Inspect-clause-refused : goal.returns-in-Inspect-clause-refused
returns-in-Inspect-clause-refused c = never_refused c.tell_listing.result c.tell_listing.ensures.fault

pub returns-in-Inspect-clause-fault : goal.returns-in-Inspect-clause-fault
returns-in-Inspect-clause-fault c = only_memory c.tell_listing.result c.tell_listing.ensures.fault

pub returns-in-Fork-clause-does : goal.returns-in-Fork-clause-does
returns-in-Fork-clause-does c =
    subst (λ (k : Command). IfOk c.end_here.result (λ stub. (console : List ℕ) × Does k c.args.self stub console × (c.end_here.new.out.items ≡ c.args.out.now.items ++ console)))
    (sym c.in-Fork.is) c.end_here.ensures.does

pub returns-in-Fork-clause-refused : goal.returns-in-Fork-clause-refused
returns-in-Fork-clause-refused c = c.end_here.ensures.refused

pub returns-in-Fork-clause-fault : goal.returns-in-Fork-clause-fault
returns-in-Fork-clause-fault c = c.end_here.ensures.fault

pub returns-in-Append-clause-does : goal.returns-in-Append-clause-does
returns-in-Append-clause-does c =
    subst (λ (k : Command). IfOk c.make_by.result (λ stub. (console : List ℕ) × Does k c.args.self stub console × (c.make_by.new.out.items ≡ c.args.out.now.items ++ console)))
    (sym c.in-Append.is) c.make_by.ensures.does

pub returns-in-Append-clause-refused : goal.returns-in-Append-clause-refused
returns-in-Append-clause-refused c = c.make_by.ensures.refused

pub returns-in-Append-clause-fault : goal.returns-in-Append-clause-fault
returns-in-Append-clause-fault c = c.make_by.ensures.fault

pub returns-in-Extend-clause-does : goal.returns-in-Extend-clause-does
returns-in-Extend-clause-does c =
    subst (λ (k : Command). IfOk c.go_on_by_turns.result (λ stub. (console : List ℕ) × Does k c.args.self stub console × (c.go_on_by_turns.new.out.items ≡ c.args.out.now.items ++ console)))
    (sym c.in-Extend.is) c.go_on_by_turns.ensures.does

pub returns-in-Extend-clause-refused : goal.returns-in-Extend-clause-refused
returns-in-Extend-clause-refused c = c.go_on_by_turns.ensures.refused

pub returns-in-Extend-clause-fault : goal.returns-in-Extend-clause-fault
returns-in-Extend-clause-fault c = c.go_on_by_turns.ensures.fault

pub returns-in-Help-clause-does : goal.returns-in-Help-clause-does
returns-in-Help-clause-does c =
    subst (λ (k : Command). IfOk c.tell_help.result (λ stub. (console : List ℕ) × Does k c.args.self stub console × (c.tell_help.new.out.items ≡ c.args.out.now.items ++ console)))
    (sym c.in-Help.is) c.tell_help.ensures.does

pub returns-in-Help-clause-refused : goal.returns-in-Help-clause-refused
returns-in-Help-clause-refused c = never_refused c.tell_help.result c.tell_help.ensures.fault

pub returns-in-Help-clause-fault : goal.returns-in-Help-clause-fault
returns-in-Help-clause-fault c = only_memory c.tell_help.result c.tell_help.ensures.fault
