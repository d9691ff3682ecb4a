use Rattle.std.proofs.Common.{◌≡◌, false, None, take}
use Rattle.ckrt_recovery.specs.View.{view_of}
use Rattle.ckrt_main.specs.Commands.{respond_to}
use Rattle.ckrt_main.specs.LifePieces.{Does, IsConfirmed}
use Rattle.ckrt_main.proofs.session.perform_all.Given as goal

abbrev pub invariant-loop-command : goal.invariant-loop-command
invariant-loop-command g l = record {
  does : Does (respond_to (take l.command-index l.commands) None (view_of l.fn.session)) l.fn.released.items l.released.items l.fn.session l.session;
  goes_on : (respond_to (take l.command-index l.commands) None (view_of l.fn.session)).quit ≡ false;
  confirmed : IsConfirmed l.fn.session → IsConfirmed l.session;
}
