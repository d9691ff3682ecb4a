use Rattle.ckrt_machine.proofs.accept.running_refusal.Goals as goal

pub returns-in-Place : goal.returns-in-Place
returns-in-Place c = rw c.in-Place.is (c.place_refusal.ensures c.args.held)

pub returns-in-Input : goal.returns-in-Input
returns-in-Input c = rw c.in-Input.is (c.input_refusal.ensures c.args.held)

pub returns-in-Eof : goal.returns-in-Eof
returns-in-Eof c = rw c.in-Eof.is (c.eof_refusal.ensures c.args.held)

pub returns-in-Tick : goal.returns-in-Tick
returns-in-Tick c = rw c.in-Tick.is (c.tick_refusal.ensures c.args.held)
