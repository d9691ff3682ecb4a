use Rattle.std.proofs.Common.{refl}
use Rattle.ckrt_hunt_schedules.specs.declared.kind.Kind.TheVariants as kind
use Rattle.ckrt_hunt_schedules.proofs.TallyLemmas.{noted_as}
use Rattle.ckrt_hunt_schedules.proofs.tally.Tally.note.Goals as goal

pub returns-in-Fault : goal.returns-in-Fault
returns-in-Fault c = noted_as c.args.seed c.args.run kind.Fault c.note.new.self c.args.self.now _ c.in-Fault.ensures c.note.ensures refl

pub returns-in-Deadlock : goal.returns-in-Deadlock
returns-in-Deadlock c = noted_as c.args.seed c.args.run kind.Deadlock c.note-in-Deadlock.new.self c.args.self.now _ c.in-Deadlock.ensures c.note-in-Deadlock.ensures refl

pub returns-in-OtherStatus : goal.returns-in-OtherStatus
returns-in-OtherStatus c = noted_as c.args.seed c.args.run kind.OtherStatus c.note-in-OtherStatus.new.self c.args.self.now _ c.in-OtherStatus.ensures c.note-in-OtherStatus.ensures refl

pub returns-in-NoEnd : goal.returns-in-NoEnd
returns-in-NoEnd c = noted_as c.args.seed c.args.run kind.NoEnd c.note-in-NoEnd.new.self c.args.self.now _ c.in-NoEnd.ensures c.note-in-NoEnd.ensures refl

pub returns-in-WaitsForInput : goal.returns-in-WaitsForInput
returns-in-WaitsForInput c = noted_as c.args.seed c.args.run kind.WaitsForInput c.note-in-WaitsForInput.new.self c.args.self.now _ c.in-WaitsForInput.ensures c.note-in-WaitsForInput.ensures refl

pub returns-in-ExitZero : goal.returns-in-ExitZero
returns-in-ExitZero c = noted_as c.args.seed c.args.run kind.ExitZero c.note-in-ExitZero.new.self c.args.self.now _ c.in-ExitZero.ensures c.note-in-ExitZero.ensures refl
