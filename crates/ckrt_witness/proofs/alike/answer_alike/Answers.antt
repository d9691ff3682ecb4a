use Rattle.std.proofs.Common.{rules, []}
use Rattle.std.specs.Prelude.{◌≢◌}
use Rattle.ckrt_witness.proofs.alike.answer_alike.Goals as goal

pub returns : goal.returns
returns g c = λ is p events some one other.
    let some_line : c.args.line.now ≢ [] = search rules in
    record {
      program = p;
      events = events;
      some = some;
      one = c.args.one;
      represents = one;
      other = c.args.other;
      represented_again = other;
      alike = c.same_events_are_alike.ensures p events one other;
      takes = c.takes_event.ensures c.if-not-takes_event.false;
      takes_again = c.takes_event-2.ensures is;
      some_line = some_line;
    }
