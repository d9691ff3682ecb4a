use Rattle.std.proofs.Common.{sym, subst, ◌∙◌}
use Rattle.std.proofs.lemmas.Bool.{false≢true}
use Rattle.ckrt_gdb_history.specs.Positions.{History, IsBefore, IsPosition, NoneBehind}
use Rattle.ckrt_gdb_history.specs.Stops.{IsStop}
use Rattle.ckrt_gdb_history.proofs.OrderLemmas.{not_both}
use Rattle.ckrt_gdb_history.proofs.SearchLemmas.{fewer, first_hit, none_more, way_ends, way_on, way_room, way_seen, way_starts}
use Rattle.ckrt_gdb_history.proofs.history.History.forward.Goals as goal

pub steps-init : goal.steps-init
steps-init c =
    let h = c.args.self.now in
    record {
      way = way_starts c.args.stops.now h c.args.last c.watched-seen.result.items c.known.ensures.position c.requires.ahead c.watched-seen.ensures;
      none = λ r is less up holds. not_both h.position r less up;
    }

pub advance-requires : goal.advance-requires
advance-requires c =
    let z = c.steps.self in let way = c.steps.invariant.way in
    record {
      width = c.requires.width;
      last = subst (λ (x : History). IsPosition c.args.last x.events x.start) (sym way.history) c.requires.last;
      more = subst (λ q. IsBefore q c.args.last) c.position.ensures.position (c.is_before.ensures.0 c.steps-test.true);
      seen = way_seen c.args.stops.now c.args.self.now c.args.last z c.steps.seen.items way;
    }

pub steps-preserved : goal.steps-preserved
steps-preserved c =
    let stops = c.args.stops.now in let h = c.args.self.now in let z = c.steps.self in let way = c.steps.invariant.way in
    let seen = c.steps.seen.items in let new = c.advance.new.self in
    let never = λ (holds : IsStop stops new new.position). false≢true (sym c.if-advance.false ∙ c.advance.ensures.stop.1 holds) in
    record {
      way = way_on stops h c.args.last z seen way new c.advance.ensures.history c.advance.ensures.passes c.advance.new.seen.items c.advance.ensures.seen;
      none = none_more stops h c.args.last z seen way new c.advance.ensures.history c.advance.ensures.passes never c.steps.invariant.none;
    }

pub steps-smaller : goal.steps-smaller
steps-smaller c =
    let stops = c.args.stops.now in let h = c.args.self.now in let z = c.steps.self in let way = c.steps.invariant.way in
    let more = subst (λ q. IsBefore q c.args.last) c.position.ensures.position (c.is_before.ensures.0 c.steps-test.true) in
    fewer (IsStop stops z) c.args.last z c.advance.new.self c.advance.ensures.history c.advance.ensures.passes c.position.result c.position.ensures.position c.position.ensures.is_one (way_room stops h c.args.last z c.steps.seen.items way c.requires.last more)

pub returns-then-advance : goal.returns-then-advance
returns-then-advance c =
    let stops = c.args.stops.now in let h = c.args.self.now in let z = c.steps.self in let way = c.steps.invariant.way in
    let seen = c.steps.seen.items in let new = c.advance.new.self in
    let on = way_on stops h c.args.last z seen way new c.advance.ensures.history c.advance.ensures.passes c.advance.new.seen.items c.advance.ensures.seen in
    record {
      history = on.history;
      found = λ _. first_hit stops h c.args.last z seen way new c.advance.ensures.history c.advance.ensures.passes (c.advance.ensures.stop.0 c.if-advance.true) c.steps.invariant.none;
      none = λ e. absurd (false≢true (sym e));
    }

pub returns : goal.returns
returns c =
    let stops = c.args.stops.now in let h = c.args.self.now in let z = c.steps.self in let way = c.steps.invariant.way in
    let over = λ (before : IsBefore z.position c.args.last). false≢true (sym c.steps-test.false ∙ c.is_before.ensures.1 (subst (λ q. IsBefore q c.args.last) (sym c.position.ensures.position) before)) in
    let end = way_ends stops h c.args.last z c.steps.seen.items way over in
    record {
      history = way.history;
      found = λ e. absurd (false≢true e);
      none = λ _. (end, subst (λ q. NoneBehind (IsStop stops h) h.position q h) end c.steps.invariant.none);
    }
