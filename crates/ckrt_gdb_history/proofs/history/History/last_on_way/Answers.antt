use Rattle.std.proofs.Common.{ap, sym, subst, ◌∙◌}
use Rattle.std.proofs.lemmas.Bool.{false≢true}
use Rattle.ckrt_gdb_history.specs.Positions.{History, IsBefore, IsLast, IsLastOnWay, IsPosition}
use Rattle.ckrt_gdb_history.specs.Stops.{IsStop}
use Rattle.ckrt_gdb_history.proofs.OrderLemmas.{not_both}
use Rattle.ckrt_gdb_history.proofs.SearchLemmas.{fewer, last_hit, no_hit, too_far, way_ends, way_on, way_room, way_seen, way_starts}
use Rattle.ckrt_gdb_history.proofs.history.History.last_on_way.Goals as goal

pub steps-init : goal.steps-init
steps-init c =
    let h = c.args.self.now in
    record {
      way = way_starts c.args.stops.now h c.args.end c.watched-seen.result.items c.known.ensures.position c.requires.ahead c.watched-seen.ensures;
      found = λ r is less up before holds. not_both h.position r less up;
    }

pub advance-requires : goal.advance-requires
advance-requires c =
    let z = c.steps.self in let way = c.steps.invariant.way in
    record {
      width = c.requires.width;
      last = subst (λ (x : History). IsPosition c.args.end x.events x.start) (sym way.history) c.requires.end;
      more = subst (λ q. IsBefore q c.args.end) c.position.ensures.position (c.is_before.ensures.0 c.steps-test.true);
      seen = way_seen c.args.stops.now c.args.self.now c.args.end z c.steps.seen.items way;
    }

pub steps-preserved-then-not-advance : goal.steps-preserved-then-not-advance
steps-preserved-then-not-advance c =
    let stops = c.args.stops.now in let h = c.args.self.now in let end = c.args.end in let z = c.steps.self in let way = c.steps.invariant.way in
    let seen = c.steps.seen.items in let new = c.advance.new.self in
    let never = λ (holds : IsStop stops new new.position). false≢true (sym c.if-not-advance.true ∙ c.advance.ensures.stop.1 holds) in
    record {
      way = way_on stops h end z seen way new c.advance.ensures.history c.advance.ensures.passes c.advance.new.seen.items c.advance.ensures.seen;
      found = no_hit stops h end z seen way new c.advance.ensures.history c.advance.ensures.passes c.args.here never c.steps.found c.steps.invariant.found;
    }

pub steps-smaller-then-not-advance : goal.steps-smaller-then-not-advance
steps-smaller-then-not-advance c =
    let stops = c.args.stops.now in let h = c.args.self.now in let end = c.args.end in let z = c.steps.self in let way = c.steps.invariant.way in
    let seen = c.steps.seen.items in let new = c.advance.new.self in
    let more = subst (λ q. IsBefore q end) c.position.ensures.position (c.is_before.ensures.0 c.steps-test.true) in
    fewer (IsStop stops z) end z new c.advance.ensures.history c.advance.ensures.passes c.position.result c.position.ensures.position c.position.ensures.is_one (way_room stops h end z seen way c.requires.end more)

pub steps-preserved-then-not-is_before : goal.steps-preserved-then-not-is_before
steps-preserved-then-not-is_before c =
    let stops = c.args.stops.now in let h = c.args.self.now in let end = c.args.end in let z = c.steps.self in let way = c.steps.invariant.way in
    let seen = c.steps.seen.items in let new = c.advance.new.self in
    let never = λ (before : IsBefore new.position c.args.here). false≢true (sym c.if-not-is_before.true ∙ c.is_before-in-steps.ensures.1 (subst (λ q. IsBefore q c.args.here) (sym c.position-position.ensures.position) before)) in
    record {
      way = way_on stops h end z seen way new c.advance.ensures.history c.advance.ensures.passes c.advance.new.seen.items c.advance.ensures.seen;
      found = too_far stops h end z seen way new c.advance.ensures.history c.advance.ensures.passes c.args.here never c.steps.found c.steps.invariant.found;
    }

pub steps-smaller-then-not-is_before : goal.steps-smaller-then-not-is_before
steps-smaller-then-not-is_before c =
    let stops = c.args.stops.now in let h = c.args.self.now in let end = c.args.end in let z = c.steps.self in let way = c.steps.invariant.way in
    let seen = c.steps.seen.items in let new = c.advance.new.self in
    let more = subst (λ q. IsBefore q end) c.position.ensures.position (c.is_before.ensures.0 c.steps-test.true) in
    fewer (IsStop stops z) end z new c.advance.ensures.history c.advance.ensures.passes c.position.result c.position.ensures.position c.position.ensures.is_one (way_room stops h end z seen way c.requires.end more)

pub steps-preserved : goal.steps-preserved
steps-preserved c =
    let stops = c.args.stops.now in let h = c.args.self.now in let end = c.args.end in let z = c.steps.self in let way = c.steps.invariant.way in
    let seen = c.steps.seen.items in let new = c.advance.new.self in
    let here = c.position-position.ensures.position in
    let before = subst (λ q. IsBefore q c.args.here) here (c.is_before-in-steps.ensures.0 c.if-not-is_before.false) in
    record {
      way = way_on stops h end z seen way new c.advance.ensures.history c.advance.ensures.passes c.advance.new.seen.items c.advance.ensures.seen;
      found = subst (λ q. IsLast (IsStop stops h) h.position new.position c.args.here q h) (sym here)
          (last_hit stops h end z seen way new c.advance.ensures.history c.advance.ensures.passes c.args.here (c.advance.ensures.stop.0 c.if-not-advance.false) before);
    }

pub steps-smaller : goal.steps-smaller
steps-smaller c =
    let stops = c.args.stops.now in let h = c.args.self.now in let end = c.args.end in let z = c.steps.self in let way = c.steps.invariant.way in
    let seen = c.steps.seen.items in let new = c.advance.new.self in
    let more = subst (λ q. IsBefore q end) c.position.ensures.position (c.is_before.ensures.0 c.steps-test.true) in
    fewer (IsStop stops z) end z new c.advance.ensures.history c.advance.ensures.passes c.position.result c.position.ensures.position c.position.ensures.is_one (way_room stops h end z seen way c.requires.end more)

pub returns : goal.returns
returns c =
    let stops = c.args.stops.now in let h = c.args.self.now in let z = c.steps.self in let way = c.steps.invariant.way in
    let over = λ (before : IsBefore z.position c.args.end). false≢true (sym c.steps-test.false ∙ c.is_before.ensures.1 (subst (λ q. IsBefore q c.args.end) (sym c.position.ensures.position) before)) in
    let ends = way_ends stops h c.args.end z c.steps.seen.items way over in
    record {
      position = way.history ∙ ap (λ q. record h { position = q }) ends;
      found = subst (λ q. IsLastOnWay (IsStop stops h) h.position q c.args.here h c.steps.found) ends c.steps.invariant.found;
    }
