use Rattle.std.proofs.Common.{◌≡◌, ap, sym, subst, false, ◌∙◌}
use Rattle.ckrt_gdb_history.specs.declared.position.Position.{Position}
use Rattle.ckrt_gdb_history.specs.Positions.{History, IsBefore, IsPosition, IsUpTo, next_position, previous_position}
use Rattle.ckrt_gdb_history.specs.Stops.{has_accessed, watched_at}
use Rattle.ckrt_gdb_history.specs.Search.{MayPass}
use Rattle.ckrt_gdb_history.proofs.OrderLemmas.{next_up_to}
use Rattle.ckrt_gdb_history.proofs.PassLemmas.{accessed_there, may_pass_there, passes, same_before, step_accessed, step_history, step_passes, step_same}
use Rattle.ckrt_gdb_history.proofs.SearchLemmas.{room_ahead}
use Rattle.ckrt_gdb_history.proofs.history.History.go_past.Goals as goal

pub step_forward-requires : goal.step_forward-requires
step_forward-requires c =
    let h = c.args.self.now in
    room_ahead h.position c.args.last h.events h.start c.requires.last c.requires.more

pub returns-then-accesses : goal.returns-then-accesses
returns-then-accesses c =
    let stops = c.args.stops.now in let h = c.args.self.now in let last = c.args.last in let y = c.step_forward.new.self in
    let all = c.known.ensures.accepted in let is = c.known.ensures.position in
    let some = room_ahead h.position last h.events h.start c.requires.last c.requires.more in
    record {
      history = step_history stops h y all is some c.step_forward.ensures;
      passes = step_passes stops h y all is some c.step_forward.ensures last (next_up_to h.position h.events h.start last c.requires.last c.requires.more);
      same = step_same stops h y all is some c.step_forward.ensures;
      accessed = step_accessed stops h y all is some c.step_forward.ensures (sym c.accesses-accesses.ensures ∙ c.if-accesses.true);
    }

pub pass-requires : goal.pass-requires
pass-requires c =
    let h = c.args.self.now in let last = c.args.last in
    record {
      last = subst (λ (x : History). IsPosition last x.events x.start) (sym c.step_forward.ensures) c.requires.last;
      ahead = subst (λ (x : History). IsUpTo x.position last) (sym c.step_forward.ensures) (next_up_to h.position h.events h.start last c.requires.last c.requires.more);
    }

pub returns : goal.returns
returns c =
    let stops = c.args.stops.now in let h = c.args.self.now in let last = c.args.last in let p = h.position in
    let y = c.step_forward.new.self in let new = c.pass.new.self in let q = new.position in
    let seen = c.as_slice.result.now in
    let next = next_position p h.events h.start in
    let gone : new ≡ record h { position = q } = c.pass.ensures.history ∙ ap (λ (x : History). record x { position = q }) c.step_forward.ensures in
    let some = room_ahead p last h.events h.start c.requires.last c.requires.more in
    let one = subst (λ (x : History). IsPosition q x.events x.start) gone c.pass.ensures.is_one in
    let seen_is = c.as_slice.ensures.value ∙ c.seen-seen.ensures in
    let still = sym c.accesses-accesses.ensures ∙ c.if-accesses.false in
    let free = λ (_ : IsBefore next q). still in
    let up = subst (λ (x : History). IsUpTo x.position q) c.step_forward.ensures c.pass.ensures.behind in
    let passed : (r : Position) → IsUpTo next r → IsBefore r q → MayPass stops seen h r = λ r least less.
    may_pass_there stops seen h y next r c.step_forward.ensures (c.pass.ensures.passed r (subst (λ (x : History). IsUpTo x.position r) (sym c.step_forward.ensures) least) less) in
    record {
      history = gone;
      passes = passes stops seen h p q c.known.ensures.accepted c.known.ensures.position some one seen_is free up passed last c.pass.ensures.within;
      same = subst (λ (x : History). watched_at stops.watches.items (previous_position q x.events x.start) x.events x.start ≡ watched_at stops.watches.items p h.events h.start) (sym gone)
          (same_before stops seen h p q c.known.ensures.accepted c.known.ensures.position some one seen_is free up passed);
      accessed = subst (λ (x : History). false ≡ has_accessed stops.watches.items q x.events x.start) (sym gone)
          (sym (accessed_there stops seen h p q c.known.ensures.accepted c.known.ensures.position some one seen_is free up passed still));
    }
