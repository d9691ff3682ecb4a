use Rattle.std.proofs.Common.{◌≡◌, IsTrue, inl, inr, subst}
use Rattle.ckrt_gdb_history.specs.Positions.{History}
use Rattle.ckrt_gdb_history.specs.Stops.{IsStop}
use Rattle.ckrt_gdb_history.proofs.SearchLemmas.{last_before, more_before, there_again}
use Rattle.ckrt_gdb_history.proofs.history.History.look_at.Goals as goal

pub advance-requires : goal.advance-requires
advance-requires c =
    let p = c.args.position in
    let some : p.steps ≡ 0 → p.events ≡ 0 → ⊥ = λ none first. elim c.else-position-eq0.either [ inl a ↦ a.1 none | inr a ↦ a first ] in
    record {
      width = c.requires.width;
      last = last_before c.args.self.now c.go_to.new.self c.step_back.new.self p c.go_to.ensures c.step_back.ensures c.known.ensures.accepted c.requires.position some;
      more = more_before c.args.self.now c.go_to.new.self c.step_back.new.self p c.go_to.ensures c.step_back.ensures c.known.ensures.accepted c.requires.position some;
      seen = c.watched-seen.ensures;
    }

pub returns-clause-position : goal.returns-clause-position
returns-clause-position c =
    let p = c.args.position in
    let some : p.steps ≡ 0 → p.events ≡ 0 → ⊥ = λ none first. elim c.else-position-eq0.either [ inl a ↦ a.1 none | inr a ↦ a first ] in
    there_again c.args.self.now c.go_to.new.self c.step_back.new.self p c.go_to.ensures c.step_back.ensures c.known.ensures.accepted c.requires.position some
    c.args.stops.now c.advance.new.self c.advance.ensures.history c.advance.ensures.passes

pub returns-clause-stop : goal.returns-clause-stop
returns-clause-stop c =
    let p = c.args.position in
    let some : p.steps ≡ 0 → p.events ≡ 0 → ⊥ = λ none first. elim c.else-position-eq0.either [ inl a ↦ a.1 none | inr a ↦ a first ] in
    let again = there_again c.args.self.now c.go_to.new.self c.step_back.new.self p c.go_to.ensures c.step_back.ensures c.known.ensures.accepted c.requires.position some
    c.args.stops.now c.advance.new.self c.advance.ensures.history c.advance.ensures.passes in
    subst (λ (y : History). (IsTrue c.advance.result → IsStop c.args.stops.now y y.position) × (IsStop c.args.stops.now y y.position → IsTrue c.advance.result)) again c.advance.ensures.stop
