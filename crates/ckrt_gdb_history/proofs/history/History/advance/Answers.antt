use Rattle.std.proofs.Common.{◌≡◌, inl, inr, refl, sym, ◌∙◌}
use Rattle.std.proofs.lemmas.Bool.{false≢true}
use Rattle.ckrt_gdb_history.specs.Stops.{HasChanged}
use Rattle.ckrt_gdb_history.proofs.SearchLemmas.{changed, stops_by_access, stops_by_halt, unchanged}
use Rattle.ckrt_gdb_history.proofs.history.History.advance.Goals as goal

pub returns-then-has_accessed-clause-stop : goal.returns-then-has_accessed-clause-stop
returns-then-has_accessed-clause-stop c =
    let went = c.go_past-has_accessed in let looked = c.sees_others-has_changed in (
      λ _. (elim c.then-has_accessed.either [
        | inl a ↦ stops_by_access c.args.stops.now went.new.self went.result went.ensures.accessed a
        | inr a ↦ inr (inl (changed c.args.stops.now c.args.self.now went.new.self c.args.seen.now.items looked.new.seen.items went.ensures.same c.requires.seen looked.ensures.seen (looked.ensures.others.0 a.1)))
      ]),
      λ _. refl,
    )

pub returns-clause-stop : goal.returns-clause-stop
returns-clause-stop c =
    let went = c.go_past-has_accessed in let looked = c.sees_others-has_changed in let new = went.new.self in
    let never = λ (other : HasChanged c.args.stops.now.watches.items went.new.self.position went.new.self.events went.new.self.start).
    false≢true (sym c.if-has_changed.false ∙ looked.ensures.others.1 (λ same. unchanged c.args.stops.now c.args.self.now new c.args.seen.now.items looked.new.seen.items went.ensures.same c.requires.seen looked.ensures.seen same other)) in (
      λ halts. inl (sym c.is_halt.ensures ∙ halts),
      stops_by_halt c.args.stops.now new went.result c.is_halt.result went.ensures.accessed c.if-has_accessed.false never c.is_halt.ensures,
    )
