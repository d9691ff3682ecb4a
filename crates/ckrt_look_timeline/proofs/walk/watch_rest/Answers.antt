use Rattle.std.proofs.Common.{◌≡◌, ◌∙◌, ◌+◌, ◌-◌, ◌++◌, replicate, append_assoc, sym, ap, arith}
use Rattle.std.proofs.lemmas.List.{append-nil}
use Rattle.ckrt_look_calls.specs.Events.{state_behind}
use Rattle.ckrt_look_calls.proofs.RunLemmas.{state_ended, state_used}
use Rattle.ckrt_look_timeline.specs.Activities.{activity_of}
use Rattle.ckrt_look_timeline.specs.Tracks.{in_rest, track_in}
use Rattle.ckrt_look_timeline.proofs.WalkLemmas.{rest_ended, rest_used}
use Rattle.ckrt_look_timeline.proofs.walk.watch_rest.Goals as goal

-- some steps more
pub loop-left-preserved : goal.loop-left-preserved
loop-left-preserved c =
    let so_far = c.loop-left.invariant in
    let went = c.in_ok-made.ensures in
    let h = c.args.hart in
    let s = c.loop-left.machine.state in
    let m = c.watch_piece.new.machine in
    let made = c.in_ok-made.made in
    let left = c.loop-left.left - made in
    record {
      state = went.alike.state ∙ so_far.state;
      whole = went.goes_on.whole;
      steps = omega (arith, went.steps, went.alike.within, so_far.steps);
      tracks = λ i less.
          let before = track_in c.loop-left.timeline i in
          let same = replicate made (activity_of h (i + 1) s.tables.threads) in
          let rest = in_rest (i + 1) left h m.state m.output in
          ap (λ l. l ++ rest) (went.goes_on.tracks i less) ∙ append_assoc before same rest ∙ ap (λ l. before ++ l) (sym (went.alike.alike (i + 1))) ∙ so_far.tracks i less;
    }

-- something ended the run
pub returns-then-is_stopped : goal.returns-then-is_stopped
returns-then-is_stopped c =
    let so_far = c.loop-left.invariant in
    let m = c.loop-left.machine in
    let h = c.args.hart in
    let n = c.loop-left.left in
    record {
      state = sym (state_ended n h m.state m.output (sym c.is_stopped.ensures ∙ c.if-is_stopped.true)) ∙ so_far.state;
      goes_on = record {
        whole = so_far.whole;
        tracks = λ i less.
            let all = track_in c.loop-left.timeline i in
            sym (append-nil all) ∙ ap (λ l. all ++ l) (sym (rest_ended (i + 1) n h m.state m.output (sym c.is_stopped.ensures ∙ c.if-is_stopped.true))) ∙ so_far.tracks i less;
      };
      steps = omega (arith, so_far.steps);
    }

-- none is left
pub returns : goal.returns
returns c =
    let so_far = c.loop-left.invariant in
    let m = c.loop-left.machine in
    let h = c.args.hart in
    let n = c.loop-left.left in
    let none : n ≡ 0 = omega (arith, c.loop-left-test.false) in
    record {
      state = sym (state_used h m.state m.output) ∙ ap (λ j. state_behind j h m.state m.output) (sym none) ∙ so_far.state;
      goes_on = record {
        whole = so_far.whole;
        tracks = λ i less.
            let all = track_in c.loop-left.timeline i in
            sym (append-nil all) ∙ ap (λ l. all ++ l) (sym (rest_used (i + 1) h m.state m.output) ∙ ap (λ j. in_rest (i + 1) j h m.state m.output) (sym none)) ∙ so_far.tracks i less;
      };
      steps = omega (arith, so_far.steps);
    }
