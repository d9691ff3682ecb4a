use Rattle.std.proofs.Common.{◌≡◌, ◌∙◌, ◌+◌, ◌-◌, ◌∷◌, ◌++◌, [], ℕ, suc, get_or, ap, append_assoc, arith}
use Rattle.std.proofs.lemmas.Result.{on_ok_weaker}
use Rattle.ckrt_machine.specs.Runs.{run_on}
use Rattle.ckrt_calls.specs.declared.table.Tables.{Tables}
use Rattle.ckrt_look_calls.proofs.RunLemmas.{run_is}
use Rattle.ckrt_look_calls.specs.Events.{state_behind}
use Rattle.ckrt_look_timeline.specs.declared.piece.Activity.{Activity}
use Rattle.ckrt_look_timeline.specs.declared.piece.Activity.TheVariants as activity
use Rattle.ckrt_look_timeline.specs.Activities.{activity_of}
use Rattle.ckrt_look_timeline.specs.Tracks.{GoesOn, in_rest, in_run, track_in}
use Rattle.ckrt_look_timeline.proofs.WalkLemmas.{run_done}
use Rattle.ckrt_look_timeline.proofs.walk.watch_run.Goals as goal

pub returns-clause-state : goal.returns-clause-state
returns-clause-state c =
    let s = c.args.machine.now.state in
    let h = c.args.hart in
    let n : ℕ = c.args.limit - 1 in
    let all : suc n ≡ c.args.limit = omega (arith, c.requires.some) in
    let m = c.advance.new.machine in
    let end = c.watch_rest.new.machine.state in
    let go : end ≡ state_behind n h m.state m.output → end ≡ (run_on c.args.limit h s []).state =
    λ is. is ∙ run_is n c.args.limit h s m.state m.output all c.advance.ensures.state c.advance.ensures.output in
    on_ok_weaker c.watch_rest.result go c.watch_rest.ensures.state

pub returns-clause-goes_on : goal.returns-clause-goes_on
returns-clause-goes_on c =
    let s = c.args.machine.now.state in
    let h = c.args.hart in
    let n : ℕ = c.args.limit - 1 in
    let all : suc n ≡ c.args.limit = omega (arith, c.requires.some) in
    let m = c.advance.new.machine in
    let now = c.activities-now.result in
    let before = c.args.timeline.now in
    let noted = c.in_ok-note.ensures.goes_on in
    let go : GoesOn (λ i. in_rest (i + 1) n h m.state m.output) c.note.new.timeline c.watch_rest.new.timeline → GoesOn (λ i. in_run (i + 1) c.args.limit h s []) before c.watch_rest.new.timeline =
    λ rest. record {
      whole = rest.whole;
      tracks = λ i less.
          let more = in_rest (i + 1) n h m.state m.output in
          let is : get_or now i activity.Absent ≡ activity_of h (i + 1) s.tables.threads = c.activities-now.ensures i less ∙ ap (λ (z : Tables). activity_of h (i + 1) z.threads) c.tables.ensures.tables in
          rest.tracks i less ∙ ap (λ l. l ++ more) (noted.tracks i less) ∙ append_assoc (track_in before i) (get_or now i activity.Absent ∷ []) more
          ∙ ap (λ (a : Activity). track_in before i ++ (a ∷ more)) is
          ∙ ap (λ l. track_in before i ++ l) (run_done (i + 1) n c.args.limit h s m.state m.output all c.advance.ensures.state c.advance.ensures.output);
    } in
    on_ok_weaker c.watch_rest.result go c.watch_rest.ensures.goes_on
