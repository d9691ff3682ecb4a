use Rattle.std.proofs.Common.{rules, ◌≡◌, ◌∙◌, ◌+◌, get_or, arith}
use Rattle.std.proofs.lemmas.List.{get_or-set_other, get_or-set_same}
use Rattle.std.specs.Prelude.{slice_set}
use Rattle.ckrt_look_timeline.specs.declared.piece.Activity.TheVariants as activity
use Rattle.ckrt_look_timeline.specs.Activities.{activity_of}
use Rattle.ckrt_look_timeline.proofs.TrackLemmas.{up_to}
use Rattle.ckrt_look_timeline.proofs.activity.activities.Goals as goal

pub loop-index-preserved : goal.loop-index-preserved
loop-index-preserved c =
    let now = c.loop-index.now in
    let k = c.loop-index.index in
    let a = c.activity_of.result in
    let so_far = c.loop-index.invariant in
    record {
      many = search rules;
      each = λ i less. up_to (λ j. get_or (slice_set now k a) j activity.Absent ≡ activity_of c.args.hart (j + 1) c.args.threads.now) k i
          (λ j before. get_or-set_other now k j a activity.Absent (omega (arith, before)) ∙ so_far.each j before)
          (get_or-set_same now k a activity.Absent (omega (arith, so_far.many, c.loop-index-test.true)) ∙ c.activity_of.ensures)
          less;
    }
