use Rattle.std.proofs.Common.{◌+◌, ◌≡◌, ◌∙◌, Some, ap, ap₂, arith, sym}
use Rattle.std.specs.Prelude.{slice_get}
use Rattle.std.proofs.lemmas.Option.{slice_get-get_or}
use Rattle.ckrt_hunt_schedules.specs.Tallies.{plus}
use Rattle.ckrt_hunt_schedules.proofs.ShownLemmas.{no_total, total_more}
use Rattle.ckrt_hunt_schedules.proofs.shown.total_of.Goals as goal

pub loop-place-init : goal.loop-place-init
loop-place-init c = sym (no_total c.args.measure c.args.rows.now)

-- one row more
pub loop-place-preserved : goal.loop-place-preserved
loop-place-preserved c =
    let rows = c.args.rows.now in
    let n = c.loop-place.place in
    let r = c.index-rows-place.result in
    let there : slice_get rows n ≡ Some r = slice_get-get_or rows n r c.loop-place-test.true ∙ ap Some (sym c.index-rows-place.is) in
    c.saturating_add-total.ensures ∙ ap₂ plus c.loop-place.invariant c.amount_at.ensures ∙ sym (total_more c.args.measure rows n (n + 1) r (omega arith) there)
