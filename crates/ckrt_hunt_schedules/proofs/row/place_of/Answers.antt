use Rattle.std.proofs.Common.{◌≢◌, get_or, sym, ◌∙◌}
use Rattle.std.proofs.lemmas.Option.{slice_get-get_or}
use Rattle.ckrt_hunt_schedules.proofs.SameLemmas.{told_decides}
use Rattle.ckrt_hunt_schedules.proofs.TallyLemmas.{none_on}
use Rattle.ckrt_hunt_schedules.proofs.row.place_of.Goals as goal

pub returns-then-eq-clause-found : goal.returns-then-eq-clause-found
returns-then-eq-clause-found c =
    let r = get_or c.args.rows.now c.loop-place.place c.index-rows-place.result in (
      r,
      record {
        row = slice_get-get_or c.args.rows.now c.loop-place.place c.index-rows-place.result c.loop-place-test.true;
        same = (told_decides r.told c.args.told.now).0 (sym c.eq.ensures ∙ c.if-eq.true);
        before = c.loop-place.invariant;
      },
    )

pub loop-place-preserved : goal.loop-place-preserved
loop-place-preserved c =
    let r = get_or c.args.rows.now c.loop-place.place c.index-rows-place.result in
    let other : r.told ≢ c.args.told.now = λ same. (let yes = c.eq.ensures ∙ (told_decides r.told c.args.told.now).1 same in let no = c.if-eq.false in absurd (cc)) in
    none_on c.args.told.now c.args.rows.now c.loop-place.place r (slice_get-get_or c.args.rows.now c.loop-place.place c.index-rows-place.result c.loop-place-test.true) other c.loop-place.invariant
