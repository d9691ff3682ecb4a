use Rattle.std.proofs.Common.{◌≡◌, ◌≤◌, true, false, [], ◌∷◌, length, is_err, refl, ◌∙◌, ap, subst, arith}
use Rattle.std.proofs.lemmas.Result.{on_ok_weaker}
use Rattle.ckrt_disk.specs.Disk.{IsOverwritten}
use Rattle.ckrt_disk.proofs.FrameLemmas.{failed_within}
use Rattle.ckrt_stored.specs.Schedules.{NotesAt}
use Rattle.ckrt_stored.proofs.ScheduleLemmas.{as_note, first_call, in_pick, in_put, in_sync, new_there, picked, still_takes_noted, then_note, then_pick}
use Rattle.ckrt_stored.proofs.noting.write_note.Goals as goal

-- MOMENTS

pub returns-in_err-settle-clause-any_moment : goal.returns-in_err-settle-clause-any_moment
returns-in_err-settle-clause-any_moment g c = λ takes free honest.
    in_sync g.D.Disk c.args.schedule.now c.args.disk.now c.settle.new.disk true honest c.in_err-settle.ensures.within

pub returns-in_err-write_synced-clause-any_moment :
    goal.returns-in_err-write_synced-clause-any_moment
returns-in_err-write_synced-clause-any_moment g c = λ takes free honest.
    let d = g.D.Disk in let s = c.args.schedule.now in let first = c.args.is_first in let s₀ = c.args.disk.now in let s₁ = c.settle.new.disk in let s₂ = c.write_synced.new.disk in
    let was : d.is_honest s₁ = c.write_synced.ensures.within.same.honest honest in
    let is = c.as_slice.ensures.value ∙ c.schedule_bytes-bytes.ensures.bytes in
    in_put d s first s₀ s₁ (c.in_ok-settle.ensures.content was) (c.in_ok-settle.ensures.nothing_pending was) free (in_sync d s s₀ s₁ false was c.in_ok-settle.ensures.within) s₂ true honest
    (as_note d first c.place_of.result (length c.as_slice.result.now) s₁ s₂ true c.place_of.ensures (ap length is) c.in_err-write_synced.ensures.within)

pub returns-clause-any_moment : goal.returns-clause-any_moment
returns-clause-any_moment g c = λ takes free honest.
    let d = g.D.Disk in let s = c.args.schedule.now in let first = c.args.is_first in let s₀ = c.args.disk.now in let s₁ = c.settle.new.disk in let s₂ = c.write_synced.new.disk in
    let s₃ = c.write_synced-2.new.disk in
    let put : d.is_honest s₂ = c.write_synced-2.ensures.within.same.honest honest in
    let was : d.is_honest s₁ = c.write_synced.ensures.within.same.honest put in
    let is = c.as_slice.ensures.value ∙ c.schedule_bytes-bytes.ensures.bytes in
    let long : 4096 ≤ length (d.content s₁) = omega (arith, c.requires.room, c.settle.ensures.within.same.size, g.met.D.Disk.whole s₁ was) in
    in_pick d s first s₀ s₁ (c.in_ok-settle.ensures.content was) (c.in_ok-settle.ensures.nothing_pending was) free (in_sync d s s₀ s₁ false was c.in_ok-settle.ensures.within) s₂ put
    (as_note d first c.place_of.result (length c.as_slice.result.now) s₁ s₂ false c.place_of.ensures (ap length is) c.in_ok-write_synced.ensures.within)
    (c.in_ok-write_synced.ensures.nothing_pending put) takes
    (new_there (d.content s₁) (d.content s₂) c.as_slice.result.now c.place_of.result first s c.place_of.ensures is (c.in_ok-write_synced.ensures.written put) long c.requires.turn c.schedule_bytes-bytes.ensures.turn c.schedule_bytes-bytes.ensures.seed)
    s₃ (is_err c.write_synced-2.result) honest c.write_synced-2.ensures.within

-- CALLS

pub returns-in_err-settle-clause-within : goal.returns-in_err-settle-clause-within
returns-in_err-settle-clause-within g c =
    failed_within g.D.Disk NotesAt 1 5 c.args.disk.now c.settle.new.disk (is_err c.from_residual.result) c.from_residual.ensures.0 (first_call g.D.Disk c.args.disk.now c.settle.new.disk true c.in_err-settle.ensures.within)

pub returns-in_err-write_synced-clause-within : goal.returns-in_err-write_synced-clause-within
returns-in_err-write_synced-clause-within g c =
    let d = g.D.Disk in let first = c.args.is_first in let s₀ = c.args.disk.now in let s₁ = c.settle.new.disk in let s₂ = c.write_synced.new.disk in
    let is = c.as_slice.ensures.value ∙ c.schedule_bytes-bytes.ensures.bytes in
    failed_within d NotesAt 3 5 s₀ s₂ (is_err c.from_residual-in_err-write_synced.result) c.from_residual-in_err-write_synced.ensures.0
    (then_note d first s₀ s₁ s₂ true c.in_ok-settle.ensures.within (as_note d first c.place_of.result (length c.as_slice.result.now) s₁ s₂ true c.place_of.ensures (ap length is) c.in_err-write_synced.ensures.within))

pub returns-clause-within : goal.returns-clause-within
returns-clause-within g c =
    let d = g.D.Disk in let first = c.args.is_first in let s₀ = c.args.disk.now in let s₁ = c.settle.new.disk in let s₂ = c.write_synced.new.disk in
    let is = c.as_slice.ensures.value ∙ c.schedule_bytes-bytes.ensures.bytes in
    then_pick d first s₀ s₁ s₂ c.write_synced-2.new.disk (is_err c.write_synced-2.result) c.in_ok-settle.ensures.within
    (as_note d first c.place_of.result (length c.as_slice.result.now) s₁ s₂ false c.place_of.ensures (ap length is) c.in_ok-write_synced.ensures.within)
    c.write_synced-2.ensures.within

-- WHAT IT NOTES

pub returns-clause-noted : goal.returns-clause-noted
returns-clause-noted g c = on_ok_weaker c.write_synced-2.result (λ written honest takes.
    let d = g.D.Disk in let s = c.args.schedule.now in let first = c.args.is_first in let s₁ = c.settle.new.disk in let s₂ = c.write_synced.new.disk in
    let put : d.is_honest s₂ = c.write_synced-2.ensures.within.same.honest honest in
    let was : d.is_honest s₁ = c.write_synced.ensures.within.same.honest put in
    let is = c.as_slice.ensures.value ∙ c.schedule_bytes-bytes.ensures.bytes in
    let long : 4096 ≤ length (d.content s₁) = omega (arith, c.requires.room, c.settle.ensures.within.same.size, g.met.D.Disk.whole s₁ was) in
    let note = as_note d first c.place_of.result (length c.as_slice.result.now) s₁ s₂ false c.place_of.ensures (ap length is) c.in_ok-write_synced.ensures.within in
    picked (d.content s₂) (d.content c.write_synced-2.new.disk) first s
    (still_takes_noted (d.content c.args.disk.now) (d.content s₁) (d.content s₂) first (c.in_ok-settle.ensures.content was) (note.content refl put) takes)
    (omega (arith, long, (note.content refl put).size))
    (subst (λ n. IsOverwritten (d.content s₂) 2048 (n ∷ []) (d.content c.write_synced-2.new.disk)) c.pick_of.ensures (written honest))
    (new_there (d.content s₁) (d.content s₂) c.as_slice.result.now c.place_of.result first s c.place_of.ensures is (c.in_ok-write_synced.ensures.written put) long c.requires.turn c.schedule_bytes-bytes.ensures.turn c.schedule_bytes-bytes.ensures.seed)) c.write_synced-2.ensures.written
