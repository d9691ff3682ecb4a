use Rattle.std.proofs.Common.{ap, not, subst, sym, take, ◌∙◌}
use Rattle.ckrt_stored.specs.Schedules.{IsFreeFor, is_first_used, takes_notes}
use Rattle.ckrt_stored.proofs.ScheduleLemmas.{already, behind_read}
use Rattle.ckrt_stored.proofs.noting.note_schedule.Goals as goal

-- nothing was to be noted
pub returns-in-None-clause-noted : goal.returns-in-None-clause-noted
returns-in-None-clause-noted g c = λ honest.
    let d = g.D.Disk in let s = c.args.schedule.now in let image = d.content c.args.disk.now in
    already s image (d.content c.free_note.new.disk) (c.free_note.ensures.read.content honest) (subst (IsFreeFor s image) c.in-None.is (c.in_ok-free_note.ensures.exact honest))

-- the free note is the one that isn't in use
pub returns-in-Some-clause-any_moment : goal.returns-in-Some-clause-any_moment
returns-in-Some-clause-any_moment g c = λ honest.
    let d = g.D.Disk in let s = c.args.schedule.now in let s₀ = c.args.disk.now in let s₁ = c.free_note.new.disk in
    let was : d.is_honest s₁ = c.write_note.ensures.within.same.honest honest in
    let content = c.free_note.ensures.read.content was in
    let free = subst (IsFreeFor s (d.content s₀)) c.in-Some.is (c.in_ok-free_note.ensures.exact was) in
    behind_read d s s₀ s₁ c.write_note.new.disk was c.in_ok-free_note.ensures.read
    (c.write_note.ensures.any_moment (ap takes_notes content ∙ free.0) (free.2 ∙ ap (λ l. not (is_first_used (take 4096 l))) (sym content))) honest
