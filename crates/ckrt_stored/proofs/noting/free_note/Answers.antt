use Rattle.std.proofs.Common.{◌≡◌, ◌≤◌, ◌∙◌, IsTrue, ap, not, rules, subst, sym, true, true≢false}
use Rattle.ckrt_stored.specs.Schedules.{is_first_used}
use Rattle.ckrt_stored.proofs.ScheduleLemmas.{of_page, takes_by_page}
use Rattle.ckrt_stored.proofs.noting.free_note.Goals as goal

-- what was read is the page of the disk
pub returns-clause-exact : goal.returns-clause-exact
returns-clause-exact g c = λ honest.
    let d = g.D.Disk in let image = d.content c.args.disk.now in
    let long : 4096 ≤ d.size c.args.disk.now = search rules in
    let whole = g.met.D.Disk.whole c.args.disk.now (c.read.ensures.honest honest) in
    let page = c.in_ok-read.ensures.bytes honest in
    let has : c.has_notes.result ≡ true = search rules in (
      takes_by_page (d.size c.args.disk.now) image c.read.new.buf whole long page ∙ (sym c.has_notes.ensures ∙ has),
      λ is. true≢false (sym (subst IsTrue c.if-is_same.false (c.is_same.ensures.1 (c.schedule_in.ensures ∙ (of_page (d.size c.args.disk.now) image c.read.new.buf whole long page ∙ is))))),
      ap not (c.is_first_used.ensures ∙ ap is_first_used page),
    )
