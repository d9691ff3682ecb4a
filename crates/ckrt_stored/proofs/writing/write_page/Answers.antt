use Rattle.std.proofs.Common.{◌≡◌, ◌≤◌, ◌+◌, length, sym, subst, ◌∙◌, ap, arith}
use Rattle.ckrt_stored.proofs.WriteLemmas.{on_ok_with, page_inside, page_length, page_stands}
use Rattle.ckrt_stored.proofs.writing.write_page.Goals as goal

pub returns-clause-written : goal.returns-clause-written
returns-clause-written g c = on_ok_with c.write_part.result c.write_part.ensures.written c.write_part.ensures.within (λ written within honest.
    let d = g.D.Disk in let config = c.args.config.now in let area = c.args.area in let p = c.args.page in let before = within.same.honest honest in
    let long : length c.page.result.now ≡ 4096 = ap length c.page.ensures ∙ page_length c.args.memory.now.bytes config.pages p c.requires.memory c.requires.page.0 c.requires.page.1 in
    let inside = page_inside config area p _ c.requires.area c.requires.page.1 (omega (arith, c.requires.room, g.met.D.Disk.whole c.args.disk.now before)) in
    page_stands d config area p c.args.memory.now.bytes c.page.result.now c.slot_at.result c.args.disk.now c.write_part.new.disk c.slot_at.ensures c.page.ensures long
    (subst (λ n. n + 4096 ≤ length (d.content c.args.disk.now)) (sym c.slot_at.ensures) inside) (written honest))
