use Rattle.std.proofs.Common.{◌≡◌, ◌≤◌, ◌<◌, ◌+◌, ◌-◌, ◌^◌, ℕ, List, length, take, ◌∙◌, ap, subst, arith}
use Rattle.std.proofs.lemmas.Result.{on_ok_weaker}
use Rattle.ckrt_disk.proofs.Moments.{weaker}
use Rattle.ckrt_calls.specs.declared.table.Tables.{Tables}
use Rattle.ckrt_tables.specs.Decoding.{IsEncodingOf}
use Rattle.ckrt_tables.specs.Encoding.{encoding_of}
use Rattle.ckrt_tables.specs.Savable.{CanBeSaved}
use Rattle.ckrt_stored.specs.declared.save_point.SavePoint.{SavePoint}
use Rattle.ckrt_stored.specs.Write.{HasSaved, IsSaving, next_header}
use Rattle.ckrt_memory.specs.Marks.{Memory}
use Rattle.ckrt_stored.specs.Progress.{IsOtherLeft, RecoversToOldOrNew, save_point_of}
use Rattle.ckrt_stored.proofs.SaveLemmas.{pages_saved, saved_recovers, saving_other, saving_recovers}
use Rattle.ckrt_stored.proofs.progress.Progress.save.Goals as goal

pub returns-clause-any_moment : goal.returns-clause-any_moment
returns-clause-any_moment g c = λ r behind durable honest.
    let d = g.D.Disk in
    let p = c.args.self.now in
    let n = c.encode_tables-n.result in
    let bytes : List ℕ = take n c.encode_tables-n.new.out in
    let tables : c.tables.result.now ≡ p.machine.state.tables = c.tables.ensures.tables in
    let front : bytes ≡ encoding_of 2 p.machine.state.tables p.held.items = c.encode_tables-n.ensures.front ∙ ap (λ (t : Tables). encoding_of 2 t p.held.items) tables in
    let own : IsEncodingOf 2 c.tables.result.now.threads.hart_count bytes (record { tables = c.tables.result.now; held = p.held.items }) = c.encode_tables-n.ensures.decodes in
    let savable : CanBeSaved 2 p.config.harts p.machine.state.tables p.held.items =
    subst (λ h. CanBeSaved 2 h p.machine.state.tables p.held.items) p.harts (subst (λ (t : Tables). CanBeSaved 2 t.threads.hart_count t p.held.items) tables own.savable) in
    let few : length bytes ≤ 98304 = omega (arith, ap length c.encode_tables-n.ensures.front, c.encode_tables-n.ensures.length, c.encode_tables-n.ensures.longest) in
    let last : p.generation + 1 < 2 ^ 64 = c.requires.generation in
    weaker d.moment d.left_since c.args.disk.now c.write_area.new.disk _ (RecoversToOldOrNew p r) (c.write_area.ensures.any_moment durable honest) (λ image left.
    saving_recovers p bytes (d.content c.args.disk.now) image r behind savable front few last
    (subst (λ (m : Memory). IsSaving p.config (save_point_of p) bytes m.bytes (d.content c.args.disk.now) image) c.memory.ensures
    (subst (λ (point : SavePoint). IsSaving p.config point bytes c.memory.result.now.bytes (d.content c.args.disk.now) image) c.save_point.ensures left)))

pub returns-clause-other : goal.returns-clause-other
returns-clause-other g c = λ durable honest.
    let d = g.D.Disk in
    let p = c.args.self.now in
    let n = c.encode_tables-n.result in
    let bytes : List ℕ = take n c.encode_tables-n.new.out in
    let few : length bytes ≤ 98304 = omega (arith, ap length c.encode_tables-n.ensures.front, c.encode_tables-n.ensures.length, c.encode_tables-n.ensures.longest) in
    weaker d.moment d.left_since c.args.disk.now c.write_area.new.disk _ (IsOtherLeft p (d.content c.args.disk.now)) (c.write_area.ensures.any_moment durable honest) (λ image left.
    saving_other p bytes (d.content c.args.disk.now) image few c.requires.generation
    (subst (λ (m : Memory). IsSaving p.config (save_point_of p) bytes m.bytes (d.content c.args.disk.now) image) c.memory.ensures
    (subst (λ (point : SavePoint). IsSaving p.config point bytes c.memory.result.now.bytes (d.content c.args.disk.now) image) c.save_point.ensures left)))

pub returns-clause-saved : goal.returns-clause-saved
returns-clause-saved g c = on_ok_weaker c.write_area.result (λ has honest r behind.
    let d = g.D.Disk in
    let p = c.args.self.now in
    let n = c.encode_tables-n.result in
    let bytes : List ℕ = take n c.encode_tables-n.new.out in
    let tables : c.tables.result.now ≡ p.machine.state.tables = c.tables.ensures.tables in
    let front : bytes ≡ encoding_of 2 p.machine.state.tables p.held.items = c.encode_tables-n.ensures.front ∙ ap (λ (t : Tables). encoding_of 2 t p.held.items) tables in
    let own : IsEncodingOf 2 c.tables.result.now.threads.hart_count bytes (record { tables = c.tables.result.now; held = p.held.items }) = c.encode_tables-n.ensures.decodes in
    let savable : CanBeSaved 2 p.config.harts p.machine.state.tables p.held.items =
    subst (λ h. CanBeSaved 2 h p.machine.state.tables p.held.items) p.harts (subst (λ (t : Tables). CanBeSaved 2 t.threads.hart_count t p.held.items) tables own.savable) in
    let few : length bytes ≤ 98304 = omega (arith, ap length c.encode_tables-n.ensures.front, c.encode_tables-n.ensures.length, c.encode_tables-n.ensures.longest) in
    let last : p.generation + 1 < 2 ^ 64 = c.requires.generation in
    saved_recovers p bytes (d.content c.args.disk.now) (d.content c.write_area.new.disk) r behind savable front few last
    (subst (λ (m : Memory). HasSaved p.config (1 - p.area) (next_header (save_point_of p) bytes) bytes m.bytes (d.content c.args.disk.now) (d.content c.write_area.new.disk)) c.memory.ensures
    (subst (λ (point : SavePoint). HasSaved p.config (1 - point.area) (next_header point bytes) bytes c.memory.result.now.bytes (d.content c.args.disk.now) (d.content c.write_area.new.disk)) c.save_point.ensures (has honest)))) c.write_area.ensures.saved

pub returns-clause-pages : goal.returns-clause-pages
returns-clause-pages g c = on_ok_weaker c.write_area.result (λ has honest.
    let d = g.D.Disk in let p = c.args.self.now in
    let before = c.write_area.ensures.write.within.same.honest honest in
    pages_saved p (d.content c.args.disk.now) (d.content c.write_area.new.disk) (next_header c.save_point.result _) _ c.memory.result.now c.save_point.result c.save_point.ensures c.memory.ensures (c.requires.pages before) (has honest)) c.write_area.ensures.saved
