use Rattle.std.proofs.Common.{◌≡◌, ◌∷◌, ◌++◌, [], length, refl, sym, ap, ◌∙◌, rules}
use Rattle.std.specs.List.{flat_map}
use Rattle.std.proofs.lemmas.List.{append-nil}
use Rattle.byteorder.specs.Endian.{little_bytes}
use Rattle.ckrt_tables.specs.Records.{flags_of, value_of, registers_of, registers_bytes, handlers_of, handler_bytes, specific_of, data_bytes}
use Rattle.ckrt_tables.proofs.Distinct.{spelt}
use Rattle.ckrt_tables.proofs.ThreadsRead.{row_fits, same_row}
use Rattle.ckrt_tables.proofs.reading_threads.read_thread.Goals as goal

pub returns : goal.returns
returns c = λ r rest f e.
    let p = row_fits c.args.version r f in
    let handlers = handlers_of r.thread in
    let v = little_bytes 4 (value_of r.thread) in
    let rs = registers_bytes (registers_of r.thread) in
    let hs = flat_map handler_bytes handlers in
    let kept = data_bytes c.args.version (specific_of r.thread) in
    let tail = (v ++ (rs ++ (hs ++ kept))) ++ rest in
    let i = c.byte-id.ensures r.id (flags_of r.thread ∷ length handlers ∷ 0 ∷ tail) p.id e in
    let g = c.byte-flags.ensures (flags_of r.thread) (length handlers ∷ 0 ∷ tail) p.flags i.1 in
    let n = c.byte-count.ensures (length handlers) (0 ∷ tail) p.count g.1 in
    let z = c.byte.ensures 0 tail refl n.1 in
    let w = c.word-value.ensures (value_of r.thread) (rs ++ (hs ++ (kept ++ rest))) p.value (z.1 ∙ spelt v rs hs kept rest) in
    let q = c.read_registers-regs.ensures (registers_of r.thread) (hs ++ (kept ++ rest)) p.registers w.1 in
    let none : c.new-handlers.result.items ≡ [] = search rules in
    let h = c.read_rows.ensures (record { items = handlers }) handlers (kept ++ rest) (sym n.0 ∙ sym c.from.ensures) p.handlers (ap (λ l. l ++ handlers) (sym none), p.few) q.1 in
    let d = c.read_data-specific.ensures (specific_of r.thread) rest p.specific h.1 in
    let all = sym (h.0.0 ∙ append-nil c.read_rows.new.table.items) in
    let t = c.thread_of-thread.ensures r.thread (record { flags_are = g.0; value_is = w.0; registers_are = q.0; handlers_are = all; specific_is = d.0 }) in
    (same_row c.byte-id.result c.thread_of-thread.result r i.0 t, d.1)
