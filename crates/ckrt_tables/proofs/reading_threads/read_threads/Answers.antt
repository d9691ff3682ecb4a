use Rattle.std.proofs.Common.{◌≡◌, ◌<◌, [], ◌++◌, length, sym, ap, subst, ◌∙◌, append_assoc, arith, rules}
use Rattle.std.specs.List.{flat_map}
use Rattle.std.proofs.lemmas.List.{append-nil}
use Rattle.ckrt_thread.specs.Keys.{all_keys}
use Rattle.ckrt_thread.specs.Contents.{thread_rows, with_keys}
use Rattle.ckrt_thread.proofs.ThreadRows.{few_threads}
use Rattle.ckrt_tables.specs.Records.{counted, one_byte, hart_bytes, thread_bytes, wait_bytes}
use Rattle.ckrt_tables.specs.DecodingThreads.{ThreadsLeadTo}
use Rattle.ckrt_tables.proofs.Few.{few_waits}
use Rattle.ckrt_tables.proofs.ThreadsRead.{rows_fit_records, well_formed_any, threads_begin, waits_begin, harts_begin}
use Rattle.ckrt_tables.proofs.reading_threads.read_threads.Goals as goal

pub returns : goal.returns
returns c = λ s rest are begun e.
    let any = with_keys all_keys s in
    let well = well_formed_any s are.well_formed in
    let hs = flat_map hart_bytes s.harts in
    let ts = counted one_byte (thread_bytes c.args.version) (thread_rows s) in
    let ws = counted one_byte wait_bytes s.waits in
    let none : c.new-harts.result.items ≡ [] = search rules in
    let size = well.harts in
    let slots = well.size in
    let h = c.read_rows.ensures (record { items = s.harts }) s.harts (ts ++ (ws ++ rest)) size are.harts_fit (ap (λ l. l ++ s.harts) (sym none), omega (arith, size)) (e ∙ append_assoc hs (ts ++ ws) rest ∙ ap (λ l. hs ++ l) (append_assoc ts ws rest)) in
    let on_harts : c.read_rows.new.table.items ≡ s.harts = sym (h.0.0 ∙ append-nil c.read_rows.new.table.items) in
    let few : length (thread_rows s) < 256 = omega (arith, few_threads any well) in
    let t = c.read_thread_rows.ensures any (thread_rows s) (ws ++ rest) few (rows_fit_records c.args.version 0 s.threads (omega (arith, slots)) are.slots_fit are.said) (subst (λ b. ThreadsLeadTo b (thread_rows s) any) (sym begun) (threads_begin any well)) h.1 in
    let w = c.read_few.ensures any s.waits rest (omega (arith, few_waits any well)) are.waits_fit (waits_begin c.read_thread_rows.new.threads any t.0) t.1 in
    (c.place_all.ensures any (harts_begin c.read_few.new.table any w.0) (c.as_slice.ensures.value ∙ on_harts), w.1)
