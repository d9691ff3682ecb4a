use Rattle.std.proofs.Common.{◌≡◌, ℕ, ◌<◌, ⊎_elim, sym, subst}
use Rattle.ckrt_tables.specs.Decoding.{Reaches}
use Rattle.ckrt_tables.specs.DecodingThreads.{ThreadsLeadTo, fits_row}
use Rattle.ckrt_tables.specs.Records.{counted, one_byte, thread_bytes}
use Rattle.ckrt_tables.proofs.reading_threads.read_thread_rows.Goals as goal

pub returns-then-version-eq1 : goal.returns-then-version-eq1
returns-then-version-eq1 c =
    subst (λ (v : ℕ). Reaches ThreadsLeadTo (fits_row v) (counted one_byte (thread_bytes v)) (λ n. n < 256) c.args.cursor.now c.args.threads.now c.read_few.new.table c.read_few.new.cursor) (sym c.if-version-eq1.true) c.read_few.ensures

pub returns-else-version-eq1 : goal.returns-else-version-eq1
returns-else-version-eq1 c =
    let two : c.args.version ≡ 2 = ⊎_elim (λ e. absurd (c.if-version-eq1.false e)) (λ e. e) c.requires in
    subst (λ (v : ℕ). Reaches ThreadsLeadTo (fits_row v) (counted one_byte (thread_bytes v)) (λ n. n < 256) c.args.cursor.now c.args.threads.now c.read_few-else-version-eq1.new.table c.read_few-else-version-eq1.new.cursor) (sym two) c.read_few-else-version-eq1.ensures
