use Rattle.std.proofs.Common.{◌∷◌, ◌++◌, ap, ◌∙◌}
use Rattle.byteorder.specs.Endian.{little_bytes}
use Rattle.ckrt_tables.proofs.StatusRead.{frame, status_found}
use Rattle.ckrt_tables.proofs.decoding.read_status.Goals as goal

pub returns : goal.returns
returns c = λ s rest f e.
    let p = frame s f in
    let tail = little_bytes 4 p.word ++ rest in
    let k = c.byte-kind.ensures p.kind (p.thread ∷ p.cause ∷ tail) p.kind_fits (e ∙ ap (λ l. l ++ rest) p.bytes) in
    let t = c.byte-thread.ensures p.thread (p.cause ∷ tail) p.thread_fits k.1 in
    let n = c.byte-cause.ensures p.cause tail p.cause_fits t.1 in
    let w = c.word-word.ensures p.word rest p.word_fits n.1 in
    (c.status_from.ensures ∙ status_found s p c.byte-kind.result c.byte-thread.result c.byte-cause.result c.word-word.result k.0 t.0 n.0 w.0, w.1)
