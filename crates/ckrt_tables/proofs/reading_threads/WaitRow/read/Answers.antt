use Rattle.std.proofs.Common.{◌∷◌, ◌++◌, is_some, unwrap_or, ◌∙◌}
use Rattle.byteorder.specs.Endian.{little_bytes}
use Rattle.ckrt_tables.specs.Records.{flag, kind_of, result_of, first_name, second_name}
use Rattle.ckrt_tables.proofs.ThreadsRead.{same_wait, wait_fits, reason_found}
use Rattle.ckrt_tables.proofs.reading_threads.WaitRow.read.Goals as goal

pub returns : goal.returns
returns c = λ w rest f e.
    let p = wait_fits w f in
    let moment = little_bytes 8 (unwrap_or w.deadline 0) ++ rest in
    let names = little_bytes 4 (first_name w.reason) ++ (little_bytes 4 (second_name w.reason) ++ moment) in
    let t = c.byte-thread.ensures w.thread (kind_of w.reason ∷ result_of w.reason ∷ flag 1 (is_some w.deadline) ∷ names) p.thread e in
    let k = c.byte-kind.ensures (kind_of w.reason) (result_of w.reason ∷ flag 1 (is_some w.deadline) ∷ names) p.kind t.1 in
    let o = c.byte-outcome.ensures (result_of w.reason) (flag 1 (is_some w.deadline) ∷ names) p.outcome k.1 in
    let d = c.byte-is_timed.ensures (flag 1 (is_some w.deadline)) names p.is_timed o.1 in
    let a = c.word-first.ensures (first_name w.reason) (little_bytes 4 (second_name w.reason) ++ moment) p.first d.1 in
    let b = c.word-second.ensures (second_name w.reason) moment p.second a.1 in
    let m = c.long-moment.ensures (unwrap_or w.deadline 0) rest p.moment b.1 in
    let reason = c.reason_from.ensures ∙ reason_found w.reason c.byte-kind.result c.byte-outcome.result c.word-first.result c.word-second.result p.reason k.0 o.0 a.0 b.0 in
    let deadline = c.moment_if.ensures w.deadline d.0 m.0 in
    (same_wait c.byte-thread.result c.reason_from.result c.moment_if.result w t.0 reason deadline, m.1)
