use Rattle.std.proofs.Common.{◌≡◌, ◌<◌, ℕ, List, [], true, false, length, take, arith, subst, refl, inl, inr, ◌++◌}
use Rattle.std.specs.Io.KnownBytes.{Consumes}
use Rattle.std.specs.Str.Lines.{lines}
use Rattle.ckrt_main.specs.Transcript.{respond_all}
use Rattle.ckrt_main.specs.Service.{Writes}
use Rattle.ckrt_main.specs.Pieces.{Answers, BreaksOff}
use Rattle.ckrt_main.proofs.OutputLemmas.{Consumes-append}
use Rattle.ckrt_main.proofs.ProcessLemmas.{all_at_end, all_at_quit, completes, consumed_at_end, consumes_nothing, part_at_end, part_at_start, part_more, part_so_far, processes, processes_whole, so_far_start, so_far_more, so_far_kept}
use Rattle.ckrt_main.proofs.service.serve_lines.Goals as goal
use Rattle.ckrt_main.proofs.service.serve_lines.Goals.{in-Ok+in_ok-take_bytes-in-Ok+else-branch, in-Err+else-ne}

pub loop-init : goal.loop-init
loop-init g c = record {
  open_line = rw c.new-line.ensures refl;
  processed = rw c.new-line.ensures (so_far_start (g.W.Write.contents c.args.writer.now) (g.W.Write.contents c.release.new.to) (g.R.Read.remaining c.args.reader.now) c.args.session.now c.release.new.session c.in_ok-release.ensures.ok);
}

pub returns-in-Ok-eq0-clause-whole : goal.returns-in-Ok-eq0-clause-whole
returns-in-Ok-eq0-clause-whole g c =
    let a = g.W.Write.contents c.args.writer.now in
    let b = g.W.Write.contents c.loop.writer in
    let d = g.W.Write.contents c.take_end.new.writer in
    let r = g.R.Read.remaining c.args.reader.now in
    let s = g.R.Read.remaining c.loop.reader in
    let t = g.R.Read.remaining c.read.new.self in
    let h = c.in-Ok-eq0.ensures.bytes in
    let none : c.in-Ok-eq0.field-0 ≡ 0 = c.in-Ok-eq0.field-0-test in
    let room : 0 < length c.read.new.buf = omega arith in
    let got : Consumes (g.R.Read.remaining c.loop.reader) (g.R.Read.remaining c.read.new.self) [] = subst (λ (n : ℕ). Consumes (g.R.Read.remaining c.loop.reader) (g.R.Read.remaining c.read.new.self) (take n c.read.new.buf)) none h.0 in
    let end = c.in_ok-take_end-in-Ok-eq0.ensures.ok in
    let last = subst (λ (l : List ℕ). Answers (respond_all (lines l)) end.0 (Writes (g.W.Write.contents c.loop.writer) (g.W.Write.contents c.take_end.new.writer)) c.loop.session c.take_end.new.session) c.deref.ensures.0 end.1 in
    let first = c.loop.invariant.processed in
    completes a d r t c.args.session.now c.take_end.new.session first.read end.0 (consumed_at_end r s t first.read first.consumed got) (inl (h.1 none room))
    (all_at_end a b d r s c.args.session.now c.loop.session c.take_end.new.session c.loop.line.items end.0 first last)

pub returns-in-Ok-eq0-clause-processed : goal.returns-in-Ok-eq0-clause-processed
returns-in-Ok-eq0-clause-processed g c =
    let a = g.W.Write.contents c.args.writer.now in
    let b = g.W.Write.contents c.loop.writer in
    let d = g.W.Write.contents c.take_end.new.writer in
    let r = g.R.Read.remaining c.args.reader.now in
    let s = g.R.Read.remaining c.loop.reader in
    let t = g.R.Read.remaining c.read.new.self in
    let h = c.in-Ok-eq0.ensures.bytes in
    let none : c.in-Ok-eq0.field-0 ≡ 0 = c.in-Ok-eq0.field-0-test in
    let got : Consumes (g.R.Read.remaining c.loop.reader) (g.R.Read.remaining c.read.new.self) [] = subst (λ (n : ℕ). Consumes (g.R.Read.remaining c.loop.reader) (g.R.Read.remaining c.read.new.self) (take n c.read.new.buf)) none h.0 in
    let end = c.in_ok-take_end-in-Ok-eq0.ensures.ok in
    let last = subst (λ (l : List ℕ). Answers (respond_all (lines l)) end.0 (Writes (g.W.Write.contents c.loop.writer) (g.W.Write.contents c.take_end.new.writer)) c.loop.session c.take_end.new.session) c.deref.ensures.0 end.1 in
    let first = c.loop.invariant.processed in
    processes_whole g.met.D.Disk.only_now a d r t c.args.session.now c.take_end.new.session first.read end.0 (consumed_at_end r s t first.read first.consumed got)
    (all_at_end a b d r s c.args.session.now c.loop.session c.take_end.new.session c.loop.line.items end.0 first last)

pub returns-in_err-take_end-in-Ok-eq0-clause-processed : goal.returns-in_err-take_end-in-Ok-eq0-clause-processed
returns-in_err-take_end-in-Ok-eq0-clause-processed g c =
    let a = g.W.Write.contents c.args.writer.now in
    let b = g.W.Write.contents c.loop.writer in
    let d = g.W.Write.contents c.take_end.new.writer in
    let r = g.R.Read.remaining c.args.reader.now in
    let s = g.R.Read.remaining c.loop.reader in
    let t = g.R.Read.remaining c.read.new.self in
    let h = c.in-Ok-eq0.ensures.bytes in
    let none : c.in-Ok-eq0.field-0 ≡ 0 = c.in-Ok-eq0.field-0-test in
    let got : Consumes (g.R.Read.remaining c.loop.reader) (g.R.Read.remaining c.read.new.self) [] = subst (λ (n : ℕ). Consumes (g.R.Read.remaining c.loop.reader) (g.R.Read.remaining c.read.new.self) (take n c.read.new.buf)) none h.0 in
    let last = subst (λ (l : List ℕ). BreaksOff (respond_all (lines l)) (Writes (g.W.Write.contents c.loop.writer) (g.W.Write.contents c.take_end.new.writer)) c.loop.session c.take_end.new.session) c.deref.ensures.0 c.in_err-take_end-in-Ok-eq0.ensures.broken in
    let first = c.loop.invariant.processed in
    processes g.met.D.Disk.only_now a d r t c.args.session.now c.take_end.new.session first.read (consumed_at_end r s t first.read first.consumed got)
    (part_at_end a b d r s c.args.session.now c.loop.session c.take_end.new.session c.loop.line.items first last)

pub returns-then-branch-clause-whole : goal.returns-then-branch-clause-whole
returns-then-branch-clause-whole g c =
    let a = g.W.Write.contents c.args.writer.now in
    let b = g.W.Write.contents c.loop.writer in
    let d = g.W.Write.contents c.take_bytes.new.writer in
    let r = g.R.Read.remaining c.args.reader.now in
    let s = g.R.Read.remaining c.loop.reader in
    let t = g.R.Read.remaining c.read.new.self in
    let processed = rw c.if-branch.true at c.in_ok-take_bytes-in-Ok.ensures.processed in
    let all = so_far_more a b d r s t c.args.session.now c.loop.session c.take_bytes.new.session c.loop.line.items (take c.in-Ok.count c.read.new.buf) c.take_bytes.new.line.items true c.loop.invariant.processed c.in-Ok.ensures.bytes.0 processed in
    completes a d r t c.args.session.now c.take_bytes.new.session all.read true all.consumed (inr refl) (all_at_quit a d r t c.args.session.now c.take_bytes.new.session c.take_bytes.new.line.items all)

pub returns-then-branch-clause-processed : goal.returns-then-branch-clause-processed
returns-then-branch-clause-processed g c =
    let a = g.W.Write.contents c.args.writer.now in
    let b = g.W.Write.contents c.loop.writer in
    let d = g.W.Write.contents c.take_bytes.new.writer in
    let r = g.R.Read.remaining c.args.reader.now in
    let s = g.R.Read.remaining c.loop.reader in
    let t = g.R.Read.remaining c.read.new.self in
    let processed = rw c.if-branch.true at c.in_ok-take_bytes-in-Ok.ensures.processed in
    let all = so_far_more a b d r s t c.args.session.now c.loop.session c.take_bytes.new.session c.loop.line.items (take c.in-Ok.count c.read.new.buf) c.take_bytes.new.line.items true c.loop.invariant.processed c.in-Ok.ensures.bytes.0 processed in
    processes_whole g.met.D.Disk.only_now a d r t c.args.session.now c.take_bytes.new.session all.read true all.consumed (all_at_quit a d r t c.args.session.now c.take_bytes.new.session c.take_bytes.new.line.items all)

pub returns-in_err-take_bytes-in-Ok-clause-processed : goal.returns-in_err-take_bytes-in-Ok-clause-processed
returns-in_err-take_bytes-in-Ok-clause-processed g c =
    let a = g.W.Write.contents c.args.writer.now in
    let b = g.W.Write.contents c.loop.writer in
    let d = g.W.Write.contents c.take_bytes.new.writer in
    let r = g.R.Read.remaining c.args.reader.now in
    let s = g.R.Read.remaining c.loop.reader in
    let t = g.R.Read.remaining c.read.new.self in
    let x = take c.in-Ok.count c.read.new.buf in
    let first = c.loop.invariant.processed in
    processes g.met.D.Disk.only_now a d r t c.args.session.now c.take_bytes.new.session (first.read ++ x) (Consumes-append r s t first.read x first.consumed c.in-Ok.ensures.bytes.0)
    (part_more a b d r s t c.args.session.now c.loop.session c.take_bytes.new.session c.loop.line.items x first c.in-Ok.ensures.bytes.0 c.in_err-take_bytes-in-Ok.ensures.broken)

pub loop-preserved : goal.loop-preserved
loop-preserved g c = elim c.match-read.branch [
  | in-Ok+in_ok-take_bytes-in-Ok+else-branch w ↦
      let processed = rw w.if-branch.false at w.in_ok-take_bytes-in-Ok.ensures.processed in
      rw (w.writer-is, w.session-is, w.line-is) (record {
        open_line = w.in_ok-take_bytes-in-Ok.ensures.open;
        processed = so_far_more (g.W.Write.contents c.args.writer.now) (g.W.Write.contents c.loop.writer) (g.W.Write.contents w.take_bytes.new.writer) (g.R.Read.remaining c.args.reader.now) (g.R.Read.remaining c.loop.reader) (g.R.Read.remaining c.read.new.self) c.args.session.now c.loop.session w.take_bytes.new.session c.loop.line.items (take w.in-Ok.count c.read.new.buf) w.take_bytes.new.line.items false c.loop.invariant.processed w.in-Ok.ensures.bytes.0 processed;
      })
  | in-Err+else-ne w ↦
      rw (w.writer-is, w.session-is, w.line-is) (record {
        open_line = c.loop.invariant.open_line;
        processed = so_far_kept (g.W.Write.contents c.args.writer.now) (g.W.Write.contents c.loop.writer) (g.R.Read.remaining c.args.reader.now) (g.R.Read.remaining c.loop.reader) (g.R.Read.remaining c.read.new.self) c.args.session.now c.loop.session c.loop.line.items false c.loop.invariant.processed w.in-Err.ensures.bytes;
      })
]

pub returns-in_err-release-clause-processed : goal.returns-in_err-release-clause-processed
returns-in_err-release-clause-processed g c =
    let a = g.W.Write.contents c.args.writer.now in
    let b = g.W.Write.contents c.release.new.to in
    let r = g.R.Read.remaining c.args.reader.now in
    processes g.met.D.Disk.only_now a b r r c.args.session.now c.release.new.session [] (consumes_nothing r) (part_at_start a b c.args.session.now c.release.new.session c.in_err-release.ensures.broken)

pub returns-then-ne-clause-processed : goal.returns-then-ne-clause-processed
returns-then-ne-clause-processed g c =
    let a = g.W.Write.contents c.args.writer.now in
    let b = g.W.Write.contents c.loop.writer in
    let r = g.R.Read.remaining c.args.reader.now in
    let s = g.R.Read.remaining c.loop.reader in
    let t = g.R.Read.remaining c.read.new.self in
    let all = so_far_kept a b r s t c.args.session.now c.loop.session c.loop.line.items false c.loop.invariant.processed c.in-Err.ensures.bytes in
    processes g.met.D.Disk.only_now a b r t c.args.session.now c.loop.session all.read all.consumed (part_so_far a b r t c.args.session.now c.loop.session c.loop.line.items all)

pub returns-clause-processed : goal.returns-clause-processed
returns-clause-processed g c =
    let a = g.W.Write.contents c.args.writer.now in
    let b = g.W.Write.contents c.loop.writer in
    let r = g.R.Read.remaining c.args.reader.now in
    let s = g.R.Read.remaining c.loop.reader in
    let all = c.loop.invariant.processed in
    processes g.met.D.Disk.only_now a b r s c.args.session.now c.loop.session all.read all.consumed (part_so_far a b r s c.args.session.now c.loop.session c.loop.line.items all)
