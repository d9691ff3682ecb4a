use Rattle.std.proofs.Common.{◌≡◌, ◌≤◌, ◌<◌, ◌+◌, take_all, subst, ℕ, List, ◌∷◌, [], Bool, false, length, take, drop, get_or, arith, Option}
use Rattle.std.proofs.lemmas.List.{take_more, take-append-drop}
use Rattle.ckrt_disk.specs.declared.disk.Disk.{Ghosts}
use Rattle.ckrt_recovery.specs.declared.session.Session.{Session}
use Rattle.ckrt_main.specs.Service.{Processed, ProcessedPart}
use Rattle.ckrt_main.proofs.ProcessLemmas.{processed_more, processed_quit, processed_nothing, processed_part_more, processed_part_longer}
use Rattle.ckrt_disk.proofs.WriteLemmas.{on_err}
use Rattle.ckrt_main.proofs.service.take_bytes.Goals as goal

module _ {D : Type 0} {g : Ghosts D} where
  -- the bytes up to the next
  next : (a b c : Option (List ℕ)) (line bs : List ℕ) (i : ℕ) (rest last : List ℕ) (s m u : Session D g) (quit : Bool) → i < length bs
      → Processed a b line (take i bs) s m rest false → Processed b c rest (get_or bs i 0 ∷ []) m u last quit → Processed a c line (take (i + 1) bs) s u last quit
  next a b c line bs i rest last s m u quit lt p q = rw (take_more bs i 0 lt) (processed_more a b c line (take i bs) rest (get_or bs i 0 ∷ []) last s m u quit p q)

  next_part : (a b c : Option (List ℕ)) (line bs : List ℕ) (i : ℕ) (rest : List ℕ) (s m u : Session D g) → i < length bs
      → Processed a b line (take i bs) s m rest false → ProcessedPart b c rest (get_or bs i 0 ∷ []) m u → ProcessedPart a c line bs s u
  next_part a b c line bs i rest s m u lt p q =
      let h : ProcessedPart a c line (take (i + 1) bs) s u = rw (take_more bs i 0 lt) (processed_part_more a b c line (take i bs) rest (get_or bs i 0 ∷ []) s m u p q) in
      rw (← take-append-drop (i + 1) bs) (processed_part_longer a c line (take (i + 1) bs) (drop (i + 1) bs) s u h)

pub returns-then-branch-clause-processed : goal.returns-then-branch-clause-processed
returns-then-branch-clause-processed g c =
    let a = g.W.Write.contents c.args.writer.now in
    let b = g.W.Write.contents c.loop-byte.writer in
    let d = g.W.Write.contents c.take_byte.new.writer in
    let bs = c.args.bytes.now in
    let i = c.loop-byte.byte-index in
    let lt : c.loop-byte.byte-index < length c.args.bytes.now = omega arith in
    let h = next a b d c.args.line.now.items bs i c.loop-byte.line.items c.take_byte.new.line.items c.args.session.now c.loop-byte.session c.take_byte.new.session c.in_ok-take_byte.field-0 lt c.loop-byte.invariant.processed c.in_ok-take_byte.ensures.processed in
    let h2 = rw c.if-branch.true at h in
    rw (← take-append-drop (i + 1) bs) (processed_quit a d c.args.line.now.items (take (i + 1) bs) c.take_byte.new.line.items (drop (i + 1) bs) c.args.session.now c.take_byte.new.session h2)

pub returns-in_err-take_byte-clause-broken : goal.returns-in_err-take_byte-clause-broken
returns-in_err-take_byte-clause-broken g c =
    let lt : c.loop-byte.byte-index < length c.args.bytes.now = omega arith in
    on_err _ _ (next_part (g.W.Write.contents c.args.writer.now) (g.W.Write.contents c.loop-byte.writer) (g.W.Write.contents c.take_byte.new.writer) c.args.line.now.items c.args.bytes.now c.loop-byte.byte-index c.loop-byte.line.items c.args.session.now c.loop-byte.session c.take_byte.new.session lt c.loop-byte.invariant.processed c.in_err-take_byte.ensures.broken)

pub loop-byte-preserved : goal.loop-byte-preserved
loop-byte-preserved g c =
    let a = g.W.Write.contents c.args.writer.now in
    let b = g.W.Write.contents c.loop-byte.writer in
    let d = g.W.Write.contents c.take_byte.new.writer in
    let bs = c.args.bytes.now in
    let i = c.loop-byte.byte-index in
    let lt : c.loop-byte.byte-index < length c.args.bytes.now = omega arith in
    let h = next a b d c.args.line.now.items bs i c.loop-byte.line.items c.take_byte.new.line.items c.args.session.now c.loop-byte.session c.take_byte.new.session c.in_ok-take_byte.field-0 lt c.loop-byte.invariant.processed c.in_ok-take_byte.ensures.processed in
    record {
      open_line = c.in_ok-take_byte.ensures.open;
      processed = rw c.if-branch.false at h;
    }

pub loop-byte-init : goal.loop-byte-init
loop-byte-init g c = record {
  open_line = c.requires;
  processed = processed_nothing (g.W.Write.contents c.args.writer.now) c.args.line.now.items c.args.session.now;
}

pub returns-clause-processed : goal.returns-clause-processed
returns-clause-processed g c =
    let a = g.W.Write.contents c.args.writer.now in
    let b = g.W.Write.contents c.loop-byte.writer in
    let le : length c.args.bytes.now ≤ c.loop-byte.byte-index = omega arith in
    let all : take c.loop-byte.byte-index c.args.bytes.now ≡ c.args.bytes.now = take_all c.loop-byte.byte-index c.args.bytes.now le in
    subst (λ (l : List ℕ). Processed a b c.args.line.now.items l c.args.session.now c.loop-byte.session c.loop-byte.line.items false) all c.loop-byte.invariant.processed
