use Rattle.std.proofs.Common.{◌≡◌, ◌+◌, ◌-◌, ◌*◌, ◌/◌, ◌%◌, ◌++◌, ℕ, false, List, take, drop, ap, sym, ◌∙◌, subst, arith}
use Rattle.std.proofs.Math.Seq.{take-add}
use Rattle.sha2.specs.Hashers.{Holds256}
use Rattle.ckrt_disk.proofs.FrameLemmas.{read_on}
use Rattle.ckrt_history.proofs.digest.digest_of_first.Goals as goal

pub loop-piece-preserved : goal.loop-piece-preserved
loop-piece-preserved g c =
    let d = g.D.Disk in let s₀ = c.args.file.now in let s₁ = c.loop-piece.file in let s₂ = c.add_piece.new.file in let n = c.loop-piece.piece in
    record {
      read = read_on d s₀ s₁ s₂ false c.loop-piece.invariant.read c.in_ok-add_piece.ensures.read;
      holds = λ honest.
          let was : d.is_honest s₁ = c.in_ok-add_piece.ensures.read.same.honest honest in
          let content : d.content s₁ ≡ d.content s₀ = c.loop-piece.invariant.read.content was in
          let next : 4096 * (n + 1) ≡ 4096 * n + 4096 = omega arith in
          let bytes : take (4096 * n) (d.content s₀) ++ take 4096 (drop (4096 * n) (d.content s₁)) ≡ take (4096 * (n + 1)) (d.content s₀) =
          ap (λ (l : List ℕ). take (4096 * n) (d.content s₀) ++ take 4096 (drop (4096 * n) l)) content ∙ sym (take-add (4096 * n) 4096 (d.content s₀)) ∙ ap (λ k. take k (d.content s₀)) (sym next) in
          subst (λ (l : List ℕ). Holds256 c.add_piece.new.hasher l) bytes (c.in_ok-add_piece.ensures.added honest (take (4096 * n) (d.content s₀)) (c.loop-piece.invariant.holds was));
    }

pub returns-clause-exact : goal.returns-clause-exact
returns-clause-exact g c = λ honest.
    let d = g.D.Disk in let s₀ = c.args.file.now in let s₁ = c.loop-piece.file in let n = c.loop-piece.piece in let count = c.args.count in
    let was : d.is_honest s₁ = c.in_ok-add_piece-2.ensures.read.same.honest honest in
    let content : d.content s₁ ≡ d.content s₀ = c.loop-piece.invariant.read.content was in
    let done : n ≡ count / 4096 = omega (arith, c.loop-piece.auto.piece-end, c.loop-piece-test.false) in
    let first : count - count % 4096 ≡ 4096 * n = omega (arith, done) in
    let all : 4096 * n + count % 4096 ≡ count = omega (arith, done) in
    let bytes : take (4096 * n) (d.content s₀) ++ take (count % 4096) (drop (count - count % 4096) (d.content s₁)) ≡ take count (d.content s₀) =
    ap (λ (l : List ℕ). take (4096 * n) (d.content s₀) ++ take (count % 4096) (drop (count - count % 4096) l)) content
    ∙ ap (λ k. take (4096 * n) (d.content s₀) ++ take (count % 4096) (drop k (d.content s₀))) first ∙ sym (take-add (4096 * n) (count % 4096) (d.content s₀)) ∙ ap (λ k. take k (d.content s₀)) all in
    c.finalize.ensures (take count (d.content s₀))
    (subst (λ (l : List ℕ). Holds256 c.add_piece-2.new.hasher l) bytes (c.in_ok-add_piece-2.ensures.added honest (take (4096 * n) (d.content s₀)) (c.loop-piece.invariant.holds was)))
