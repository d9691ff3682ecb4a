use Rattle.std.proofs.Common.{◌≡◌, ◌≤◌, ◌∷◌, ◌++◌, List, ℕ, drop, length, rules, subst, sym}
use Rattle.ckrt_cli_names.specs.declared.piece.Piece.{Piece}
use Rattle.ckrt_cli_names.specs.declared.piece.Piece.TheVariants.{Taken}
use Rattle.ckrt_cli_names.specs.Put.{HasShown, KeepsMarks, contents_at_first}
use Rattle.ckrt_cli_names.proofs.PutLemmas.{marked_taken, shown_put}
use Rattle.ckrt_cli_names.proofs.named.NamedWriter.put_taken.Goals as goal

pub invariant_of-self-2-clause-shown : goal.invariant_of-self-2-clause-shown
invariant_of-self-2-clause-shown g c =
    let s = c.args.self.now in
    let before = contents_at_first g.W.Write.contents s.start.states in
    let now = g.W.Write.contents s.inner in
    let grown : c.extend_from_slice.new.self.items ≡ s.waiting.items ++ c.args.bytes.now = search rules in
    let made : c.with-self.result.made ≡ (Taken, c.args.bytes.now) ∷ s.put.made = search rules in
    let within : s.written ≤ length s.waiting.items = search rules in
    let P : List ℕ → Type 0 = λ items. HasShown before now (drop s.written items) ((Taken, c.args.bytes.now) ∷ s.put.made) in
    let Q : List (Piece × List ℕ) → Type 0 = λ pieces. HasShown before now (drop s.written c.extend_from_slice.new.self.items) pieces in
    subst Q (sym made) (subst P (sym grown) (shown_put before now s.waiting.items c.args.bytes.now s.written s.put.made s.shown within))

pub invariant_of-self-2-clause-marked : goal.invariant_of-self-2-clause-marked
invariant_of-self-2-clause-marked g c =
    let s = c.args.self.now in
    let made : c.with-self.result.made ≡ (Taken, c.args.bytes.now) ∷ s.put.made = search rules in
    let P : List (Piece × List ℕ) → Type 0 = λ pieces. KeepsMarks s.form pieces in
    subst P (sym made) (marked_taken s.form c.args.bytes.now s.put.made s.marked)
