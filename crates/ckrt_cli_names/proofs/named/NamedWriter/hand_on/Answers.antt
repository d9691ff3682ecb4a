use Rattle.std.proofs.Common.{◌≡◌, ◌∷◌, [], List, ℕ, drop, rules, subst, sym}
use Rattle.std.specs.Io.KnownBytes.{Appends}
use Rattle.ckrt_cli_names.specs.declared.piece.Piece.{Piece}
use Rattle.ckrt_cli_names.specs.declared.piece.Piece.TheVariants.{Taken}
use Rattle.ckrt_cli_names.specs.Put.{HasShown, KeepsMarks, contents_at_first}
use Rattle.ckrt_cli_names.proofs.PutLemmas.{marked_taken, shown_at_once}
use Rattle.ckrt_cli_names.proofs.named.NamedWriter.hand_on.Goals as goal

pub invariant_of-self-2-clause-shown : goal.invariant_of-self-2-clause-shown
invariant_of-self-2-clause-shown g c =
    let s = c.write_waiting.new.self in
    let front = c.split_at.result.0.now in
    let none : s.waiting.items ≡ [] = search rules in
    let written : Appends (g.W.Write.contents s.inner) (g.W.Write.contents c.write.new.self) front = search rules in
    let made : c.with-self.result.made ≡ (Taken, front) ∷ s.put.made = search rules in
    let P : List (Piece × List ℕ) → Type 0 = λ pieces. HasShown (contents_at_first g.W.Write.contents s.start.states) (g.W.Write.contents c.write.new.self) (drop s.written s.waiting.items) pieces in
    subst P (sym made) (shown_at_once (contents_at_first g.W.Write.contents s.start.states) (g.W.Write.contents s.inner) (g.W.Write.contents c.write.new.self) s.waiting.items s.written front s.put.made s.shown none written)

pub invariant_of-self-2-clause-marked : goal.invariant_of-self-2-clause-marked
invariant_of-self-2-clause-marked g c =
    let s = c.write_waiting.new.self in
    let front = c.split_at.result.0.now in
    let made : c.with-self.result.made ≡ (Taken, front) ∷ s.put.made = search rules in
    let P : List (Piece × List ℕ) → Type 0 = λ pieces. KeepsMarks s.form pieces in
    subst P (sym made) (marked_taken s.form front s.put.made s.marked)
