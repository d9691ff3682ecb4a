use Rattle.std.proofs.Common.{◌≡◌, ◌≤◌, ◌∷◌, ◌++◌, ◌∙◌, List, ℕ, ap, drop, length, rules, subst, sym}
use Rattle.ckrt_cli_names.specs.declared.piece.Form.TheVariants.{Frames}
use Rattle.ckrt_cli_names.specs.declared.piece.Piece.{Piece}
use Rattle.ckrt_cli_names.specs.declared.piece.Piece.TheVariants.{Note, Replaced}
use Rattle.ckrt_cli_names.specs.Put.{HasShown, KeepsMarks, contents_at_first, marks}
use Rattle.ckrt_cli_names.proofs.PutLemmas.{marked_replaced, shown_renamed}
use Rattle.ckrt_cli_names.proofs.named.NamedWriter.put_renamed.Goals as goal

pub invariant_of-self-2-clause-shown : goal.invariant_of-self-2-clause-shown
invariant_of-self-2-clause-shown g c =
    let s = c.args.self.now in
    let note = c.push_renamed.new.out.items in
    let before = contents_at_first g.W.Write.contents s.start.states in
    let now = g.W.Write.contents s.inner in
    let grown : c.extend_from_slice.new.self.items ≡ s.waiting.items ++ note = search rules in
    let made : c.with-self.result.made ≡ (Note, note) ∷ ((Replaced, s.line.items) ∷ s.put.made) = search rules in
    let within : s.written ≤ length s.waiting.items = search rules in
    let P : List ℕ → Type 0 = λ items. HasShown before now (drop s.written items) ((Note, note) ∷ ((Replaced, s.line.items) ∷ s.put.made)) in
    let Q : List (Piece × List ℕ) → Type 0 = λ pieces. HasShown before now (drop s.written c.extend_from_slice.new.self.items) pieces in
    subst Q (sym made) (subst P (sym grown) (shown_renamed before now s.waiting.items note s.line.items s.written s.put.made s.shown within))

pub invariant_of-self-2-clause-marked : goal.invariant_of-self-2-clause-marked
invariant_of-self-2-clause-marked g c =
    let s = c.args.self.now in
    let note = c.push_renamed.new.out.items in
    let made : c.with-self.result.made ≡ (Note, note) ∷ ((Replaced, s.line.items) ∷ s.put.made) = search rules in
    let same : s.form ≡ Frames → marks note ≡ marks s.line.items = λ is. c.in_ok-push_renamed.ensures is ∙ ap marks c.deref.ensures.value in
    let P : List (Piece × List ℕ) → Type 0 = λ pieces. KeepsMarks s.form pieces in
    subst P (sym made) (marked_replaced s.form s.line.items note s.put.made s.marked same)
