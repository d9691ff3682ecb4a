use Rattle.std.proofs.Common.{◌∷◌, ◌++◌, replicate, subst}
use Rattle.std.proofs.lemmas.Result.{on_ok_weaker}
use Rattle.std.specs.Io.KnownBytes.{Appends}
use Rattle.ckrt_gdb_forms.specs.Elf.{word, words}
use Rattle.ckrt_gdb_forms.specs.Notes.{general}
use Rattle.ckrt_gdb_forms.proofs.AppendLemmas.{appends_both}
use Rattle.ckrt_gdb_forms.proofs.notes.write_status.Goals as goal

pub returns : goal.returns
returns g c =
    let has = g.W.Write.contents in
    let s = c.args.signal in
    let id = c.args.id in
    let r = c.args.regs.now in
    on_ok_weaker c.write_words-2.result (λ last.
    appends_both (has c.args.out.now) (has c.write_words.new.out) (has c.write_words-2.new.out) (words (s ∷ 0 ∷ 0 ∷ s ∷ 0 ∷ 0 ∷ id ∷ replicate 11 0)) (general r ++ word 0)
    (subst (λ n. Appends (has c.args.out.now) (has c.write_words.new.out) (words (s ∷ 0 ∷ 0 ∷ s ∷ 0 ∷ 0 ∷ n ∷ replicate 11 0))) c.from-number.ensures c.in_ok-write_words.ensures)
    (appends_both (has c.write_words.new.out) (has c.write_registers.new.out) (has c.write_words-2.new.out) (general r) (word 0) c.in_ok-write_registers.ensures last)) c.write_words-2.ensures
