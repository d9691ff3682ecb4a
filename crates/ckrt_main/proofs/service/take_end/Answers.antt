use Rattle.std.proofs.Common.{◌≡◌, ◌≢◌, ℕ, List, [], false, refl, length, rules, subst, sym}
use Rattle.std.specs.Str.Lines.{lines}
use Rattle.std.proofs.lemmas.List.{nil_from_length}
use Rattle.ckrt_main.specs.Transcript.{respond_all}
use Rattle.ckrt_recovery.specs.View.{view_of}
use Rattle.ckrt_main.specs.Service.{Writes}
use Rattle.ckrt_main.specs.Pieces.{Answers, ends}
use Rattle.ckrt_main.proofs.PieceLemmas.{silent}
use Rattle.ckrt_main.proofs.ProcessLemmas.{answers_last, broken_last}
use Rattle.ckrt_disk.proofs.WriteLemmas.{on_err}
use Rattle.ckrt_main.proofs.service.take_end.Goals as goal

pub returns-then-is_empty-clause-ok : goal.returns-then-is_empty-clause-ok
returns-then-is_empty-clause-ok g c =
    let s = c.args.session.now in
    let a = g.W.Write.contents c.args.writer.now in
    let empty : length c.args.line.now ≡ 0 = search rules in
    (false, subst (λ (l : List ℕ). Answers (respond_all (lines l)) false (Writes a a) s s) (sym (nil_from_length c.args.line.now empty)) (silent (λ (_ : Unit {0}) f. respond_all (lines []) f (view_of s)) (λ _ f. ends false s f) a s (λ _ f. refl)))

pub returns-clause-ok : goal.returns-clause-ok
returns-clause-ok g c =
    let some : length c.args.line.now ≢ 0 = search rules in
    (c.in_ok-respond.field-0, answers_last (g.W.Write.contents c.args.writer.now) (g.W.Write.contents c.respond.new.writer) c.args.line.now c.args.session.now c.respond.new.session c.in_ok-respond.field-0 c.requires some c.in_ok-respond.ensures.ok)

pub returns-in_err-respond-clause-broken : goal.returns-in_err-respond-clause-broken
returns-in_err-respond-clause-broken g c =
    let some : length c.args.line.now ≢ 0 = search rules in
    on_err _ _ (broken_last (g.W.Write.contents c.args.writer.now) (g.W.Write.contents c.respond.new.writer) c.args.line.now c.args.session.now c.respond.new.session c.requires some c.in_err-respond.ensures.broken)
