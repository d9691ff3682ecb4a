use Rattle.std.proofs.Common.{◌≡◌, ℕ, List, false, length, arith, sym, ap, subst, ◌∙◌}
use Rattle.std.specs.Prelude.{◌==◌}
use Rattle.std.specs.Str.Lines.{strip_carriage_return}
use Rattle.std.proofs.lemmas.Bool.{eqb-true}
use Rattle.std.proofs.lemmas.Bool.Decides.{nat_tests}
use Rattle.ckrt_events.specs.Line.{command_of}
use Rattle.ckrt_main.specs.Transcript.{respond}
use Rattle.ckrt_main.specs.Service.{Writes}
use Rattle.ckrt_main.specs.Pieces.{Answers, BreaksOff}
use Rattle.ckrt_main.proofs.LineLemmas.{is_open-more}
use Rattle.ckrt_main.proofs.ProcessLemmas.{processed_newline, processed_newline_part, processed_byte, processed_full}
use Rattle.ckrt_disk.proofs.WriteLemmas.{on_err}
use Rattle.ckrt_main.proofs.service.take_byte.Goals as goal

pub returns-then-byte-eq10-clause-processed : goal.returns-then-byte-eq10-clause-processed
returns-then-byte-eq10-clause-processed g c =
    let a = g.W.Write.contents c.args.writer.now in
    let b = g.W.Write.contents c.respond.new.writer in
    let old = c.args.session.now in
    let line = c.args.line.now.items in
    let e : c.without_carriage_return.result.now ≡ strip_carriage_return c.args.line.now.items = c.without_carriage_return.ensures ∙ ap strip_carriage_return c.deref.ensures.0 in
    let answers = subst (λ (l : List ℕ). Answers (respond (command_of l)) c.in_ok-quit.quit (Writes a b) old c.respond.new.session) e c.in_ok-quit.ensures.ok in
    rw (c.if-byte-eq10.true, c.clear.ensures) (processed_newline a b line old c.respond.new.session c.in_ok-quit.quit c.requires answers)

pub returns-in_err-quit-clause-broken : goal.returns-in_err-quit-clause-broken
returns-in_err-quit-clause-broken g c =
    let a = g.W.Write.contents c.args.writer.now in
    let b = g.W.Write.contents c.respond.new.writer in
    let old = c.args.session.now in
    let e : c.without_carriage_return.result.now ≡ strip_carriage_return c.args.line.now.items = c.without_carriage_return.ensures ∙ ap strip_carriage_return c.deref.ensures.0 in
    let part = subst (λ (l : List ℕ). BreaksOff (respond (command_of l)) (Writes a b) old c.respond.new.session) e c.in_err-quit.ensures.broken in
    rw c.if-byte-eq10.true (on_err _ _ (processed_newline_part a b c.args.line.now.items old c.respond.new.session c.requires part))

pub returns-then-is_full-clause-processed : goal.returns-then-is_full-clause-processed
returns-then-is_full-clause-processed g c =
    let no : (c.args.byte == 10) ≡ false = grind (arith, nat_tests) in
    processed_full (g.W.Write.contents c.args.writer.now) c.args.line.now.items c.args.byte c.args.session.now c.requires (eqb-true (length c.args.line.now.items) 162 (sym c.if-is_full.ensures.value)) no

pub returns-clause-open : goal.returns-clause-open
returns-clause-open g c =
    let no : (c.args.byte == 10) ≡ false = grind (arith, nat_tests) in
    rw c.push.ensures.items (is_open-more c.args.line.now.items c.args.byte c.requires no)

pub returns-clause-processed : goal.returns-clause-processed
returns-clause-processed g c = rw c.push.ensures.items (processed_byte (g.W.Write.contents c.args.writer.now) c.args.line.now.items c.args.byte c.args.session.now)
