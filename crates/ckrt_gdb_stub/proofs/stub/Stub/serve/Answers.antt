use Rattle.std.proofs.Common.{◌≡◌, Err, Option, rules, sym, subst}
use Rattle.std.specs.Prelude.{option_map}
use Rattle.ckrt_gdb_stub.specs.declared.stub.Stub.{Stub}
use Rattle.ckrt_gdb_stub.specs.Conversation.{Advances, BreaksOff, HasHeard, Talk, begun, talk_of}
use Rattle.ckrt_gdb_stub.proofs.ConversationLemmas.{answers_err, heard_nothing, heard_on, never_range, read_out}
use Rattle.ckrt_gdb_stub.proofs.stub.Stub.serve.Goals as goal

pub loop-init : goal.loop-init
loop-init g c =
    let r = g.R.Read.remaining c.args.reader.now in let a = g.W.Write.contents c.args.writer.now in
    subst (λ (t : Talk). HasHeard (g.R.Read.remaining c.args.reader.now) (g.R.Read.remaining c.args.reader.now) (g.W.Write.contents c.args.writer.now) (g.W.Write.contents c.args.writer.now) (begun c.args.self) t)
    (sym (c.new-line.ensures c.args.self)) (heard_nothing r a (begun c.args.self))

pub returns-clause-broken : goal.returns-clause-broken
returns-clause-broken g c =
    read_out c.args.self (g.R.Read.remaining c.args.reader.now) (g.R.Read.remaining c.loop.reader) (g.W.Write.contents c.args.writer.now) (g.W.Write.contents c.loop.writer) (talk_of c.loop.stub c.loop.line) c.loop.invariant

pub loop-preserved : goal.loop-preserved
loop-preserved g c =
    let s = g.R.Read.remaining c.loop.reader in let t = g.R.Read.remaining c.advance.new.reader in
    let b = g.W.Write.contents c.loop.writer in let d = g.W.Write.contents c.advance.new.writer in
    let now = talk_of c.loop.stub c.loop.line in
    heard_on c.args.self (g.R.Read.remaining c.args.reader.now) s (g.W.Write.contents c.args.writer.now) b now c.loop.invariant t d (talk_of c.in-Some.next c.advance.new.line)
    (subst (λ (o : Option Stub). Advances (option_map (λ (x : Stub). talk_of x c.advance.new.line) o) (talk_of c.loop.stub c.loop.line) (g.R.Read.remaining c.loop.reader) (g.R.Read.remaining c.advance.new.reader) (g.W.Write.contents c.loop.writer) (g.W.Write.contents c.advance.new.writer))
    c.in-Some.is c.in_ok-next.ensures.whole)

pub returns-in-None-clause-whole : goal.returns-in-None-clause-whole
returns-in-None-clause-whole g c = (
  g.R.Read.remaining c.loop.reader,
  g.W.Write.contents c.loop.writer,
  talk_of c.loop.stub c.loop.line,
  c.loop.invariant,
  subst (λ (o : Option Stub). Advances (option_map (λ (x : Stub). talk_of x c.advance.new.line) o) (talk_of c.loop.stub c.loop.line) (g.R.Read.remaining c.loop.reader) (g.R.Read.remaining c.advance.new.reader) (g.W.Write.contents c.loop.writer) (g.W.Write.contents c.advance.new.writer))
      c.in-None.is c.in_ok-next.ensures.whole,
)

pub returns-in_err-next-clause-broken : goal.returns-in_err-next-clause-broken
returns-in_err-next-clause-broken g c =
    let is : c.from_residual.result ≡ Err c.in_err-next.field-0.0 = search rules in
    answers_err c.from_residual.result c.in_err-next.field-0.0
    (λ e. BreaksOff e c.args.self (g.R.Read.remaining c.args.reader.now) (g.R.Read.remaining c.advance.new.reader) (g.W.Write.contents c.args.writer.now) (g.W.Write.contents c.advance.new.writer)) is
    (g.R.Read.remaining c.loop.reader, g.W.Write.contents c.loop.writer, talk_of c.loop.stub c.loop.line, c.loop.invariant, c.in_err-next.ensures.broken)

pub returns-in_err-next-clause-fault : goal.returns-in_err-next-clause-fault
returns-in_err-next-clause-fault g c =
    let is : c.from_residual.result ≡ Err c.in_err-next.field-0.0 = search rules in
    answers_err _ _ _ is
    (never_range (talk_of c.loop.stub c.loop.line) (g.R.Read.remaining c.loop.reader) (g.R.Read.remaining c.advance.new.reader) (g.W.Write.contents c.loop.writer) (g.W.Write.contents c.advance.new.writer)
    c.in_err-next.field-0.0 c.in_err-next.ensures.broken)
