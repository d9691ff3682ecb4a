use Rattle.std.proofs.Common.{◌≡◌, ◌<◌, ◌+◌, ◌++◌, ℕ, List, [], length, take, drop, min, arith, rules, refl, sym, ap, subst, ◌∙◌, append-nil}
use Rattle.std.proofs.lemmas.List.{nil_from_length}
use Rattle.std.specs.Io.KnownBytes.{Appends}
use Rattle.ckrt_main.specs.Replies.{Reply, line_of, outputs}
use Rattle.ckrt_disk.specs.Writing.{AppendsPart}
use Rattle.ckrt_main.proofs.TellLemmas.{tells_nothing}
use Rattle.ckrt_disk.proofs.WriteLemmas.{on_err}
use Rattle.ckrt_main.specs.Service.{Writes}
use Rattle.ckrt_main.proofs.OutputLemmas.{line_more, line_broken}
use Rattle.ckrt_main.proofs.lines.write_lines.Goals as goal

pub loop-rest-init : goal.loop-rest-init
loop-rest-init g c = record { end = refl; written = ([], tells_nothing line_of (g.W.Write.contents c.args.writer.now), refl) }

pub loop-rest-preserved : goal.loop-rest-preserved
loop-rest-preserved g c =
    let i = c.loop-rest.invariant in
    let count : c.min.result ≡ min (length c.loop-rest.rest.now) 64 = search rules in
    let some : 0 < length c.loop-rest.rest.now = search rules in
    let front : c.split_at.result.0.now ≡ take c.min.result c.loop-rest.rest.now = search rules in
    let back : c.split_at.result.1.now ≡ drop c.min.result c.loop-rest.rest.now = search rules in
    let a = g.W.Write.contents c.args.writer.now in
    let b = g.W.Write.contents c.loop-rest.writer in
    let d = g.W.Write.contents c.write_text.new.writer in
    record {
      end = omega (arith, i.end, c.split_at.ensures.front_len, c.split_at.ensures.back_len);
      written = line_more a b d c.args.offset c.loop-rest.at c.min.result c.loop-rest.rest.now c.args.bytes.now c.split_at.result.0.now c.split_at.result.1.now i.written.0 count some front back i.written.1 i.written.2
          (subst (Appends b d) (c.deref.ensures.0 ∙ c.out.ensures) c.in_ok-write_text.ensures.ok);
    }

pub returns-clause-ok : goal.returns-clause-ok
returns-clause-ok g c =
    let i = c.loop-rest.invariant in
    let empty : length c.loop-rest.rest.now ≡ 0 = search rules in
    let none : c.loop-rest.rest.now ≡ [] = nil_from_length c.loop-rest.rest.now empty in
    let all : i.written.0 ≡ outputs c.args.offset c.args.bytes.now = sym (append-nil i.written.0) ∙ (ap (λ (l : List ℕ). i.written.0 ++ outputs c.loop-rest.at l) (sym none) ∙ i.written.2) in
    subst (λ (l : List Reply). Writes (g.W.Write.contents c.args.writer.now) (g.W.Write.contents c.loop-rest.writer) l []) all i.written.1

pub returns-in_err-write_text-clause-broken : goal.returns-in_err-write_text-clause-broken
returns-in_err-write_text-clause-broken g c =
    let i = c.loop-rest.invariant in
    let count : c.min.result ≡ min (length c.loop-rest.rest.now) 64 = search rules in
    let some : 0 < length c.loop-rest.rest.now = search rules in
    let front : c.split_at.result.0.now ≡ take c.min.result c.loop-rest.rest.now = search rules in
    let back : c.split_at.result.1.now ≡ drop c.min.result c.loop-rest.rest.now = search rules in
    let a = g.W.Write.contents c.args.writer.now in
    let b = g.W.Write.contents c.loop-rest.writer in
    let d = g.W.Write.contents c.write_text.new.writer in
    on_err _ _ (line_broken a b d c.args.offset c.loop-rest.at c.min.result c.loop-rest.rest.now c.args.bytes.now c.split_at.result.0.now c.split_at.result.1.now i.written.0 count some front back i.written.1 i.written.2
    (subst (AppendsPart b d) (c.deref.ensures.0 ∙ c.out.ensures) c.in_err-write_text.ensures.part))
