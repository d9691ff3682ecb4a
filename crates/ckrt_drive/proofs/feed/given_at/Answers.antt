use Rattle.std.proofs.Common.{rules, ◌≡◌, ◌+◌, ◌∙◌, length, take, drop, true, ap, sym, subst, arith}
use Rattle.std.specs.Prelude.{IfSome, is_none, ◌≤◌, [], ◌∷◌}
use Rattle.ckrt_events.specs.Bytes.{IsInRange}
use Rattle.ckrt_schedule.specs.Next.{next_input}
use Rattle.ckrt_schedule.specs.Taken.{taken_by}
use Rattle.ckrt_drive.proofs.GivenLemmas.{few_next, in_range, none_window}
use Rattle.ckrt_drive.proofs.feed.given_at.Goals as goal

pub returns-then-is_none-clause-given : goal.returns-then-is_none-clause-given
returns-then-is_none-clause-given g c = λ honest.
    let disk = c.args.disk.now in
    let content = g.I.Disk.content disk in
    let none : is_none c.next_input.result ≡ true = search rules in
    let room : c.args.at + length c.args.window.now ≤ g.I.Disk.size disk = omega (arith, c.requires.room, c.requires.long) in
    none_window c.args.tables.now content c.args.window.now c.args.at (g.I.Disk.size disk) c.next_input.result c.next_input.ensures none room (g.met.I.Disk.whole disk honest)
    ∙ ap (λ n. next_input c.args.tables.now (take n (drop c.args.at content))) c.requires.long

pub returns-clause-given : goal.returns-clause-given
returns-clause-given g c = λ honest.
    c.next_input-2.ensures ∙ ap (next_input c.args.tables.now) (c.in_ok-read.ensures.bytes honest ∙ ap (λ n. take n (drop c.args.at (g.I.Disk.content c.args.disk.now))) c.requires.long)

pub returns-clause-in_range : goal.returns-clause-in_range
returns-clause-in_range g c = subst (λ o. IfSome o IsInRange) (sym c.next_input-2.ensures) (in_range c.args.tables.now c.read.new.buf)

pub returns-clause-few : goal.returns-clause-few
returns-clause-few g c =
    let same : length c.read.new.buf ≡ c.args.count = search rules in
    subst (λ n. IfSome c.next_input-2.result (λ e. taken_by (e ∷ []) ≤ n)) same
    (subst (λ o. IfSome o (λ e. taken_by (e ∷ []) ≤ length c.read.new.buf)) (sym c.next_input-2.ensures) (few_next c.args.tables.now c.read.new.buf))
