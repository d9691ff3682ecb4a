use Rattle.std.proofs.Common.{◌≤◌, ◌-◌, length, sym, ap, ◌∙◌, arith}
use Rattle.ckrt_gdb_history.specs.Positions.{History}
use Rattle.ckrt_gdb_history.specs.Extended.{Extended, extended, going_on}
use Rattle.ckrt_gdb_history.proofs.ExtendLemmas.{from_the_end, one_more}
use Rattle.ckrt_gdb_history.proofs.history.History.extend.Goals as goal

pub returns-in-Some-clause-history : goal.returns-in-Some-clause-history
returns-in-Some-clause-history c =
    let u = c.args.schedule in let k = c.args.first in let new = c.extend_once.new.self in
    let events = ap (λ (z : History). length z.events) c.self.view_is in let stands = ap (λ (z : History). z.position.events) c.self.view_is in
    let all : length c.args.self.now.events ≤ c.args.self.now.position.events = omega (arith, c.if-self-len.false, c.len.ensures, events, stands) in
    let step = one_more c.events.left u k c.events.self new c.extend_once.result c.events-test.true c.extend_once.ensures.step in
    let over = ap (λ r. going_on (extended (c.events.left - 1) u k) r new) c.in-Some.is in
    sym (ap (λ (x : Extended). x.history) (from_the_end c.args.most u k c.args.self.now all ∙ sym c.events.invariant.same ∙ step ∙ over))

pub returns-in-Some-clause-end : goal.returns-in-Some-clause-end
returns-in-Some-clause-end c =
    let u = c.args.schedule in let k = c.args.first in let new = c.extend_once.new.self in
    let events = ap (λ (z : History). length z.events) c.self.view_is in let stands = ap (λ (z : History). z.position.events) c.self.view_is in
    let all : length c.args.self.now.events ≤ c.args.self.now.position.events = omega (arith, c.if-self-len.false, c.len.ensures, events, stands) in
    let step = one_more c.events.left u k c.events.self new c.extend_once.result c.events-test.true c.extend_once.ensures.step in
    let over = ap (λ r. going_on (extended (c.events.left - 1) u k) r new) c.in-Some.is in
    sym (ap (λ (x : Extended). x.end) (from_the_end c.args.most u k c.args.self.now all ∙ sym c.events.invariant.same ∙ step ∙ over))

pub events-preserved : goal.events-preserved
events-preserved c =
    let u = c.args.schedule in let k = c.args.first in let new = c.extend_once.new.self in
    let step = one_more c.events.left u k c.events.self new c.extend_once.result c.events-test.true c.extend_once.ensures.step in
    let on = ap (λ r. going_on (extended (c.events.left - 1) u k) r new) c.in_default.is in
    record { same = sym (step ∙ on) ∙ c.events.invariant.same; end = c.extend_once.ensures.end }
