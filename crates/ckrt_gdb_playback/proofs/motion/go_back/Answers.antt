use Rattle.std.proofs.Common.{◌≡◌, Option, ap, inr, subst, sym, ◌∙◌}
use Rattle.std.specs.Prelude.{IfSome}
use Rattle.ckrt_gdb_history.specs.declared.stop.Watch.{Watch}
use Rattle.ckrt_gdb_history.specs.Positions.{History, IsGreatest}
use Rattle.ckrt_gdb_history.specs.Stops.{IsStop}
use Rattle.ckrt_gdb_playback.specs.Motions.{HasMetFirst, at}
use Rattle.ckrt_gdb_playback.proofs.motion.go_back.Goals as goal

pub returns-in-Some-met : goal.returns-in-Some-met
returns-in-Some-met c =
    let h = c.args.history.now in let stops = c.args.stops.now in let first = c.args.first in let x = c.backward.new.self in let w = c.in-Some-met.watch in
    let gone : x ≡ at x.position h = c.backward.ensures.history ∙ ap (λ (y : History). at x.position y) c.met.ensures.history in
    let greatest = subst (λ (y : History). IsGreatest (IsStop stops y) first y.position x.position y) c.met.ensures.history (c.backward.ensures.found c.if-not-backward.false) in
    let met : HasMetFirst w stops x x.position = subst (λ (o : Option Watch). IfSome o (λ v. HasMetFirst v stops x x.position)) c.in-Some-met.is c.met-2.ensures.first in
    let there = subst (λ (y : History). HasMetFirst w stops y x.position) gone met in
    inr
    (subst (λ (z : History). (z ≡ at z.position h) × IsGreatest (IsStop stops h) first h.position z.position h × HasMetFirst w stops h z.position) (sym c.met-2.ensures.history)
    (gone, greatest, there))
