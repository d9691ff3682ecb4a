use Rattle.std.proofs.Common.{rules, ◌-◌, List, length, take, drop, true≢false, refl, subst, sym}
use Rattle.ckrt_gdb_history.specs.declared.stop.Watch.{Watch}
use Rattle.ckrt_gdb_history.specs.Positions.{History}
use Rattle.ckrt_gdb_history.specs.Stops.{HasMet}
use Rattle.ckrt_gdb_playback.specs.Motions.{IsFirstMet}
use Rattle.ckrt_gdb_playback.proofs.FirstLemmas.{first_among, later_among, rest_met, rest_width}
use Rattle.ckrt_gdb_playback.proofs.motion.+watch_of.Goals as goal

pub watch_of-requires : goal.watch_of-requires
watch_of-requires t c =
    let h = c.args.history.now in let ws = c.args.watches.now in
    let rest = rest_met ws _ h.position h.events h.start c.in-len1-up.len_at_least c.requires.met
    (λ met. true≢false (sym (c.if-has_met.ensures.met.1 (subst (λ (vs : List Watch). HasMet vs h.position h.events h.start) (sym c.only.ensures) met)))) in
    (search rules, (rest_width ws c.in-len1-up.len_at_least c.requires.width, subst (λ (x : History). HasMet (take (length ws - 1) (drop 1 ws)) x.position x.events x.start) (sym c.has_met.ensures.history) rest))

-- the first of them was met
pub returns-then-has_met-clause-first : goal.returns-then-has_met-clause-first
returns-then-has_met-clause-first t c =
    let h = c.args.history.now in
    let met = subst (λ (vs : List Watch). HasMet vs h.position h.events h.start) c.only.ensures (c.if-has_met.ensures.met.0 refl) in
    first_among c.args.watches.now _ h.position h.events h.start c.in-len1-up.len_at_least met

-- a later one was
pub returns-clause-first : goal.returns-clause-first
returns-clause-first t c =
    let h = c.args.history.now in
    let ws = c.args.watches.now in
    let rest = subst (λ (x : History). IsFirstMet c.watch_of.result (take (length ws - 1) (drop 1 ws)) x.position x.events x.start) c.has_met.ensures.history c.watch_of.ensures.first in
    later_among c.watch_of.result ws _ h.position h.events h.start c.in-len1-up.len_at_least (λ met. true≢false (sym (c.if-has_met.ensures.met.1 (subst (λ (vs : List Watch). HasMet vs h.position h.events h.start) (sym c.only.ensures) met)))) rest
