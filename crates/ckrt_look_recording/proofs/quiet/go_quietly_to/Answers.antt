use Rattle.std.proofs.Common.{◌∙◌, ◌-◌, sym}
use Rattle.ckrt_look_recording.proofs.QuietLemmas.{calm_here, went}
use Rattle.ckrt_look_recording.proofs.quiet.go_quietly_to.Goals as goal

-- its thread acts on no request, and so on none as it goes on
pub returns : goal.returns
returns g c =
    let m = c.args.machine.now in
    let h = c.args.hart in
    let limit = c.args.limit in
    let made = c.go_on_to-left.result in
    let calm = calm_here h m.state m.output c.requires.going c.known.ensures (sym c.acts_next.ensures ∙ c.if-acts_next.false) in
    went (g.R.StopReason.meets c.args.reason.now) c.requires.calls h limit (limit - made.0) m c.go_on_to-left.new.self made.0 made.1 calm.0 calm.1 c.requires.going c.go_on_to-left.ensures.made
