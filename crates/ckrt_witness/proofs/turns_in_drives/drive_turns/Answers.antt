use Rattle.std.proofs.Common.{rules, ◌≡◌, ◌≤◌, ◌∙◌, subst}
use Rattle.ckrt_schedule.specs.Turns.{turns_within}
use Rattle.ckrt_witness.proofs.DriveTurnLemmas.{drove_alone}
use Rattle.ckrt_witness.proofs.turns_in_drives.drive_turns.Goals as goal

pub returns : goal.returns
returns g c =
    let s = c.in-Ok.session in
    let e = c.in-Ok.ensures in
    let t = c.go_alone-left.result.session in
    let harts : c.hart_count-harts.result ≡ s.progress.machine.state.tables.threads.hart_count = search rules in
    λ honest whole. (
      drove_alone g.D.Disk g.O.Disk c.args.disk c.args.output c.args.options s t c.go_alone-left.result.output (record { content = e.exact; view = e.opened; represents = e.represents; disk = e.disk }) c.go_alone-left.ensures honest whole,
      record {
        ready = c.has_ready.ensures c.if-not-has_ready.false;
        many = subst (λ n. turns_within n 0 ≤ t.progress.count) (harts ∙ s.progress.harts) (c.has_turns.ensures c.if-not-has_turns.false);
      },
    )
