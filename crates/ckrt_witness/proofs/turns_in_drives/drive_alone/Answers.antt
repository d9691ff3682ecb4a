use Rattle.ckrt_witness.proofs.DriveTurnLemmas.{drove_alone}
use Rattle.ckrt_witness.proofs.turns_in_drives.drive_alone.Goals as goal

pub returns : goal.returns
returns g c =
    let e = c.in-Ok.ensures in
    λ honest whole. drove_alone g.D.Disk g.O.Disk c.args.disk c.args.output c.args.options c.in-Ok.session c.go_alone.result.session c.go_alone.result.output (record { content = e.exact; view = e.opened; represents = e.represents; disk = e.disk }) c.go_alone.ensures honest whole
