use Rattle.ckrt_witness.proofs.turns_in_drives.go_alone.Goals as goal

pub returns : goal.returns
returns g c =
    let d = c.new-drive.ensures in
    let p = c.into_parts-session.ensures in
    let end = c.run-answer.new.self in
    let by_steps = rw (d.options, d.left, d.taken, d.session, d.output) at c.run-answer.ensures.by_steps in
    rw (p.session, p.output) (record { left = end.left; taken = end.taken; steps = by_steps })
