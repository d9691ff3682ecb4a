use Rattle.ckrt_look_timeline.proofs.shares.write_title.Goals as goal

pub returns : goal.returns
returns g c = c.write_parts.ensures
