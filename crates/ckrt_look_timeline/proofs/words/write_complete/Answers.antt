use Rattle.ckrt_look_timeline.proofs.words.write_complete.Goals as goal

pub returns : goal.returns
returns g c = c.write_parts.ensures
