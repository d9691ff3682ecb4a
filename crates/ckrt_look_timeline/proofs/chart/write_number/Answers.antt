use Rattle.ckrt_look_timeline.proofs.chart.write_number.Goals as goal

pub returns : goal.returns
returns g c = c.write_parts.ensures
