use Rattle.ckrt_inspect.proofs.inspecting.inspect.Goals as goal

pub returns-clause-inspected : goal.returns-clause-inspected
returns-clause-inspected g c = record { end = c.inspect_with.new.disk; read = c.inspect_with.ensures.read; tells = c.inspect_with.ensures.tells }
