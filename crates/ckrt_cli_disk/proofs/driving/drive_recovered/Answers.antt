use Rattle.ckrt_cli_disk.proofs.driving.drive_recovered.Goals as goal

-- without a file the output goes onto a stream
pub returns-in-None-clause-drives : goal.returns-in-None-clause-drives
returns-in-None-clause-drives g c = rw c.in-None.is c.drive_onto_stream.ensures
