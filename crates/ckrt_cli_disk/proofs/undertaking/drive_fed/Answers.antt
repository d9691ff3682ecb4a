use Rattle.ckrt_cli_disk.proofs.undertaking.drive_fed.Goals as goal

-- the feed is the input's file, and leaves it as it is
pub returns-clause-drives : goal.returns-clause-drives
returns-clause-drives g c = rw c.into_disk.ensures (rw c.new-feed.ensures at c.undertake-undertaken.ensures)
