use Rattle.ckrt_gdb_playback.proofs.standing.push_reason.Goals as goal

pub returns-in-Join-clause-done : goal.returns-in-Join-clause-done
returns-in-Join-clause-done c = rw c.in-Join.is (rw c.from.ensures at c.push_counted.ensures.done)

pub returns-in-Lock-clause-done : goal.returns-in-Lock-clause-done
returns-in-Lock-clause-done c = rw c.in-Lock.is c.push_mutex.ensures.done

pub returns-in-Retake-clause-done : goal.returns-in-Retake-clause-done
returns-in-Retake-clause-done c = rw c.in-Retake.is c.push_mutex-in-Retake.ensures.done

pub returns-in-Condition-clause-done : goal.returns-in-Condition-clause-done
returns-in-Condition-clause-done c = rw c.in-Condition.is c.push_at.ensures.done

pub returns-in-Barrier-clause-done : goal.returns-in-Barrier-clause-done
returns-in-Barrier-clause-done c = rw c.in-Barrier.is c.push_at-in-Barrier.ensures.done

pub returns-in-Read-clause-done : goal.returns-in-Read-clause-done
returns-in-Read-clause-done c = rw c.in-Read.is c.push_at-in-Read.ensures.done

pub returns-in-Write-clause-done : goal.returns-in-Write-clause-done
returns-in-Write-clause-done c = rw c.in-Write.is c.push_at-in-Write.ensures.done
