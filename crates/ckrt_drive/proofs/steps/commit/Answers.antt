use Rattle.ckrt_drive.specs.Keeping.{IsCommit}
use Rattle.ckrt_drive.proofs.FeedLemmas.{commit_feeds}
use Rattle.ckrt_drive.proofs.RecordLemmas.{commit_records}
use Rattle.ckrt_drive.proofs.SaveLemmas.{advances_commit, advances_failed}
use Rattle.ckrt_drive.proofs.steps.commit.Goals as goal

pub returns-in-Ok : goal.returns-in-Ok
returns-in-Ok g c =
    let f = c.commit.ensures in
    let old = c.args.session.now in
    let new = c.commit.new.self in
    let is : IsCommit old c.commit.result new = record { any_moment = f.any_moment; represents = f.represents; journals = f.journals; commits = f.commits; honest = f.disk.same.honest } in
    advances_commit c.args.recorded _ _ c.in-Ok.field-0 old new c.commit.result c.in-Ok.is (commit_feeds old new g.met.D.Disk.only_now g.met.D.Disk.counts_now c.args.recorded c.commit.result is) (commit_records old new g.met.D.Disk.only_now g.met.D.Disk.counts_now c.commit.result is) f.any_moment f.represents f.disk f.commits

pub returns-in-Err : goal.returns-in-Err
returns-in-Err g c =
    let f = c.commit.ensures in
    let old = c.args.session.now in
    let new = c.commit.new.self in
    let is : IsCommit old c.commit.result new = record { any_moment = f.any_moment; represents = f.represents; journals = f.journals; commits = f.commits; honest = f.disk.same.honest } in
    advances_failed c.args.recorded _ _ c.in-Err.field-0 old new c.commit.result c.in-Err.is (commit_feeds old new g.met.D.Disk.only_now g.met.D.Disk.counts_now c.args.recorded c.commit.result is) (commit_records old new g.met.D.Disk.only_now g.met.D.Disk.counts_now c.commit.result is) f.any_moment f.represents f.disk f.commits
