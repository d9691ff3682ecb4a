use Rattle.ckrt_cli.proofs.program.perform.Goals as goal

-- no line was read
pub returns-in-Format : goal.returns-in-Format
returns-in-Format g c =
    let unread = g.R.Read.remaining c.args.reader.now in
    record { performs = rw c.in-Format.is (c.make.result, c.without_end-in-Format.ensures, c.make.ensures.makes unread) }

pub returns-in-Inspect : goal.returns-in-Inspect
returns-in-Inspect g c =
    let unread = g.R.Read.remaining c.args.reader.now in
    record { performs = rw c.in-Inspect.is (c.show.result, c.without_end-in-Inspect.ensures, c.show.ensures.shows unread) }

pub returns-in-Calls : goal.returns-in-Calls
returns-in-Calls g c =
    let unread = g.R.Read.remaining c.args.reader.now in
    record { performs = rw c.in-Calls.is (c.calls_path.result, c.without_end-in-Calls.ensures, c.calls_path.ensures.traces unread) }

pub returns-in-Races : goal.returns-in-Races
returns-in-Races g c =
    let unread = g.R.Read.remaining c.args.reader.now in
    record { performs = rw c.in-Races.is (c.races_path.result, c.without_end-in-Races.ensures, c.races_path.ensures.races unread) }

pub returns-in-Check : goal.returns-in-Check
returns-in-Check g c =
    let unread = g.R.Read.remaining c.args.reader.now in
    record { performs = rw c.in-Check.is (c.check_path.result, c.without_end-in-Check.ensures, c.check_path.ensures.checks unread) }

pub returns-in-Hunt : goal.returns-in-Hunt
returns-in-Hunt g c =
    let unread = g.R.Read.remaining c.args.reader.now in
    record { performs = rw c.in-Hunt.is (c.hunt_path.result, c.of_hunt.ensures, c.hunt_path.ensures.hunts unread) }

pub returns-in-Timeline : goal.returns-in-Timeline
returns-in-Timeline g c =
    let unread = g.R.Read.remaining c.args.reader.now in
    record { performs = rw c.in-Timeline.is (c.timeline_path.result, c.without_end-in-Timeline.ensures, c.timeline_path.ensures.draws unread) }

pub returns-in-Profile : goal.returns-in-Profile
returns-in-Profile g c =
    let unread = g.R.Read.remaining c.args.reader.now in
    record { performs = rw c.in-Profile.is (c.profile_path.result, c.without_end-in-Profile.ensures, c.profile_path.ensures.profiles unread) }

pub returns-in-History : goal.returns-in-History
returns-in-History g c =
    let unread = g.R.Read.remaining c.args.reader.now in
    record { performs = rw c.in-History.is (c.history_path.result, c.without_end-in-History.ensures, c.history_path.ensures.tells unread) }
