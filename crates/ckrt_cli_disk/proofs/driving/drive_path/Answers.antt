use Rattle.std.proofs.Common.{rules, ◌≡◌, true}
use Rattle.ckrt_cli_words.specs.Jobs.{driving_of}
use Rattle.ckrt_cli_reports.specs.Ranges.{is_in_range}
use Rattle.ckrt_cli_disk.proofs.DriveLemmas.{found_driven}
use Rattle.ckrt_cli_disk.proofs.driving.drive_path.Goals as goal

-- the disk that was driven is the one that was found, and what sources may give is what they might before
pub returns-clause-drives : goal.returns-clause-drives
returns-clause-drives g c =
    let j = driving_of c.args.job.now in
    let inside : is_in_range j ≡ true = search rules in
    let there = c.in_ok-disk.ensures in
    found_driven g.D.Disk _ _ (g.S.Sources.image_bytes c.args.sources.now) (g.S.Sources.opens c.args.sources.now) (g.S.Sources.fills c.args.sources.now) (g.S.Sources.gives c.args.sources.now) j inside (g.S.Sources.gives c.find_disk.new.sources) there.same.others c.options_of-options.result c.in_ok-disk.disk _ _ _ c.drive_sized.result
    c.options_of-options.ensures there.finds c.drive_sized.ensures.drives
