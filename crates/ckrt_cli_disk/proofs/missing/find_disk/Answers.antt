use Rattle.std.proofs.Common.{rules, ◌≡◌, ◌+◌, ap, subst, inl, inr}
use Rattle.std.specs.Option.{option_map}
use Rattle.ckrt_stored.specs.Layout.{size_needed}
use Rattle.ckrt_cli_words.specs.Jobs.{driving_of}
use Rattle.ckrt_cli_disk.specs.Feeding.{made_size}
use Rattle.ckrt_cli_disk.specs.Missing.{MakesMissing}
use Rattle.ckrt_cli_disk.specs.Programs.{Compares}
use Rattle.ckrt_cli_files.specs.Openings.{opened, refused, with_disk}
use Rattle.ckrt_cli_reports.specs.Ranges.{config_for}
use Rattle.ckrt_cli_files.specs.declared.file.FileFault.{FileFault}
use Rattle.ckrt_cli_files.specs.declared.file.FileFault.TheVariants.{NotFound}
use Rattle.ckrt_cli_disk.proofs.MissingLemmas.{compares_same, makes_weaker}
use Rattle.ckrt_cli_disk.proofs.missing.find_disk.Goals as goal

-- a disk had the path, and what is known of images is what was known before
pub returns-in-Ok-clause-finds : goal.returns-in-Ok-clause-finds
returns-in-Ok-clause-finds g c =
    let d = g.D.Disk in
    let images = g.S.Sources.image_bytes c.args.sources.now in
    let path = c.args.job.now.disk.now in
    let image = (driving_of c.args.job.now).image in
    let old = g.S.Closes.openings c.args.sources.now in
    let asked = g.S.Closes.openings c.open_disk.new.self in
    let new = g.S.Closes.openings c.compared.new.sources in
    let opens : asked ≡ with_disk old (opened path) = search rules in
    let compares = compares_same d images (g.S.Sources.image_bytes c.open_disk.new.self) image c.in-Ok.disk asked new c.compared.result c.in-Ok.ensures.same.images c.compared.ensures.compares in
    inl (record {
      start = c.in-Ok.disk;
      is_opened = c.in-Ok.ensures.disk;
      compares = subst (λ o. Compares d images image c.in-Ok.disk o new c.compared.result) opens compares;
    })

-- nothing had the path, and what is known of images and disks is no more than before
pub returns-in-Some-clause-finds : goal.returns-in-Some-clause-finds
returns-in-Some-clause-finds g c =
    let same = c.in-Err.ensures.same in
    let image = c.in-Some.image.now in
    let path = c.args.job.now.disk.now in
    let config = config_for c.args.job.now.sizes in
    let old = g.S.Closes.openings c.args.sources.now in
    let asked = g.S.Closes.openings c.open_disk.new.self in
    let new = g.S.Closes.openings c.make_missing.new.sources in
    let missing : c.in-Err.fault ≡ NotFound = c.is_missing.ensures.0 (search rules) in
    let refusal : asked ≡ with_disk old (refused path NotFound) =
    subst (λ (f : FileFault). asked ≡ with_disk old (refused path f)) missing c.in-Err.ensures.asked in
    let spare = c.spare_for-spare.result in
    let with_config = subst (λ k. MakesMissing g.D.Disk k (g.S.Sources.image_bytes c.open_disk.new.self image) (g.S.Sources.fills c.open_disk.new.self path (size_needed k + spare)) image path asked new c.make_missing.result)
    c.config_for-config.ensures c.make_missing.ensures.makes in
    let with_spare = subst (λ n. MakesMissing g.D.Disk config (g.S.Sources.image_bytes c.open_disk.new.self image) (g.S.Sources.fills c.open_disk.new.self path (size_needed config + n)) image path asked new c.make_missing.result)
    c.spare_for-spare.ensures.size with_config in
    let size = made_size (driving_of c.args.job.now) in
    let known = subst (λ k. MakesMissing g.D.Disk config k (g.S.Sources.fills c.open_disk.new.self path size) image path asked new c.make_missing.result) (same.images image) with_spare in
    let weaker = makes_weaker g.D.Disk config _ _ (g.S.Sources.fills c.args.sources.now path size) image path asked new c.make_missing.result (same.disks path size) known in
    inr (inr (record {
      from = image;
      is_from = ap (option_map (λ p. p.now)) c.in-Some.is;
      makes = subst (λ o. MakesMissing g.D.Disk config (g.S.Sources.image_bytes c.args.sources.now image) (g.S.Sources.fills c.args.sources.now path size) image path o new c.make_missing.result) refusal weaker;
    }))
