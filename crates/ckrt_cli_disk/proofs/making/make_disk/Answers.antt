use Rattle.std.proofs.Common.{◌≡◌, ℕ, List, ◌∙◌, ap, subst, rules, true}
use Rattle.ckrt_stored.specs.Layout.{is_valid, size_needed}
use Rattle.ckrt_cli_files.specs.Openings.{opened, with_disk, with_image}
use Rattle.ckrt_cli_disk.specs.Making.{FormatsOpened}
use Rattle.ckrt_cli_disk.proofs.MakingLemmas.{ends_formatted}
use Rattle.ckrt_cli_disk.proofs.making.make_disk.Goals as goal

-- the disk was formatted with the image that was read, and given back
pub returns-clause-makes : goal.returns-clause-makes
returns-clause-makes g c =
    let d = g.D.Disk in
    let config = c.args.config in
    let image = c.args.image_path.now in
    let disk = c.args.disk_path.now in
    let old = g.S.Closes.openings c.args.sources.now in
    let new = g.S.Closes.openings c.format_opened.new.sources in
    let result = c.format_opened.result in
    let start = c.in_ok-disk.disk in
    let read = c.in_ok-image.ensures in
    let valid : is_valid config ≡ true = search rules in
    let asked : g.S.Closes.openings c.filled_disk.new.sources ≡ with_disk (with_image old (opened image)) (opened disk) =
    c.in_ok-disk.ensures.opened ∙ ap (λ o. with_disk o (opened disk)) read.opened in
    let with_image_read = subst (λ (l : List ℕ). FormatsOpened d config l start (g.S.Closes.openings c.filled_disk.new.sources) new result) c.deref.ensures.value c.format_opened.ensures.formats in
    let formats = subst (λ o. FormatsOpened d config c.in_ok-image.image.items start o new result) asked with_image_read in
    let filled = subst (λ (n : ℕ). g.S.Sources.fills c.fitting_image.new.sources disk n start) c.size_needed.ensures c.in_ok-disk.ensures.disk in
    record {
      bad_config = search rules;
      ends = ends_formatted d config (g.S.Sources.image_bytes c.args.sources.now image) (g.S.Sources.fills c.args.sources.now disk (size_needed config)) image disk old new read.known
          result c.in_ok-image.image.items start valid read.fits.0 read.bytes (read.same.disks disk (size_needed config) start filled) formats;
      apart = search rules;
      fits = search rules;
    }
