use Rattle.std.proofs.Common.{rules, ◌≡◌, ◌∙◌, ℕ, List, true, Err, Some, ap, refl, subst, sym, inl, inr}
use Rattle.std.specs.Prelude.{option_map}
use Rattle.ckrt_cli_words.specs.Jobs.{hunting_of}
use Rattle.ckrt_cli_disk.specs.Making.{IsFit}
use Rattle.ckrt_cli_reports.specs.Ranges.{is_hunt_in_range}
use Rattle.ckrt_hunt_schedules.specs.declared.table.Asked.{Asked}
use Rattle.ckrt_cli.specs.Hunting.{EndsHunt, Hunter, kept_size, reached, wanted_of}
use Rattle.ckrt_cli.specs.Inputs.{EndsOnAskedInput, IsAskedInput, with_asked_input}
use Rattle.ckrt_cli.proofs.InputLemmas.{ends_before, input_before}
use Rattle.ckrt_cli.proofs.KeepLemmas.{ends_weaker}
use Rattle.ckrt_cli.proofs.hunting.hunt_path.Goals as goal

-- the image and the input were read, and no more disks may be made than before
pub returns : goal.returns
returns g c =
    let job = c.args.job.now in
    let size = kept_size (hunting_of job) in
    let path = option_map (λ p. p.now) job.input in
    let read = c.in_ok-image.ensures in
    let given = c.in_ok-input.ensures in
    let guest = c.deref.result.now in
    let input = c.input_over-given.result in
    let asked : Asked = record { image = job.image; shape = c.ignoring_output-shape.result; seeds = c.in-Some-seeds_for.seeds; may_end = c.is_some.result; input = job.input; look = c.look_of.result; room = c.room_of.result; all_rows = job.all_rows } in
    let h = c.hunt_image.ensures.hunts in
    let old = g.S.Closes.openings c.args.sources.now in
    let new = g.S.Closes.openings c.hunt_image.new.sources in
    let known = g.S.Sources.image_bytes c.args.sources.now in
    let fills : List ℕ → g.row.D.Denot → Type 0 = λ path. g.S.Sources.fills c.args.sources.now path size in
    let it : Hunter g.row.D.Denot = record { asked = hunting_of job; known = known; Fills = fills } in
    let written = g.W.Write.contents c.hunt_image.new.writer in
    let after = c.asked_input.new.sources in
    let looked : Hunter g.row.D.Denot = record {
      asked = hunting_of job;
      known = g.S.Sources.image_bytes after;
      Fills = λ path. g.S.Sources.fills after path size;
    } in
    let ends = ends_weaker g.D.Disk looked fills guest input asked _ (reached new written) h.0 c.hunt_image.result
    (λ path disk is. read.same.disks path size disk (given.same.disks path size disk is)) h.3 in
    let behind = subst (λ o. EndsHunt g.D.Disk (wanted_of it guest input asked) (reached o h.1) (reached new written) h.0 c.hunt_image.result) given.opened ends in
    let in_range : is_hunt_in_range (hunting_of job) ≡ true = search rules in
    record {
      hunts = λ left.
          inr (inr (inr (inr (inr (record {
            guest = guest;
            is_guest = λ bytes told. c.deref.ensures.value ∙ read.bytes bytes told;
            fit = subst (λ k. IsFit k (known job.image.now)) c.config_of-config.ensures read.known;
            input = input;
            is_input = input_before known (g.S.Sources.image_bytes c.fitting_image.new.sources) read.same.images path _ (subst (λ bytes. IsAskedInput (g.S.Sources.image_bytes c.fitting_image.new.sources) path bytes) (sym c.input_over-given.ensures) given.bytes);
            asked = asked;
            is_asked = record { in_range = in_range; image = refl; shape = ap (λ n. Some n) c.ignoring_output-shape.ensures.numbers ∙ c.in-Some.ensures; seeds = c.in-Some-seeds_for.ensures; may_end = c.is_some.ensures; input = refl; look = c.look_of.ensures; room = c.room_of.ensures; output = c.ignoring_output-shape.ensures.output; all_rows = refl };
            told = h.0;
            table = h.1;
            tells = h.2;
            ends = subst (λ o. EndsHunt g.D.Disk (wanted_of it guest input asked) (reached (with_asked_input path o) h.1) (reached new written) h.0 c.hunt_image.result) read.opened behind;
            unread = refl;
          })))));
    }

-- the image was read, and the input wasn't
pub returns-in_err-input : goal.returns-in_err-input
returns-in_err-input g c =
    let job = c.args.job.now in
    let path = option_map (λ p. p.now) job.input in
    let read = c.in_ok-image.ensures in
    let known = g.S.Sources.image_bytes c.args.sources.now in
    let first = c.fitting_image.new.sources in
    let new = g.S.Closes.openings c.asked_input.new.sources in
    let why = c.in_err-input.field-0.0 in
    let told : c.from_residual-in_err-input.result ≡ Err why = search rules in
    record {
      hunts = λ left.
          inr (inr (inr (inr (inl (record {
            why = why;
            is = told;
            fit = subst (λ k. IsFit k (known job.image.now)) c.config_of-config.ensures read.known;
            unread_input = subst (λ o. EndsOnAskedInput known path o new why) read.opened (ends_before known (g.S.Sources.image_bytes first) read.same.images path (g.S.Closes.openings first) new why c.in_err-input.ensures.unfit);
            unwritten = refl;
            unread = refl;
          })))));
    }
