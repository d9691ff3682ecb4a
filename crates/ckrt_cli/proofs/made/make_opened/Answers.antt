use Rattle.std.proofs.Common.{◌∙◌, ap, refl}
use Rattle.ckrt_cli_files.specs.Openings.{with_closed}
use Rattle.ckrt_cli.specs.Histories.{both}
use Rattle.ckrt_cli.proofs.made.make_opened.Goals as goal

pub returns : goal.returns
returns g c = record {
  makes = record {
    source = c.args.source;
    is_source = refl;
    output = c.args.output;
    is_output = refl;
    end = both c.make_and_measure-found.new.source c.make_and_measure-found.new.history;
    makes = c.make_and_measure-found.ensures.makes;
    closes = c.close.ensures.closed ∙ ap (λ o. with_closed o c.make_and_measure-found.new.source) c.close_history.ensures.closed;
  };
}
