use Rattle.ckrt_cli.proofs.found.keep_run.Goals as goal

-- by the plan that was found
pub returns-clause-kept : goal.returns-clause-kept
returns-clause-kept g c =
    let k = c.keep_chosen.ensures in
    record {
      chosen = c.choose-chosen.result;
      is_chosen = c.choose-chosen.ensures.chosen;
      drawn = c.choose-chosen.ensures.drawn;
      kept = k.0;
      keeps = k.1;
      tells = k.2;
    }
