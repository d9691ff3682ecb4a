use Rattle.std.proofs.Common.{◌≡◌, ◌∙◌, List, ℕ, true, sym, subst}
use Rattle.ckrt_stored.specs.Layout.{is_open}
use Rattle.ckrt_witness.proofs.closed_making.makings.Goals as goal

pub returns : goal.returns
returns g c =
    let old = c.stopping_disk-2 in
    let open_bytes : is_open c.formatted-old.result.items ≡ true = subst (λ (l : List ℕ). is_open l ≡ true) c.deref.ensures.value c.expect_open.ensures in
    record {
      honest = λ x. tt;
      new = _;
      made = c.made.ensures;
      old = old.result;
      opened = subst (λ (l : List ℕ). is_open l ≡ true) (sym old.ensures.content) open_bytes;
      stays = c.refused.ensures;
      broken = _;
      fails = c.refused-2.ensures;
      short = _;
      too_small = c.refused-3.ensures;
      other = c.args.other;
      invalid = c.expect_invalid.ensures;
      untouched = _;
      bad_config = c.refused-4.ensures;
    }
