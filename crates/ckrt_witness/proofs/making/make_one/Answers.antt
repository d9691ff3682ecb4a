use Rattle.ckrt_witness.proofs.making.make_one.Goals as goal

pub returns-in-Ok : goal.returns-in-Ok
returns-in-Ok c = λ _. record {
  sources = c.with_guest-sources.result;
  known = c.with_guest-sources.ensures.guest;
  is_disk = c.with_guest-sources.ensures.filled;
  after = c.make_disk.new.sources;
  image = _;
  path = _;
  makes = c.in-Ok.ensures.makes;
}
