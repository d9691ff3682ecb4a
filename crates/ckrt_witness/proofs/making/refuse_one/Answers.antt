use Rattle.ckrt_witness.proofs.making.refuse_one.Goals as goal

pub returns : goal.returns
returns c = record {
  sources = c.with_guest-sources.result;
  known = c.with_guest-sources.ensures.guest;
  is_disk = c.with_guest-sources.ensures.filled;
  after = c.make_disk.new.sources;
  image = _;
  path = _;
  makes = c.in-Err.ensures.makes;
}
