use Rattle.std.specs.Prelude.{nat_lt}
use Rattle.std.proofs.Common.{rules}
use Rattle.std.proofs.lemmas.List.Sorted.{IsPartitionPoint-from_clause}
use Rattle.ckrt_objects.proofs.AddressMap.{place_of_point, partitioned}
use Rattle.ckrt_objects.proofs.address_map.place_of.Goals as goal

pub returns-clause-place : goal.returns-clause-place
returns-clause-place g c =
    place_of_point c.args.address c.args.entries.now _ c.partition_point.ensures.bound
    (IsPartitionPoint-from_clause (λ e. nat_lt e.address c.args.address) _ _ c.partition_point.ensures.partitioned (partitioned c.args.address c.args.entries.now c.requires) (λ e r f' called. search rules))
