use Rattle.std.proofs.Common.{rules, ◌∷◌, [], length, subst}
use Rattle.std.specs.List.{flat_map}
use Rattle.ckrt_tables.specs.Records.{barrier_bytes}
use Rattle.ckrt_tables.specs.Writing.{IsPut}
use Rattle.ckrt_tables.proofs.Puts.{put_next}
use Rattle.ckrt_tables.proofs.objects.put_barriers.Goals as goal

pub returns : goal.returns
returns c =
    let xs = c.args.barriers.now in
    put_next c.args.out.now c.args.at (length xs ∷ []) c.put-end.new.out c.put-end.result (flat_map barrier_bytes xs) c.put_all.new.out c.put_all.result
    (subst (λ b. IsPut c.args.out.now c.args.at b c.put-end.new.out c.put-end.result) (search rules) c.put-end.ensures)
    (subst (λ rows. IsPut c.put-end.new.out c.put-end.result (flat_map barrier_bytes rows) c.put_all.new.out c.put_all.result) (search rules) c.put_all.ensures)
