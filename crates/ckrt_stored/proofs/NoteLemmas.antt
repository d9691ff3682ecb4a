-- The note of a disk's program, and the bytes that it stands in.
use Rattle.std.proofs.Common.{◌≡◌, ◌∙◌, List, ℕ, length, take, nat_lt, cond, None, ap, arith}
use Rattle.ckrt_disk.proofs.Images.{part_same}
use Rattle.ckrt_stored.specs.Frame.{IsNoteApart}
use Rattle.ckrt_stored.specs.Superblock.{note_in}

pub note_apart : IsNoteApart
note_apart before image same =
    let front : take 72 image ≡ take 72 before = part_same 72 0 image before same.size (λ i w. same.same i (λ far. omega (arith, w.1, far))) in
    ap (λ n. cond (nat_lt n 72) None (note_in (take 72 image))) same.size
    ∙ ap (λ (l : List ℕ). cond (nat_lt (length before) 72) None (note_in l)) front
