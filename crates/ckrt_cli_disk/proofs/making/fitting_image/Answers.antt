use Rattle.std.proofs.Common.{rules, ◌≡◌, ◌∙◌, ◌<◌, ◌≤◌, List, ap, false, inr, length, subst, sym, ℕ}
use Rattle.ckrt_stored.specs.Layout.{memory_size}
use Rattle.ckrt_cli_files.specs.Elf.{is_elf}
use Rattle.ckrt_cli_disk.proofs.FrontLemmas.{front_longer, front_tells_elf, front_whole}
use Rattle.ckrt_cli_disk.proofs.making.fitting_image.Goals as goal

-- the front that was read has the four bytes that tell it
pub returns-then-is_elf-clause-unfit : goal.returns-then-is_elf-clause-unfit
returns-then-is_elf-clause-unfit g c = inr (
  search rules,
  λ is bytes known.
      let read = c.in_ok-image.ensures.bytes bytes (c.in_ok-reader.ensures.bytes ∙ known) in
      let told = sym (ap (λ (l : List ℕ). is_elf l) c.deref.ensures.value) ∙ sym c.is_elf.ensures ∙ c.if-is_elf.true in
      sym (front_tells_elf c.memory_size.result bytes c.in_ok-image.image.items (search rules) read) ∙ told,
)

-- one byte more than the limit was asked for
pub returns-then-len-memory_size-clause-unfit : goal.returns-then-len-memory_size-clause-unfit
returns-then-len-memory_size-clause-unfit g c = (
  search rules,
  λ bytes known.
      let read = c.in_ok-image.ensures.bytes bytes (c.in_ok-reader.ensures.bytes ∙ known) in
      subst (λ (limit : ℕ). limit < length bytes) c.memory_size.ensures (front_longer c.memory_size.result bytes c.in_ok-image.image.items read (search rules)),
)

pub returns-clause-bytes : goal.returns-clause-bytes
returns-clause-bytes g c bytes known =
    let read = c.in_ok-image.ensures.bytes bytes (c.in_ok-reader.ensures.bytes ∙ known) in
    front_whole c.memory_size.result bytes c.in_ok-image.image.items read (search rules)

-- what was read is all, and it fits
pub returns-clause-known : goal.returns-clause-known
returns-clause-known g c bytes known =
    let read = c.in_ok-image.ensures.bytes bytes (c.in_ok-reader.ensures.bytes ∙ known) in
    let whole = front_whole c.memory_size.result bytes c.in_ok-image.image.items read (search rules) in
    let fits : (length c.in_ok-image.image.items ≤ memory_size c.args.config) × (is_elf c.in_ok-image.image.items ≡ false) = search rules in
    subst (λ (l : List ℕ). (length l ≤ memory_size c.args.config) × (is_elf l ≡ false)) whole fits
