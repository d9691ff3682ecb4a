use Rattle.std.proofs.Common.{◌≡◌, ◌≤◌, ℕ, true, false, List, length, sym, ◌∙◌, ap, subst, arith, rules}
use Rattle.std.proofs.lemmas.Grind.{same_number_lists}
use Rattle.ckrt_stored.specs.Layout.{is_open, size_needed}
use Rattle.ckrt_stored.specs.Fields.{IsFresh, fresh_memory}
use Rattle.ckrt_disk.proofs.FrameLemmas.{failed_within}
use Rattle.ckrt_stored.specs.Format.{FormatsAt, IsFormatted, calls_of, is_device}
use Rattle.ckrt_stored.proofs.FormatLemmas.{in_look, in_layout, in_last_write, written_recovers, laid, opened_last}
use Rattle.ckrt_stored.proofs.formatting.format.Goals as goal

pub returns-in_err-write_behind_gate-clause-any_moment :
    goal.returns-in_err-write_behind_gate-clause-any_moment
returns-in_err-write_behind_gate-clause-any_moment g c = λ honest.
    let d = g.D.Disk in
    let was : d.is_honest c.is_formatted.new.disk = c.write_behind_gate.ensures.within.same.honest honest in
    let closed : is_open (d.content c.is_formatted.new.disk) ≡ false = ap is_open (c.in_ok-is_formatted.ensures.content was) ∙ sym (c.in_ok-is_formatted.ensures.exact was) ∙ c.if-branch.false in
    in_layout d c.args.config c.args.image.now c.args.disk.now c.is_formatted.new.disk c.write_behind_gate.new.disk true honest
    (in_look d c.args.config c.args.image.now c.args.disk.now c.is_formatted.new.disk false was c.in_ok-is_formatted.ensures.within)
    closed (c.in_ok-is_formatted.ensures.nothing_pending was) c.in_err-write_behind_gate.ensures.within

pub returns-in_err-write_synced-clause-any_moment : goal.returns-in_err-write_synced-clause-any_moment
returns-in_err-write_synced-clause-any_moment g c = λ honest.
    let d = g.D.Disk in
    let behind : d.is_honest c.write_behind_gate.new.disk = c.write_synced.ensures.within.same.honest honest in
    let was : d.is_honest c.is_formatted.new.disk = c.write_behind_gate.ensures.within.same.honest behind in
    let closed : is_open (d.content c.is_formatted.new.disk) ≡ false = ap is_open (c.in_ok-is_formatted.ensures.content was) ∙ sym (c.in_ok-is_formatted.ensures.exact was) ∙ c.if-branch.false in
    let room : size_needed c.args.config ≤ length (d.content c.write_behind_gate.new.disk) = omega (arith, c.in_ok-check.ensures.room, c.size.ensures, c.is_formatted.ensures.within.same.size, c.write_behind_gate.ensures.within.same.size, g.met.D.Disk.whole c.write_behind_gate.new.disk behind) in
    let fresh : IsFresh c.args.config c.args.image.now (fresh_memory c.args.config c.args.image.now) (d.content c.write_behind_gate.new.disk) =
    subst (λ (l : List ℕ). IsFresh c.args.config c.args.image.now l (d.content c.write_behind_gate.new.disk)) (c.deref.ensures.value ∙ c.in_ok-memory.ensures.bytes) (c.in_ok-write_behind_gate.ensures.written behind) in
    in_last_write d c.args.config c.args.image.now c.args.disk.now c.is_formatted.new.disk c.write_behind_gate.new.disk c.write_synced.new.disk true behind honest c.in_ok-check.ensures.valid c.in_ok-check.ensures.image room
    (in_look d c.args.config c.args.image.now c.args.disk.now c.is_formatted.new.disk false was c.in_ok-is_formatted.ensures.within)
    closed (c.in_ok-is_formatted.ensures.nothing_pending was) c.in_ok-write_behind_gate.ensures.within fresh (c.in_ok-write_behind_gate.ensures.nothing_pending behind) c.in_err-write_synced.ensures.within

pub returns-clause-any_moment : goal.returns-clause-any_moment
returns-clause-any_moment g c = λ honest.
    let d = g.D.Disk in
    let behind : d.is_honest c.write_behind_gate.new.disk = c.write_synced.ensures.within.same.honest honest in
    let was : d.is_honest c.is_formatted.new.disk = c.write_behind_gate.ensures.within.same.honest behind in
    let closed : is_open (d.content c.is_formatted.new.disk) ≡ false = ap is_open (c.in_ok-is_formatted.ensures.content was) ∙ sym (c.in_ok-is_formatted.ensures.exact was) ∙ c.if-branch.false in
    let room : size_needed c.args.config ≤ length (d.content c.write_behind_gate.new.disk) = omega (arith, c.in_ok-check.ensures.room, c.size.ensures, c.is_formatted.ensures.within.same.size, c.write_behind_gate.ensures.within.same.size, g.met.D.Disk.whole c.write_behind_gate.new.disk behind) in
    let fresh : IsFresh c.args.config c.args.image.now (fresh_memory c.args.config c.args.image.now) (d.content c.write_behind_gate.new.disk) =
    subst (λ (l : List ℕ). IsFresh c.args.config c.args.image.now l (d.content c.write_behind_gate.new.disk)) (c.deref.ensures.value ∙ c.in_ok-memory.ensures.bytes) (c.in_ok-write_behind_gate.ensures.written behind) in
    in_last_write d c.args.config c.args.image.now c.args.disk.now c.is_formatted.new.disk c.write_behind_gate.new.disk c.write_synced.new.disk false behind honest c.in_ok-check.ensures.valid c.in_ok-check.ensures.image room
    (in_look d c.args.config c.args.image.now c.args.disk.now c.is_formatted.new.disk false was c.in_ok-is_formatted.ensures.within)
    closed (c.in_ok-is_formatted.ensures.nothing_pending was) c.in_ok-write_behind_gate.ensures.within fresh (c.in_ok-write_behind_gate.ensures.nothing_pending behind) c.in_ok-write_synced.ensures.within

pub returns-clause-made : goal.returns-clause-made
returns-clause-made g c = λ honest.
    let d = g.D.Disk in
    let behind : d.is_honest c.write_behind_gate.new.disk = c.write_synced.ensures.within.same.honest honest in
    let was : d.is_honest c.is_formatted.new.disk = c.write_behind_gate.ensures.within.same.honest behind in
    let closed : is_open (d.content c.is_formatted.new.disk) ≡ false = ap is_open (c.in_ok-is_formatted.ensures.content was) ∙ sym (c.in_ok-is_formatted.ensures.exact was) ∙ c.if-branch.false in
    let room : size_needed c.args.config ≤ length (d.content c.write_behind_gate.new.disk) = omega (arith, c.in_ok-check.ensures.room, c.size.ensures, c.is_formatted.ensures.within.same.size, c.write_behind_gate.ensures.within.same.size, g.met.D.Disk.whole c.write_behind_gate.new.disk behind) in
    let fresh : IsFresh c.args.config c.args.image.now (fresh_memory c.args.config c.args.image.now) (d.content c.write_behind_gate.new.disk) =
    subst (λ (l : List ℕ). IsFresh c.args.config c.args.image.now l (d.content c.write_behind_gate.new.disk)) (c.deref.ensures.value ∙ c.in_ok-memory.ensures.bytes) (c.in_ok-write_behind_gate.ensures.written behind) in
    record {
      was_closed = sym (c.in_ok-is_formatted.ensures.exact was) ∙ c.if-branch.false;
      nothing_pending = c.in_ok-write_synced.ensures.nothing_pending honest;
      formatted = λ left is_left.
          let same : left ≡ d.content c.write_synced.new.disk = same_number_lists left (d.content c.write_synced.new.disk) is_left.size (λ k _. is_left.same k (c.in_ok-write_synced.ensures.nothing_pending honest k)) in
          subst (λ (l : List ℕ). IsFormatted c.args.config c.args.image.now l) (sym same)
          (written_recovers c.args.config c.args.image.now (d.content c.write_behind_gate.new.disk) c.in_ok-check.ensures.valid c.in_ok-check.ensures.image room fresh (d.content c.write_synced.new.disk) (c.in_ok-write_synced.ensures.written honest));
    }

pub returns-in_err-write_behind_gate-clause-within :
    goal.returns-in_err-write_behind_gate-clause-within
returns-in_err-write_behind_gate-clause-within g c =
    let d = g.D.Disk in let config = c.args.config in let result = c.from_residual-in_err-write_behind_gate.result in
    let failed : is_device result ≡ true = search rules in
    failed_within d (FormatsAt config) 9 (calls_of result) c.args.disk.now c.write_behind_gate.new.disk (is_device result) failed
    (laid d config c.args.disk.now c.is_formatted.new.disk c.write_behind_gate.new.disk true c.in_ok-is_formatted.ensures.within c.in_err-write_behind_gate.ensures.within)

pub returns-in_err-write_synced-clause-within : goal.returns-in_err-write_synced-clause-within
returns-in_err-write_synced-clause-within g c =
    let d = g.D.Disk in let config = c.args.config in let result = c.from_residual-in_err-write_synced.result in
    let failed : is_device result ≡ true = search rules in
    failed_within d (FormatsAt config) 11 (calls_of result) c.args.disk.now c.write_synced.new.disk (is_device result) failed
    (opened_last d config c.args.disk.now c.is_formatted.new.disk c.write_behind_gate.new.disk c.write_synced.new.disk true c.in_ok-is_formatted.ensures.within c.in_ok-write_behind_gate.ensures.within c.in_err-write_synced.ensures.within)

pub returns-clause-within : goal.returns-clause-within
returns-clause-within g c =
    opened_last g.D.Disk c.args.config c.args.disk.now c.is_formatted.new.disk c.write_behind_gate.new.disk c.write_synced.new.disk false c.in_ok-is_formatted.ensures.within c.in_ok-write_behind_gate.ensures.within c.in_ok-write_synced.ensures.within
