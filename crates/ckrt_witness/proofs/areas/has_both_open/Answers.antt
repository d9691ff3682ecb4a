use Rattle.std.proofs.Common.{◌≡◌, ◌∙◌, ◌-◌, ℕ, List, true, false, take, drop, sym, subst, ap, arith}
use Rattle.ckrt_stored.specs.Layout.{header_of, is_open, journal_at}
use Rattle.ckrt_stored.specs.declared.header.Header.{Header}
use Rattle.ckrt_witness.proofs.AreaLemmas.{gate_inside, some_journal, switch_met}
use Rattle.ckrt_witness.proofs.areas.has_both_open.Goals as goal

pub is_shut-requires : goal.is_shut-requires
is_shut-requires g c =
    let e = c.in-Ok.ensures in
    let inside = gate_inside c.in-Ok.config c.in-Ok.area.index e.valid e.picked.index in
    omega (arith, c.journal_at.ensures, e.read.same.size, inside, e.room)

pub returns : goal.returns
returns g c = λ opened honest r recovers.
    let d = g.D.Disk in
    let e = c.in-Ok.ensures in
    let config = c.in-Ok.config in
    let area = c.in-Ok.area in
    let first = c.is_shut.ensures.read in
    let second = c.read_header.ensures.read in
    let honest_first : d.is_honest c.is_shut.new.disk = second.same.honest honest in
    let honest_begun : d.is_honest c.read_in_use.new.disk = c.in-Ok-true.ensures.read.same.honest honest_first in
    let begun : d.content c.read_in_use.new.disk ≡ d.content c.args.disk.now = e.read.content honest_begun in
    let behind : d.content c.is_shut.new.disk ≡ d.content c.args.disk.now = c.in-Ok-true.ensures.read.content honest_first ∙ begun in
    let gate = subst (λ (l : List ℕ). is_open (take 1 (drop c.journal_at.result l)) ≡ false) begun (c.in-Ok-true.ensures.shut c.in-Ok-true.field-0-test honest_first) in
    let shut = subst (λ n. is_open (take 1 (drop n (d.content c.args.disk.now))) ≡ false) c.journal_at.ensures gate in
    let header = c.in-Ok-read_header.ensures.exact honest in
    let both = subst (λ (l : List ℕ). (header_of config (1 - area.index) l).is_open ≡ true) behind (sym (ap (λ (h : Header). h.is_open) header) ∙ opened) in
    switch_met (d.content c.args.disk.now) r config area (e.exact honest_begun) recovers (some_journal config e.valid) shut both
