use Rattle.std.proofs.Common.{◌≡◌, ◌<◌, ◌∙◌, length, ap, sym, arith}
use Rattle.ckrt_look_clocks.specs.Detection.{found_in, word_of}
use Rattle.ckrt_look_clocks.specs.Parts.{Shadowed}
use Rattle.ckrt_look_clocks.proofs.PartLemmas.{cells_size}
use Rattle.ckrt_look_clocks.proofs.WithinLemmas.{access_beyond, access_full, access_noted, access_used_up}
use Rattle.ckrt_look_clocks.proofs.parts.Shadow.access.Goals.{then-self-via-then-self, then-self-via-else-self+then-word-self}
use Rattle.ckrt_look_clocks.proofs.parts.Shadow.access.Goals as goal

pub returns-then-self : goal.returns-then-self
returns-then-self c = λ orders.
    let r = c.self.inside in let a = c.args.access.now in let s = c.args.self.now in
    let size : length s.cells ≡ r.words = sym (ap (λ (v : Shadowed). length v.cells) c.self.view_is) ∙ cells_size r.by_part.items r.cells.items r.words in
    elim c.then-self.branch [
      | then-self-via-then-self w ↦ access_full c.args.clocks.now a s (found_in c.args.found.now) orders (sym (ap (λ (v : Shadowed). v.slots.is_full) c.self.view_is) ∙ w.if-self.true)
      | then-self-via-else-self+then-word-self w ↦
          access_beyond c.args.clocks.now a s (found_in c.args.found.now) orders (sym (ap (λ (v : Shadowed). v.slots.is_full) c.self.view_is) ∙ w.if-self.false) (omega (arith, w.if-word-self.true, size))
    ]

pub note-requires-clause-inside : goal.note-requires-clause-inside
note-requires-clause-inside c =
    let r = c.self.inside in let s = c.args.self.now in
    let size : length s.cells ≡ r.words = sym (ap (λ (v : Shadowed). length v.cells) c.self.view_is) ∙ cells_size r.by_part.items r.cells.items r.words in
    omega (arith, c.if-word-self.false, size, ap length c.touch.ensures.cells)

pub returns-then-not-self : goal.returns-then-not-self
returns-then-not-self c = λ orders.
    let r = c.self.inside in let a = c.args.access.now in let s = c.args.self.now in let t = c.touch.new.self in
    let size : length s.cells ≡ r.words = sym (ap (λ (v : Shadowed). length v.cells) c.self.view_is) ∙ cells_size r.by_part.items r.cells.items r.words in
    access_noted c.args.clocks.now a s (found_in c.args.found.now) orders t c.note.new.self (found_in c.note.new.found)
    (sym (ap (λ (v : Shadowed). v.slots.is_full) c.self.view_is) ∙ c.if-self.false)
    (let h : word_of a < length s.cells = omega (arith, c.if-word-self.false, size) in h)
    c.touch.ensures.slots c.touch.ensures.cells
    (sym (ap (λ (v : Shadowed). v.slots.is_full) c.self-2.view_is) ∙ c.if-not-self.true)
    c.note.ensures.slots c.note.ensures.cells c.note.ensures.found

pub returns-else-not-self : goal.returns-else-not-self
returns-else-not-self c = λ orders.
    let r = c.self.inside in let a = c.args.access.now in let s = c.args.self.now in let t = c.touch.new.self in
    let size : length s.cells ≡ r.words = sym (ap (λ (v : Shadowed). length v.cells) c.self.view_is) ∙ cells_size r.by_part.items r.cells.items r.words in
    access_used_up c.args.clocks.now a s (found_in c.args.found.now) orders t
    (sym (ap (λ (v : Shadowed). v.slots.is_full) c.self.view_is) ∙ c.if-self.false)
    (let h : word_of a < length s.cells = omega (arith, c.if-word-self.false, size) in h)
    c.touch.ensures.slots c.touch.ensures.cells
    (sym (ap (λ (v : Shadowed). v.slots.is_full) c.self-2.view_is) ∙ c.if-not-self.false)
