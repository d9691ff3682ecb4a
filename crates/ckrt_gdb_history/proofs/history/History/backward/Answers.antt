use Rattle.std.proofs.Common.{◌≡◌, ◌∙◌, ap, subst, sym}
use Rattle.ckrt_gdb_history.specs.Positions.{History, IsBefore, IsGreatest, NoneBefore, previous_position}
use Rattle.ckrt_gdb_history.specs.Stops.{IsStop}
use Rattle.ckrt_gdb_history.proofs.SearchLemmas.{last_is_greatest}
use Rattle.ckrt_gdb_history.proofs.history.History.backward.Goals as goal

pub returns-then-look_at-clause-found : goal.returns-then-look_at-clause-found
returns-then-look_at-clause-found c = λ _.
    let stops = c.args.stops.now in let h = c.args.self.now in let first = c.args.first in let q = c.position-previous.result in
    let same : q ≡ previous_position h.position h.events h.start =
    c.position-previous.ensures.position ∙ ap (λ (x : History). x.position) c.step_back.ensures in
    let at : c.look_at.new.self.position ≡ q = ap (λ (x : History). x.position) c.look_at.ensures.position in
    let holds : IsStop stops h q = subst (λ (x : History). IsStop stops x q) c.step_back.ensures (c.look_at.ensures.stop.0 c.if-look_at.true) in
    let less = c.is_before.ensures.0 c.if-not-is_before.false in
    let less_is = subst (λ p. IsBefore first p) c.position-here.ensures.position less in
    subst (λ p. IsGreatest (IsStop stops h) first h.position p h) (sym (at ∙ same))
    (last_is_greatest stops h first c.known.ensures.accepted c.known.ensures.position c.requires.first less_is (subst (λ p. IsStop stops h p) same holds))

pub returns-clause-none : goal.returns-clause-none
returns-clause-none c = λ e.
    let stops = c.args.stops.now in let h = c.args.self.now in let first = c.args.first in let here = c.position-here.result in
    let gone : c.look_at.new.self ≡ record h { position = c.position-previous.result } =
    c.look_at.ensures.position ∙ ap (λ (x : History). record x { position = c.position-previous.result }) c.step_back.ensures in
    let again : c.go_to-2.new.self ≡ record h { position = here } = c.go_to-2.ensures ∙ ap (λ (x : History). record x { position = here }) gone in
    let same : c.go_to-2.new.self ≡ h = again ∙ ap (λ p. record h { position = p }) c.position-here.ensures.position in
    subst (λ (x : History). (c.search_back.new.self.position ≡ first) × NoneBefore (IsStop stops x) first x.position x) same (c.search_back.ensures.none e)
