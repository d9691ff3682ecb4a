use Rattle.std.proofs.Common.{◌≡◌, ap, sym, subst, ◌∙◌}
use Rattle.std.proofs.lemmas.Bool.{false≢true}
use Rattle.ckrt_gdb_history.specs.Positions.{History, IsBefore, IsGreatest, IsPosition, IsUpTo}
use Rattle.ckrt_gdb_history.specs.Stops.{IsStop}
use Rattle.ckrt_gdb_history.proofs.OrderLemmas.{before_is_up_to, there, up_to_itself}
use Rattle.ckrt_gdb_history.proofs.SearchLemmas.{NonePast, none_yet, first_is_greatest, greatest, none_at_all, none_before, none_from, none_further}
use Rattle.ckrt_gdb_history.proofs.history.History.search_back.Goals as goal

pub returns-then-not-is_before : goal.returns-then-not-is_before
returns-then-not-is_before c =
    let h = c.args.self.now in let first = c.args.first in let here = c.position-here.result in let here_is = c.position-here.ensures.position in
    let up = subst (λ q. IsUpTo first q) (sym here_is) c.requires.behind in
    let never = λ (before : IsBefore first here). false≢true (sym c.if-not-is_before.true ∙ c.is_before.ensures.1 before) in
    let same : first ≡ here = there first here up never in
    record {
      history = λ i. h;
      found = λ e. absurd (false≢true e);
      none = λ _. (sym (same ∙ here_is), none_before c.args.stops.now h first here here_is (subst (λ q. NonePast c.args.stops.now h q here) (sym same) (none_yet c.args.stops.now h here)) same);
    }

pub returns-in-Some-last_on_way-clause-found : goal.returns-in-Some-last_on_way-clause-found
returns-in-Some-last_on_way-clause-found c = λ _.
    let stops = c.args.stops.now in let h = c.args.self.now in let first = c.args.first in let from = c.in-Some.from in
    let here = c.position-here.result in let q = c.in-Some-last_on_way.position in
    let gone = c.go_to.ensures ∙ ap (λ (x : History). record x { position = from }) c.kept.invariant.history in
    let at = ap (λ (x : History). x.position) c.go_to-in-Some-last_on_way.ensures in
    subst (λ p. IsGreatest (IsStop stops h) first h.position p h) (sym at)
    (greatest stops h c.go_to.new.self from c.kept.end here gone c.kept.invariant.none first q c.position-here.ensures.position (before_is_up_to first from c.in-Some.ensures.behind) c.in-Some-last_on_way.ensures.found)

pub kept-preserved : goal.kept-preserved
kept-preserved c =
    let stops = c.args.stops.now in let h = c.args.self.now in let from = c.in-Some.from in let end = c.kept.end in
    let here = c.position-here.result in let z = c.go_to.new.self in
    let gone = c.go_to.ensures ∙ ap (λ (x : History). record x { position = from }) c.kept.invariant.history in
    let all : c.last_on_way.new.self ≡ record h { position = end } = c.last_on_way.ensures.position ∙ ap (λ (x : History). record x { position = end }) gone in
    let at = ap (λ (x : History). x.position) all in
    record {
      history = all ∙ ap (λ p. record h { position = p }) (sym at);
      is_one = subst (λ (x : History). IsPosition from x.events x.start) c.kept.invariant.history c.in-Some.ensures.is_one;
      behind = before_is_up_to c.args.first from c.in-Some.ensures.behind;
      none = none_further stops h z from end here gone c.kept.invariant.none
          (none_from (IsStop stops z) z.position end here z c.last_on_way.result c.in_default-last_on_way.not-Some c.last_on_way.ensures.found);
    }

pub returns-in-Some-last_on_way-2-clause-found : goal.returns-in-Some-last_on_way-2-clause-found
returns-in-Some-last_on_way-2-clause-found c = λ _.
    let stops = c.args.stops.now in let h = c.args.self.now in let first = c.args.first in
    let here = c.position-here.result in let q = c.in-Some-last_on_way-2.position in
    let gone = c.go_to-2.ensures ∙ ap (λ (x : History). record x { position = first }) c.kept.invariant.history in
    let at = ap (λ (x : History). x.position) c.go_to-in-Some-last_on_way-2.ensures in
    subst (λ p. IsGreatest (IsStop stops h) first h.position p h) (sym at)
    (greatest stops h c.go_to-2.new.self first c.kept.end here gone c.kept.invariant.none first q c.position-here.ensures.position (up_to_itself first) c.in-Some-last_on_way-2.ensures.found)

pub returns : goal.returns
returns c =
    let stops = c.args.stops.now in let h = c.args.self.now in let z = c.go_to-2.new.self in let end = c.kept.end in
    let first = c.args.first in let here = c.position-here.result in let is = c.position-here.ensures.position in
    let gone = c.go_to-2.ensures ∙ ap (λ (x : History). record x { position = first }) c.kept.invariant.history in
    let there : c.last_on_way-2.new.self ≡ record h { position = end } = c.last_on_way-2.ensures.position ∙ ap (λ (x : History). record x { position = end }) gone in
    let all : c.look_at.new.self ≡ record h { position = first } = c.look_at.ensures.position ∙ ap (λ (x : History). record x { position = first }) there in
    let at = ap (λ (x : History). x.position) all in
    let none = none_further stops h z first end here gone c.kept.invariant.none
    (none_from (IsStop stops z) z.position end here z c.last_on_way-2.result c.in_default-last_on_way-2.not-Some c.last_on_way-2.ensures.found) in
    let before = c.is_before.ensures.0 c.if-not-is_before.false in
    record {
      history = all ∙ ap (λ p. record h { position = p }) (sym at);
      found = λ e. subst (λ p. IsGreatest (IsStop stops h) first h.position p h) (sym at)
          (first_is_greatest stops h first here is none c.requires.first before (subst (λ (x : History). IsStop stops x first) there (c.look_at.ensures.stop.0 e)));
      none = λ e. (at, none_at_all stops h first here is none (λ holds. false≢true (sym e ∙ c.look_at.ensures.stop.1 (subst (λ (x : History). IsStop stops x first) (sym there) holds))));
    }
