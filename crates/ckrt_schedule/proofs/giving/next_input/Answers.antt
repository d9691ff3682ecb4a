use Rattle.std.proofs.Common.{rules, ◌≡◌, length, min, true, false, List, ℕ, if◌then◌else◌, Some, None, Bool, sym, ◌∙◌, ap, take}
use Rattle.ckrt_schedule.specs.Next.{given_by, has_room, next_bytes}
use Rattle.ckrt_schedule.proofs.NextLemmas.{next_slice}
use Rattle.ckrt_schedule.proofs.giving.next_input.Goals as goal

pub returns-then-not-has_room : goal.returns-then-not-has_room
returns-then-not-has_room c =
    let rest = c.args.rest.now in
    let few : c.min.result ≡ min (length rest) 64 = search rules in
    let slice : take c.min.result rest ≡ next_bytes rest = ap (λ n. take n rest) few ∙ next_slice rest in
    let none : has_room c.args.tables.now (length (take c.min.result rest)) ≡ false = search rules in
    sym (ap (λ (l : List ℕ). if has_room c.args.tables.now (length l) then Some (given_by l) else None) (sym slice) ∙ ap (λ (b : Bool). if b then Some (given_by (take c.min.result rest)) else None) none)

pub returns : goal.returns
returns c =
    let rest = c.args.rest.now in
    let few : c.min.result ≡ min (length rest) 64 = search rules in
    let slice : take c.min.result rest ≡ next_bytes rest = ap (λ n. take n rest) few ∙ next_slice rest in
    let some : has_room c.args.tables.now (length (take c.min.result rest)) ≡ true = search rules in
    let given : c.given_by.result ≡ given_by (take c.min.result rest) = search rules in
    ap (λ e. Some e) given
    ∙ sym (ap (λ (l : List ℕ). if has_room c.args.tables.now (length l) then Some (given_by l) else None) (sym slice) ∙ ap (λ (b : Bool). if b then Some (given_by (take c.min.result rest)) else None) some)
