use Rattle.std.proofs.Common.{◌≡◌, ◌∙◌, ℕ, List, [], take, Option, Some, sym, ap, subst, rules}
use Rattle.std.proofs.lemmas.Bool.Decides.{Decides-eqb}
use Rattle.std.proofs.lemmas.Slice.Eq.{slice_eq-Decides}
use Rattle.ckrt_calls.specs.declared.table.Tables.{Tables}
use Rattle.ckrt_tables.specs.Decoding.{DecodesTo, Saved}
use Rattle.ckrt_tables.specs.Encoding.{encoding_of}
use Rattle.ckrt_tables.proofs.Decoded.{decodes_once}
use Rattle.ckrt_look_recording.proofs.same.Comparison.are_same_tables.Goals as goal

same_saved : (s z : Saved) → ◌≡◌ {A = Option Saved} (Some s) (Some z) → s ≡ z
same_saved s z e = cc

-- two that have one encoding are the same
pub one_encoding : (one other : Tables) (xs ys : List ℕ) → one.threads.hart_count ≡ other.threads.hart_count → DecodesTo 2 one.threads.hart_count xs (Some (record { tables = one; held = [] }))
    → DecodesTo 2 other.threads.hart_count ys (Some (record { tables = other; held = [] })) → xs ≡ ys → one ≡ other
one_encoding one other xs ys harts x y same =
    ap (λ (s : Saved). s.tables) (same_saved _ _ (decodes_once 2 other.threads.hart_count ys (Some (record { tables = one; held = [] })) (Some (record { tables = other; held = [] })) (subst (λ n. DecodesTo 2 n ys (Some (record { tables = one; held = [] }))) harts (subst (λ (l : List ℕ). DecodesTo 2 one.threads.hart_count l (Some (record { tables = one; held = [] }))) same x)) y))

pub returns : goal.returns
returns c =
    let one = c.args.one.now in let other = c.args.other.now in
    let xs = take c.encode_tables-end.result c.encode_tables-end.new.out in
    let ys = take c.encode_tables-others_end.result c.encode_tables-others_end.new.out in
    let tells = slice_eq-Decides Decides-eqb xs ys c.eq.result c.eq.ensures in
    let harts : one.threads.hart_count ≡ other.threads.hart_count = search rules in
    let none : c.args.self.now.none.items ≡ [] = c.args.self.now.empty in
    let one_is : xs ≡ encoding_of 2 one [] = subst (λ (h : List ℕ). xs ≡ encoding_of 2 one h) none c.encode_tables-end.ensures.front in
    let other_is : ys ≡ encoding_of 2 other [] = subst (λ (h : List ℕ). ys ≡ encoding_of 2 other h) none c.encode_tables-others_end.ensures.front in
    let first : DecodesTo 2 one.threads.hart_count xs (Some (record { tables = one; held = [] })) =
    subst (λ (h : List ℕ). DecodesTo 2 one.threads.hart_count xs (Some (record { tables = one; held = h }))) none c.encode_tables-end.ensures.decodes in
    let second : DecodesTo 2 other.threads.hart_count ys (Some (record { tables = other; held = [] })) =
    subst (λ (h : List ℕ). DecodesTo 2 other.threads.hart_count ys (Some (record { tables = other; held = h }))) none c.encode_tables-others_end.ensures.decodes in
    (λ yes. one_encoding one other xs ys harts first second (tells.0 yes), λ same. tells.1 (one_is ∙ ap (λ (t : Tables). encoding_of 2 t []) same ∙ sym other_is))
