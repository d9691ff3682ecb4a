use Rattle.std.proofs.Common.{◌≡◌, ◌∷◌, [], length, sym, ap, subst, ◌∙◌}
use Rattle.std.specs.List.{flat_map}
use Rattle.ckrt_tables.specs.Records.{flag, key_entry_bytes, words_from}
use Rattle.ckrt_tables.specs.Writing.{IsPut}
use Rattle.ckrt_tables.proofs.Puts.{put_next}
use Rattle.ckrt_tables.proofs.KeyEntries.{keys_not_1}
use Rattle.ckrt_tables.proofs.keys.put_keys.Goals as goal

pub returns : goal.returns
returns c =
    let k = c.args.keys.now in
    let words = words_from 0 k.destructors in
    let same = c.destructors-destructors.ensures.keys in
    let count : c.word_count.result ≡ length words = c.word_count.ensures ∙ ap (λ os. length (words_from 0 os)) same in
    let mark : c.flag.result ≡ flag 1 k.is_on = c.flag.ensures.mark ∙ ap (flag 1) c.is_on.ensures in
    let out = c.args.out.now in
    let mid = c.put-end.new.out in
    let last = c.put_words.new.out in
    subst (λ b. IsPut out c.args.at b last c.put_words.result) (sym (keys_not_1 c.args.version k c.if-version-eq1.false))
    (put_next out c.args.at (flag 1 k.is_on ∷ length words ∷ []) mid c.put-end.result (flat_map key_entry_bytes words) last c.put_words.result
    (subst (λ m. IsPut out c.args.at (m ∷ length words ∷ []) mid c.put-end.result) mark (subst (λ n. IsPut out c.args.at (c.flag.result ∷ n ∷ []) mid c.put-end.result) count c.put-end.ensures))
    (subst (λ os. IsPut mid c.put-end.result (flat_map key_entry_bytes (words_from 0 os)) last c.put_words.result) same c.put_words.ensures))
