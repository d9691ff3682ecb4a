use Rattle.std.proofs.Common.{◌≡◌, ◌∷◌, [], length, map, sym, ap, subst, ◌∙◌}
use Rattle.std.specs.List.{flat_map}
use Rattle.ckrt_tables.specs.Records.{key_entry_bytes, words_from, value_words, if_not_0}
use Rattle.ckrt_tables.specs.Writing.{IsPut}
use Rattle.ckrt_tables.proofs.Puts.{put_next}
use Rattle.ckrt_tables.proofs.KeyEntries.{data_not_1}
use Rattle.ckrt_tables.proofs.keys.put_data.Goals as goal

pub returns : goal.returns
returns c =
    let d = c.args.specific.now in
    let words = value_words d in
    let first : c.as_slice.result.now ≡ map if_not_0 d.values = c.as_slice.ensures ∙ c.words_of-words.ensures in
    let second : c.as_slice-2.result.now ≡ map if_not_0 d.values = c.as_slice-2.ensures ∙ c.words_of-words.ensures in
    let count : c.word_count-count.result ≡ length words = c.word_count-count.ensures ∙ ap (λ os. length (words_from 0 os)) first in
    let out = c.args.out.now in
    let mid = c.put-end.new.out in
    let last = c.put_words.new.out in
    subst (λ b. IsPut out c.args.at b last c.put_words.result) (sym (data_not_1 c.args.version d c.if-version-eq1.false))
    (put_next out c.args.at (d.round ∷ d.next_key ∷ length words ∷ 0 ∷ []) mid c.put-end.result (flat_map key_entry_bytes words) last c.put_words.result
    (subst (λ n. IsPut out c.args.at (d.round ∷ d.next_key ∷ n ∷ 0 ∷ []) mid c.put-end.result) count c.put-end.ensures)
    (subst (λ os. IsPut mid c.put-end.result (flat_map key_entry_bytes (words_from 0 os)) last c.put_words.result) second c.put_words.ensures))
