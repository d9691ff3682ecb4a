use Rattle.std.proofs.Common.{◌≡◌, ◌∷◌, ◌++◌, true, length, map, refl, sym, ap, ◌∙◌}
use Rattle.std.specs.List.{flat_map}
use Rattle.ckrt_thread.proofs.KeyLemmas.{both}
use Rattle.ckrt_tables.specs.Records.{key_entry_bytes, if_not_0, word_or_0, value_words}
use Rattle.ckrt_tables.specs.Savable.{fits_data}
use Rattle.ckrt_tables.proofs.KeyEntries.{data_fits, words_of_data, is_no_data, values_again, same_data, data_in_1, bytes_in_1, bytes_in_2, few_values}
use Rattle.ckrt_tables.proofs.reading_keys.read_data.Goals as goal

pub returns-then-version-eq1 : goal.returns-then-version-eq1
returns-then-version-eq1 c = λ d rest f e.
    let own = both (fits_data d) _ f in
    let bare = data_in_1 c.args.version d c.if-version-eq1.true f in
    (c.new.ensures ∙ sym (is_no_data d (data_fits d own.0).size bare), e ∙ bytes_in_1 c.args.version d rest c.if-version-eq1.true)

pub returns : goal.returns
returns c = λ d rest f e.
    let own = both (fits_data d) _ f in
    let p = data_fits d own.0 in
    let words = value_words d in
    let tail = flat_map key_entry_bytes words ++ rest in
    let i = c.byte-round.ensures d.round (d.next_key ∷ length words ∷ 0 ∷ tail) p.round (e ∙ bytes_in_2 c.args.version d rest c.if-version-eq1.false) in
    let k = c.byte-next_key.ensures d.next_key (length words ∷ 0 ∷ tail) p.next_key i.1 in
    let n = c.byte-count.ensures (length words) (0 ∷ tail) (few_values d p) k.1 in
    let z = c.byte.ensures 0 tail refl n.1 in
    let w = c.read_words-words.ensures (map if_not_0 d.values) rest (words_of_data d p) n.0 z.1 in
    let values : c.values_of.result ≡ d.values = c.values_of.ensures ∙ ap (map word_or_0) w.0 ∙ values_again d.values in
    (same_data c.byte-round.result c.byte-next_key.result c.values_of.result d i.0 k.0 values, w.1)
