-- How the newest area of an image takes over.
use Rattle.std.proofs.Common.{◌≡◌, ◌⊎◌, inl, inr, ℕ, ◌+◌, ◌≤◌, false, cond, List, [], length, take, drop, None, Ok, ◌∙◌, ap, subst, arith}
use Rattle.std.proofs.lemmas.Bool.{cases_lt}
use Rattle.byteorder.specs.Endian.{little_number}
use Rattle.ckrt_journal.specs.Chain.{batches_of, batch_of_length, found_then, journal_bytes}
use Rattle.ckrt_journal.proofs.ChainLemmas.{chain_more}
use Rattle.ckrt_stored.specs.Layout.{is_open, journal_of, memory_of}
use Rattle.ckrt_stored.specs.Frame.{IsSwitched}
use Rattle.ckrt_stored.specs.Recovery.{Recovered, Recovers, replayed_batches, replayed_journal, unreplayed}
use Rattle.ckrt_stored.proofs.AreaLemmas.{picked_newest}
use Rattle.ckrt_stored.proofs.GrowthLemmas.{used_by}
use Rattle.ckrt_stored.proofs.RecoverLemmas.{from_state, ok}
use Rattle.ckrt_stored.proofs.ReplayLemmas.{replayed-none}

-- THE NEWEST AREA

-- a gate that isn't open ends the chain
no_batch : (version : ℕ) (rest : List ℕ) → is_open rest ≡ false → batches_of version rest ≡ Ok []
no_batch version rest shut = chain_more version rest ∙ ap (λ r. found_then r (λ batch. batches_of version (drop (3 + length batch) rest))) (ap (λ b. cond b (batch_of_length version (little_number 2 (take 2 (drop 1 rest))) rest) (Ok None)) shut)

pub index_is : (n : ℕ) → n ≤ 1 → (n ≡ 0) ⊎ (n ≡ 1)
index_is n le = elim (cases_lt n 1) [ inl lt ↦ inl (omega arith) | inr past ↦ inr (omega arith) ]

pub switched : IsSwitched
switched c area memory s image superblock holds newest =
    let is = used_by c area image superblock (picked_newest c image area (index_is area.index holds.index) holds.header holds.opened newest holds.checked) in
    let begun : Recovered = unreplayed c area (memory_of c area.index image) s in
    let no_events : replayed_journal image begun ≡ ok begun = ap (λ t. replayed_batches begun t) (no_batch area.header.version (journal_bytes (journal_of c area.index area.header.version) image) holds.no_batch) ∙ replayed-none begun holds.savable.is_held in
    subst (Recovers image) (no_events ∙ ap (λ (m : List ℕ). ok (unreplayed c area m s)) holds.pages) (from_state image c area s is (record { savable = holds.savable; encoded = holds.tables }) holds.end)
