-- Lots, which a generator of pseudorandom numbers draws: PCG32 (O'Neill, "PCG: a family of simple fast space-efficient statistically good
-- algorithms for random number generation"). They are counted, and not kept: each is a function of the seed and of its number.
use Rattle.std.specs.Prelude.{ℕ}
use Rattle.rand_pcg.specs.Lcg.{Lcg, advance, increment_of, started}
use Rattle.rand_pcg.specs.Pcg.{multiplier_64, output_xsh_rr}

-- the generator of a seed, of the stream of its reference program
abbrev pub generator_of : (seed : ℕ) → Lcg
generator_of seed = started 64 multiplier_64 seed (increment_of 64 54)

-- the number of 32 bits that it draws after n others
abbrev pub lot_of : (seed n : ℕ) → ℕ
lot_of seed n = output_xsh_rr (advance 64 multiplier_64 n (generator_of seed)).state

-- the state of the generator after n lots of a seed
abbrev pub state_behind : (seed n : ℕ) → ℕ
state_behind seed n = (advance 64 multiplier_64 n (generator_of seed)).state

-- the number that the generator draws from a state, after n others
abbrev pub lot_from : (state n : ℕ) → ℕ
lot_from state n =
    output_xsh_rr (advance 64 multiplier_64 n (record { state = state; increment = increment_of 64 54 })).state
