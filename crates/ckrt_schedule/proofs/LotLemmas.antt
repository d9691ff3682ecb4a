-- The lots behind those that were drawn.
use Rattle.std.proofs.Common.{◌≡◌, ◌∙◌, ℕ, zero, suc, ◌+◌, ap, sym, arith, refl}
use Rattle.rand_pcg.specs.Lcg.{next_state, state_after}
use Rattle.rand_pcg.specs.Pcg.{multiplier_64, output_xsh_rr}
use Rattle.ckrt_schedule.specs.Lots.{generator_of, lot_from, lot_of, state_behind}

none : (w m i s : ℕ) → state_after w m i 0 s ≡ s
unfolding state_after
none w m i s = refl

more : (w m i n s : ℕ) → state_after w m i (suc n) s ≡ state_after w m i n (next_state w m i s)
unfolding state_after
more w m i n s = refl

-- so many steps, and then others, are all of them
after_both : (w m i a b s : ℕ) → state_after w m i (a + b) s ≡ state_after w m i b (state_after w m i a s)
after_both w m i zero b s =
    let e : 0 + b ≡ b = omega arith in
    ap (λ n. state_after w m i n s) e ∙ sym (ap (λ x. state_after w m i b x) (none w m i s))
after_both w m i (suc a) b s =
    let e : suc a + b ≡ suc (a + b) = omega arith in
    ap (λ n. state_after w m i n s) e ∙ more w m i (a + b) s ∙ after_both w m i a b (next_state w m i s)
    ∙ sym (ap (λ x. state_after w m i b x) (more w m i a s))

pub lots_follow : (seed n k : ℕ) → lot_from (state_behind seed n) k ≡ lot_of seed (n + k)
lots_follow seed n k = sym (ap output_xsh_rr (after_both 64 multiplier_64 (generator_of seed).increment n k (generator_of seed).state))
