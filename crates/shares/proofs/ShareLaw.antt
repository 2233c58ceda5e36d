-- How often entries come to the value up to a place, as the code works it out.
use mathlib.Core.Path.{◌≡◌, sym, ap, ap₂, ◌∙◌}
use mathlib.Core.Logic.{by_cases}
use mathlib.Core.List.{[], ◌∷◌}
use Prim.Native.Nat.{ℕ, suc, ◌+◌, ◌-◌, ◌*◌, ◌/◌, ◌%◌, ◌^◌, ◌≤◌, ◌<◌}
use native.Mathlib.Nat.{pow-suc, div-div-eq-div-mul}
use native.Mathlib.Decide.{ℕ_discrete, dec_lt}
use native.Mathlib.Omega.{arith}
use lib.Pow.{pow-add}
use Rattle.residues.specs.Sums.{sum}
use Rattle.residues.proofs.ModLaw.{Cong, crefl, cof, csym, ◌⨾◌, cdrop, cadd, cmul}
use Rattle.gray.specs.Numbers.{point_digit}
use Rattle.held.specs.Visits.{gathered, visits}
use Rattle.held.specs.Thirds.{turns_of, low_sum, next_sum, same_sum, lows_sum}
use Rattle.held.proofs.CountLaw.{gathered_cong, gathered_const}
use Rattle.held.proofs.VisitLaw.{roomy}
use Rattle.held.proofs.ThirdsLaw.{turns_point, roomy_ups, roomy_next, roomy_far, visits_pair_fall, gathered_fall}
use Rattle.held.proofs.NinthsLaw.{visits_one, gathered_one_far, gathered_one_same, gathered_two_far, gathered_two_near, gathered_two_same, roomy_apart, roomy_after, after_far, after_next, after_same, twice_next, twice_far}
use Rattle.weights.specs.declared.Weights.{Weights}
use Rattle.weights.specs.Parts.{Weighs}
use Rattle.weights.proofs.WeightLaw.{less_third, turns_part, apart, none_falls, none_thrice}

-- ---- what the code works out
pub lows_is : (k : ℕ) → Cong 3 (2 * (k / 3 % 3) + (k % 3 + 1) / 2 * (2 * (k / 3 % 3)) + k % 3 / 2) (lows_sum k)
unfolding lows_sum
lows_is k = cadd (cadd (cmul (crefl 2) (cdrop (k / 3))) (cmul (crefl ((k % 3 + 1) / 2)) (cmul (crefl 2) (cdrop (k / 3))))) (crefl (k % 3 / 2))

pub sames_is : (k : ℕ) → Cong 3 (k / 3 % 3 + k % 3 * (k / 3 % 3 * (k / 3 % 3)) + k % 3 / 2 * (k / 3 % 3)) (same_sum k)
unfolding same_sum
sames_is k = cadd (cadd (cdrop (k / 3)) (cmul (crefl (k % 3)) (cmul (cdrop (k / 3)) (cdrop (k / 3))))) (cmul (crefl (k % 3 / 2)) (cdrop (k / 3)))

pub nexts_is : (k s : ℕ) → Cong 3 s (low_sum (k / 3)) → Cong 3 (k % 3 * (2 * s) + k % 3 / 2 * (k / 3 % 3 + 2 * (k / 3 / 3 % 3))) (next_sum k)
unfolding next_sum
nexts_is k s e =
    cadd (cmul (crefl (k % 3)) (cmul (crefl 2) e)) (cmul (crefl (k % 3 / 2)) (cadd (cdrop (k / 3)) (cmul (crefl 2) (cdrop (k / 3 / 3))) ⨾ less_third (k / 3)))

-- ---- none
zero_times : (x : ℕ) → x * 0 ≡ 0
zero_times x = omega arith

none_under : (b c d q : ℕ) → ((u : ℕ) → Cong 3 (gathered 3 (b ∷ c ∷ []) (visits 3 (b ∷ c ∷ d ∷ [])) u) 0) → Cong 3 (gathered 3 (b ∷ []) (gathered 3 (b ∷ c ∷ []) (visits 3 (b ∷ c ∷ d ∷ []))) q) 0
none_under b c d q f = gathered_cong 3 (b ∷ []) 3 _ (λ u. 0) q (λ u l h. f u) ⨾ cof (gathered_const 3 (b ∷ []) 0 q ∙ zero_times (visits 3 (b ∷ []) q))

pub none_pair : (b c q : ℕ) → c < b → Cong 3 (gathered 3 (b ∷ []) (visits 3 (b ∷ c ∷ [])) q) 0
none_pair b c q l = gathered_cong 3 (b ∷ []) 3 _ (λ u. 0) q (λ u k h. cof (visits_pair_fall b c u l)) ⨾ cof (gathered_const 3 (b ∷ []) 0 q ∙ zero_times (visits 3 (b ∷ []) q))

pub none_triple : (b c d q : ℕ) → d < c → Cong 3 (gathered 3 (b ∷ []) (gathered 3 (b ∷ c ∷ []) (visits 3 (b ∷ c ∷ d ∷ []))) q) 0
none_triple b c d q l = none_under b c d q (λ u. none_falls b c d u l)

pub none_first : (b c d q : ℕ) → c < b → Cong 3 (gathered 3 (b ∷ []) (gathered 3 (b ∷ c ∷ []) (visits 3 (b ∷ c ∷ d ∷ []))) q) 0
none_first b c d q l = none_under b c d q (λ u. cof (gathered_fall b c (visits 3 (b ∷ c ∷ d ∷ [])) u l))

pub none_cube : (b q : ℕ) → Cong 3 (gathered 3 (b ∷ []) (gathered 3 (b ∷ b ∷ []) (visits 3 (b ∷ b ∷ b ∷ []))) q) 0
none_cube b q = none_under b b b q (λ u. none_thrice b u)

-- ---- once: how often b moved
pub once_is : (b q : ℕ) → Cong 3 (visits 3 (b ∷ []) q) (q / 3 ^ b + 2 * (q / 3 ^ b / 3))
once_is b q = cof (visits_one b q) ⨾ csym (less_third (q / 3 ^ b))

one_more : (b : ℕ) → suc b - b ≡ 1
one_more b = omega arith

third_of : (q b : ℕ) → q / 3 ^ b / 3 ≡ q / 3 ^ suc b
third_of q b = div-div-eq-div-mul q (3 ^ b) 3 ∙ ap (λ (x : ℕ). q / x) (sym (pow-suc 3 b))

-- ---- b twice
pub weighs_own : (n b q y : ℕ) (x : ℕ → ℕ) (w : Weights) → y ≡ q / 3 ^ b → ((d : ℕ) → 0 < d → d < n → Cong 3 (x d) (point_digit 3 q d))
    → Cong 3 w.whole (y / 3 * (y / 3) + y % 3 * (y / 3) + y % 3 / 2) → Cong 3 w.next (lows_sum (y / 3) + ((y % 3 + 1) / 2 * low_sum (y / 3) + y % 3 / 2 * low_sum (suc (y / 3))))
    → Weighs n b b (gathered 3 (b ∷ []) (visits 3 (b ∷ b ∷ [])) q) (λ d. gathered 3 (b ∷ []) (gathered 3 (b ∷ b ∷ []) (visits 3 (b ∷ b ∷ d ∷ []))) q) x w
weighs_own n b q y x w e digits u t =
    let a : gathered 3 (b ∷ []) (visits 3 (b ∷ b ∷ [])) q ≡ y / 3 * (y / 3) + y % 3 * (y / 3) + y % 3 / 2
    = gathered_one_same b q ∙ roomy_ups (q / 3 ^ b) ∙ ap (λ (k : ℕ). k / 3 * (k / 3) + k % 3 * (k / 3) + k % 3 / 2) (sym e) in
    record {
      whole = u ⨾ cof (sym a);
      same = λ l. absurd (omega arith);
      next = λ l. t ⨾ csym (cof (gathered_two_same b (suc b) q (omega arith) ∙ ap₂ (λ (g k : ℕ). roomy 3 1 (λ y. roomy 3 2 (turns_of g) y) k) (one_more b) (sym e)) ⨾ twice_next y);
      far = λ d l m.
          let part : turns_of (suc (d - b - 2)) (y / 3) ≡ turns_of d q
          = let i : suc (d - b - 2) ≡ d - suc b = omega arith in
          ap₂ turns_of i (ap (λ (k : ℕ). k / 3) e ∙ third_of q b) ∙ turns_part q (suc b) d (omega arith) in
          cmul (cof a) (digits d (omega arith) m ⨾ csym (turns_point d q) ⨾ cof (sym part))
          ⨾ csym (cof (gathered_two_same b d q (omega arith) ∙ ap₂ (λ (g k : ℕ). roomy 3 1 (λ y. roomy 3 2 (turns_of g) y) k) (apart b d l) (sym e)) ⨾ twice_far (d - b - 2) y);
      none = λ d l. none_triple b b d q l;
      twice = λ l. none_cube b q;
    }

-- ---- b and the next
pub weighs_beside : (n b q y : ℕ) (x : ℕ → ℕ) (w : Weights) → y ≡ q / 3 ^ b → ((d : ℕ) → 0 < d → d < n → Cong 3 (x d) (point_digit 3 q d))
    → Cong 3 w.whole (2 * low_sum (y / 3) + y % 3 * (y / 3 - y / 3 / 3))
    → Cong 3 w.same (2 * same_sum (y / 3) + y % 3 * (y / 3 / 3 * (y / 3 / 3) + y / 3 % 3 * (y / 3 / 3) + y / 3 % 3 / 2))
    → Cong 3 w.next (2 * next_sum (y / 3) + y % 3 * (2 * low_sum (y / 3 / 3) + y / 3 % 3 * (y / 3 / 3 - y / 3 / 3 / 3)))
    → Weighs n b (suc b) (gathered 3 (b ∷ []) (visits 3 (b ∷ suc b ∷ [])) q) (λ d. gathered 3 (b ∷ []) (gathered 3 (b ∷ suc b ∷ []) (visits 3 (b ∷ suc b ∷ d ∷ []))) q) x w
weighs_beside n b q y x w e digits u v t =
    let K = y / 3 in
    let a : Cong 3 (gathered 3 (b ∷ []) (visits 3 (b ∷ suc b ∷ [])) q) (2 * low_sum K + y % 3 * (K - K / 3))
    = cof (gathered_one_far b (suc b) q (omega arith) ∙ ap₂ (λ (g k : ℕ). roomy 3 1 (turns_of g) k) (one_more b) (sym e)) ⨾ roomy_next y in
    let at : (F : ℕ → ℕ) → roomy 3 1 (λ z. F (z / 3 ^ (suc b - b))) (q / 3 ^ b) ≡ sum K F + sum K F + y % 3 * F K
    = λ F. ap₂ (λ (g k : ℕ). roomy 3 1 (λ z. F (z / 3 ^ g)) k) (one_more b) (sym e) ∙ roomy_after F y in
    record {
      whole = u ⨾ csym a;
      same = λ l. v ⨾ csym (cof (gathered_two_near b (suc b) q (omega arith) ∙ at (roomy 3 1 (λ x. (x + 2) / 3))) ⨾ doubled (after_same K) (cof (roomy_ups K)));
      next = λ l. t ⨾ csym (cof (gathered_two_far b (suc b) (suc (suc b)) q (omega arith) (omega arith) ∙ at (roomy 3 1 (turns_of (suc (suc b) - suc b)))
          ∙ ap (λ (g : ℕ). sum K (roomy 3 1 (turns_of g)) + sum K (roomy 3 1 (turns_of g)) + y % 3 * roomy 3 1 (turns_of g) K) (one_more (suc b))) ⨾ doubled (after_next K) (roomy_next K));
      far = λ d l m.
          let i : d - suc b ≡ suc (suc (d - suc b - 2)) = apart (suc b) d l in
          let part : turns_of (suc (suc (d - suc b - 2))) K ≡ turns_of d q = ap₂ turns_of (sym i) (ap (λ (k : ℕ). k / 3) e ∙ third_of q b) ∙ turns_part q (suc b) d (omega arith) in
          cmul a (digits d (omega arith) m ⨾ csym (turns_point d q) ⨾ cof (sym part))
          ⨾ csym (cof (gathered_two_far b (suc b) d q (omega arith) (omega arith) ∙ at (roomy 3 1 (turns_of (d - suc b)))
          ∙ ap (λ (g : ℕ). sum K (roomy 3 1 (turns_of g)) + sum K (roomy 3 1 (turns_of g)) + y % 3 * roomy 3 1 (turns_of g) K) i)
          ⨾ doubled (after_far (d - suc b - 2) K) (roomy_far (d - suc b - 2) K)
          ⨾ cof (join (low_sum K) (turns_of (suc (suc (d - suc b - 2))) K) (y % 3) (K + 2 * (K / 3))) ⨾ cmul (cadd (crefl (2 * low_sum K)) (cmul (crefl (y % 3)) (less_third K))) (crefl _));
      none = λ d l. none_triple b (suc b) d q l;
      twice = λ l. absurd (omega arith);
    }
  where
    doubled : {s z a b : ℕ} → Cong 3 s a → Cong 3 z b → Cong 3 (s + s + y % 3 * z) (2 * a + y % 3 * b)
    doubled {s} {z} {a} {b} i j = cadd (cadd i i) (cmul (crefl (y % 3)) j) ⨾ cof (twice a (y % 3 * b))
      where
        twice : (a c : ℕ) → a + a + c ≡ 2 * a + c
        twice a c = omega arith

    join : (s t i f : ℕ) → 2 * (s * t) + i * (f * t) ≡ (2 * s + i * f) * t
    join s t i f = omega arith

-- ---- a later one: as often as its own entries come
pub weighs_later : (n b c q y : ℕ) (x : ℕ → ℕ) (w : Weights) → b < c → y ≡ q / 3 ^ c → ((d : ℕ) → 0 < d → d < n → Cong 3 (x d) (point_digit 3 q d))
    → Cong 3 w.whole (y + 2 * (y / 3)) → Cong 3 w.same (y / 3 * (y / 3) + y % 3 * (y / 3) + y % 3 / 2) → Cong 3 w.next (2 * low_sum (y / 3) + y % 3 * (y / 3 - y / 3 / 3))
    → Weighs n b c (visits 3 (c ∷ []) q) (λ d. gathered 3 (c ∷ []) (visits 3 (c ∷ d ∷ [])) q) x w
weighs_later n b c q y x w l e digits u v t =
    let a : Cong 3 (visits 3 (c ∷ []) q) (y + 2 * (y / 3)) = once_is c q ⨾ cof (ap (λ (k : ℕ). k + 2 * (k / 3)) (sym e)) in
    record {
      whole = u ⨾ csym a;
      same = λ k. v ⨾ csym (cof (gathered_one_same c q ∙ roomy_ups (q / 3 ^ c) ∙ ap (λ (k : ℕ). k / 3 * (k / 3) + k % 3 * (k / 3) + k % 3 / 2) (sym e)));
      next = λ k. t ⨾ csym (cof (gathered_one_far c (suc c) q (omega arith) ∙ ap₂ (λ (g k : ℕ). roomy 3 1 (turns_of g) k) (one_more c) (sym e)) ⨾ roomy_next y);
      far = λ d k m.
          let part : turns_of (suc (suc (d - c - 2))) y ≡ turns_of d q = ap₂ turns_of (sym (apart c d k)) e ∙ turns_part q c d (omega arith) in
          cmul a (digits d (omega arith) m ⨾ csym (turns_point d q) ⨾ cof (sym part))
          ⨾ csym (cof (gathered_one_far c d q (omega arith) ∙ ap₂ (λ (g k : ℕ). roomy 3 1 (turns_of g) k) (apart c d k) (sym e)) ⨾ roomy_far (d - c - 2) y);
      none = λ d k. none_pair c d q k;
      twice = λ k. absurd (omega arith);
    }

-- the entries of b and a later one but the next come as often as b moved, each time as often as the later one's
far_part : (q b c : ℕ) → b ≤ c → q / 3 ^ b / 3 ^ (c - b) ≡ q / 3 ^ c
far_part q b c l = let k : b + (c - b) ≡ c = omega arith in div-div-eq-div-mul q (3 ^ b) (3 ^ (c - b)) ∙ ap (λ (x : ℕ). q / x) (sym (pow-add 3 b (c - b)) ∙ ap (λ (x : ℕ). 3 ^ x) k)

pub later_pair : (b c q : ℕ) → suc b < c → Cong 3 (gathered 3 (b ∷ []) (visits 3 (b ∷ c ∷ [])) q) (visits 3 (b ∷ []) q * visits 3 (c ∷ []) q)
unfolding turns_of
later_pair b c q l =
    let i = apart b c l in
    cof (gathered_one_far b c q (omega arith) ∙ ap (λ (g : ℕ). roomy 3 1 (turns_of g) (q / 3 ^ b)) i) ⨾ roomy_far (c - b - 2) (q / 3 ^ b)
    ⨾ cmul (csym (once_is b q)) (cof (ap (λ (g : ℕ). turns_of g (q / 3 ^ b)) (sym i) ∙ turns_part q b c (omega arith) ∙ sym (visits_one c q)))

pub later_triple : (b c d q : ℕ) → suc b < c
    → Cong 3 (gathered 3 (b ∷ []) (gathered 3 (b ∷ c ∷ []) (visits 3 (b ∷ c ∷ d ∷ []))) q) (visits 3 (b ∷ []) q * gathered 3 (c ∷ []) (visits 3 (c ∷ d ∷ [])) q)
later_triple b c d q l =
    by_cases (dec_lt d c)
    (λ h. none_triple b c d q h ⨾ csym (cmul (crefl (visits 3 (b ∷ []) q)) (none_pair c d q h) ⨾ cof (zero_times (visits 3 (b ∷ []) q))))
    (λ h. by_cases (ℕ_discrete c d)
    (λ (e : c ≡ d). rw (← e) (cof (gathered_two_near b c q (omega arith)) ⨾ apply (roomy 3 1 (λ x. (x + 2) / 3)) ⨾ cmul (crefl _) (cof (sym (gathered_one_same c q)))))
    (λ e. cof (gathered_two_far b c d q (omega arith) (omega arith)) ⨾ apply (roomy 3 1 (turns_of (d - c))) ⨾ cmul (crefl _) (cof (sym (gathered_one_far c d q (omega arith))))))
  where
    apply : (F : ℕ → ℕ) → Cong 3 (roomy 3 1 (λ y. F (y / 3 ^ (c - b))) (q / 3 ^ b)) (visits 3 (b ∷ []) q * F (q / 3 ^ c))
    apply F =
        let i = apart b c l in
        cof (ap (λ (g : ℕ). roomy 3 1 (λ y. F (y / 3 ^ g)) (q / 3 ^ b)) i) ⨾ roomy_apart F (c - b - 2) (q / 3 ^ b)
        ⨾ cmul (csym (once_is b q)) (cof (ap (λ (g : ℕ). F (q / 3 ^ b / 3 ^ g)) (sym i) ∙ ap F (far_part q b c (omega arith))))
