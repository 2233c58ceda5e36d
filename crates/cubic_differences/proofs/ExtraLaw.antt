-- What the products of three add to the entries of pairs and single unknowns, in brackets.
use mathlib.Core.Path.{◌≡◌, refl, sym, ap, ap₂, ◌∙◌}
use mathlib.Core.Logic.{by_cases}
use mathlib.Core.List.{[], ◌∷◌}
use Prim.Native.Nat.{ℕ, zero, suc, ◌+◌, ◌*◌, ◌^◌, ◌≤◌, ◌<◌}
use native.Mathlib.Decide.{ℕ_discrete}
use native.Mathlib.Omega.{arith}
use Rattle.residues.proofs.ModLaw.{Cong, crefl, cof, csym, ◌⨾◌, cdrop, cadd, cmul, cwhole, cancel}
use Rattle.positions.proofs.PowerLaw.{power_positions}
use Rattle.polynomials.specs.Poly.{prev, table_of}
use Rattle.polynomials.proofs.TableLaw.{same_is, other_is}
use Rattle.held.specs.Held.{entry, along}
use Rattle.cubics.specs.Cubic.{Cubic, low_of, cubes_of}
use Rattle.cubics.specs.Rows.{under_of}
use Rattle.cubics.specs.Triples.{Triples, prev3, low3, high3}
use Rattle.cubics.proofs.LinearLaw.{cubic_lin, cubic_quad}
use Rattle.cubics.proofs.CoefficientLaw.{coef_single, coef_same, coef_pair}
use Rattle.cubics.proofs.BracketLaw.{triples_of, all_same, all_other, bracket, t_is, low_t}
use Rattle.cubics.proofs.AlikeLaw.{Agree, prev_like, high_like, low_like}
use Rattle.held.proofs.ExactLaw.{pair_place}
use Rattle.brackets.specs.Brackets.{extra_single, extra_pair}
use Rattle.brackets.proofs.BracketLaw.{pair_same, pair_other}

two : 1 < 3
two = omega arith

three : 2 < 3
three = omega arith

pos : 0 < 3
pos = omega arith

-- ---- brackets that agree below n
module _ (n : ℕ) (e h : Triples) (a : Agree n e h) where
  pub single_like : (b : ℕ) → b < n → Cong 3 (extra_single e b) (extra_single h b)
  unfolding extra_single
  single_like zero l = crefl 0
  single_like (suc b) l = cadd (prev_like n e h a (suc b) (suc b) (omega arith) l) (cmul (crefl 2) (a.two b (suc b) (omega arith) l))

  pub pair_like : (b c : ℕ) → b ≤ c → c < n → Cong 3 (extra_pair e b c) (extra_pair h b c)
  pair_like b c l m =
      by_cases (ℕ_discrete b c)
      (λ i. cof (pair_same e b c i) ⨾ cmul (crefl 2) (prev_like n e h a b b (omega arith) (omega arith)) ⨾ cof (sym (pair_same h b c i)))
      (λ i. cof (pair_other e b c i) ⨾ cmul (crefl 2) (cadd (high_like n e h a b c c (omega arith) (omega arith) m) (low_like n e h a b c (omega arith) m)) ⨾ cof (sym (pair_other h b c i)))

-- ---- the entries of the products of three alone
prev_under : (f : Cubic) (b : ℕ) → prev (low_of f) b ≡ under_of (λ a. f.quad a b) b
unfolding prev under_of
prev_under f zero = refl
prev_under f (suc a) = refl

abb_is : (f : Cubic) (b : ℕ) → prev3 (triples_of f) b b ≡ 2 * under_of (λ a. f.cube a b b) b
unfolding prev3 under_of
abb_is f zero = refl
abb_is f (suc a) = all_same f a (suc a)

abc_is : (f : Cubic) (b c : ℕ) → b < c → prev3 (triples_of f) b c ≡ under_of (λ a. f.cube a b c) b
unfolding prev3 under_of
abc_is f zero c l = refl
abc_is f (suc a) c l = all_other f a (suc a) c (λ e. omega arith)

two_is : (f : Cubic) (b k : ℕ) → (triples_of f).two b k ≡ 2 * f.cube b b k
unfolding triples_of
two_is f b k = refl

extra_is : (f : Cubic) (b : ℕ) → Cong 3 (extra_single (triples_of f) b) (2 * under_of (λ a. f.cube a b b) b + under_of (λ a. f.cube a a b) b)
unfolding extra_single under_of
extra_is f zero = cof refl
extra_is f (suc a) =
    cof (ap₂ (λ (x y : ℕ). x + 2 * y) (abb_is f (suc a)) (two_is f a (suc a)) ∙ ring (2 * under_of (λ a'. f.cube a' (suc a) (suc a)) (suc a)) (f.cube a a (suc a))) ⨾ cwhole _ (f.cube a a (suc a))
  where
    ring : (x y : ℕ) → x + 2 * (2 * y) ≡ x + y + 3 * y
    ring x y = omega arith

-- taken off both sides: E + T ~ S + Y and T ~ S
off : (E T S Y : ℕ) → Cong 3 (T + E) (S + Y) → Cong 3 T S → Cong 3 E Y
off E T S Y p q = cancel pos S (cof (turn E S) ⨾ cadd (csym q) (crefl E) ⨾ p ⨾ cof (turn S Y))
  where
    turn : (x y : ℕ) → x + y ≡ y + x
    turn x y = omega arith

module _ (f : Cubic) (free : (i : ℕ) → f.cube i i i ≡ 0) (n : ℕ) where
  pub cubes_single : (b : ℕ) → b < n → Cong 3 (entry 3 (along 3 (cubes_of f n)) (b ∷ [])) (extra_single (triples_of f) b)
  unfolding table_of
  cubes_single b l =
      off (entry 3 (along 3 (cubes_of f n)) (b ∷ [])) ((table_of 3 (low_of f)).lin b) (f.lin b + f.quad b b + 2 * under_of (λ a. f.quad a b) b)
      (2 * under_of (λ a. f.cube a b b) b + under_of (λ a. f.cube a a b) b)
      (csym (cubic_lin 3 two f n b l) ⨾ coef_single f free n b (3 ^ b) [] (power_positions 3 two b) l
      ⨾ cof (ring (f.lin b + f.quad b b + 2 * under_of (λ a. f.quad a b) b) (2 * under_of (λ a. f.cube a b b) b) (under_of (λ a. f.cube a a b) b)))
      (cdrop _ ⨾ cof (ap (λ (x : ℕ). f.lin b + f.quad b b + 2 * x) (prev_under f b)))
      ⨾ csym (extra_is f b)
    where
      ring : (s x y : ℕ) → s + x + y ≡ s + (x + y)
      ring s x y = omega arith

  cubes_same : (b : ℕ) → b < n → Cong 3 (entry 3 (along 3 (cubes_of f n)) (b ∷ b ∷ [])) (2 * prev3 (triples_of f) b b)
  cubes_same b l =
      let p = pair_place 3 two three b b n (omega arith) l in
      off (entry 3 (along 3 (cubes_of f n)) (b ∷ b ∷ [])) ((table_of 3 (low_of f)).quad b b) (2 * f.quad b b + 2 * under_of (λ a. f.quad a b) b) (under_of (λ a. f.cube a b b) b)
      (csym (cubic_quad 3 two f n b b p.0 [] p.1 l p.2) ⨾ coef_same f free n b (suc p.0) [] p.2 l)
      (cof (same_is 3 two (low_of f) b) ⨾ cdrop _ ⨾ cof (ap (λ (x : ℕ). 2 * f.quad b b + 2 * x) (prev_under f b)))
      ⨾ csym (cof (ap (λ (x : ℕ). 2 * x) (abb_is f b) ∙ ring (under_of (λ a. f.cube a b b) b)) ⨾ cwhole _ (under_of (λ a. f.cube a b b) b))
    where
      ring : (x : ℕ) → 2 * (2 * x) ≡ x + 3 * x
      ring x = omega arith

  -- [bbp] + [bcp] + [abp], c = p + 1
  low_is : (b p : ℕ) (l : b < suc p) → Cong 3 (bracket f b b p + bracket f b (suc p) p + under_of (λ j. bracket f b j p) b) (low3 (triples_of f) b (suc p))
  unfolding under_of
  low_is b p l =
      csym (cof (t_is f b (suc p) l p ∙ ring (bracket f b b p) (bracket f b (suc p) p) (under_of (λ j. bracket f b j p) b)) ⨾ cwhole _ (under_of (λ j. bracket f b j p) b)) ⨾ low_t f b (suc p) l
    where
      ring : (x y z : ℕ) → 1 * x + y + 2 * (2 * z) ≡ x + y + z + 3 * z
      ring x y z = omega arith

  cubes_other : (b c : ℕ) → b < c → c < n → Cong 3 (entry 3 (along 3 (cubes_of f n)) (b ∷ c ∷ [])) (2 * (high3 (triples_of f) b c c + low3 (triples_of f) b c))
  unfolding high3
  cubes_other b zero l m = absurd (omega arith)
  cubes_other b (suc p) l m =
      let t = pair_place 3 two three b (suc p) n (omega arith) m in
      let s = under_of (λ a. f.cube a b (suc p)) b in
      let w = bracket f b b p + bracket f b (suc p) p + under_of (λ j. bracket f b j p) b in
      off (entry 3 (along 3 (cubes_of f n)) (b ∷ suc p ∷ [])) ((table_of 3 (low_of f)).quad b (suc p)) (f.quad b (suc p) + 2 * f.quad b b + under_of (λ a. f.quad a b) b)
      (2 * s + f.cube b b (suc p) + f.cube b (suc p) (suc p) + 2 * w)
      (csym (cubic_quad 3 two f n b (suc p) t.0 [] t.1 (omega arith) t.2) ⨾ coef_pair f free n b p (suc t.0) [] t.2 l m
      ⨾ cof (group (f.quad b (suc p) + 2 * f.quad b b + under_of (λ a. f.quad a b) b) (2 * s) (f.cube b b (suc p)) (f.cube b (suc p) (suc p)) (2 * w)))
      (cof (other_is 3 two (low_of f) b (suc p) (λ e. omega arith)) ⨾ cdrop _
      ⨾ cof (ap (λ (x : ℕ). f.quad b (suc p) + 2 * f.quad b b + 2 * (2 * x)) (prev_under f b) ∙ four (f.quad b (suc p) + 2 * f.quad b b) (under_of (λ a. f.quad a b) b)) ⨾ cwhole _ (under_of (λ a. f.quad a b) b))
      ⨾ csym (cof (ap (λ (x : ℕ). 2 * (x + low3 (triples_of f) b (suc p))) (ap₂ (λ (x y : ℕ). x + y) (ap₂ (λ (x y : ℕ). x + y) (two_is f b (suc p)) (all_same f b (suc p))) (abc_is f b (suc p) l))
      ∙ ring s (f.cube b b (suc p)) (f.cube b (suc p) (suc p)) (low3 (triples_of f) b (suc p))) ⨾ cwhole _ (f.cube b b (suc p) + f.cube b (suc p) (suc p)) ⨾ cadd (crefl _) (cmul (crefl 2) (csym (low_is b p l))))
    where
      group : (s x y z w : ℕ) → s + x + y + z + w ≡ s + (x + y + z + w)
      group s x y z w = omega arith

      four : (x u : ℕ) → x + 2 * (2 * u) ≡ x + u + 3 * u
      four x u = omega arith

      ring : (s x y w : ℕ) → 2 * (2 * x + 2 * y + s + w) ≡ 2 * s + x + y + 2 * w + 3 * (x + y)
      ring s x y w = omega arith

  pub cubes_pair : (b c : ℕ) → b ≤ c → c < n → Cong 3 (entry 3 (along 3 (cubes_of f n)) (b ∷ c ∷ [])) (extra_pair (triples_of f) b c)
  cubes_pair b c l m =
      by_cases (ℕ_discrete b c)
      (λ (i : b ≡ c). rw (← i) (cubes_same b (omega arith)) ⨾ cof (sym (pair_same (triples_of f) b c i)))
      (λ i. cubes_other b c (omega arith) m ⨾ cof (sym (pair_other (triples_of f) b c i)))
