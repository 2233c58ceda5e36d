-- The places up to p that begin with given positions, by number: sums over them, and how many they are.
use mathlib.Core.Path.{◌≡◌, refl, sym, ap, ap₂, ◌∙◌}
use mathlib.Core.Bool.{true, false}
use mathlib.Core.Logic.{◌⊎◌, inl, inr, ⊎_elim, by_cases}
use mathlib.Core.List.{List, [], ◌∷◌, ◌++◌}
use Prim.Native.Nat.{ℕ, zero, suc, ◌+◌, ◌-◌, ◌*◌, ◌/◌, ◌%◌, ◌^◌, ◌<◌, ◌≤◌}
use native.Mathlib.Nat.{add-zero, mul-suc, pow-suc, mul-le-mul_left, one-le-pow, mod-lt, div-add-mod, div-eq_of_lt, mul-add-div}
use native.Mathlib.Decide.{ℕ_discrete, dec_lt}
use native.Mathlib.Omega.{arith}
use lib.Dec.{ltb}
use lib.ListN.{length}
use borrow.Author.Tests.{lt-ltb, le-ltb}
use Rattle.positions.specs.Positions.{positions}
use Rattle.held.specs.Held.{begins, first_of}
use Rattle.held.specs.Stands.{Rises}
use Rattle.held.specs.Visits.{gathered, visits}
use Rattle.held.proofs.HeldLaw.{either, begins_self, begins_take}
use Rattle.held.proofs.StemLaw.{Stem, root, grow, stem_of, place_at, grow_self, grow_other, grow_at, one_run, stem_snoc}
use Rattle.held.proofs.PastLaw.{top, above, above_other, above_begins, first_place}
use Rattle.held.proofs.RiseLaw.{rises_take, positions_rise}
use Rattle.held.proofs.ExactLaw.{triple_same, triple_over}
use Rattle.held.proofs.CountLaw.{gathered_more, gathered_same, gathered_none}

-- the sum of g over those of the numbers below x whose lowest digit leaves room for r more
unfoldable pub roomy : ℕ → ℕ → (ℕ → ℕ) → ℕ → ℕ
roomy q r g zero = 0
roomy q r g (suc x) = elim (ltb (x % q + r) q) [ true ↦ roomy q r g x + g x | false ↦ roomy q r g x ]

pub roomy_more : (q r : ℕ) (g : ℕ → ℕ) (x : ℕ) → x % q + r < q → roomy q r g (suc x) ≡ roomy q r g x + g x
unfolding roomy
roomy_more q r g x h = rw (lt-ltb _ _ h, roomy)

pub roomy_same : (q r : ℕ) (g : ℕ → ℕ) (x : ℕ) → q ≤ x % q + r → roomy q r g (suc x) ≡ roomy q r g x
unfolding roomy
roomy_same q r g x h = rw (le-ltb _ _ h, roomy)

pub roomy_ext : (q r : ℕ) (g h : ℕ → ℕ) → ((y : ℕ) → y % q + r < q → g y ≡ h y) → (x : ℕ) → roomy q r g x ≡ roomy q r h x
unfolding roomy
roomy_ext q r g h e zero = refl
roomy_ext q r g h e (suc x) =
    by_cases (dec_lt (x % q + r) q)
    (λ l. roomy_more q r g x l ∙ ap₂ (λ (a b : ℕ). a + b) (roomy_ext q r g h e x) (e x l) ∙ sym (roomy_more q r h x l))
    (λ l. let k : q ≤ x % q + r = omega arith in roomy_same q r g x k ∙ roomy_ext q r g h e x ∙ sym (roomy_same q r h x k))

-- ---- one number more, divided
quotient : (w x r : ℕ) → r < w → (w * x + r) / w ≡ x
quotient w x r h = let pos : 0 < w = omega arith in mul-add-div pos x r ∙ ap (λ (y : ℕ). x + y) (div-eq_of_lt h) ∙ add-zero x

record Next (w f p x : ℕ) : Type 0 where
  part : (suc p - f) / w ≡ suc x
  is : suc p ≡ f + w * suc x

next : (w f p : ℕ) → 0 < w → ((suc p - f) / w ≡ (p - f) / w) ⊎ Next w f p ((p - f) / w)
next w f p pos =
    let x = (p - f) / w in
    let r = (p - f) % w in
    let e : w * x + r ≡ p - f = div-add-mod (p - f) w in
    let l : r < w = mod-lt (p - f) pos in
    by_cases (dec_lt p f)
    (λ h. let i : suc p - f ≡ p - f = omega arith in inl (ap (λ (y : ℕ). y / w) i))
    (λ h. by_cases (dec_lt (suc r) w)
    (λ k. let i : suc p - f ≡ w * x + suc r = omega arith in inl (ap (λ (y : ℕ). y / w) i ∙ quotient w x (suc r) k))
    (λ k. let m = mul-suc w x in
    let i : suc p - f ≡ w * suc x + 0 = omega arith in
    inr record { part = ap (λ (y : ℕ). y / w) i ∙ quotient w (suc x) 0 pos; is = omega arith }))

first_snoc : (q : ℕ) (M : List ℕ) (d : ℕ) → first_of q (M ++ d ∷ []) ≡ first_of q M + q ^ d
unfolding first_of
first_snoc q [] d = add-zero (q ^ d) ∙ omega arith
first_snoc q (b ∷ M) d = omega (arith, first_snoc q M d)

module _ (q : ℕ) (two : 1 < q) where
  pos : 0 < q
  pos = omega arith

  -- the place of number x over M and d, by what stands below
  over : (M : List ℕ) (d t : ℕ) → begins (M ++ d ∷ []) (positions q t) ≡ true → (x : ℕ) → place_at q (top q (M ++ d ∷ [])) x ≡ first_of q M + q ^ d * suc x
  over M d t b x =
      let s = top q (M ++ d ∷ []) in
      let a : s.at ≡ d = ap (λ (u : Stem). u.at) (stem_snoc q root M d) ∙ grow_at q (top q M) d in
      let f : first_of q M + q ^ d ≡ s.base + q ^ d * (s.run + 0)
      = sym (first_snoc q M d) ∙ first_place q two (M ++ d ∷ []) t b ∙ ap (λ (k : ℕ). s.base + q ^ k * (s.run + 0)) a in
      ap (λ (k : ℕ). s.base + q ^ k * (s.run + x)) a ∙ join s.base (q ^ d) s.run x (first_of q M) f
    where
      join : (b w r x f : ℕ) → f + w ≡ b + w * (r + 0) → b + w * (r + x) ≡ f + w * suc x
      join b w r x f e = omega arith

  -- M and d begin some place t
  pub gathered_number : (M : List ℕ) (d t : ℕ) → begins (M ++ d ∷ []) (positions q t) ≡ true → (h : ℕ → ℕ) (p : ℕ)
      → gathered q (M ++ d ∷ []) h p ≡ roomy q (top q (M ++ d ∷ [])).run (λ y. h (first_of q M + q ^ d * suc y)) ((p - first_of q M) / q ^ d)
  unfolding gathered roomy
  gathered_number M d t b h zero =
      let w : 0 < q ^ d = one-le-pow d q pos in
      let z : 0 - first_of q M ≡ 0 = omega arith in
      sym (ap (roomy q (top q (M ++ d ∷ [])).run (λ y. h (first_of q M + q ^ d * suc y))) (ap (λ (y : ℕ). y / q ^ d) z ∙ div-eq_of_lt w))
  gathered_number M d t b h (suc p) =
      let L = M ++ d ∷ [] in
      let s = top q L in
      let g : ℕ → ℕ = λ (y : ℕ). h (first_of q M + q ^ d * suc y) in
      let w : 0 < q ^ d = one-le-pow d q pos in
      let x = (p - first_of q M) / q ^ d in
      let i : gathered q L h p ≡ roomy q s.run g x = gathered_number M d t b h p in
      either (begins L (positions q (suc p)))
      (λ u.
      let a = above q two L (suc p) u in
      let e : suc p ≡ first_of q M + q ^ d * suc a.0 = a.1.is ∙ over M d t b a.0 in
      let m = mul-suc (q ^ d) a.0 in
      let now : suc p - first_of q M ≡ q ^ d * suc a.0 + 0 = omega arith in
      let before : p - first_of q M ≡ q ^ d * a.0 + (q ^ d - 1) = omega arith in
      let j : (suc p - first_of q M) / q ^ d ≡ suc a.0 = ap (λ (y : ℕ). y / q ^ d) now ∙ quotient (q ^ d) (suc a.0) 0 w in
      let v : x ≡ a.0 = ap (λ (y : ℕ). y / q ^ d) before ∙ quotient (q ^ d) a.0 (q ^ d - 1) (omega arith) in
      gathered_more q L h p u ∙ ap₂ (λ (y z : ℕ). y + h z) (i ∙ ap (roomy q s.run g) v) e ∙ sym (ap (roomy q s.run g) j ∙ roomy_more q s.run g a.0 a.1.room))
      (λ u. gathered_same q L h p u ∙ i ∙ ⊎_elim
      (λ (e : (suc p - first_of q M) / q ^ d ≡ x). ap (roomy q s.run g) (sym e))
      (λ (e : Next (q ^ d) (first_of q M) p x).
      let k : suc p ≡ place_at q s x = e.is ∙ sym (over M d t b x) in
      by_cases (dec_lt (x % q + s.run) q)
      (λ r. let o = above_begins q two L (place_at q s x) x (above_other q two L t b x r) in
      let o' : begins L (positions q (suc p)) ≡ true = rw k o in
      absurd (let z : ◌≡◌ {A = ℕ} 0 1 = cc in omega arith))
      (λ r. sym (ap (roomy q s.run g) e.part ∙ roomy_same q s.run g x (omega arith))))
      (next (q ^ d) (first_of q M) p w))

  pub visits_number : (M : List ℕ) (d t : ℕ) → begins (M ++ d ∷ []) (positions q t) ≡ true
      → (p : ℕ) → visits q (M ++ d ∷ []) p ≡ roomy q (top q (M ++ d ∷ [])).run (λ y. 1) ((p - first_of q M) / q ^ d)
  unfolding visits
  visits_number M d t b p = gathered_number M d t b (λ u. 1) p

  -- how often the last position stands at the end: of two, and of three
  pub pair_run : (b c : ℕ) → b < c → (top q (b ∷ c ∷ [])).run ≡ 1
  unfolding stem_of
  pair_run b c l = ap (λ (u : Stem). u.run) (grow_other q (grow q root b) c (λ e. let a = grow_at q root b in omega arith))

  pub same_run : (b : ℕ) → (top q (b ∷ b ∷ [])).run ≡ 2
  unfolding stem_of
  same_run b =
      let s : Stem = grow q root b in
      ap (λ (k : ℕ). (grow q s k).run) (sym (grow_at q root b)) ∙ ap (λ (u : Stem). u.run) (grow_self q s) ∙ ap suc (one_run q b)

  pub far_run : (b c d : ℕ) → c < d → (top q (b ∷ c ∷ d ∷ [])).run ≡ 1
  unfolding stem_of
  far_run b c d l = ap (λ (u : Stem). u.run) (grow_other q (grow q (grow q root b) c) d (λ e. let a = grow_at q (grow q root b) c in omega arith))

  pub near_run : (b c : ℕ) → b < c → (top q (b ∷ c ∷ c ∷ [])).run ≡ 2
  unfolding stem_of
  near_run b c l =
      let s : Stem = grow q (grow q root b) c in
      let a : s.at ≡ c = grow_at q (grow q root b) c in
      ap (λ (k : ℕ). (grow q s k).run) (sym a) ∙ ap (λ (u : Stem). u.run) (grow_self q s) ∙ ap suc (pair_run b c l)

  -- ---- positions with which no place begins
  below_power : (t : ℕ) → t < q ^ t
  below_power zero = one-le-pow 0 q pos
  below_power (suc t) =
      let w : suc t ≤ q ^ t = below_power t in
      let m : q ^ t * 2 ≤ q ^ t * q = mul-le-mul_left (q ^ t) two in
      omega (arith, pow-suc q t)

  -- they rise
  pub begun_rises : (L : List ℕ) (t : ℕ) → begins L (positions q t) ≡ true → Rises 0 t L
  begun_rises L t e = rw (begins_take L (positions q t) e) at (rises_take (length L) 0 t (positions q t) (positions_rise q two t t (below_power t)))

  pub visits_fall : (b c d p : ℕ) → d < c → visits q (b ∷ c ∷ d ∷ []) p ≡ 0
  unfolding visits
  visits_fall b c d p l = gathered_none q (b ∷ c ∷ d ∷ []) (λ u. 1) (λ t e. let r = begun_rises (b ∷ c ∷ d ∷ []) t e in let k : c ≤ d = r.2.2.0 in omega arith) p

-- ---- base 3
three : 1 < 3
three = omega arith

odd : 2 < 3
odd = omega arith

-- no place has the same position three times
pub visits_thrice : (b p : ℕ) → visits 3 (b ∷ b ∷ b ∷ []) p ≡ 0
unfolding stem_of visits
visits_thrice b p = gathered_none 3 (b ∷ b ∷ b ∷ []) (λ u. 1) (λ t e. let a = above 3 three (b ∷ b ∷ b ∷ []) t e in let h : a.0 % 3 + (top 3 (b ∷ b ∷ b ∷ [])).run < 3 = a.1.room in omega (arith, run)) p
  where
    run : (grow 3 (grow 3 (grow 3 root b) b) b).run ≡ 3
    run =
        let s : Stem = grow 3 root b in
        let u : Stem = grow 3 s b in
        let e : u.at ≡ b = grow_at 3 s b in
        let f : s.at ≡ b = grow_at 3 root b in
        ap (λ (k : ℕ). (grow 3 u k).run) (sym e) ∙ ap (λ (x : Stem). x.run) (grow_self 3 u)
        ∙ ap (λ (k : ℕ). suc (grow 3 s k).run) (sym f) ∙ ap (λ (x : Stem). suc x.run) (grow_self 3 s) ∙ ap (λ (k : ℕ). suc (suc k)) (one_run 3 b)

pub roomy_one : (x : ℕ) → roomy 3 1 (λ y. 1) x ≡ x - x / 3
unfolding roomy
roomy_one zero = refl
roomy_one (suc x) =
    by_cases (dec_lt (x % 3 + 1) 3)
    (λ h. roomy_more 3 1 (λ y. 1) x h ∙ omega (arith, roomy_one x))
    (λ h. roomy_same 3 1 (λ y. 1) x (omega arith) ∙ omega (arith, roomy_one x))

pub roomy_two : (x : ℕ) → roomy 3 2 (λ y. 1) x ≡ (x + 2) / 3
unfolding roomy
roomy_two zero = refl
roomy_two (suc x) =
    by_cases (dec_lt (x % 3 + 2) 3)
    (λ h. roomy_more 3 2 (λ y. 1) x h ∙ omega (arith, roomy_two x))
    (λ h. roomy_same 3 2 (λ y. 1) x (omega arith) ∙ omega (arith, roomy_two x))

-- of three positions b, c, d: with d above c, and with d the same as c
pub visits_far : (b c d p : ℕ) → b ≤ c → c < d → visits 3 (b ∷ c ∷ d ∷ []) p ≡ (p - (3 ^ b + 3 ^ c)) / 3 ^ d - (p - (3 ^ b + 3 ^ c)) / 3 ^ d / 3
unfolding first_of
visits_far b c d p l m =
    let e : positions 3 (3 ^ b + (3 ^ c + 3 ^ d)) ≡ b ∷ c ∷ d ∷ []
    = by_cases (ℕ_discrete b c) (λ (i : b ≡ c). rw (← i) (triple_same 3 three odd b d (omega arith))) (λ i. triple_over 3 three odd b c d (omega arith) (omega arith)) in
    let g : begins (b ∷ c ∷ d ∷ []) (positions 3 (3 ^ b + (3 ^ c + 3 ^ d))) ≡ true = rw e (begins_self (b ∷ c ∷ d ∷ [])) in
    visits_number 3 three (b ∷ c ∷ []) d (3 ^ b + (3 ^ c + 3 ^ d)) g p
    ∙ ap₂ (λ (r f : ℕ). roomy 3 r (λ y. 1) ((p - (3 ^ b + f)) / 3 ^ d)) (far_run 3 three b c d m) (add-zero (3 ^ c)) ∙ roomy_one _

pub visits_near : (b c p : ℕ) → b < c → visits 3 (b ∷ c ∷ c ∷ []) p ≡ ((p - (3 ^ b + 3 ^ c)) / 3 ^ c + 2) / 3
unfolding first_of
visits_near b c p l =
    let e : positions 3 (3 ^ b + (3 ^ c + 3 ^ c)) ≡ b ∷ c ∷ c ∷ [] = triple_over 3 three odd b c c l (omega arith) in
    let g : begins (b ∷ c ∷ c ∷ []) (positions 3 (3 ^ b + (3 ^ c + 3 ^ c))) ≡ true = rw e (begins_self (b ∷ c ∷ c ∷ [])) in
    visits_number 3 three (b ∷ c ∷ []) c (3 ^ b + (3 ^ c + 3 ^ c)) g p
    ∙ ap₂ (λ (r f : ℕ). roomy 3 r (λ y. 1) ((p - (3 ^ b + f)) / 3 ^ c)) (near_run 3 three b c l) (add-zero (3 ^ c)) ∙ roomy_two _
