-- Each zero is listed once and in order: the places of the zeros rise, by recursion on the number of places, and entries are read off them.
use mathlib.Core.Path.{◌≡◌, refl, sym, ap, subst, ◌∙◌}
use mathlib.Core.Logic.{by_cases, ◌↔◌}
use mathlib.Core.Bool.{Bool, true, false}
use mathlib.Core.List.{List, [], ◌∷◌, map}
use Prim.Native.Nat.{ℕ, zero, suc, ◌+◌, ◌≤◌, ◌<◌}
use native.Mathlib.Decide.{ℕ_discrete, dec_lt}
use native.Mathlib.Omega.{arith}
use lib.ListN.{length, get_or, length-map}
use Rattle.walks.specs.Calls.{Trail, listed, zeros_in}
use Rattle.walks.specs.Zeros.{ZeroIn, places_in, Holds, Rising, Once, Distinct}

-- an entry of a list that is read off another
map_at : (f : ℕ → ℕ) (l : List ℕ) (i : ℕ) → i < length l → get_or (map f l) i 0 ≡ f (get_or l i 0)
map_at f [] i h = absurd (omega arith)
map_at f (x ∷ l) zero h = refl
map_at f (x ∷ l) (suc i) h = map_at f l i (omega arith)

map_listed : (f : ℕ → ℕ) (z : Bool) (x : ℕ) (l : List ℕ) → map f (listed z x l) ≡ listed z (f x) (map f l)
map_listed f true x l = refl
map_listed f false x l = refl

rising_more : (p : ℕ) (l : List ℕ) → ((i : ℕ) → i < length l → p < get_or l i 0) → Rising l → Rising (p ∷ l)
rising_more p l f r zero zero h m = absurd (omega arith)
rising_more p l f r zero (suc j) h m = f j (omega arith)
rising_more p l f r (suc i) zero h m = absurd (omega arith)
rising_more p l f r (suc i) (suc j) h m = r i j (omega arith) (omega arith)

module _ (T : Trail) where
  places_hit : (p k : ℕ) → T.zero_at p ≡ true → places_in T p (suc k) ≡ p ∷ places_in T (suc p) k
  unfolding places_in
  places_hit p k e = ap (λ (z : Bool). listed z p (places_in T (suc p) k)) e

  places_miss : (p k : ℕ) → T.zero_at p ≡ false → places_in T p (suc k) ≡ places_in T (suc p) k
  unfolding places_in
  places_miss p k e = ap (λ (z : Bool). listed z p (places_in T (suc p) k)) e

  -- by cases on whether p is a zero
  on_zero : (p : ℕ) {P : Type 0} → (T.zero_at p ≡ true → P) → (T.zero_at p ≡ false → P) → P
  on_zero p {P} f g = go (T.zero_at p) refl
    where
      go : (z : Bool) → T.zero_at p ≡ z → P
      go true e = f e
      go false e = g e

  later : (p k x : ℕ) → ZeroIn T (suc p) k x → ZeroIn T p (suc k) x
  later p k x z = record { from = omega (arith, z.from); below = omega (arith, z.below); zero = z.zero }

  -- the entries are those of the places of the zeros
  pub zeros_map : (p k : ℕ) → zeros_in T p k ≡ map T.entry (places_in T p k)
  unfolding zeros_in places_in
  zeros_map p zero = refl
  zeros_map p (suc k) = ap (listed (T.zero_at p) (T.entry p)) (zeros_map (suc p) k) ∙ sym (map_listed T.entry (T.zero_at p) p (places_in T (suc p) k))

  -- only zeros
  pub places_in_lem : (p k i : ℕ) → i < length (places_in T p k) → ZeroIn T p k (get_or (places_in T p k) i 0)
  unfolding places_in
  places_in_lem p zero i h = absurd (omega arith)
  places_in_lem p (suc k) i h =
      on_zero p
      (λ e. subst (λ (l : List ℕ). (i : ℕ) → i < length l → ZeroIn T p (suc k) (get_or l i 0)) (sym (places_hit p k e)) (first e (λ i h. places_in_lem (suc p) k i h)) i h)
      (λ e. subst (λ (l : List ℕ). (i : ℕ) → i < length l → ZeroIn T p (suc k) (get_or l i 0)) (sym (places_miss p k e)) (λ i h. later p k _ (places_in_lem (suc p) k i h)) i h)
    where
      first : T.zero_at p ≡ true → ((i : ℕ) → i < length (places_in T (suc p) k) → ZeroIn T (suc p) k (get_or (places_in T (suc p) k) i 0))
          → (i : ℕ) → i < length (p ∷ places_in T (suc p) k) → ZeroIn T p (suc k) (get_or (p ∷ places_in T (suc p) k) i 0)
      first e ih zero h = record { from = omega arith; below = omega arith; zero = e }
      first e ih (suc i) h = later p k _ (ih i (omega arith))

  -- in order
  pub places_rise : (p k : ℕ) → Rising (places_in T p k)
  unfolding places_in
  places_rise p zero = λ i j h m. absurd (omega arith)
  places_rise p (suc k) =
      on_zero p
      (λ e. subst Rising (sym (places_hit p k e)) (rising_more p (places_in T (suc p) k) (λ i h. (places_in_lem (suc p) k i h).from) (places_rise (suc p) k)))
      (λ e. subst Rising (sym (places_miss p k e)) (places_rise (suc p) k))

  -- and all zeros
  pub places_all : (p k x : ℕ) → ZeroIn T p k x → Holds x (places_in T p k)
  unfolding places_in
  places_all p zero x z = absurd (omega (arith, z.from, z.below))
  places_all p (suc k) x z =
      by_cases (ℕ_discrete x p)
      (λ e.
      let h = ap T.zero_at (sym e) ∙ z.zero in
      subst (Holds x) (sym (places_hit p k h)) (0, omega arith, sym e))
      (λ n.
      let i = places_all (suc p) k x record { from = omega (arith, z.from, n); below = omega (arith, z.below); zero = z.zero } in
      on_zero p
      (λ e. subst (Holds x) (sym (places_hit p k e)) (suc i.0, omega (arith, i.1), i.2))
      (λ e. subst (Holds x) (sym (places_miss p k e)) i))

  zeros_at : (p k i : ℕ) → i < length (places_in T p k) → get_or (zeros_in T p k) i 0 ≡ T.entry (get_or (places_in T p k) i 0)
  zeros_at p k i h = ap (λ (l : List ℕ). get_or l i 0) (zeros_map p k) ∙ map_at T.entry (places_in T p k) i h

  pub zeros_many : (p k : ℕ) → length (zeros_in T p k) ≡ length (places_in T p k)
  zeros_many p k = ap length (zeros_map p k) ∙ length-map (places_in T p k) T.entry

  -- k places from p list x exactly if x is the entry of a zero among them
  pub zeros_hold : (p k x : ℕ) → Holds x (zeros_in T p k) ↔ ((a : ℕ) × ZeroIn T p k a × (T.entry a ≡ x))
  zeros_hold p k x = (
    λ h.
        let l : h.0 < length (places_in T p k) = omega (arith, h.1, zeros_many p k) in
        (get_or (places_in T p k) h.0 0, places_in_lem p k h.0 l, sym (zeros_at p k h.0 l) ∙ h.2),
    λ z.
        let i = places_all p k z.0 z.1 in
        (i.0, omega (arith, i.1, zeros_many p k), zeros_at p k i.0 i.1 ∙ ap T.entry i.2 ∙ z.2),
  )

  -- and no entry twice
  pub zeros_once : Distinct T → (p k : ℕ) → p + k ≤ T.end → Once (zeros_in T p k)
  zeros_once d p k m i j hi hj e =
      let li : i < length (places_in T p k) = omega (arith, zeros_many p k) in
      let lj : j < length (places_in T p k) = omega (arith, zeros_many p k) in
      let a = (places_in_lem p k i li).below in
      let b = (places_in_lem p k j lj).below in
      let s = d (get_or (places_in T p k) i 0) (get_or (places_in T p k) j 0) (omega arith) (omega arith) (sym (zeros_at p k i li) ∙ e ∙ zeros_at p k j lj) in
      by_cases (dec_lt i j) (λ l. let r = places_rise p k i j l lj in absurd (omega arith))
      (λ n. by_cases (dec_lt j i) (λ l. let r = places_rise p k j i l li in absurd (omega arith)) (λ q. omega arith))

  -- the same of a whole walk
  pub all_hold : (x : ℕ) → Holds x (zeros_in T 0 T.end) ↔ ((a : ℕ) × (a < T.end) × (T.zero_at a ≡ true) × (T.entry a ≡ x))
  all_hold x =
      let h = zeros_hold 0 T.end x in (
        λ y. let z = h.0 y in let b = z.1.below in (z.0, omega arith, z.1.zero, z.2),
        λ z. h.1 (z.0, record { from = omega arith; below = omega (arith, z.1); zero = z.2 }, z.3),
      )

  pub all_once : Distinct T → Once (zeros_in T 0 T.end)
  all_once d = zeros_once d 0 T.end (omega arith)
