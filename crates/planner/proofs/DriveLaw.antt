-- The calls of a session come to an end, and what they leave to be written, joined, is the output.
use mathlib.Core.Path.{◌≡◌, refl, sym, ap, ◌∙◌}
use mathlib.Core.Bool.{Bool, true, false}
use mathlib.Core.List.{List, [], ◌++◌, append_assoc}
use Prim.Native.Nat.{ℕ, suc, ◌+◌, ◌-◌, ◌*◌, ◌^◌, ◌≤◌, ◌<◌}
use native.Mathlib.Omega.{arith}
use lib.ListN.{take}
use Rattle.std.specs.Prelude.{Result, Ok, Err}
use Rattle.tables.specs.Monomials.{count_of}
use Rattle.planner.specs.declared.Session.{Session}
use Rattle.planner.specs.Output.{output_of, own_table, Standing, left_from, left_of, Begins, Begun, Went, Calls, none, more}
use Rattle.outcomes.specs.Search.{trail_behind}
use Rattle.given.proofs.TableLaw.{within, power_small}
use Rattle.planner.proofs.NextLaw.{append_none}
use Rattle.texts.specs.Text.{line_if}

-- a session that stands has its unknowns within the limits
pub unknowns : (t : List ℕ) (s : Session) → Standing t s → (1 ≤ s.n) × (s.n ≤ 20)
unknowns t s h = let w = within (own_table t s) h.checked in (w.least, w.most)

-- ---- it ends
-- at most so many calls are left
abbrev pub calls_left : Bool → ℕ → ℕ
calls_left true k = suc k
calls_left false k = 0

fewer : (x : Bool) (m p q : ℕ) → q ≤ m → (x ≡ true → p < q) → calls_left x (m - q) < suc (m - p)
fewer true m p q h l = let j : p < q = l refl in omega arith
fewer false m p q h l = omega arith

pub falls : (t : List ℕ) (s : Session) (b : List ℕ) (r : Session) → s.open ≡ true → Went t s b r
    → calls_left r.open (3 ^ r.n - r.points) < calls_left s.open (3 ^ s.n - s.points)
falls t s b r o w =
    rw (o, w.unknowns) (fewer r.open (3 ^ s.n) s.points r.points (rw (← w.unknowns) w.standing.within) w.on)

calls_few : (x : Bool) (m p : ℕ) → calls_left x (m - p) ≤ m + 1
calls_few true m p = omega arith
calls_few false m p = omega arith

pub calls_most : (t : List ℕ) (s : Session) → Standing t s → calls_left s.open (3 ^ s.n - s.points) ≤ 3 ^ 20 + 1
calls_most t s h = omega (arith, calls_few s.open (3 ^ s.n) s.points, power_small (own_table t s) h.checked)

-- ---- what is written
pub left_none : (t : List ℕ) (s : Session) → s.open ≡ false → left_of t s ≡ []
unfolding left_of
left_none t s e = ap (λ (x : Bool). line_if x (left_from s.n (trail_behind (own_table t s)) s.points)) e

calls_left_lem : (t : List ℕ) (s : Session) (l : List ℕ) (r : Session) → Calls t s l r → left_of t s ≡ l ++ left_of t r
calls_left_lem t s l r none = refl
calls_left_lem t s l r (more {r = u} {b = b} {l = k} w c) =
    w.output ∙ ap (λ (x : List ℕ). take u.used b ++ x) (calls_left_lem t u k r c) ∙ sym (append_assoc (take u.used b) k (left_of t r))

-- what a session that was begun leaves to be written, joined, is the whole output once it is over
session_output : (input table b : List ℕ) (s : Session) (l : List ℕ) (r : Session) → Begins input table b s
    → Calls (take (2 * count_of s.n) table) s l r → r.open ≡ false → output_of input ≡ take s.used b ++ l
session_output input table b s l r g c e =
    let t = take (2 * count_of s.n) table in
    g.output
    ∙ ap (λ (x : List ℕ). take s.used b ++ x)
    (calls_left_lem t s l r c ∙ ap (λ (x : List ℕ). l ++ x) (left_none t r e) ∙ append_none l)

-- what reading and the calls leave to be written: of a session until it is over, and of a refusal with no call
pub data Writes (table b : List ℕ) : Result Session ℕ → List ℕ → Type 0 where
  session : {s r : Session} {l : List ℕ} → Calls (take (2 * count_of s.n) table) s l r → r.open ≡ false → Writes table b (Ok s) (take s.used b ++ l)
  refusal : {k : ℕ} → Writes table b (Err k) (take k b)

-- joined, it is the whole output, whatever reading answered
pub whole_output : (input table b : List ℕ) (a : Result Session ℕ) (w : List ℕ) → Begun input table b a → Writes table b a w → output_of input ≡ w
whole_output input table b a w g (session {s = s} {r = r} {l = l} c e) = session_output input table b s l r g c e
whole_output input table b a w g refusal = g.output
