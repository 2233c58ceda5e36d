-- What is kept between two lines, for each way that a line is taken.
use mathlib.Core.Path.{◌≡◌, sym, ap, ◌∙◌}
use mathlib.Core.Bool.{true, false}
use mathlib.Core.List.{List, [], ◌∷◌, ◌++◌}
use Prim.Native.Nat.{ℕ, ◌+◌, ◌≤◌, ◌<◌}
use native.Mathlib.Omega.{arith}
use lib.ListN.{set}
use Rattle.std.specs.Prelude.{Some}
use Rattle.refusals.specs.declared.Refusal.TheVariants as why
use Rattle.refusals.specs.Refusal.{Verdict}
use Rattle.graphs.specs.declared.Graph.{Graph}
use Rattle.graphs.specs.Edges.{has_edge}
use Rattle.graphs.specs.Reading.{vertices_most, lines_most, edges_most, on, stop, full_fault, carry}
use Rattle.graphs.specs.Scans.{edges_of, state_of, cell_of, Seen, Kept, Fits, pair_state}
use Rattle.graphs.proofs.EdgeLaw.{once_again, once_new, full_again, full_room, full_refused, seen_next}
use Rattle.graphs.proofs.ReadLaw.{length_ends, ends_none, state_is}

-- the p line
pub kept_fresh : (r : Graph) (s : List ℕ) → Seen [] s → r.vertices ≤ vertices_most → r.edges ≤ lines_most → r.count ≡ 0 → Kept r s
kept_fresh r s k v e c =
    record {
      seen = rw (ends_none r.count r.one r.other c) k;
      vertices = v;
      promised = e;
      few = omega (arith, c);
    }

module _ (g r : Graph) (s : List ℕ) (a b : ℕ) (k : Kept g s) (f : Fits g a b) (rv : r.vertices ≡ g.vertices) (re : r.edges ≡ g.edges) (rl : r.lines ≡ g.lines + 1) where
  -- a repeat
  module _ (rc : r.count ≡ g.count) (ro : r.one ≡ g.one) (rt : r.other ≡ g.other) where
    same : edges_of r ≡ edges_of g
    same = rw (rc, ro, rt)

    pub kept_again : Kept r s
    kept_again =
        record {
          seen = rw same k.seen;
          vertices = omega (arith, rv, k.vertices);
          promised = omega (arith, re, k.promised);
          few = omega (arith, rc, k.few);
        }

    pub pair_again : has_edge (edges_of g) a b ≡ true → on (state_of (Some r)) ≡ carry (full_fault (edges_of g) a b) (pair_state g a b)
    pair_again h =
        ap on (state_is rv re rl (same ∙ sym (once_again (edges_of g) a b h)))
        ∙ sym (ap (λ (v : Verdict). carry v (pair_state g a b)) (full_again (edges_of g) a b h))

  -- a new edge
  module _ (rc : r.count ≡ g.count + 1) (more : edges_of r ≡ edges_of g ++ (record { one = a; other = b } ∷ [])) (room : g.count < edges_most) where
    pub kept_next : Kept r (set (set s (cell_of a b) 1) (cell_of b a) 1)
    kept_next =
        record {
          seen = rw more (seen_next (edges_of g) s a b k.seen (omega (arith, f.one_most, k.vertices)) (omega (arith, f.other_most, k.vertices)));
          vertices = omega (arith, rv, k.vertices);
          promised = omega (arith, re, k.promised);
          few = omega (arith, rc, room);
        }

    pub pair_next : has_edge (edges_of g) a b ≡ false → on (state_of (Some r)) ≡ carry (full_fault (edges_of g) a b) (pair_state g a b)
    pair_next h =
        ap on (state_is rv re rl (more ∙ sym (once_new (edges_of g) a b h)))
        ∙ sym (ap (λ (v : Verdict). carry v (pair_state g a b)) (full_room (edges_of g) a b (omega (arith, room, length_ends g.count g.one g.other))))

-- the 65th
pub pair_full : (g : Graph) (a b : ℕ) → has_edge (edges_of g) a b ≡ false → edges_most ≤ g.count → stop why.Edges ≡ carry (full_fault (edges_of g) a b) (pair_state g a b)
pair_full g a b h l =
    sym (ap (λ (v : Verdict). carry v (pair_state g a b)) (full_refused (edges_of g) a b h (omega (arith, l, length_ends g.count g.one g.other))))
