-- The whole: a refusal leaves everything, and else the list's words are what the search says.
use Rattle.std.specs.Prelude.{Err}
use mathlib.Core.Path.{◌≡◌, refl, sym, ap, ◌∙◌}
use mathlib.Core.List.{List}
use Prim.Native.Nat.{ℕ, ◌/◌}
use lib.ListN.{length}
use Rattle.refusals.specs.declared.Refusal.{Refusal}
use Rattle.refusals.specs.Refusal.{Verdict, after, done}
use Rattle.codec.specs.Codec.{words_in, bytes_from, pasted}
use Rattle.codec.proofs.CodecLaw.{length_words}
use Rattle.given.specs.Given.{Given}
use Rattle.opening.specs.declared.Record.{Record}
use Rattle.opening.specs.First.{whole_of}
use Rattle.outcomes.specs.declared.Moved.{Moved}
use Rattle.outcomes.specs.declared.Outcome.{Outcome}
use Rattle.outcomes.specs.First.{first_for, outcome_with}
use Rattle.outcomes.proofs.FirstLaw.{parts_verdict}
use Rattle.search.specs.Lending.{Lent, Left}
use Rattle.search.proofs.PartsLaw.{parts_told}
use Rattle.outcomes.specs.Search.{room_verdict, ran_of, outcome_from}
use Rattle.lists.specs.Listed.{found_in, outcome_in, list_in}

module _ (g : Given) (r : Record) (b : ℕ) (l : List ℕ) where
  abbrev c : ℕ
  c = length (words_in l)

  same : length l / 8 ≡ c
  same = sym (length_words (length l / 8) l)

  pub listed_refused : (f : Refusal) → room_verdict g r b (length l / 8) ≡ Err f
      → (record { answer = Err f; «record» = r } ≡ outcome_in g r b l) × (l ≡ list_in g r b l)
  listed_refused f e =
      let i : Err f ≡ room_verdict g r b c = sym e ∙ ap (room_verdict g r b) same in (
        ap (λ (v : Verdict). outcome_from v r (ran_of g r.place.0 b c)) i,
        ap (λ (v : Verdict). after v l (pasted l 0 (bytes_from (found_in g r.place.0 b c)))) i,
      )

  pub listed_done : room_verdict g r b (length l / 8) ≡ done → (o : Outcome) (l' : List ℕ)
      → o ≡ ran_of g r.place.0 b (length l / 8) → l' ≡ pasted l 0 (bytes_from (found_in g r.place.0 b (length l / 8)))
      → (o ≡ outcome_in g r b l) × (l' ≡ list_in g r b l)
  listed_done e o l' eo el =
      let i : done ≡ room_verdict g r b c = sym e ∙ ap (room_verdict g r b) same in (
        eo ∙ ap (ran_of g r.place.0 b) same ∙ ap (λ (v : Verdict). outcome_from v r (ran_of g r.place.0 b c)) i,
        el ∙ ap (λ (x : ℕ). pasted l 0 (bytes_from (found_in g r.place.0 b x))) same
            ∙ ap (λ (v : Verdict). after v l (pasted l 0 (bytes_from (found_in g r.place.0 b c)))) i,
      )

-- a call on the parts of a record, put together again, is the call on the record
module _ (g : Given) (r : Record) (s : List ℕ) (h : Lent g.degree r s) where
  abbrev w : Record
  w = whole_of g.degree (first_for g.degree r) s

  pub parts_listed : (b : ℕ) (l : List ℕ) (o : Moved) (k s' : List ℕ) (u : Outcome) → outcome_with g.degree o s' ≡ outcome_in g w b l → k ≡ list_in g w b l
      → Left g.degree r o s' u → (u ≡ outcome_in g r b l) × (k ≡ list_in g r b l)
  parts_listed b l o k s' u eo ek left =
      let c = length (words_in l) in (
        (parts_told g r s h b (words_in l) o _ s' u eo refl left).0,
        ek ∙ ap (λ (v : Verdict). after v l (pasted l 0 (bytes_from (found_in g r.place.0 b c))))
            (parts_verdict g.degree g.n g.m g.words r h.whole s h.same b c),
      )
