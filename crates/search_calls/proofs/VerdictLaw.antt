-- The verdict of a call: what 1 and 2 refuse is refused, and what they pass is the search's verdict.
use Rattle.std.specs.Prelude.{Ok, Err}
use mathlib.Core.Path.{◌≡◌, refl, sym, ap, ◌∙◌}
use mathlib.Core.Bool.{not, false}
use mathlib.Core.List.{List}
use Prim.Native.Nat.{ℕ, ◌%◌, ◌^◌}
use lib.Dec.{eqb, ltb}
use lib.ListN.{length}
use borrow.Author.Tests.{eqb-true, eq-eqb, ne_eqb, not-false}
use Rattle.refusals.specs.declared.Refusal.{Refusal}
use Rattle.refusals.specs.declared.Refusal.TheVariants.{Size, Length}
use Rattle.refusals.specs.Refusal.{Verdict, number_of, code_of, sized, after, done}
use Rattle.refusals.proofs.RefusalLaw.{done_test, done_next, refuse_none, refused_next, refused_last, sized_within, sized_next, sized_done}
use Rattle.refusals.specs.Limits.{Within}
use Rattle.codec.specs.Codec.{words_in, bytes_from, pasted}
use Rattle.given.specs.Given.{Given}
use Rattle.outcomes.specs.declared.Outcome.{Outcome}
use Rattle.outcomes.specs.Search.{search_verdict, answer_values}
use Rattle.lists.specs.Listed.{found_in, list_in}
use Rattle.wire.specs.Wire.{record_in, record_words}
use Rattle.search_calls.specs.Call.{bytes_told, shaped, in_words, call_verdict, done_of, record_bytes_after, list_bytes_after, answer_bytes_after}
use Rattle.search_calls.specs.Parts.{Writes}

module _ (n m a b c d : ℕ) where
  shapes_refused : (f : Refusal) (v : Verdict) → sized n m (shaped n a b c d done) ≡ Err f → sized n m (shaped n a b c d v) ≡ Err f
  shapes_refused f v e =
      refused_next (ltb n 1) Size f _ _ e λ e. refused_next (ltb 20 n) Size f _ _ e λ e. refused_next (ltb m 1) Size f _ _ e λ e.
      refused_next (ltb 64 m) Size f _ _ e λ e. refused_next (not (eqb a (bytes_told n a))) Length f _ _ e λ e.
      refused_next (not (eqb b 3720)) Length f _ _ e λ e. refused_next (not (eqb (c % 8) 0)) Length f _ _ e λ e.
      refused_last (not (eqb d 40)) Length f v e

  -- each return of the code that asks them
  pub wrong_table : Within n m → (a ≡ bytes_told n a → ⊥) → Err Length ≡ sized n m (shaped n a b c d done)
  wrong_table w f = sym (sized_next n m (shaped n a b c d done) w ∙ rw (ne_eqb a (bytes_told n a) f) refl)

  pub wrong_record : Within n m → a ≡ bytes_told n a → (b ≡ 3720 → ⊥) → Err Length ≡ sized n m (shaped n a b c d done)
  wrong_record w e f = sym (sized_next n m (shaped n a b c d done) w ∙ rw (eq-eqb a (bytes_told n a) e, ne_eqb b 3720 f) refl)

  pub wrong_list : Within n m → a ≡ bytes_told n a → b ≡ 3720 → (c % 8 ≡ 0 → ⊥) → Err Length ≡ sized n m (shaped n a b c d done)
  wrong_list w e g f = sym (sized_next n m (shaped n a b c d done) w ∙ rw (eq-eqb a (bytes_told n a) e, eq-eqb b 3720 g, ne_eqb (c % 8) 0 f) refl)

  pub wrong_answer : Within n m → a ≡ bytes_told n a → b ≡ 3720 → c % 8 ≡ 0 → (d ≡ 40 → ⊥) → Err Length ≡ sized n m (shaped n a b c d done)
  wrong_answer w e g h f =
      sym (sized_next n m (shaped n a b c d done) w ∙ rw (eq-eqb a (bytes_told n a) e, eq-eqb b 3720 g, eq-eqb (c % 8) 0 h, ne_eqb d 40 f) refl)

  pub right : Within n m → a ≡ bytes_told n a → b ≡ 3720 → c % 8 ≡ 0 → d ≡ 40 → done ≡ sized n m (shaped n a b c d done)
  right w e g h f =
      sym (sized_next n m (shaped n a b c d done) w ∙ rw (eq-eqb a (bytes_told n a) e, eq-eqb b 3720 g, eq-eqb (c % 8) 0 h, eq-eqb d 40 f) refl)

  -- all lengths are right, and v is asked next
  pub record Shaped : Type 0 where
    pub within : Within n m
    pub table : a ≡ bytes_told n a
    pub rec : b ≡ 3720
    pub list : c % 8 ≡ 0
    pub answer : d ≡ 40
    pub next : (v : Verdict) → sized n m (shaped n a b c d v) ≡ v

  equal : (x y : ℕ) → not (eqb x y) ≡ false → x ≡ y
  equal x y e = eqb-true x y (not-false (eqb x y) e)

  pub shapes_done : sized n m (shaped n a b c d done) ≡ done → Shaped
  shapes_done e =
      let w = sized_within n m (shaped n a b c d done) e in
      let e1 = sized_done n m (shaped n a b c d done) e in
      let t1 = done_test (not (eqb a (bytes_told n a))) Length _ e1 in
      let e2 = done_next (not (eqb a (bytes_told n a))) Length _ e1 in
      let t2 = done_test (not (eqb b 3720)) Length _ e2 in
      let e3 = done_next (not (eqb b 3720)) Length _ e2 in
      let t3 = done_test (not (eqb (c % 8) 0)) Length _ e3 in
      let e4 = done_next (not (eqb (c % 8) 0)) Length _ e3 in
      let t4 = done_test (not (eqb d 40)) Length done e4 in
      record {
        within = w;
        table = equal a (bytes_told n a) t1;
        rec = equal b 3720 t2;
        list = equal (c % 8) 0 t3;
        answer = equal d 40 t4;
        next = λ v. sized_next n m (shaped n a b c d v) w ∙ refuse_none (not (eqb a (bytes_told n a))) Length _ t1 ∙ refuse_none (not (eqb b 3720)) Length _ t2
            ∙ refuse_none (not (eqb (c % 8) 0)) Length _ t3 ∙ refuse_none (not (eqb d 40)) Length v t4;
      }

-- ---- what is written, by the verdict
after_twice : (v : Verdict) (old new : List ℕ) → after v old new ≡ after v old (after v old new)
after_twice (Ok _) old new = refl
after_twice (Err f) old new = refl

module _ (g : Given) (rec : List ℕ) (budget : ℕ) (list answer : List ℕ) where
  abbrev judged : Verdict
  judged = call_verdict g rec budget list answer

  abbrev said : Verdict
  said = search_verdict (in_words g) (record_in rec) budget (words_in list)

  abbrev given : Outcome
  given = done_of g rec budget list

  -- what every return of the call says
  abbrev pub Meets : ℕ → List ℕ → List ℕ → List ℕ → Type 0
  Meets c rec' list' answer' =
      (c ≡ code_of judged) × (rec' ≡ record_bytes_after g rec budget list answer) × (list' ≡ list_bytes_after g rec budget list answer)
      × (answer' ≡ answer_bytes_after g rec budget list answer)

  -- the three buffers after, by a verdict
  abbrev record_by : Verdict → List ℕ
  record_by v = after v rec (bytes_from (record_words given.«record»))

  abbrev list_by : Verdict → List ℕ
  list_by v = after v list (list_in (in_words g) (record_in rec) budget list)

  abbrev answer_by : Verdict → List ℕ
  answer_by v = after v answer (bytes_from (answer_values (3 ^ g.n) given.answer))

  pub call_refused : (f : Refusal) → sized g.n g.m (shaped g.n (length g.words) (length rec) (length list) (length answer) done) ≡ Err f
      → Meets (number_of f) rec list answer
  call_refused f e =
      let i : judged ≡ Err f = shapes_refused g.n g.m (length g.words) (length rec) (length list) (length answer) f said e in
      (sym (ap code_of i), sym (ap record_by i), sym (ap list_by i), sym (ap answer_by i))

  pub call_done : Shaped g.n g.m (length g.words) (length rec) (length list) (length answer) → (c : ℕ) (rec' list' answer' : List ℕ)
      → Writes (in_words g) rec budget list answer c rec' list' answer' → Meets c rec' list' answer'
  call_done h c rec' list' answer' w =
      let i : judged ≡ said = h.next said in
      let new = pasted list 0 (bytes_from (found_in (in_words g) (record_in rec).place.0 budget (length (words_in list)))) in
      (w.number ∙ sym (ap code_of i), w.moved ∙ sym (ap record_by i), w.listed ∙ after_twice said list new ∙ sym (ap list_by i), w.told ∙ sym (ap answer_by i))
