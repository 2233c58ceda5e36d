-- What a search on the two parts of a record writes is what the search on the record gives.
use Rattle.std.specs.Prelude.{Ok, Err}
use mathlib.Core.Path.{◌≡◌, refl, sym, ap, ap₂, subst, ◌∙◌}
use mathlib.Core.List.{List, [], ◌∷◌}
use Prim.Native.Nat.{ℕ, ◌^◌}
use lib.ListN.{length, get_or, take}
use Rattle.refusals.specs.declared.Refusal.{Refusal}
use Rattle.refusals.specs.Refusal.{Verdict, code_of, after, done}
use Rattle.walks.specs.Calls.{report_of}
use Rattle.codec.specs.Codec.{words_in, bytes_from, pasted}
use Rattle.codec.proofs.CodecLaw.{length_words}
use Rattle.given.specs.declared.Degree.{Degree}
use Rattle.given.specs.Given.{Given, table_with}
use Rattle.opening.specs.declared.Record.{Record}
use Rattle.opening.specs.First.{lent_words, seconds_from, whole_of}
use Rattle.outcomes.specs.Search.{Answer}
use Rattle.outcomes.specs.declared.Moved.{Moved}
use Rattle.outcomes.specs.declared.Outcome.{Outcome}
use Rattle.outcomes.specs.Search.{trail_behind, search_verdict, ran_of, outcome_from, answer_number, answer_values}
use Rattle.outcomes.specs.First.{first_for, outcome_with}
use Rattle.outcomes.proofs.FirstLaw.{lent_front, parts_verdict, parts_whole}
use Rattle.outcomes.proofs.VerdictLaw.{away}
use Rattle.lists.specs.Listed.{found_in, outcome_in, list_in}
use Rattle.wire.specs.Wire.{record_in, record_words}
use Rattle.wire.proofs.WireLaw.{seconds_in, parts_written}
use Rattle.answers.specs.Written.{parts_bytes, answer_bytes}
use Rattle.search_calls.specs.Parts.{Writes}

-- the words of second slot (0, 0) are the first two
pub front_high : (l : List ℕ) → get_or (take 2 l) 0 0 ≡ get_or l 0 0
front_high [] = refl
front_high (x ∷ l) = refl

pub front_low : (l : List ℕ) → get_or (take 2 l) 1 0 ≡ get_or l 1 0
front_low [] = refl
front_low (x ∷ []) = refl
front_low (x ∷ y ∷ l) = refl

-- the words that are read are those that are lent
pub seconds_long : (rec : List ℕ) → length (record_in rec).seconds ≡ 420
seconds_long rec = ap length (sym (seconds_in rec)) ∙ length_words 420 _

pub seconds_lent : (d : Degree) (rec s : List ℕ) (k : ℕ) → k ≡ lent_words d → s ≡ take k (record_in rec).seconds → seconds_from d s ≡ seconds_from d (record_in rec).seconds
seconds_lent d rec s k h e =
    ap (seconds_from d) (e ∙ ap (λ (i : ℕ). take i (record_in rec).seconds) h) ∙ lent_front d (record_in rec).seconds (seconds_long rec)

module _ (d : Degree) (n m : ℕ) (t rec s : List ℕ) (lent : seconds_from d s ≡ seconds_from d (record_in rec).seconds) (budget : ℕ) (list answer : List ℕ)
    (o : Moved) (s' : List ℕ) (e c : ℕ) (rec' list' answer' : List ℕ) where
  abbrev g : Given
  g = table_with d n m t

  abbrev r : Record
  r = record_in rec

  abbrev w : Record
  w = whole_of d (first_for d r) s

  abbrev l : List ℕ
  l = words_in list

  -- what the code does
  module _ (eo : outcome_with d o s' ≡ outcome_in g w budget list) (el : list' ≡ list_in g w budget list) (ee : e ≡ 3 ^ n)
      (ec : c ≡ answer_number o.answer) (er : rec' ≡ parts_bytes o.answer o.first s' rec) (ea : answer' ≡ answer_bytes e o.answer answer) where
    abbrev whole : List ℕ
    whole = bytes_from (record_words (outcome_in g r budget list).«record»)

    abbrev values : List ℕ
    values = bytes_from (answer_values (3 ^ n) (outcome_in g r budget list).answer)

    -- the list, by a verdict
    abbrev list_by : Record → Verdict → List ℕ
    list_by x v = after v list (pasted list 0 (bytes_from (found_in g x.place.0 budget (length l))))

    refused : (f : Refusal) → search_verdict g r budget l ≡ Err f → Writes g rec budget list answer c rec' list' answer'
    refused f q =
        let u : search_verdict g w budget l ≡ Err f = parts_verdict d n m t r (seconds_long rec) s lent budget (length l) ∙ q in
        let a : o.answer ≡ Err f = ap (λ (y : Outcome). y.answer) (eo ∙ sym (away g w budget l f u).0) in
        record {
          number = ec ∙ ap answer_number a ∙ sym (ap code_of q);
          moved = er ∙ ap (λ (y : Answer). parts_bytes y o.first s' rec) a ∙ sym (ap (λ (v : Verdict). after v rec whole) q);
          listed = el ∙ ap (list_by w) u ∙ sym (ap (list_by r) q);
          told = ea ∙ ap (λ (y : Answer). answer_bytes e y answer) a ∙ sym (ap (λ (v : Verdict). after v answer values) q);
        }

    module _ (size : length rec ≡ 3720) (twenty : length o.first.slots ≡ 20) (kept : length s' ≡ lent_words d) where
      passed : search_verdict g r budget l ≡ done → Writes g rec budget list answer c rec' list' answer'
      passed q =
          let i = parts_whole d n m t r (seconds_long rec) s lent budget (length l) q in
          let eo' = eo ∙ ap (λ (x : Record). outcome_in g x budget list) i in
          let u = report_of (trail_behind g) budget (length l) r.place.0 in
          let b : (outcome_in g r budget list).answer ≡ Ok u = ap (λ (v : Verdict). (outcome_from v r (ran_of g r.place.0 budget (length l))).answer) q in
          let a : o.answer ≡ Ok u = ap (λ (y : Outcome). y.answer) eo' ∙ b in
          let z : seconds_from d r.seconds ≡ r.seconds = sym lent ∙ ap (λ (x : Record). x.seconds) i in
          record {
            number = ec ∙ ap answer_number a ∙ sym (ap code_of q);
            moved = er ∙ ap (λ (y : Answer). parts_bytes y o.first s' rec) a ∙ parts_written d o.first s' rec size twenty kept z
                ∙ ap (λ (y : Outcome). bytes_from (record_words y.«record»)) eo' ∙ sym (ap (λ (v : Verdict). after v rec whole) q);
            listed = el ∙ ap (λ (x : Record). list_in g x budget list) i;
            told = ea ∙ ap₂ (λ (x : ℕ) (y : Answer). answer_bytes x y answer) ee a ∙ ap (λ (y : Answer). bytes_from (answer_values (3 ^ n) y)) (sym b)
                ∙ sym (ap (λ (v : Verdict). after v answer values) q);
          }

      by_verdict : (v : Verdict) → search_verdict g r budget l ≡ v → Writes g rec budget list answer c rec' list' answer'
      by_verdict (Err f) q = refused f q
      by_verdict (Ok _) q = passed q

      pub writes : Writes g rec budget list answer c rec' list' answer'
      writes = by_verdict (search_verdict g r budget l) refl

-- of the degree that was told
pub writes_by : (d k : Degree) → d ≡ k → (n m : ℕ) (t rec : List ℕ) (budget : ℕ) (list answer : List ℕ) (c : ℕ) (rec' list' answer' : List ℕ)
    → Writes (table_with d n m t) rec budget list answer c rec' list' answer' → Writes (table_with k n m t) rec budget list answer c rec' list' answer'
writes_by d k e n m t rec budget list answer c rec' list' answer' h =
    subst (λ (x : Degree). Writes (table_with x n m t) rec budget list answer c rec' list' answer') e h
