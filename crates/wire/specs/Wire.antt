-- A record as words and as bytes.
use Rattle.std.specs.Prelude.{List, [], ◌∷◌, ◌++◌, ℕ, get_or, take, drop}
use Rattle.refusals.specs.Limits as limits
use Rattle.trits.specs.declared.Vector.{Vector}
use Rattle.codec.specs.Codec.{words_of, bytes_from, pasted}
use Rattle.opening.specs.declared.First.{First}
use Rattle.opening.specs.declared.Record.{Record}

-- vectors as words, high before low, and back
unfoldable pub words_from : List Vector → List ℕ
words_from [] = []
words_from (v ∷ vs) = v.high ∷ v.low ∷ words_from vs

unfoldable pub vectors_of : List ℕ → List Vector
vectors_of [] = []
vectors_of (h ∷ []) = []
vectors_of (h ∷ l ∷ t) = record { high = h; low = l } ∷ vectors_of t

-- the first 45 words of a record: n, m, place, the value's two, and two for each of the 20 slots
abbrev pub first_words : Record → List ℕ
first_words r = r.n ∷ r.m ∷ r.place.0 ∷ r.value.high ∷ r.value.low ∷ words_from r.slots

-- a record as 465 words: then the second slots, as they stand in it
abbrev pub record_words : Record → List ℕ
record_words r = first_words r ++ r.seconds

-- the first 45 words of a record that has this first part
abbrev pub part_words : First → List ℕ
part_words f = f.n ∷ f.m ∷ f.place.0 ∷ f.value.high ∷ f.value.low ∷ words_from f.slots

-- the first part of a record, of its first 45 words
abbrev pub first_with : List ℕ → First
first_with w =
    record {
      n = get_or w 0 0;
      m = get_or w 1 0;
      place = record { 0 = get_or w 2 0 };
      value = record { high = get_or w 3 0; low = get_or w 4 0 };
      slots = vectors_of (drop 5 w);
    }

-- the record of its first 45 words w and of the words s of its second slots
abbrev pub record_with : List ℕ → List ℕ → Record
record_with w s =
    record {
      n = get_or w 0 0;
      m = get_or w 1 0;
      place = record { 0 = get_or w 2 0 };
      value = record { high = get_or w 3 0; low = get_or w 4 0 };
      slots = vectors_of (drop 5 w);
      seconds = s;
    }

-- the record that 465 words stand for
abbrev pub record_of : List ℕ → Record
record_of w = record_with (take limits.first_words w) (drop limits.first_words w)

-- the record of 3,720 bytes
abbrev pub record_in : List ℕ → Record
record_in b = record_of (words_of limits.record_words b)

-- the bytes b of a record with a first part and the words s put in, these from the first second slot on; the rest as it was
abbrev pub parts_in : List ℕ → First → List ℕ → List ℕ
parts_in b f s = pasted (pasted b 0 (bytes_from (part_words f))) 360 (bytes_from s)
