-- What opening into lent words gives: document 01's number, and the words after, which a refusal leaves as they were.
use Rattle.std.specs.Prelude.{List, ℕ, length}
use Rattle.refusals.specs.Refusal.{Verdict}
use Rattle.refusals.specs.Limits as limits
use Rattle.refusals.specs.Refusal.{after}
use Rattle.given.specs.Given.{Given}
use Rattle.opening.specs.Opened.{opened_at, open_verdict}
use Rattle.lent.specs.Lent.{room}
use Rattle.wire.specs.Wire.{record_words}

-- opening at a place, into 465 words
abbrev pub open_call : Given → ℕ → List ℕ → Verdict
open_call g p rec = room g.n g.m (length rec) limits.record_words (open_verdict g p)

abbrev pub open_after : Given → ℕ → List ℕ → List ℕ
open_after g p rec = after (open_call g p rec) rec (record_words (opened_at g p))
