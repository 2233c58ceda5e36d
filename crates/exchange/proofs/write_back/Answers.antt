-- `exchange::write_back` meets its contract: all of the page is written, or none of it.
use mathlib.Core.Path.{◌≡◌, sym, ap, subst, ◌∙◌}
use mathlib.Core.List.{List}
use Prim.Native.Nat.{ℕ, ◌+◌, ◌-◌, ◌≤◌}
use native.Mathlib.Omega.{arith}
use lib.ListN.{length, take, length-replicate}
use lib.Seq.{length-take-le}
use Rattle.texts.specs.Text.{Put}
use Rattle.tidying.specs.Tidy.{tidy_text}
use Rattle.exchange.specs.Answers.{tidied}
use Rattle.exchange.proofs.AnswerLaw.{tidied_short, tidied_fits, answers_refused, answers_graph, put_whole, put_nothing, part_none, read_repeats, page_length, page_front}
use Rattle.exchange.proofs.write_back.Goals as goal

pub slice_bounds-put-end : goal.slice_bounds-put-end
slice_bounds-put-end c =
    let p = c.put_tidy-used in
    let w = c.whole-part in
    sym (length-take-le w.result p.new.page (omega (arith, p.ensures.0.size, p.ensures.1, w.ensures.1, length-replicate {A = ℕ} 19453 0)))

pub put-requires : goal.put-requires
put-requires c =
    let p = c.put_tidy-used in
    let w = c.whole-part in
    omega (arith, length-take-le w.result p.new.page (omega (arith, p.ensures.0.size, p.ensures.1, w.ensures.1, length-replicate {A = ℕ} 19453 0)), w.ensures.2)

pub returns-then-part-used : goal.returns-then-part-used
returns-then-part-used c =
    let a = c.args in
    let h = c.requires.1 in
    let p = c.put_tidy-used in
    let w = c.whole-part in
    let q = c.put in
    let t = a.text.now in
    let old = a.out.now in
    let n = page_length t a.v a.e a.seen.now h _ _ p.result p.ensures.0 in
    let z = part_none (length old) p.result w.result w.ensures.0 c.if-part-used.true in
    let r = answers_refused t (tidied t (length old)) old _ 0 (tidied_short t (length old) a.v h.edges h.is (omega (arith, n, z.0))) in
    (r.0, put_nothing old p.new.page q.new.text w.result q.result z.1 q.ensures ∙ r.1)

pub overflow_sub-result : goal.overflow_sub-result
overflow_sub-result c =
    let a = c.args in
    let h = c.requires.1 in
    below _ _ _ _ c.count_lines-t.ensures.1 (read_repeats a.text.now a.v a.e a.seen.now h)
  where
    below : (n m e k : ℕ) → n ≡ m → m ≡ e + k → e ≤ n
    below n m e k p q = omega arith

pub returns : goal.returns
returns c =
    let a = c.args in
    let h = c.requires.1 in
    let p = c.put_tidy-used in
    let w = c.whole-part in
    let q = c.put in
    let k = c.count_lines-t in
    let t = a.text.now in
    let old = a.out.now in
    let new = q.new.text in
    let n = page_length t a.v a.e a.seen.now h _ _ p.result p.ensures.0 in
    let all : w.result ≡ p.result = omega (arith, w.ensures.1, c.if-part-used.false) in
    let f = ap (λ (j : ℕ). take j p.new.page) all ∙ page_front t a.v a.e a.seen.now h _ p.new.page p.result p.ensures.0 in
    answers_graph t (tidied t (length old)) old a.v h.edges new p.result k.result.comments (k.result.edges - a.e) k.result.turned
    (tidied_fits t (length old) a.v h.edges h.is (omega (arith, n, all, w.ensures.2)))
    n
    k.ensures.0
    (rest _ _ _ _ k.ensures.1 (read_repeats t a.v a.e a.seen.now h))
    k.ensures.2
    (put_whole old (tidy_text a.v h.edges) new q.result (subst (λ (s : List ℕ). Put old 0 s new q.result) f q.ensures))
  where
    rest : (n m e k : ℕ) → n ≡ m → m ≡ e + k → n - e ≡ k
    rest n m e k p q = omega arith
