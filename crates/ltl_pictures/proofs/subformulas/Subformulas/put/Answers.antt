use Rattle.std.proofs.Common.{◌∙◌, sym, ◌≤◌, ◌<◌, arith, length, [], refl}
use Rattle.std.specs.Prelude.{slice_index_or}
use Rattle.ltl_streams.proofs.PrintLaws.{lacks_all}
use Rattle.ltl_pictures.specs.Timeline.{subformula_line}
use Rattle.ltl_word.specs.Rows.{bit_of}
use Rattle.ltl_pictures.proofs.LineLaws.{from_start, from_step, from_skip, from_end}
use Rattle.ltl_pictures.proofs.TimelineLaws.{no_line, row_line, text_there, there}
use Rattle.ltl_pictures.proofs.subformulas.Subformulas.put.Goals as goal

pub loop-k-init : goal.loop-k-init
loop-k-init g c = from_start (subformula_line c.args.formula.now c.args.word.now (λ k i. bit_of (slice_index_or c.args.self.now.rows.items k []) i) c.args.width) (length c.args.formula.now.nodes) (lacks_all _ _)

pub loop-k-preserved-then-is_left_out : goal.loop-k-preserved-then-is_left_out
loop-k-preserved-then-is_left_out g c =
    let f = c.args.formula.now in
    let rows = c.args.self.now.rows.items in
    let texts = c.args.self.now.texts.items in
    let k = c.loop-k.k in
    let l : k < length f.nodes = omega arith in
    from_skip (subformula_line c.args.formula.now c.args.word.now (λ k i. bit_of (slice_index_or c.args.self.now.rows.items k []) i) c.args.width) (length c.args.formula.now.nodes) c.loop-k.k l c.loop-k.invariant
    (no_line f c.args.word.now (λ k i. bit_of (slice_index_or rows k []) i) c.args.width k (sym c.is_left_out.ensures ∙ c.if-is_left_out.true))

pub loop-k-preserved : goal.loop-k-preserved
loop-k-preserved g c =
    let f = c.args.formula.now in
    let rows = c.args.self.now.rows.items in
    let texts = c.args.self.now.texts.items in
    let k = c.loop-k.k in
    let l : k < length f.nodes = omega arith in
    let count = c.requires.count in
    let many = c.requires.rows.count in
    let text = c.as_slice.ensures.value ∙ text_there f (λ t. t.items) texts k c.index.result.now c.requires.texts (omega (arith, l, count)) c.index.ensures in
    let row = there rows k c.index-in-loop-k.result.now [] (omega (arith, l, many)) c.index-in-loop-k.ensures in
    let e = row_line f c.args.word.now (λ k i. bit_of (slice_index_or rows k []) i) c.args.width k (sym c.is_left_out.ensures ∙ c.if-is_left_out.false) rows (λ i. refl) _ _ text row in
    from_step (subformula_line c.args.formula.now c.args.word.now (λ k i. bit_of (slice_index_or c.args.self.now.rows.items k []) i) c.args.width) (length c.args.formula.now.nodes) c.loop-k.k l c.loop-k.invariant e c.put_line.ensures

pub returns : goal.returns
returns g c =
    let l : length c.args.formula.now.nodes ≤ c.loop-k.k = omega arith in
    from_end (subformula_line c.args.formula.now c.args.word.now (λ k i. bit_of (slice_index_or c.args.self.now.rows.items k []) i) c.args.width) (length c.args.formula.now.nodes) c.loop-k.k l c.loop-k.invariant
