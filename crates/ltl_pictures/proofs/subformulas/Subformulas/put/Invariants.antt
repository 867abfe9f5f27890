use Rattle.std.proofs.Common.{[], length}
use Rattle.std.specs.Prelude.{slice_index_or}
use Rattle.ltl_pictures.specs.Timeline.{subformula_line, texts_from}
use Rattle.ltl_word.specs.Rows.{bit_of}
use Rattle.ltl_pictures.proofs.LineLaws.{LacksFrom}
use Rattle.ltl_pictures.proofs.subformulas.Subformulas.put.Given as goal

abbrev pub invariant-loop-k : goal.invariant-loop-k
invariant-loop-k g l =
    LacksFrom (subformula_line l.formula l.word (λ k i. bit_of (slice_index_or l.self.rows.items k []) i) l.width) (length l.formula.nodes) l.k
    g.S.ByteSink.state l.fn.out l.out
    (texts_from (subformula_line l.formula l.word (λ k i. bit_of (slice_index_or l.self.rows.items k []) i) l.width) 0 (length l.formula.nodes))
