use Rattle.std.proofs.Common.{◌∙◌, ◌/◌, ◌+◌, ◌-◌, ◌<◌, ◌≤◌, ℕ, ap, sym, arith, inl, inr, length, true}
use Rattle.std.proofs.lemmas.Bool.{cases_eq}
use Rattle.ltl_word.specs.Rows.{bit_of}
use Rattle.ltl_word.proofs.BackLaws.{step_inside, step_last}
use Rattle.ltl_word.proofs.evaluation.next_row.Goals as goal

pub returns-clause-bits : goal.returns-clause-bits
returns-clause-bits g c = λ i l.
    let count = c.args.count in
    let truth = λ (j : ℕ). true in
    let cycle = c.requires.cycle in
    let long = c.requires.long in
    let same = c.in_ok-next.ensures.long in
    elim (cases_eq i (count - 1)) [
      | inl e ↦
          let end : count ≤ i + 1 = omega (arith, l, e) in
          ap (bit_of c.put.new.self) e ∙ c.put.ensures.here ∙ c.get.ensures ∙ ap (bit_of c.args.row.now) (sym (step_last truth truth c.args.stem count cycle i end))
      | inr d ↦
          let before : i + 1 < count = omega (arith, l, d) in
          let inside : i / 64 < length c.in_ok-next.next = omega (arith, l, long, same) in
          let next : (i + 1) / 64 < length c.args.row.now = omega (arith, before, long) in
          c.put.ensures.others i inside d ∙ c.in_ok-next.ensures.bits i next ∙ ap (bit_of c.args.row.now) (sym (step_inside truth truth c.args.stem count cycle i before))
    ]
