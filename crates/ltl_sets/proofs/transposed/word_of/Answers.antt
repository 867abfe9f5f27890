use Rattle.std.proofs.Common.{◌∙◌, ap, bit_and, nat_eq, not, ◌+◌, ◌*◌, ◌%◌, ◌^◌, slice_index}
use Rattle.std.proofs.lemmas.Nat.{one_shl}
use Rattle.ltl_sets.proofs.TransposedLaws.{test_bit}
use Rattle.ltl_sets.proofs.transposed.word_of.Goals as goal

pub returns : goal.returns
returns c j h =
    let byte = slice_index c.args.bytes.now (64 * c.args.part + j) in
    c.meeting.ensures j h
    ∙ ap (λ n. not (nat_eq (bit_and n (1 * 2 ^ c.args.i % 2 ^ 8)) 0)) (c.part_of.ensures j h)
    ∙ ap (λ m. not (nat_eq (bit_and byte m) 0)) (one_shl c.args.i 8 c.requires.place)
    ∙ test_bit byte c.args.i
