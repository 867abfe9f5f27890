use Rattle.std.proofs.Common.{◌+◌}
use Rattle.std.proofs.lemmas.Result.{IfOk-weaker}
use Rattle.ltl_word.specs.WrittenView.{place_of}
use Rattle.ltl_word.specs.declared.place.WordPlace.TheVariants.{InName}
use Rattle.ltl_word.proofs.ScanLaws.{name_goes_on, name_ends}
use Rattle.ltl_word.proofs.scan.in_name.Goals as goal

pub returns-then-is_name_byte-clause-next : goal.returns-then-is_name_byte-clause-next
returns-then-is_name_byte-clause-next g c = name_goes_on c.args.text.now c.args.at c.args.start c.args.written.now c.is_name_byte.result c.requires.begins c.requires.within c.is_name_byte.ensures c.if-is_name_byte.true

pub returns-then-is_proposition-clause-next : goal.returns-then-is_proposition-clause-next
returns-then-is_proposition-clause-next g c =
    IfOk-weaker c.end_name.result _ _
    (λ next h. name_ends c.args.text.now c.args.at c.args.start c.args.written.now c.is_name_byte.result c.is_proposition.result _ c.is_name_byte.ensures c.if-is_name_byte.false c.is_proposition.ensures c.if-is_proposition.true
    (h c.args.text.now c.args.at (place_of c.args.text.now c.args.at (InName c.args.start)))) c.end_name.ensures.next

pub returns-then-is_proposition-clause-inside : goal.returns-then-is_proposition-clause-inside
returns-then-is_proposition-clause-inside g c = IfOk-weaker c.end_name.result _ _ (λ next h. h (c.args.at + 1)) c.end_name.ensures.inside
