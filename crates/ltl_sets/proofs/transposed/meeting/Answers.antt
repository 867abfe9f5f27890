use Rattle.ltl_sets.proofs.TransposedLaws.{bit_meeting}
use Rattle.ltl_sets.proofs.transposed.meeting.Goals as goal

pub returns : goal.returns
returns c j h = bit_meeting c.args.bytes c.args.mask j c.fits-bytes.0
