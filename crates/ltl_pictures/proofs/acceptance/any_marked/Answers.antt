use Rattle.std.proofs.Common.{◌∙◌}
use Rattle.ltl_hoa.specs.MarkedView.{edge_of}
use Rattle.ltl_pictures.specs.Picture.{is_marked}
use Rattle.ltl_pictures.proofs.PutLaws.{any_mapped}
use Rattle.ltl_pictures.proofs.acceptance.any_marked.Goals as goal

pub returns : goal.returns
returns c = c.is_one_marked.ensures ∙ any_mapped edge_of is_marked c.args.edges.now
