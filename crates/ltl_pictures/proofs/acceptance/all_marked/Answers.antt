use Rattle.std.proofs.Common.{◌∙◌}
use Rattle.ltl_hoa.specs.MarkedView.{edge_of}
use Rattle.ltl_pictures.specs.Picture.{is_marked}
use Rattle.ltl_pictures.proofs.PutLaws.{all_mapped}
use Rattle.ltl_pictures.proofs.acceptance.all_marked.Goals as goal

pub returns : goal.returns
returns c = c.is_each_marked.ensures ∙ all_mapped edge_of is_marked c.args.edges.now
