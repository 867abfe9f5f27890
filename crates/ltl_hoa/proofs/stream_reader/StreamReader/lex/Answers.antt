use Rattle.std.proofs.Common.{rules}
use Rattle.ltl_hoa.specs.StreamReaderView.{through}
use Rattle.ltl_hoa.proofs.stream_reader.StreamReader.lex.Goals as goal

pub returns-in_ok-feed-clause-exact : goal.returns-in_ok-feed-clause-exact
returns-in_ok-feed-clause-exact g c =
    through (search rules) c.end_token.new.self c.in_ok-end_token.ensures.exact (search rules) c.in_ok-feed.ensures.exact
