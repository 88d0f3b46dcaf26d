use Rattle.sgml_source.proofs.Fed.{piece-is-fed}
use Rattle.sgml_source.proofs.source.feed_piece.Goals as goal

pub returns-clause-fed : goal.returns-clause-fed
returns-clause-fed c = piece-is-fed c.args.source.now.limit c.args.parser.now c.feed.new.self c.args.piece.now c.args.source.now.fed c.in-Ok.ensures.fed c.requires.room
