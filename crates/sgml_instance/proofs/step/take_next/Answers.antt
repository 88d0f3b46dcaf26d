use Rattle.sgml_instance.proofs.step.take_next.Goals as goal

pub returns-in-Chars : goal.returns-in-Chars
returns-in-Chars c = let s = c.try_characters.ensures in (s.0, s.1, s.2, s.3 c.args.options.now)

pub returns-in-Re : goal.returns-in-Re
returns-in-Re c = let s = c.try_record_end.ensures in (s.0, s.1, s.2, s.3 c.args.options.now c.args.state)

pub returns-in-Rs : goal.returns-in-Rs
returns-in-Rs c = let s = c.try_record_start.ensures in (s.0, s.1, s.2, s.3 c.args.options.now c.args.state)

pub returns-in-StartTag : goal.returns-in-StartTag
returns-in-StartTag c = let s = c.try_start.ensures in (s.0, s.1, s.2, s.3 c.args.state)

pub returns-in-EndTag : goal.returns-in-EndTag
returns-in-EndTag c = let s = c.try_end.ensures in (s.0, s.1, s.2, s.3 c.args.options.now c.args.state)

pub returns-in_default : goal.returns-in_default
returns-in_default c = c.try_token.ensures
