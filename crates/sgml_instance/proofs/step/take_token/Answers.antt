use Rattle.sgml_instance.proofs.Found.{silent-at}
use Rattle.sgml_instance.proofs.step.take_token.Goals as goal

pub returns-in-Chars : goal.returns-in-Chars
returns-in-Chars c = let s = c.take_characters.ensures in (s.0, s.1, s.2, s.3 c.args.options.now)

pub returns-in-Re : goal.returns-in-Re
returns-in-Re c = let s = c.take_record_end.ensures in (s.0, s.1, s.2, s.3 c.args.options.now c.args.state)

pub returns-in-Rs : goal.returns-in-Rs
returns-in-Rs c = let s = c.take_record_start.ensures in (s.0, s.1, s.2, s.3 c.args.options.now c.args.state)

pub returns-in-CharRef : goal.returns-in-CharRef
returns-in-CharRef c = let s = c.take_character_reference.ensures in (s.0, s.1, s.2, s.3 c.args.options.now c.args.state)

pub returns-in-FunctionRef : goal.returns-in-FunctionRef
returns-in-FunctionRef c = let s = c.take_function_reference.ensures in (s.0, s.1, s.2, s.3 c.args.options.now c.args.state)

pub returns-in-StartTag : goal.returns-in-StartTag
returns-in-StartTag c = let s = c.take_start.ensures in (s.0, s.1, s.2, s.3 c.args.state)

pub returns-in-EmptyStart : goal.returns-in-EmptyStart
returns-in-EmptyStart c = let s = c.take_empty_start.ensures in (s.0, s.1, s.2, s.3 c.args.options.now c.args.state)

pub returns-in-EndTag : goal.returns-in-EndTag
returns-in-EndTag c = let s = c.take_end.ensures in (s.0, s.1, s.2, s.3 c.args.options.now c.args.state)

pub returns-in-EmptyEnd : goal.returns-in-EmptyEnd
returns-in-EmptyEnd c = let s = c.take_empty_end.ensures in (s.0, s.1, s.2, s.3 c.args.options.now c.args.state)

pub returns-in-Net : goal.returns-in-Net
returns-in-Net c = let s = c.take_net.ensures in (s.0, s.1, s.2, s.3 c.args.options.now c.args.state)

pub returns-in-Pi : goal.returns-in-Pi
returns-in-Pi c = let s = c.take_instruction.ensures in (s.0, s.1, s.2, s.3 c.args.options.now c.args.state)

pub returns-in-Comment : goal.returns-in-Comment
returns-in-Comment c = silent-at c.args.options.now c.args.state c.args.texts.now c.args.token c.args.content.now c.take_comment.new.content c.args.told.now.items c.take_comment.result (c.take_comment.ensures c.args.options.now c.args.state)

pub returns-in-Declaration : goal.returns-in-Declaration
returns-in-Declaration c = silent-at c.args.options.now c.args.state c.args.texts.now c.args.token c.args.content.now c.take_use.new.content c.args.told.now.items c.take_use.result (c.take_use.ensures c.args.state)

pub returns-in-SectionStart : goal.returns-in-SectionStart
returns-in-SectionStart c = silent-at c.args.options.now c.args.state c.args.texts.now c.args.token c.args.content.now c.take_section_start.new.content c.args.told.now.items c.take_section_start.result c.take_section_start.ensures

pub returns-in-SectionEnd : goal.returns-in-SectionEnd
returns-in-SectionEnd c = silent-at c.args.options.now c.args.state c.args.texts.now c.args.token c.args.content.now c.take_section_end.new.content c.args.told.now.items c.take_section_end.result (c.take_section_end.ensures c.args.options.now c.args.state)

pub returns-in-Separators : goal.returns-in-Separators
returns-in-Separators c = silent-at c.args.options.now c.args.state c.args.texts.now c.args.token c.args.content.now c.args.content.now c.args.told.now.items c.take_misplaced.result (c.take_misplaced.ensures c.args.texts.now c.args.options.now c.args.state)

pub returns-in-ParameterRef : goal.returns-in-ParameterRef
returns-in-ParameterRef c = silent-at c.args.options.now c.args.state c.args.texts.now c.args.token c.args.content.now c.args.content.now c.args.told.now.items c.take_misplaced-in-ParameterRef.result (c.take_misplaced-in-ParameterRef.ensures c.args.texts.now c.args.options.now c.args.state)

pub returns-in-SubsetEnd : goal.returns-in-SubsetEnd
returns-in-SubsetEnd c = silent-at c.args.options.now c.args.state c.args.texts.now c.args.token c.args.content.now c.args.content.now c.args.told.now.items c.take_misplaced-in-SubsetEnd.result (c.take_misplaced-in-SubsetEnd.ensures c.args.texts.now c.args.options.now c.args.state)
