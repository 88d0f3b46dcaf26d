use Rattle.std.proofs.Common.{refl}
use Rattle.sgml_infer.specs.theory_reading.Pieces.{Char}
use Rattle.sgml_prolog_steps.specs.theory_standing.Held.{state_of}
use Rattle.sgml_content_data.proofs.Judged.{character-text, judged-from, unchanged-from, memory-piece, refused-piece}
use Rattle.sgml_content_data.proofs.Data.{character-noted, character-taken}
use Rattle.sgml_content_data.proofs.taking.take_character.Goals as goal

pub returns-in-Err : goal.returns-in-Err
returns-in-Err c =
    refused-piece c.args.texts.now c.args.n (Char c.args.byte) c.args.content.now c.judge.new.content c.args.told.now.items c.in-Err.why
    (judged-from c.args.content.now c.judge.new.content c.judge.ensures.holds c.judge.ensures.same c.judge.ensures.context c.judge.ensures.content)
    (character-text c.args.byte) (λ x h. character-noted (state_of x) c.args.byte)
    (record { refused = c.in-Err.ensures.refused; stops = c.in-Err.ensures.stops })

pub returns-in-Err-of_bytes : goal.returns-in-Err-of_bytes
returns-in-Err-of_bytes c =
    memory-piece c.args.texts.now c.args.n (Char c.args.byte) c.args.content.now c.judge.new.content c.args.told.now.items c.args.told.now.items
    (judged-from c.args.content.now c.judge.new.content c.judge.ensures.holds c.judge.ensures.same c.judge.ensures.context c.judge.ensures.content) refl

pub returns-in-Ok-take_data : goal.returns-in-Ok-take_data
returns-in-Ok-take_data c =
    character-taken c.args.texts.now c.args.content.now c.judge.new.content c.take_data.new.content c.args.told.now.items c.take_data.new.told.items c.in-Ok.run' c.args.byte c.args.n
    c.in-Ok-of_bytes.stretch c.requires.content
    (judged-from c.args.content.now c.judge.new.content c.judge.ensures.holds c.judge.ensures.same c.judge.ensures.context c.judge.ensures.content)
    c.in-Ok.ensures.ok c.requires.some c.requires.within c.in-Ok-of_bytes.ensures c.in-Ok-take_data.ensures.taken

pub returns-in-Err-take_data : goal.returns-in-Err-take_data
returns-in-Err-take_data c =
    memory-piece c.args.texts.now c.args.n (Char c.args.byte) c.args.content.now c.take_data.new.content c.args.told.now.items c.take_data.new.told.items
    (unchanged-from c.args.content.now c.judge.new.content c.take_data.new.content
    (judged-from c.args.content.now c.judge.new.content c.judge.ensures.holds c.judge.ensures.same c.judge.ensures.context c.judge.ensures.content)
    c.in-Err-take_data.ensures.content) c.in-Err-take_data.ensures.told
