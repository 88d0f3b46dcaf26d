-- The names of a document type that was read are words.
use Rattle.std.proofs.Common.{ℕ, List, [], ◌∷◌, refl, sym, subst}
use Rattle.sgml_event_lines.specs.syntax.declared.syntax.Syntax.{Syntax}
use Rattle.sgml_event_lines.specs.decl_forms.declared.declaration.Declaration.TheVariants as form
use Rattle.sgml_event_lines.specs.dtd.Doctypes.{Doctype}
use Rattle.sgml_event_lines.specs.ReadBack.{HasWords}
use Rattle.sgml_event_lines.specs.theory_reading.Pieces.{Kind, Sgml, Head, Declare, SubsetEnd, ShortRef, Meaning, Ordinary, ToText, ToData, ToExternalData, ToInstruction, Re, History}
use Rattle.sgml_event_lines.specs.theory_reading.Facets.{declares}
use Rattle.sgml_event_lines.specs.theory_reading.Nest.{types}
use Rattle.sgml_event_lines.specs.theory_reading.Unread.{Outside, Input, Sources, sources, standing, opening}
use Rattle.sgml_event_lines.specs.theory_reading.State.{State, state, sources_in}
use Rattle.sgml_event_lines.specs.theory_reading.Characters.{kind_noted, meaning_noted, ordinary}
use Rattle.sgml_event_lines.specs.theory_reading.Reads.{Move, Reads, ReadOn, moved_on, after_moves}
use Rattle.sgml_theory_kinds.specs.theory_spelling.Spelled.{forms}
use Rattle.sgml_theory_ending.proofs.Falling.{move-spelled, sources-state, sources-after}
use Rattle.sgml_theory_words.specs.Words.{DocumentTypesHaveWords}
use Rattle.sgml_theory_words.proofs.Tables.{declared-words}
use Rattle.sgml_theory_words.proofs.Spelled.{MeansEntity, AddsWords, spelled-adds}

-- A PIECE

syntax-words : (syntax : Syntax) (d : Doctype) → HasWords d → HasWords (record d { syntax = syntax })
syntax-words syntax d w = record { elements = w.elements; lists = w.lists; entities = w.entities }

kind-words : (k : Kind) (d : Doctype) → HasWords d → AddsWords d k → HasWords (declares k d)
unfolding declares
kind-words (Sgml syntax) d w a = syntax-words syntax d w
kind-words (Head head base) d w a = declared-words base d (form.Doctype head) w refl
kind-words (Declare lexemes says base) d w a = declared-words base d says w a
kind-words _ d w a = w

noted-means : (s : State) (d : Doctype) (string : List ℕ) (m : Meaning) → MeansEntity d m → MeansEntity d (meaning_noted s string m)
unfolding ordinary
noted-means s d string (Ordinary has_items content) a = tt
noted-means s d string (ToText e) a = tt
noted-means s d string (ToData e) a = tt
noted-means s d string (ToExternalData e) a = a
noted-means s d string (ToInstruction e text) a = tt

pub noted-adds : (s : State) (d : Doctype) (k : Kind) → AddsWords d k → AddsWords d (kind_noted s k)
unfolding kind_noted
noted-adds s d (Re live) a = tt
noted-adds s d (ShortRef string meaning) a = noted-means s d string meaning a
noted-adds s d (SubsetEnd reads_external) a = tt
noted-adds s d k a = a

-- AFTER WHAT READS

abbrev pub Good : Sources → Type 0
Good k = HasWords k.doctype

pub move-words : (I : Input) (h : History) (m : Move) → Reads forms I h m → Good (sources h) → Good (sources (moved_on h m))
move-words I h m r w =
    let x = move-spelled I h m r in
    let k = kind_noted (state h) x.piece.kind in
    let old : Good (sources_in (state h)) = subst Good (sym (sources-state h)) w in
    subst Good (sym (sources-after I h m x.piece x.moves))
    (kind-words k (sources_in (state h)).doctype old (noted-adds (state h) (state h).context.doctype x.piece.kind (spelled-adds I.outside (state h) (standing I h) x.piece x.is_spelled)))

moves-words : (I : Input) (h : History) (ms : List Move) → ReadOn forms I h ms → Good (sources h) → Good (sources (after_moves h ms))
moves-words I h [] r w = w
moves-words I h (m ∷ ms) r w = moves-words I (moved_on h m) ms r.1 (move-words I h m r.0 w)

pub start-words : (outside : Outside) → Good (sources (opening outside))
unfolding types declares
start-words outside = record { elements = refl; lists = refl; entities = refl }

pub document-types-have-words : DocumentTypesHaveWords
document-types-have-words I ms r = moves-words I (opening I.outside) ms r (start-words I.outside)
