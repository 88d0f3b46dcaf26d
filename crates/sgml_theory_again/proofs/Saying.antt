-- A declaration that is spelled says what its lexemes say, whose names are names; an SGML declaration is spelled at the
-- beginning alone.
use Rattle.std.proofs.Common.{◌≡◌, Bool, true, false, None, Some, Result, Ok, Err, refl, ap, subst}
use Rattle.sgml_theory_full.specs.text.declared.reason.Reason.{Reason}
use Rattle.sgml_theory_full.specs.decl_parts.declared.ends.Construct.{Construct}
use Rattle.sgml_theory_full.specs.decl_parts.declared.ends.Construct.TheVariants as construct
use Rattle.sgml_theory_full.specs.decl_lexemes.declared.fault.Fault.{Fault}
use Rattle.sgml_theory_full.specs.decl_lexemes.Readings.{State as Reading}
use Rattle.sgml_theory_full.specs.decl_lexemes.Reads.{read_all}
use Rattle.sgml_theory_full.specs.decl_forms.Declarations.{declaration_at}
use Rattle.sgml_theory_full.specs.dtd.Doctypes.{Doctype}
use Rattle.sgml_theory_full.specs.theory_reading.Names.{Text}
use Rattle.sgml_theory_full.specs.theory_reading.Pieces.{Piece, Kind, Sgml, Declare}
use Rattle.sgml_theory_full.specs.theory_reading.Facets.{Stage, BeforeSyntax, AtBeginning}
use Rattle.sgml_theory_full.specs.theory_reading.Unread.{Outside, Standing}
use Rattle.sgml_theory_full.specs.theory_reading.State.{State}
use Rattle.sgml_theory_full.specs.theory_spelling.Stacked.{Stacked, stacked}
use Rattle.sgml_theory_full.specs.theory_spelling.Texts.{source_of, stack_of}
use Rattle.sgml_theory_full.specs.theory_spelling.Declared.{Lexed, lexed_by, lexed, reason_against}
use Rattle.sgml_theory_full.specs.theory_spelling.Spelled.{spelled}
use Rattle.sgml_theory_full.specs.theory_kinds.Kinds.{HasItsPlace}
use Rattle.sgml_theory_full.proofs.theory_kinds.Placed.{spelled-pieces-have-their-places}
use Rattle.sgml_theory_again.proofs.Lexing.{AreNamed, read-named}

-- what it says is what its lexemes say, and nothing is against it
abbrev pub IsSaid : Doctype → Kind → Type 0
IsSaid d (Declare lexemes says base) =
    AreNamed d.syntax.names lexemes × (declaration_at lexemes ≡ Some says) × (reason_against d lexemes says ≡ None)
IsSaid d kind = Unit {0}

-- the syntax of a document may still be declared
abbrev pub is_early : Stage → Bool
is_early BeforeSyntax = true
is_early AtBeginning = true
is_early _ = false

abbrev pub IsPlaced : Stage → Kind → Type 0
IsPlaced g (Sgml syntax) = is_early g ≡ true
IsPlaced g kind = Unit {0}

-- LEXEMES
abbrev LexedNamed : Doctype → Result Lexed Reason → Type 0
LexedNamed d (Ok x) = AreNamed d.syntax.names x.lexemes
LexedNamed d (Err r) = Unit {0}

by-named : (c : Construct) (outside : Outside) (d : Doctype) (t : Stacked) (own : Text) (x : Result Reading Fault) → read_all (source_of c outside d t own) (stack_of outside d t) ≡ x
    → LexedNamed d (lexed_by outside d x)
unfolding source_of
by-named c outside d t own (Err fault) e = tt
by-named c outside d t own (Ok u) e = read-named (source_of c outside d t own) (stack_of outside d t) u e

lexed-named : (c : Construct) (outside : Outside) (d : Doctype) (t : Stacked) (own : Text) → LexedNamed d (lexed c outside d t own)
unfolding lexed
lexed-named c outside d t own = by-named c outside d t own (read_all (source_of c outside d t own) (stack_of outside d t)) refl

-- WHAT IS SPELLED
said-by : (outside : Outside) (s : State) (t : Stacked) (k : Kind) → HasItsPlace outside s t k → IsSaid s.context.doctype k
said-by outside s t (Declare lexemes says base) h =
    let d = s.context.doctype in
    (subst (LexedNamed d) h.read (lexed-named construct.Declaration outside d t h.own), h.says_so, h.unopposed)
said-by outside s t k h = tt

placed-by : (outside : Outside) (s : State) (t : Stacked) (k : Kind) → HasItsPlace outside s t k → IsPlaced s.stage k
placed-by outside s t (Sgml syntax) h = ap is_early h
placed-by outside s t k h = tt

pub spelled-said : (outside : Outside) (s : State) (t : Standing) (p : Piece) → spelled outside s t ≡ Ok p → IsSaid s.context.doctype p.kind
spelled-said outside s t p e = said-by outside s (stacked t) p.kind (spelled-pieces-have-their-places outside s t p e)

pub spelled-placed : (outside : Outside) (s : State) (t : Standing) (p : Piece) → spelled outside s t ≡ Ok p → IsPlaced s.stage p.kind
spelled-placed outside s t p e = placed-by outside s (stacked t) p.kind (spelled-pieces-have-their-places outside s t p e)
