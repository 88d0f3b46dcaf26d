-- The document type of each list of declarations is that of some pieces, so what is said of histories
-- is said of some.
use Rattle.std.specs.Prelude.{◌≡◌, List, [], ◌∷◌}
use Rattle.std.proofs.Common.{refl, ap, ◌∙◌}
use Rattle.sgml_dtd.specs.syntax.Implied.{implied_syntax}
use Rattle.sgml_dtd.specs.syntax.declared.syntax.Syntax.{Syntax}
use Rattle.sgml_dtd.specs.decl_forms.declared.declaration.Declaration.{Declaration}
use Rattle.sgml_dtd.specs.decl_forms.declared.declaration.Declaration.TheVariants as form
use Rattle.sgml_dtd.specs.Doctypes.{Doctype, nothing, with_declared}
use Rattle.sgml_dtd.specs.Laws.{Placed, after_all, doctype_of}
use Rattle.sgml_theory_reading.specs.Names.{Text}
use Rattle.sgml_theory_reading.specs.Pieces.{Sgml, History}
use Rattle.sgml_theory_reading.specs.Facets.{effect, is_start, is_omitted_start, declares, token}
use Rattle.sgml_theory_reading.specs.Nest.{nest, types}
use Rattle.sgml_theory_reading.specs.Context.{context, context_after, at_start, piece_of, kind_of_placed, with_placed, prolog_of}
use Rattle.sgml_theory_reading.proofs.Contexts.{context-step}

none-read : context [] ≡ at_start (nothing implied_syntax)
unfolding context nest types
none-read = refl

syntax-read : (syntax : Syntax) → context_after (piece_of (Sgml syntax)) (at_start (nothing implied_syntax)) ≡ at_start (nothing syntax)
unfolding context_after effect is_start is_omitted_start declares token
syntax-read syntax = refl

declaration-read : (base : Text) (x : Declaration) (t : Doctype) → context_after (piece_of (kind_of_placed base x)) (at_start t) ≡ at_start (with_declared base t x)
unfolding context_after effect is_start is_omitted_start declares token
declaration-read base (form.Element d) t = refl
declaration-read base (form.Attlist d) t = refl
declaration-read base (form.Entity d) t = refl
declaration-read base (form.Notation d) t = refl
declaration-read base (form.Shortref d) t = refl
declaration-read base (form.Usemap d) t = refl
declaration-read base (form.Doctype d) t = refl

all-read : (ps : List Placed) (t : Doctype) (h : History) → context h ≡ at_start t → context (with_placed h ps) ≡ at_start (after_all t ps)
all-read [] t h e = e
all-read (p ∷ ps) t h e =
    let piece = piece_of (kind_of_placed p.base p.said) in
    all-read ps (with_declared p.base t p.said) (piece ∷ h)
    (context-step piece h ∙ (ap (context_after piece) e ∙ declaration-read p.base p.said t))

pub prolog-is : (syntax : Syntax) (ps : List Placed) → context (prolog_of syntax ps) ≡ at_start (doctype_of syntax ps)
prolog-is syntax ps =
    all-read ps (nothing syntax) _
    (context-step (piece_of (Sgml syntax)) [] ∙ (ap (context_after (piece_of (Sgml syntax))) none-read ∙ syntax-read syntax))
