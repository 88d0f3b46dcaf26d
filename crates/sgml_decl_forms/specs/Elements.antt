-- Element declarations (11.2), after their keyword.
use Rattle.std.specs.Prelude.{ℕ, Bool, true, false, List, [], ◌∷◌, Option, None, Some, if◌then◌else◌, codes}
use Rattle.sgml_delim.specs.declared.delim.Delim.TheVariants as sign
use Rattle.sgml_text.specs.Characters.{is_word}
use Rattle.sgml_decl_forms.specs.Words.{is_keyword}
use Rattle.sgml_decl_lexemes.specs.declared.lexeme.Lexeme.{Lexeme}
use Rattle.sgml_decl_lexemes.specs.declared.lexeme.Lexeme.TheVariants.{Name, Sign}
use Rattle.sgml_decl_forms.specs.declared.element.ContentForm.{ContentForm}
use Rattle.sgml_decl_forms.specs.declared.element.ContentForm.TheVariants as content
use Rattle.sgml_decl_forms.specs.declared.element.Omits.{Omits}
use Rattle.sgml_decl_forms.specs.declared.element.ElementBody.{ElementBody}
use Rattle.sgml_decl_forms.specs.declared.element.ElementDeclaration.{ElementDeclaration}
use Rattle.sgml_decl_forms.specs.Words.{◌>>=◌, all_of}
use Rattle.sgml_decl_forms.specs.Groups.{names_at, name_group_at, group_at}

-- a mark of omission: `-`, or `O` (11.2.2)
abbrev pub omit_at : List Lexeme → Option (Bool × List Lexeme)
omit_at (Sign sign.Minus ∷ ds) = Some (false, ds)
omit_at (Name n ∷ ds) = if is_word (codes "O") n then Some (true, ds) else None
omit_at _ = None

abbrev pub second_omit : List Lexeme → Option (Bool × List Lexeme) → Option (Omits × List Lexeme)
second_omit ds None = Some (record { start = false; end = false }, ds)
second_omit ds (Some s) = omit_at s.1 >>= (λ e. Some (record { start = s.0; end = e.0 }, e.1))

-- of the start-tag and of the end-tag, or of neither, which then may not be left out (profile)
abbrev pub omits_at : List Lexeme → Option (Omits × List Lexeme)
omits_at ds = second_omit ds (omit_at ds)

-- declared content, ANY, or a model group (11.2.3, 11.2.4)
abbrev pub content_at : List Lexeme → Option (ContentForm × List Lexeme)
content_at [] = None
content_at (d ∷ ds) =
    if is_keyword (codes "EMPTY") d then Some (content.Empty, ds)
    else if is_keyword (codes "CDATA") d then Some (content.Cdata, ds)
    else if is_keyword (codes "RCDATA") d then Some (content.Rcdata, ds)
    else if is_keyword (codes "ANY") d then Some (content.Any, ds)
    else (group_at (d ∷ ds) >>= (λ g. Some (content.Model g.0, g.1)))

-- exceptions (11.2.5)
abbrev pub exclusions_at : List Lexeme → Option (List (List ℕ) × List Lexeme)
exclusions_at (Sign sign.Minus ∷ Sign sign.Grpo ∷ ds) = name_group_at ds
exclusions_at ds = Some ([], ds)

abbrev pub inclusions_at : List Lexeme → Option (List (List ℕ) × List Lexeme)
inclusions_at (Sign sign.Plus ∷ Sign sign.Grpo ∷ ds) = name_group_at ds
inclusions_at ds = Some ([], ds)

abbrev pub may_have_exceptions : ContentForm → Bool
may_have_exceptions content.Any = true
may_have_exceptions (content.Model ts) = true
may_have_exceptions _ = false

abbrev pub exceptions_at : List Lexeme → Option ((List (List ℕ) × List (List ℕ)) × List Lexeme)
exceptions_at ds = exclusions_at ds >>= (λ x. inclusions_at x.1 >>= (λ i. Some ((x.0, i.0), i.1)))

-- the content with its exceptions
abbrev pub body_at : List Lexeme → Option (ElementBody × List Lexeme)
body_at ds = content_at ds >>= (λ c.
    if may_have_exceptions c.0 then (exceptions_at c.1 >>= (λ x. Some (record { content = c.0; excluded = x.0.0; included = x.0.1 }, x.1)))
    else Some (record { content = c.0; excluded = []; included = [] }, c.1))

unfoldable pub element_at : List Lexeme → Option ElementDeclaration
element_at ds = do
  n ← names_at ds
  o ← omits_at n.1
  b ← body_at o.1
  all_of (record { names = n.0; omits = o.0; body = b.0 }) b.1
