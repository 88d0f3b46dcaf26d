-- Why an element declaration is refused: the first of these reasons that holds.
use Rattle.std.specs.Prelude.{◌≡◌, Bool, false, ◌||◌, List, map, Option, Some, None, is_some, if◌then◌else◌}
use Rattle.std.specs.List.{list_any}
use Rattle.std.specs.Option.{option_or}
use Rattle.sgml_names.specs.Lists.{repeats}
use Rattle.sgml_text.specs.declared.reason.Reason.{Reason}
use Rattle.sgml_text.specs.declared.reason.Reason.TheVariants.{NameLength, BadGroup, GroupLimit, ElementTwice}
use Rattle.sgml_syntax.specs.declared.syntax.Syntax.{Syntax}
use Rattle.sgml_names.specs.Naming.{is_long}
use Rattle.sgml_model.specs.Term.{Term, Token}
use Rattle.sgml_model.specs.ReaderView.{sign}
use Rattle.sgml_model.specs.Reading.{reading}
use Rattle.sgml_model.specs.Limits.{passed}
use Rattle.sgml_model.specs.declared.token.GroupToken.{GroupToken}
use Rattle.sgml_model.specs.declared.token.GroupToken.TheVariants.{Begin, Finish, Name, Pcdata, Seq, Or, And, Opt, Plus, Rep}
use Rattle.sgml_model.specs.declared.token.GroupLimits.{GroupLimits}
use Rattle.sgml_automaton.specs.ambiguity.Ambiguity.{IsAmbiguous, IsUnambiguous}
use Rattle.sgml_decl_forms.specs.declared.element.ContentForm.{ContentForm}
use Rattle.sgml_decl_forms.specs.declared.element.ContentForm.TheVariants as form
use Rattle.sgml_decl_forms.specs.declared.element.ElementDeclaration.{ElementDeclaration}
use Rattle.sgml_dtd_elements.specs.Folded.{folded, folded_token, folded_content}
use Rattle.sgml_dtd_elements.specs.Types.{types, names}

-- NAMELEN (13.4.8): one of the names of a declaration is longer, among the types, in the model or
-- in the exceptions
abbrev pub is_long_token : Syntax → GroupToken → Bool
is_long_token syntax Begin = false
is_long_token syntax Finish = false
is_long_token syntax (Name n) = is_long syntax n
is_long_token syntax Pcdata = false
is_long_token syntax Seq = false
is_long_token syntax Or = false
is_long_token syntax And = false
is_long_token syntax Opt = false
is_long_token syntax Plus = false
is_long_token syntax Rep = false

abbrev pub is_long_content : Syntax → ContentForm → Bool
is_long_content syntax form.Empty = false
is_long_content syntax form.Cdata = false
is_long_content syntax form.Rcdata = false
is_long_content syntax form.Any = false
is_long_content syntax (form.Model ts) = list_any (is_long_token syntax) ts

abbrev pub has_long : Syntax → ElementDeclaration → Bool
has_long syntax d =
    list_any (is_long syntax) d.names || (is_long_content syntax d.body.content
    || (list_any (is_long syntax) d.body.excluded || list_any (is_long syntax) d.body.included))

-- GRPCNT, GRPGTCNT and GRPLVL (13.4.8)
abbrev pub limits_of : Syntax → GroupLimits
limits_of syntax = record { count = syntax.quantities.grpcnt; total = syntax.quantities.grpgtcnt; level = syntax.quantities.grplvl }

-- the tokens form no group (11.2.4), or one that is too large
abbrev pub reason_of_model : GroupLimits → Option Term → Option Reason
reason_of_model limits None = Some BadGroup
reason_of_model limits (Some x) = if is_some (passed limits x) then Some GroupLimit else None

abbrev pub group_reason : GroupLimits → ContentForm → Option Reason
group_reason limits form.Empty = None
group_reason limits form.Cdata = None
group_reason limits form.Rcdata = None
group_reason limits form.Any = None
group_reason limits (form.Model ts) = reason_of_model limits (reading (map sign ts))

-- a name stands twice in its group, or has a declaration already (11.2.1)
abbrev pub twice_reason : List ElementDeclaration → ElementDeclaration → Option Reason
twice_reason ds d = if repeats (names (types ds)) d.names then Some ElementTwice else None

-- the first reason but for ambiguity, which is the last: the declaration's names are folded
abbrev pub reason_of : Syntax → List ElementDeclaration → ElementDeclaration → Option Reason
reason_of syntax ds d = option_or (group_reason (limits_of syntax) d.body.content) (twice_reason ds d)

abbrev pub first_reason : Syntax → List ElementDeclaration → ElementDeclaration → Option Reason
first_reason syntax ds d = if has_long syntax d then Some NameLength else reason_of syntax ds (folded syntax d)

-- two tokens of one name can both come (11.2.4.3)
pub record IsAmbiguousModel (model : Term) : Type 0 where
  pub first : Token
  pub second : Token
  pub ambiguous : IsAmbiguous model first second

-- the group is read as a model that is ambiguous
pub record IsAmbiguousGroup (tokens : List GroupToken) : Type 0 where
  pub model : Term
  pub read : reading (map sign tokens) ≡ Some model
  pub clash : IsAmbiguousModel model

abbrev pub IsAmbiguousContent : ContentForm → Type 0
IsAmbiguousContent (form.Model ts) = IsAmbiguousGroup ts
IsAmbiguousContent _ = ⊥

abbrev pub IsUnambiguousContent : ContentForm → Type 0
IsUnambiguousContent (form.Model ts) = (x : Term) → reading (map sign ts) ≡ Some x → IsUnambiguous x
IsUnambiguousContent _ = Unit {0}

-- the tokens of a group, or a content, and that a name stands twice: the first reason that holds
abbrev pub reason_where : Option Reason → Bool → Option Reason
reason_where first twice = option_or first (if twice then Some ElementTwice else None)

abbrev pub tokens_reason : Syntax → List GroupToken → Bool → Option Reason
tokens_reason syntax tokens twice = reason_where (reason_of_model (limits_of syntax) (reading (map sign (map (folded_token syntax) tokens)))) twice

abbrev pub content_reason : Syntax → ContentForm → Bool → Option Reason
content_reason syntax form twice = reason_where (group_reason (limits_of syntax) (folded_content syntax form)) twice
