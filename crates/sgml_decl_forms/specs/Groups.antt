-- Name groups, name token groups and model groups (10.1.3, 11.2.4). What was found so far comes first.
use Rattle.std.specs.Prelude.{ℕ, Bool, true, false, ◌+◌, ◌-◌, ◌==◌, List, [], ◌∷◌, ◌++◌, Option, None, Some, if◌then◌else◌, codes}
use Rattle.sgml_delim.specs.declared.delim.Delim.{Delim}
use Rattle.sgml_delim.specs.declared.delim.Delim.TheVariants as sign
use Rattle.sgml_model.specs.declared.token.GroupToken.{GroupToken}
use Rattle.sgml_model.specs.declared.token.GroupToken.TheVariants as token
use Rattle.sgml_text.specs.Characters.{is_word}
use Rattle.sgml_decl_lexemes.specs.decl_parts.Forms.{connects, is_grpc}
use Rattle.sgml_decl_lexemes.specs.declared.lexeme.Lexeme.{Lexeme}
use Rattle.sgml_decl_lexemes.specs.declared.lexeme.Lexeme.TheVariants.{Name, Token, Reserved, Sign}
use Rattle.sgml_decl_forms.specs.Words.{◌>>=◌}

abbrev pub unless_empty : List ℕ → Option (List ℕ)
unless_empty [] = None
unless_empty (b ∷ bytes) = Some (b ∷ bytes)

-- a member of a name group, and of a name token group
abbrev pub member_of : Bool → Lexeme → Option (List ℕ)
member_of tokens (Name n) = Some n
member_of tokens (Token t) = if tokens then unless_empty t else None
member_of tokens _ = None

abbrev pub closed_by : Lexeme → Bool
closed_by (Sign d) = is_grpc d
closed_by _ = false

abbrev pub connector_of : Option Delim → Lexeme → Option Delim
connector_of c (Sign d) = if connects c d then Some d else None
connector_of c _ = None

-- A member is due, or a connector or `)`.
abbrev pub more_members : Bool → List (List ℕ) → Option Delim → Bool → List Lexeme → Option (List (List ℕ) × List Lexeme)
more_members tokens done c due [] = None
more_members tokens done c true (d ∷ ds) =
    member_of tokens d >>= (λ n. more_members tokens (done ++ n ∷ []) c false ds)
more_members tokens done c false (d ∷ ds) =
    if closed_by d then Some (done, ds) else (connector_of c d >>= (λ e. more_members tokens done (Some e) true ds))

-- the rest of a group of names behind its `(`, and of name tokens
abbrev pub name_group_at : List Lexeme → Option (List (List ℕ) × List Lexeme)
name_group_at ds = more_members false [] None true ds

abbrev pub token_group_at : List Lexeme → Option (List (List ℕ) × List Lexeme)
token_group_at ds = more_members true [] None true ds

-- a name, or a group of names
abbrev pub names_at : List Lexeme → Option (List (List ℕ) × List Lexeme)
names_at (Name n ∷ ds) = Some (n ∷ [], ds)
names_at (Sign sign.Grpo ∷ ds) = name_group_at ds
names_at _ = None

-- a sign of a model group
abbrev pub sign_token : Delim → Option GroupToken
sign_token sign.Grpo = Some token.Begin
sign_token sign.Grpc = Some token.Finish
sign_token sign.Seq = Some token.Seq
sign_token sign.Or = Some token.Or
sign_token sign.And = Some token.And
sign_token sign.Opt = Some token.Opt
sign_token sign.Plus = Some token.Plus
sign_token sign.Rep = Some token.Rep
sign_token _ = None

-- a token of a model group
abbrev pub token_of : Lexeme → Option GroupToken
token_of (Name n) = Some (token.Name n)
token_of (Reserved n) = if is_word (codes "PCDATA") n then Some token.Pcdata else None
token_of (Sign d) = sign_token d
token_of _ = None

-- how many groups are open after a token
abbrev pub level_after : ℕ → GroupToken → ℕ
level_after level token.Begin = level + 1
level_after level token.Finish = level - 1
level_after level _ = level

-- the tokens up to the `)` of the first `(`
abbrev pub tokens_at : List GroupToken → ℕ → List Lexeme → Option (List GroupToken × List Lexeme)
tokens_at done level [] = None
tokens_at done level (d ∷ ds) =
    token_of d >>= (λ t. if level_after level t == 0 then Some (done ++ t ∷ [], ds) else tokens_at (done ++ t ∷ []) (level_after level t) ds)

-- the mark of the outermost group; `+` before `(` begins the inclusions
abbrev pub mark_at : List GroupToken → List Lexeme → List GroupToken × List Lexeme
mark_at done (Sign sign.Opt ∷ ds) = (done ++ token.Opt ∷ [], ds)
mark_at done (Sign sign.Rep ∷ ds) = (done ++ token.Rep ∷ [], ds)
mark_at done (Sign sign.Plus ∷ Sign sign.Grpo ∷ ds) = (done, Sign sign.Plus ∷ Sign sign.Grpo ∷ ds)
mark_at done (Sign sign.Plus ∷ ds) = (done ++ token.Plus ∷ [], ds)
mark_at done ds = (done, ds)

-- a model group with its mark
abbrev pub group_at : List Lexeme → Option (List GroupToken × List Lexeme)
group_at (Sign sign.Grpo ∷ ds) = tokens_at (token.Begin ∷ []) 1 ds >>= (λ g. Some (mark_at g.0 g.1))
group_at _ = None
