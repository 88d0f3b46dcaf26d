-- Declarations of worked documents, as they are written: a small reader of lexemes, without comments,
-- references and literals of attribute values (10, 11).
use Rattle.std.specs.Prelude.{ℕ, ◌==◌, option_map, option_to_list, List, [], ◌∷◌, ◌++◌, codes, if◌then◌else◌}
use Rattle.sgml_theory_reading.specs.text.Characters.{is_letter}
use Rattle.sgml_theory_reading.specs.delim.declared.delim.Delim.TheVariants as sign
use Rattle.sgml_theory_reading.specs.decl_lexemes.declared.lexeme.Lexeme.{Lexeme}
use Rattle.sgml_theory_reading.specs.decl_lexemes.declared.lexeme.Lexeme.TheVariants.{Name as NameLexeme, Reserved, Literal, Sign}
use Rattle.sgml_theory_reading.specs.decl_forms.Declarations.{declaration_at}
use Rattle.sgml_theory_reading.specs.dtd.Laws.{Placed}
use Rattle.sgml_theory_reading.specs.Names.{Name, Text}

-- what was begun: nothing, a name, a name after `#`, or a literal
pub data Begun : Type 0 where
  Nothing : Begun
  InName : (name : Name) → Begun
  InReserved : (name : Name) → Begun
  InLiteral : (text : Text) → Begun

abbrev pub sign_of : ℕ → List Lexeme
sign_of b =
    if b == 40 then Sign sign.Grpo ∷ []
    else (if b == 41 then Sign sign.Grpc ∷ []
    else (if b == 44 then Sign sign.Seq ∷ []
    else (if b == 124 then Sign sign.Or ∷ []
    else (if b == 38 then Sign sign.And ∷ []
    else (if b == 63 then Sign sign.Opt ∷ []
    else (if b == 43 then Sign sign.Plus ∷ []
    else (if b == 42 then Sign sign.Rep ∷ []
    else (if b == 45 then Sign sign.Minus ∷ []
    else (if b == 91 then Sign sign.Dso ∷ []
    else [])))))))))

abbrev pub begun_by : ℕ → Begun
begun_by b =
    if is_letter b then InName (b ∷ [])
    else (if b == 35 then InReserved []
    else (if b == 34 then InLiteral []
    else Nothing))

-- the lexemes that a byte ends or is
abbrev pub ended_by : Begun → ℕ → List Lexeme
ended_by Nothing b = sign_of b
ended_by (InName n) b = if is_letter b then [] else NameLexeme n ∷ sign_of b
ended_by (InReserved n) b = if is_letter b then [] else Reserved n ∷ sign_of b
ended_by (InLiteral t) b = if b == 34 then Literal t ∷ [] else []

abbrev pub begun_after : Begun → ℕ → Begun
begun_after Nothing b = begun_by b
begun_after (InName n) b = if is_letter b then InName (n ++ b ∷ []) else begun_by b
begun_after (InReserved n) b = if is_letter b then InReserved (n ++ b ∷ []) else begun_by b
begun_after (InLiteral t) b = if b == 34 then Nothing else InLiteral (t ++ b ∷ [])

abbrev pub lexemes_from : Begun → Text → List Lexeme
lexemes_from (InName n) [] = NameLexeme n ∷ []
lexemes_from (InReserved n) [] = Reserved n ∷ []
lexemes_from _ [] = []
lexemes_from begun (b ∷ bs) = ended_by begun b ++ lexemes_from (begun_after begun b) bs

-- the lexemes of a declaration, its keyword first
abbrev pub lexemes_of : Text → List Lexeme
lexemes_of text = lexemes_from Nothing text

-- the file in which all of them stand
abbrev pub base : Text
base = codes "f"

abbrev pub placed : Text → List Placed
placed text = option_to_list (option_map (λ says. record { base = base; said = says }) (declaration_at (lexemes_of text)))

-- these declarations, without their delimiters
abbrev pub declared : List Text → List Placed
declared [] = []
declared (t ∷ ts) = placed t ++ declared ts
