-- The delimiters, what must follow each, the modes, and which delimiter stands at the head of a
-- text (ISO 8879 9.6).
use Rattle.std.specs.Prelude.{ℕ, Bool, true, false, List, [], ◌∷◌, ◌==◌, ◌&&◌, ◌||◌, if◌then◌else◌, Option, None, Some, drop, length, not, ◌≡◌}
use Rattle.sgml_syntax.specs.declared.syntax.Syntax.{Syntax}
use Rattle.sgml_text.specs.NameCharacters.{is_name_start}
use Rattle.sgml_text.specs.Characters.{is_digit}
use Rattle.sgml_delim.specs.declared.delim.Delim.{Delim}
use Rattle.sgml_delim.specs.declared.delim.Delim.TheVariants as d
use Rattle.sgml_delim.specs.declared.delim.Mode.{Mode}
use Rattle.sgml_delim.specs.declared.delim.Mode.TheVariants as m
use Rattle.sgml_delim.specs.declared.delim.Need.{Need}
use Rattle.sgml_delim.specs.declared.delim.Need.TheVariants.{Nothing, NameStart, NameStartOrTagc, NameStartOrDigit, AfterMdo, Mdc, Dso}

-- the string of each delimiter, in the reference syntax (13.4.6.1, figure 3); RE ends a reference (9.4.5)
abbrev pub string : Delim → List ℕ
string d.And = 38 ∷ []
string d.Com = 45 ∷ 45 ∷ []
string d.Cro = 38 ∷ 35 ∷ []
string d.Dsc = 93 ∷ []
string d.Dso = 91 ∷ []
string d.Ero = 38 ∷ []
string d.Etago = 60 ∷ 47 ∷ []
string d.Grpc = 41 ∷ []
string d.Grpo = 40 ∷ []
string d.Lit = 34 ∷ []
string d.Lita = 39 ∷ []
string d.Mdc = 62 ∷ []
string d.Mdo = 60 ∷ 33 ∷ []
string d.Minus = 45 ∷ []
string d.Msc = 93 ∷ 93 ∷ []
string d.Net = 47 ∷ []
string d.Opt = 63 ∷ []
string d.Or = 124 ∷ []
string d.Pero = 37 ∷ []
string d.Pic = 62 ∷ []
string d.Pio = 60 ∷ 63 ∷ []
string d.Plus = 43 ∷ []
string d.Re = 13 ∷ []
string d.Refc = 59 ∷ []
string d.Rep = 42 ∷ []
string d.Rni = 35 ∷ []
string d.Seq = 44 ∷ []
string d.Stago = 60 ∷ []
string d.Tagc = 62 ∷ []
string d.Vi = 61 ∷ []

-- the delimiters of each mode (9.6.1), longer strings first
abbrev pub delims : Mode → List Delim
delims m.Con = d.Etago ∷ d.Cro ∷ d.Mdo ∷ d.Msc ∷ d.Pio ∷ d.Stago ∷ d.Ero ∷ d.Net ∷ []
delims m.Rcd = d.Etago ∷ d.Cro ∷ d.Ero ∷ d.Net ∷ []
delims m.Cdt = d.Etago ∷ d.Net ∷ []
delims m.Rcs = d.Cro ∷ d.Msc ∷ d.Ero ∷ []
delims m.Cds = d.Msc ∷ []
delims m.Ign = d.Mdo ∷ d.Msc ∷ []
delims m.Ds = d.Mdo ∷ d.Pio ∷ d.Msc ∷ d.Pero ∷ d.Dsc ∷ []
delims m.Grp = d.Grpo ∷ d.Grpc ∷ d.Seq ∷ d.Or ∷ d.And ∷ d.Opt ∷ d.Plus ∷ d.Rep ∷ d.Rni ∷ d.Pero ∷ []
delims m.Lit = d.Cro ∷ d.Lit ∷ d.Ero ∷ []
delims m.Lita = d.Cro ∷ d.Lita ∷ d.Ero ∷ []
delims m.Plt = d.Cro ∷ d.Lit ∷ d.Pero ∷ []
delims m.Plta = d.Cro ∷ d.Lita ∷ d.Pero ∷ []
delims m.Slt = d.Lit ∷ []
delims m.Slta = d.Lita ∷ []
delims m.Md = d.Com ∷ d.Mdc ∷ d.Lit ∷ d.Lita ∷ d.Grpo ∷ d.Dso ∷ d.Minus ∷ d.Plus ∷ d.Rni ∷ d.Pero ∷ []
delims m.Pi = d.Pic ∷ []
delims m.Ref = d.Refc ∷ d.Re ∷ []
delims m.Tag = d.Etago ∷ d.Tagc ∷ d.Net ∷ d.Stago ∷ d.Vi ∷ d.Lit ∷ d.Lita ∷ []

-- what must follow a delimiter: the contextual constraints (9.6.2)
abbrev pub need_in_text : Delim → Need
need_in_text d.Stago = NameStartOrTagc
need_in_text d.Etago = NameStartOrTagc
need_in_text d.Ero = NameStart
need_in_text d.Pero = NameStart
need_in_text d.Cro = NameStartOrDigit
need_in_text d.Mdo = AfterMdo
need_in_text d.Msc = Mdc
need_in_text _ = Nothing

abbrev pub need_in_ignored : Delim → Need
need_in_ignored d.Mdo = Dso
need_in_ignored d.Msc = Mdc
need_in_ignored _ = Nothing

abbrev pub need : Mode → Delim → Need
need m.Tag x = Nothing
need m.Ign x = need_in_ignored x
need _ x = need_in_text x

-- a byte that alone is what must follow
abbrev pub allowed : Syntax → Need → ℕ → Bool
allowed s Nothing b = true
allowed s NameStart b = is_name_start s.names b
allowed s NameStartOrTagc b = is_name_start s.names b || (s.shorttag && (b == 62))
allowed s NameStartOrDigit b = is_name_start s.names b || is_digit b
allowed s AfterMdo b = is_name_start s.names b || (b == 91) || (b == 62)
allowed s Mdc b = b == 62
allowed s Dso b = b == 91

-- whether the text begins with the string
abbrev pub begins : List ℕ → List ℕ → Bool
begins [] bytes = true
begins (s ∷ string) [] = false
begins (s ∷ string) (b ∷ bytes) = (s == b) && begins string bytes

abbrev pub begins_by : (ℕ → Bool) → List ℕ → Bool
begins_by test [] = false
begins_by test (b ∷ bytes) = test b

abbrev pub is_nothing : Need → Bool
is_nothing Nothing = true
is_nothing _ = false

abbrev pub is_after_mdo : Need → Bool
is_after_mdo AfterMdo = true
is_after_mdo _ = false

-- whether the text begins with what must follow
abbrev pub follows : Syntax → Need → List ℕ → Bool
follows s n bytes =
    is_nothing n || begins_by (allowed s n) bytes || (is_after_mdo n && begins (45 ∷ 45 ∷ []) bytes)

-- In a tag, what ends it is in force where SHORTTAG is YES (7.4.1.2, 7.5.1.2); elsewhere NET is
-- where the start-tag enabled it (7.4.1.3).
abbrev pub in_force_in_tag : Bool → Delim → Bool
in_force_in_tag shorttag d.Net = shorttag
in_force_in_tag shorttag d.Stago = shorttag
in_force_in_tag shorttag d.Etago = shorttag
in_force_in_tag shorttag _ = true

abbrev pub in_force_in_text : Bool → Delim → Bool
in_force_in_text net d.Net = net
in_force_in_text net _ = true

abbrev pub in_force : Syntax → Mode → Bool → Delim → Bool
in_force s m.Tag net x = in_force_in_tag s.shorttag x
in_force s _ net x = in_force_in_text net x

-- whether the text begins with this delimiter in its context
unfoldable pub stands : Syntax → Mode → Bool → Delim → List ℕ → Bool
stands s m net x bytes =
    in_force s m net x && begins (string x) bytes && follows s (need m x) (drop (length (string x)) bytes)

-- the first delimiter of a list that passes a test
abbrev pub first_that : (Delim → Bool) → List Delim → Option Delim
first_that test [] = None
first_that test (x ∷ xs) = if test x then Some x else first_that test xs

-- whether the first bytes differ
abbrev pub differs : List ℕ → List ℕ → Bool
differs string [] = false
differs [] (b ∷ bytes) = false
differs (s ∷ string) (b ∷ bytes) = not (s == b)

abbrev pub IsHead : ℕ → List ℕ → Type 0
IsHead b [] = ⊥
IsHead b (s ∷ string) = s ≡ b

-- the bytes with which delimiters begin
abbrev pub first_bytes : List ℕ
first_bytes =
    13 ∷ 34 ∷ 35 ∷ 37 ∷ 38 ∷ 39 ∷ 40 ∷ 41 ∷ 42 ∷ 43 ∷ 44 ∷ 45 ∷ 47 ∷ 59 ∷ 60 ∷ 61 ∷ 62 ∷ 63 ∷ 91 ∷ 93 ∷ 124 ∷ []

abbrev pub is_among : ℕ → List ℕ → Bool
is_among b [] = false
is_among b (s ∷ ss) = (s == b) || is_among b ss

-- whether the text begins with another byte
abbrev pub begins_plain : List ℕ → Bool
begins_plain [] = false
begins_plain (b ∷ bytes) = not (is_among b first_bytes)
