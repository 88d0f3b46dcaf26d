-- The keywords of catalogs (TR9401).
use Rattle.std.specs.Prelude.{ℕ, Bool, true, false, ◌||◌, List, Option, Some, None, codes, if◌then◌else◌}
use Rattle.sgml_text.specs.Characters.{is_word}
use Rattle.sgml_catalog.specs.declared.keyword.Keyword.{Keyword}
use Rattle.sgml_catalog.specs.declared.keyword.Keyword.TheVariants.{Public, System, Entity, Doctype, Notation, Sgmldecl, Override, OneUnused, TwoUnused}

-- the keywords that are read without effect
abbrev pub unused_of : List ℕ → Option Keyword
unused_of w =
    if is_word (codes "BASE") w || is_word (codes "CATALOG") w || is_word (codes "DOCUMENT") w then Some OneUnused
    else if is_word (codes "DELEGATE") w || is_word (codes "LINKTYPE") w || is_word (codes "DTDDECL") w then Some TwoUnused
    else None

-- the keyword that is spelled, in any letter case
abbrev pub keyword_of : List ℕ → Option Keyword
keyword_of w =
    if is_word (codes "PUBLIC") w then Some Public
    else if is_word (codes "SYSTEM") w then Some System
    else if is_word (codes "ENTITY") w then Some Entity
    else if is_word (codes "DOCTYPE") w then Some Doctype
    else if is_word (codes "NOTATION") w then Some Notation
    else if is_word (codes "SGMLDECL") w then Some Sgmldecl
    else if is_word (codes "OVERRIDE") w then Some Override
    else unused_of w

-- all others take one argument
abbrev pub takes_two : Keyword → Bool
takes_two Sgmldecl = false
takes_two Override = false
takes_two OneUnused = false
takes_two _ = true
