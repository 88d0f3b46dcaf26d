-- What a character is there is the piece that is spelled.
use Rattle.std.specs.Prelude.{◌≡◌, ℕ, ◌==◌, ◌||◌, Bool, true, false, List, [], ◌∷◌, reverse}
use Rattle.std.proofs.Common.{refl, ap, ◌∙◌, cond}
use Rattle.sgml_text.specs.Characters.{is_separator}
use Rattle.sgml_inside.specs.records.Facts.{takes_end}
use Rattle.sgml_delim.specs.declared.delim.Mode.{Mode}
use Rattle.sgml_delim.specs.declared.delim.Mode.TheVariants as mode
use Rattle.sgml_infer.specs.theory_reading.Pieces.{Char, Re, Rs, Sep, Skipped}
use Rattle.sgml_infer.specs.theory_reading.State.{State}
use Rattle.sgml_infer.specs.theory_reading.Characters.{has_text, level_has_text, in_text_section, facts_in, separator_kind}
use Rattle.sgml_prolog_steps.specs.theory_spelling.Content.{character_kind}
use Rattle.sgml_prolog_steps.specs.theory_standing.Held.{Held, state_of}
use Rattle.sgml_inside.specs.declared.inside.Inner.{Inner}
use Rattle.sgml_inside.specs.Inside.{ends_in, facts_of}
use Rattle.sgml_content_steps.specs.Content.{Content, Holds}
use Rattle.sgml_content_data.specs.declared.around.Around.{Around}
use Rattle.sgml_content_data.specs.declared.role.Role.{Role}
use Rattle.sgml_content_data.specs.declared.role.Role.TheVariants as role
use Rattle.sgml_content_data.specs.Roles.{around_in, around_of, role_of_separator, role_of_character, kind_by, separator_of, is_data, is_ignored, is_data_there, is_ignored_there}
use Rattle.sgml_content_data.specs.Steps.{is_ign}

-- WHAT IS AROUND what is held
pub around-held : (c : Content) (x : Held) → Holds c x → around_in (state_of x) ≡ around_of c
unfolding has_text
around-held c x h = λ i. record {
  text = level_has_text (h.context i).doctype (h.context i).levels;
  section = in_text_section (reverse (h.kept i).sections);
}

pub facts-held : (xs : List Inner) → facts_in (ends_in xs) ≡ facts_of xs
facts-held [] = refl
facts-held (x ∷ xs) = refl

pub live-held : (c : Content) (x : Held) → Holds c x → takes_end (facts_in (state_of x).record_ends) ≡ takes_end (facts_of c.inside.elements)
live-held c x h = ap (λ fs. takes_end (facts_in fs)) h.record_ends ∙ ap takes_end (facts-held c.inside.elements)

-- A SEPARATOR by its role

by-tests : (end start text section live : Bool) (b : ℕ)
    → cond end (cond text (Re live) (Sep b)) (cond start (cond text Rs (Sep b)) (cond (text || section) (Char b) (Sep b)))
    ≡ kind_by (cond end (cond text role.RecordEnd role.Ignored) (cond start (cond text role.RecordStart role.Ignored) (cond (text || section) role.Data role.Ignored))) live b
by-tests true start true section live b = refl
by-tests true start false section live b = refl
by-tests false true true section live b = refl
by-tests false true false section live b = refl
by-tests false false true section live b = refl
by-tests false false false true live b = refl
by-tests false false false false live b = refl

pub separator-by : (s : State) (b : ℕ) → separator_kind s b ≡ kind_by (role_of_separator (around_in s) b) (takes_end (facts_in s.record_ends)) b
unfolding separator_kind
separator-by s b = by-tests (b == 13) (b == 10) (has_text s) (in_text_section s.sections) (takes_end (facts_in s.record_ends)) b

pub separator-held : (c : Content) (x : Held) (b : ℕ) → Holds c x → separator_kind (state_of x) b ≡ separator_of c b
separator-held c x b h = separator-by (state_of x) b ∙ (λ i. kind_by (role_of_separator (around-held c x h i) b) (live-held c x h i) b)

-- A CHARACTER by its role

read-kind : (s : State) (m : Mode) (b : ℕ) → is_ign m ≡ false → character_kind s m b ≡ cond (is_separator b) (separator_kind s b) (Char b)
read-kind s mode.Ign b e = absurd (never e)
  where
    never : true ≡ false → ⊥
    never e = cc
read-kind s _ b e = refl

by-separator : (t : Bool) (s : State) (b : ℕ)
    → cond t (separator_kind s b) (Char b) ≡ kind_by (cond t (role_of_separator (around_in s) b) role.Data) (takes_end (facts_in s.record_ends)) b
by-separator true s b = separator-by s b
by-separator false s b = refl

pub character-by : (s : State) (m : Mode) (b : ℕ) → is_ign m ≡ false → character_kind s m b ≡ kind_by (role_of_character (around_in s) b) (takes_end (facts_in s.record_ends)) b
character-by s m b e = read-kind s m b e ∙ by-separator (is_separator b) s b

pub skipped-by : (s : State) (m : Mode) (b : ℕ) → is_ign m ≡ true → character_kind s m b ≡ Skipped b
skipped-by s mode.Ign b e = refl
skipped-by s _ b e = absurd (never e)
  where
    never : false ≡ true → ⊥
    never e = cc

data-is : (r : Role) → is_data r ≡ true → r ≡ role.Data
data-is role.Data e = refl
data-is _ e = absurd (never e)
  where
    never : false ≡ true → ⊥
    never e = cc

ignored-is : (r : Role) → is_ignored r ≡ true → r ≡ role.Ignored
ignored-is role.Ignored e = refl
ignored-is _ e = absurd (never e)
  where
    never : false ≡ true → ⊥
    never e = cc

pub data-there : (a : Around) (s : State) (m : Mode) (b : ℕ) → is_ign m ≡ false → around_in s ≡ a → is_data_there a b ≡ true → character_kind s m b ≡ Char b
data-there a s m b e f d =
    character-by s m b e
    ∙ ap (λ r. kind_by r (takes_end (facts_in s.record_ends)) b) (ap (λ (z : Around). role_of_character z b) f ∙ data-is (role_of_character a b) d)

pub ignored-there : (a : Around) (s : State) (m : Mode) (b : ℕ) → is_ign m ≡ false → around_in s ≡ a → is_ignored_there a b ≡ true → character_kind s m b ≡ Sep b
ignored-there a s m b e f d =
    character-by s m b e
    ∙ ap (λ r. kind_by r (takes_end (facts_in s.record_ends)) b) (ap (λ (z : Around). role_of_character z b) f ∙ ignored-is (role_of_character a b) d)
